-- `book::refusal::has_over` meets its contract: a search for an entry that is over.
use mathlib.Core.Path.{sym, ◌∙◌}
use lib.Dec.{ltb}
use Rattle.std.proofs.Common.{rules, tests}
use Rattle.std.proofs.lemmas.Iterator.{YieldsList-from_slice}
use Rattle.std.proofs.lemmas.Iterator.Search.{any_from_yields_List}
use Rattle.book.proofs.Laws.Listed.{over_any}
use Rattle.book.proofs.refusal.has_over.Goals as goal

pub returns : goal.returns
returns c =
    any_from_yields_List (ltb 4095) _ _ c.any.result c.any.ensures.ran (YieldsList-from_slice c.args.scenes.now c.iter.ensures.rest) (λ x b q k. search (rules, tests))
    ∙ sym (over_any c.args.scenes.now)
