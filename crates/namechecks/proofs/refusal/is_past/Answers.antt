-- `namechecks::refusal::is_past` meets its contract: a search among the scenes behind the names.
use mathlib.Core.Path.{refl, sym, ◌∙◌}
use Rattle.std.proofs.Common.{rules, tests}
use Rattle.std.proofs.lemmas.Iterator.{YieldsList-from_range}
use Rattle.std.proofs.lemmas.Iterator.Search.{any_from_yields_List}
use Rattle.book.specs.Book.{is_read}
use Rattle.sectors.proofs.Laws.There.{past_any}
use Rattle.namechecks.proofs.refusal.is_past.Goals as goal

pub returns : goal.returns
returns c =
    any_from_yields_List (is_read c.args.book.now.array.now c.args.book.now.sector) c.any.new.self _ c.any.result c.any.ensures.ran
    (YieldsList-from_range c.args.count 4096 _ refl refl) (λ x b q k. search (rules, tests))
    ∙ sym (past_any (is_read c.args.book.now.array.now c.args.book.now.sector) c.args.count)
