-- `sectors::image::is_missing` meets its contract: a search among the places of both.
use mathlib.Core.Path.{sym, ◌∙◌}
use Rattle.std.proofs.Common.{rules, tests}
use Rattle.std.proofs.lemmas.Iterator.{YieldsList-from_slice, YieldsList-from_zip}
use Rattle.std.proofs.lemmas.Iterator.Consumers.{YieldsList-at}
use Rattle.std.proofs.lemmas.Iterator.Search.{any_from_yields_List}
use Rattle.sectors.proofs.Laws.Images.{lacks, missing_any}
use Rattle.sectors.proofs.image.is_missing.Goals as goal

pub returns : goal.returns
returns c =
    any_from_yields_List (λ p. lacks p.0 p.1) c.any.new.self _ c.any.result c.any.ensures.ran
    (YieldsList-from_zip (YieldsList-at c.zip.ensures.first (YieldsList-from_slice c.args.wanted.now c.iter.ensures.rest)) (YieldsList-from_slice {s = c.zip.result.b} c.args.there.now c.zip.ensures.second.0)) (λ x b q k. search (rules, tests))
    ∙ sym (missing_any c.args.wanted.now c.args.there.now)
