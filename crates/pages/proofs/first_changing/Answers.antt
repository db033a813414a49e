-- `pages::first_changing` meets its contract: nothing changes at the addresses passed.
use mathlib.Core.Bool.{true, false}
use mathlib.Core.Path.{◌≡◌}
use Rattle.std.proofs.Common.{rules}
use Rattle.std.proofs.lemmas.Iterator.{first_from_Range}
use Rattle.region.specs.Region.{changes}
use Rattle.pages.proofs.Laws.Search.{first_found}
use Rattle.pages.proofs.first_changing.Goals as goal

pub returns : goal.returns
returns c =
    let a = c.args in
    let u = a.update.now in
    let d = changes u.array.now u.start u.wanted.now in
    first_found d a.from a.to c.requires.from_le_to c.find.result c.unwrap_or.result c.unwrap_or.ensures
    (first_from_Range _ c.find.new.self _ c.find.result (λ x. d x ≡ true) (λ x. d x ≡ false) c.find.ensures.ran (λ x q k. search rules) (λ x q k. search rules))
