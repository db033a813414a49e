-- `pages::behind_last` meets its contract: nothing changes at the addresses passed.
use mathlib.Core.Bool.{true, false}
use mathlib.Core.Path.{◌≡◌}
use Rattle.std.proofs.Common.{rules}
use Rattle.region.specs.Region.{changes}
use Rattle.pages.proofs.Laws.Search.{last_from_range, behind_found}
use Rattle.pages.proofs.behind_last.Goals as goal

pub returns : goal.returns
returns c =
    let a = c.args in
    let u = a.update.now in
    let d = changes u.array.now u.start u.wanted.now in
    behind_found d a.from a.to c.requires.from_le_to c.rfind.result c.map_or.result (search rules)
    (last_from_range _ c.rfind.new.self _ c.rfind.result (λ x. d x ≡ true) (λ x. d x ≡ false) c.rfind.ensures.ran (λ x q k. search rules) (λ x q k. search rules))
