-- `pages::page_part` meets its contract: outside the region nothing of the page changes.
use native.Mathlib.Omega.{arith}
use Rattle.region.proofs.Laws.Region.{changes_before, changes_behind}
use Rattle.pages.proofs.Laws.Parts.{page_part}
use Rattle.pages.proofs.page_part.Goals as goal

pub returns : goal.returns
returns c =
    let u = c.args.update.now in
    page_part _ u.start u.wanted.now c.args.page c.max-from.result c.min-to.result c.first_changing-first.result c.behind_last-behind.result
    (omega arith) (omega arith) (omega arith) (omega arith)
    (λ k i l. changes_before _ _ _ k (omega arith)) (λ k i l. changes_behind _ _ _ k (omega arith))
    c.first_changing-first.ensures c.behind_last-behind.ensures
