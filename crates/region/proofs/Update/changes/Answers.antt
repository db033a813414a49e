-- `region::Update::changes` meets its contract: before the region and behind it nothing changes.
use mathlib.Core.Path.{sym, ◌∙◌}
use native.Mathlib.Omega.{arith}
use borrow.Author.Tests.{ltb-false}
use Rattle.region.proofs.Laws.Region.{changes_before, changes_behind}
use Rattle.region.proofs.Update.changes.Goals as goal
use Rattle.region.proofs.Update.changes.Goals.{then-self-address, else-self-address}

pub returns-else-address-end : goal.returns-else-address-end
returns-else-address-end c =
    let none = c.if-address-end.false in
    elim c.if-self-address.branch [
      | then-self-address w ↦
          let behind = ltb-false c.args.address w.end.result (sym w.value-is ∙ none) in
          none ∙ sym (changes_behind _ _ _ _ (omega (arith, behind, w.end.ensures)))
      | else-self-address w ↦ none ∙ sym (changes_before _ _ _ _ w.if-self-address.false)
    ]
