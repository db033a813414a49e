-- `plan::check_update` meets its contract: behind the chip's refusals it is the definition's list of conditions, in its order.
use mathlib.Core.Path.{refl}
use Rattle.common.proofs.Laws.Choice.{yes, no}
use Rattle.state.proofs.Laws.Checked.{chip_sized, chip_passed}
use Rattle.plan.proofs.Laws.Refusals.{region_inside}
use Rattle.plan.proofs.check_update.Goals as goal

pub returns-then-region_exceeds-clause-number : goal.returns-then-region_exceeds-clause-number
returns-then-region_exceeds-clause-number c =
    let told = c.in_ok-check_chip.ensures in
    chip_passed _ _ told (yes _ (rw (c.region_exceeds.ensures, chip_sized _ _ told) at c.if-region_exceeds.true) refl)

pub returns-then-is_active-clause-number : goal.returns-then-is_active-clause-number
returns-then-is_active-clause-number c =
    let told = c.in_ok-check_chip.ensures in
    chip_passed _ _ told
    (no _ (rw (c.region_exceeds.ensures, chip_sized _ _ told) at c.if-region_exceeds.false) (yes _ (rw c.is_active.ensures at c.if-is_active.true) refl))

pub invariant_of-update : goal.invariant_of-update
invariant_of-update c =
    let sized = chip_sized _ _ c.in_ok-check_chip.ensures in
    record { inside = region_inside c.args.s _ _ _ sized (rw (c.region_exceeds.ensures, sized) at c.if-region_exceeds.false) }

pub returns-then-wants_rise-clause-number : goal.returns-then-wants_rise-clause-number
returns-then-wants_rise-clause-number c =
    let told = c.in_ok-check_chip.ensures in
    chip_passed _ _ told
    (no _ (rw (c.region_exceeds.ensures, chip_sized _ _ told) at c.if-region_exceeds.false)
    (no _ (rw c.is_active.ensures at c.if-is_active.false) (yes _ (rw c.wants_rise.ensures at c.if-wants_rise.true) refl)))

pub returns-clause-number : goal.returns-clause-number
returns-clause-number c =
    let told = c.in_ok-check_chip.ensures in
    chip_passed _ _ told
    (no _ (rw (c.region_exceeds.ensures, chip_sized _ _ told) at c.if-region_exceeds.false)
    (no _ (rw c.is_active.ensures at c.if-is_active.false) (no _ (rw c.wants_rise.ensures at c.if-wants_rise.false) refl)))
