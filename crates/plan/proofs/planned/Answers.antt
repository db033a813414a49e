-- `plan::planned` meets its contract: each refusal is the first that holds, and with none of them the script is measured and written.
use mathlib.Core.Path.{◌≡◌, sym}
use mathlib.Core.Bool.{true, false, not, ◌&&◌}
use Rattle.std.proofs.Common.{rules}
use Rattle.std.specs.Prelude.{Err}
use lib.ListN.{length}
use Rattle.common.proofs.Laws.Refusals.{number_some}
use Rattle.common.specs.Refusals.{number_of}
use Rattle.common.specs.declared.refusals.Refusal.TheVariants.{StatusLocked}
use Rattle.state.proofs.Laws.Soundness.{sound_of}
use Rattle.plan.specs.Refusals.{bytes_needed}
use Rattle.plan.proofs.Laws.Refusals.{region_accepted, refusal_region, refusal_locked, refusal_room}
use Rattle.plan.proofs.Laws.Steps.{program_words, program_pages}
use Rattle.plan.proofs.Laws.Update.{unscripted}
use Rattle.plan.proofs.planned.Goals as goal

pub returns-in_err-update : goal.returns-in_err-update
returns-in_err-update c =
    let refusal = c.in_err-update.field-0.0 in
    let handed_on : c.from_residual.result ≡ Err refusal = search rules in
    rw handed_on (unscripted _ _ refusal _ (refusal_region c.args.s _ _ _ c.args.wp (length c.args.buffer.now) (number_of refusal) (number_some refusal)
    (sym c.in_err-update.ensures.number)))

pub returns-then-not-wp : goal.returns-then-not-wp
returns-then-not-wp c =
    let same = c.in_ok-update.ensures.update in
    let holds : (c.step_one_needed-needed.result && c.args.s.bpl && not c.args.wp) ≡ true = search rules in
    let locked = rw (c.step_one_needed-needed.ensures, same.0, same.1, same.2) at holds in
    unscripted _ _ StatusLocked _ (refusal_locked _ _ _ _ _ _ (sym c.in_ok-update.ensures.number) locked)

pub invariant_of-plan : goal.invariant_of-plan
invariant_of-plan c =
    let region = region_accepted c.args.s _ _ _ (sym c.in_ok-update.ensures.number) in record {
      bp_bound = (sound_of c.args.s region.sound).bp_le_7;
      needed_is = c.step_one_needed-needed.ensures;
    }

pub write-requires : goal.write-requires
write-requires c = sym (program_words _ _ _ _ (rw c.chip_of.ensures at c.if-chip_of.true))

pub invariant_of-plan-else-chip_of : goal.invariant_of-plan-else-chip_of
invariant_of-plan-else-chip_of c =
    let region = region_accepted c.args.s _ _ _ (sym c.in_ok-update.ensures.number) in record {
      bp_bound = (sound_of c.args.s region.sound).bp_le_7;
      needed_is = c.step_one_needed-needed.ensures;
    }

pub write-requires-else-chip_of : goal.write-requires-else-chip_of
write-requires-else-chip_of c = sym (program_pages _ _ _ _ (rw c.chip_of.ensures at c.if-chip_of.false))

pub returns-then-chip_of : goal.returns-then-chip_of
unfolding bytes_needed
returns-then-chip_of c =
    let same = c.in_ok-update.ensures.update in
    let passed : (c.step_one_needed-needed.result && c.args.s.bpl && not c.args.wp) ≡ false = search rules in
    let free = rw (c.step_one_needed-needed.ensures, same.0, same.1, same.2) at passed in
    rw (refusal_room _ _ _ _ _ _ (sym c.in_ok-update.ensures.number) free) (rw (same.0, same.1, same.2) at c.write.ensures)

pub returns-else-chip_of : goal.returns-else-chip_of
unfolding bytes_needed
returns-else-chip_of c =
    let same = c.in_ok-update.ensures.update in
    let passed : (c.step_one_needed-needed.result && c.args.s.bpl && not c.args.wp) ≡ false = search rules in
    let free = rw (c.step_one_needed-needed.ensures, same.0, same.1, same.2) at passed in
    rw (refusal_room _ _ _ _ _ _ (sym c.in_ok-update.ensures.number) free) (rw (same.0, same.1, same.2) at c.write-else-chip_of.ensures)
