-- The worst case of a plan, of what the planning call answers.
-- Assumes nothing.
use mathlib.Core.Path.{◌≡◌, sym, ap, ◌∙◌}
use mathlib.Core.Bool.{true}
use mathlib.Core.Logic.{inr}
use Prim.Native.Nat.{ℕ}
use lib.ListN.{length}
use Rattle.chip.specs.declared.Chip.{Chip}
use Rattle.chip.specs.Chip.{f25l008a, f25l05pa}
use Rattle.state.specs.declared.State.{State}
use Rattle.state.specs.State.{data_of}
use Rattle.state.specs.Soundness.{is_sound}
use Rattle.state.proofs.Laws.Soundness.{sound_of}
use Rattle.script.specs.declared.measure.Measure.{Measure}
use Rattle.plan.proofs.Laws.Refusals.{accepted_of, too_short_of}
use Rattle.worst.specs.Worst.{worst_of, room_enough}
use Rattle.worst.proofs.Laws.Worst.{plan_worst, worst_room}
use Rattle.worst.proofs.Laws.Reached.{worst_reached}
use Rattle.promises.proofs.Laws.Promises.{promises_kept}
use Rattle.rules.specs.Chips.{by_chip}
use Rattle.rules.specs.Worst.{worst_bytes, WorstRules}
use Rattle.rules.proofs.Laws.Chips.{data_by_chip}
use Rattle.rules.proofs.Laws.Driver.{cut_lost}

-- one of the three, by the chip's number
worst_by_chip : (s : State) → is_sound s ≡ true → (part : Measure → ℕ) → part (worst_of (data_of s)) ≡ by_chip s.chip (part (worst_of f25l008a)) (part (worst_of f25l05pa))
worst_by_chip s sound part = data_by_chip s.chip (sound_of s sound).chip_known (λ (c : Chip). part (worst_of c))

pub worst_bytes_lem : (s : State) → is_sound s ≡ true → (worst_of (data_of s)).length ≡ worst_bytes s.chip
worst_bytes_lem s sound = worst_by_chip s sound (λ (m : Measure). m.length)

pub worst_rules : WorstRules
unfolding room_enough
worst_rules = record {
  not_above = λ s wp array start wanted buffer after r plans good.
      let sound = (accepted_of s array start wanted wp (length buffer) (sym plans.number ∙ good)).region.sound in
      let most = plan_worst s wp array start wanted buffer after r plans good in
      record {
        frames = rw (← worst_by_chip s sound (λ (m : Measure). m.frames)) most.frames;
        microseconds = rw (← worst_by_chip s sound (λ (m : Measure). m.microseconds)) most.microseconds;
        bytes = rw (← worst_bytes_lem s sound) most.bytes;
      };
  enough = λ s wp array start wanted buffer after r plans room e.
      let sound = (too_short_of s array start wanted wp (length buffer) (sym plans.number ∙ e)).0.sound in
      worst_room s wp array start wanted buffer after r plans (rw (worst_bytes_lem s sound) room) e;
  again = λ wp chip start wanted buffer after planned bytes plans good lost room written answer cut plans_again large.
      let kept = promises_kept wp chip start wanted (length buffer) bytes (sym plans.number ∙ good) in
      let met = cut_lost wp chip start wanted buffer after planned plans good cut in
      let sound = (kept.ready lost (inr met)).sound in
      plans_again.number ∙ kept.again_in_worst lost met (length room) (rw (worst_bytes_lem lost.state sound) large);
  reached = λ wp array buffer after r sized erased long plans.
      let at = worst_reached wp array sized erased in
      let is = at.amounts buffer after r long plans in (
        at.accepted buffer after r long plans,
        (
          ap (λ (m : Measure). m.frames) is,
          (ap (λ (m : Measure). m.microseconds) is, ap (λ (m : Measure). m.length) is),
        ),
      );
}
