-- An accepted plan, run uncut, completes the update; and no call on the way is refused.
-- Assumes nothing.
use mathlib.Core.Path.{refl}
use mathlib.Core.Bool.{Bool}
use mathlib.Core.List.{List}
use mathlib.Core.Logic.{⊎_elim}
use Prim.Native.Nat.{ℕ, ◌+◌}
use lib.ListN.{length}
use Rattle.common.proofs.Laws.Lists.{split}
use Rattle.common.proofs.Laws.Places.{within_above}
use Rattle.state.specs.declared.State.{State}
use Rattle.state.proofs.Laws.Passed.{pass_time_granted}
use Rattle.state.proofs.Laws.Power.{power_up_granted}
use Rattle.state.proofs.Laws.Soundness.{sound_of}
use Rattle.state.proofs.Laws.Time.{time_passed_sound}
use Rattle.common.specs.Bits.{Bytes}
use Rattle.frame.specs.Device.{Device}
use Rattle.frame.proofs.Laws.Accepted.{accepted_number}
use Rattle.run.specs.Run.{run}
use Rattle.run.proofs.Laws.Run.{Ready, run_ready, frame_accepted_among}
use Rattle.plan.specs.Plan.{plan_records}
use Rattle.plan.specs.Refusals.{Accepted}
use Rattle.plan.proofs.Laws.Plan.{plan_fits}
use Rattle.powercut.specs.PowerCut.{updated, Completes}
use Rattle.powercut.proofs.Laws.States.{standing, rest}
use Rattle.powercut.proofs.Laws.Region.{settled_outside, complete}
use Rattle.powercut.proofs.Laws.PlanRun.{plan_ran}

module _ (given : Device) (bp : ℕ) (wel armed : Bool) (wp : Bool) (start : ℕ) (wanted : List ℕ) (room : ℕ) (bytes : Bytes given.array)
    (accepted : Accepted (rest given.state bp wel armed) wp given.array start wanted room) where
  abbrev s : State
  s = rest given.state bp wel armed

  abbrev array : List ℕ
  array = given.array

  abbrev chip : Device
  chip = standing given s array

  pub completes : Completes (plan_records s array start wanted) wp chip (updated array start wanted)
  completes =
      let ready : Ready chip = record { sound = sound_of s accepted.region.sound; sized = accepted.region.sized } in
      let ran = plan_ran given bp wel armed wp start wanted room bytes accepted in
      let now : List ℕ = (run wp (plan_records s array start wanted) chip).array in
      record {
        array_is = complete array start wanted bytes now ran.safe.near (rw accepted.region.sized accepted.region.fits) accepted.region.falls
            (λ k l. ⊎_elim (λ i. ran.done k i l)
            (λ i. settled_outside array start wanted bytes now ran.safe.near k l (within_above start (length wanted) k i)) (split k (start + length wanted)));
        state_is = ran.ends;
        frames_accepted = λ before after f e line same.
            accepted_number wp f (run wp before chip) line (frame_accepted_among wp before after f chip (rw e at (plan_fits s array start wanted)) ready line same);
        waits_accepted = λ before after n m e l. rw (pass_time_granted _ m (run_ready wp before chip ready).sound) refl;
        powers_up = λ before after e. rw (power_up_granted _ (run_ready wp before chip ready).sound) refl;
        powers_up_in_wait = λ before after n m e l.
            let sound = (run_ready wp before chip ready).sound in
            rw (pass_time_granted _ m sound, power_up_granted _ (time_passed_sound _ m sound)) refl;
      }
