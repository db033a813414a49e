-- Demand 3, for every chip: an accepted plan is safe from power cuts, as records and as the bytes of its script.
-- Assumes nothing.
use mathlib.Core.Path.{◌≡◌, refl, sym, ap, subst, ◌∙◌}
use mathlib.Core.Bool.{Bool, false}
use mathlib.Core.List.{List, ◌∷◌, ◌++◌}
use mathlib.Core.Logic.{⊎_elim}
use Prim.Native.Nat.{ℕ, ◌+◌}
use lib.ListN.{length}
use Rattle.state.specs.declared.State.{State}
use Rattle.state.specs.declared.Answer.{Answer}
use Rattle.state.specs.Soundness.{Sound}
use Rattle.state.specs.Power.{powered_up}
use Rattle.state.specs.Time.{time_passed}
use Rattle.state.proofs.Laws.Passed.{pass_time_granted}
use Rattle.state.proofs.Laws.Soundness.{sound_of, of_sound}
use Rattle.command.specs.Command.{command_of}
use Rattle.script.specs.Record.{Record, frame, wait}
use Rattle.script.proofs.Laws.Decode.{decode_encode}
use Rattle.frame.specs.Device.{Device, with_state}
use Rattle.frame.specs.Line.{Line, on_line}
use Rattle.frame.specs.Cut.{Masked}
use Rattle.frame.specs.Ran.{torn_device}
use Rattle.frame.specs.Call.{CutAccepted}
use Rattle.frame.proofs.Laws.Accepted.{number_accepted, cut_number_accepted, cut_accepted_number}
use Rattle.common.specs.Bits.{Bytes}
use Rattle.frame.proofs.Laws.Call.{cut_accepted}
use Rattle.frame.proofs.Laws.Ran.{torn_is}
use Rattle.script.specs.Decode.{records_in}
use Rattle.run.specs.Run.{run}
use Rattle.region.specs.Region.{wanted_at}
use Rattle.plan.specs.Plan.{plan_records}
use Rattle.plan.specs.Refusals.{is_active, plan_refusal, Accepted}
use Rattle.plan.proofs.Laws.Plan.{plan_fits}
use Rattle.plan.proofs.Laws.Refusals.{accepted_of}
use Rattle.powercut.specs.PowerCut.{Planner, script_records, state_after_plan, powered, CutShort, between, inside, during, Recovers, PowerCutSafe, Finished, PowerLost, BehindPlan, ReadyToPlan}
use Rattle.powercut.proofs.Laws.States.{standing, rest, is_rest, still_at_rest}
use Rattle.powercut.proofs.Laws.Near.{near_bytes}
use Rattle.powercut.proofs.Laws.Safe.{Task, Safe, torn, safe_in_time, always_between, always_inside}
use Rattle.powercut.proofs.Laws.Run.{Ran}
use Rattle.state.proofs.Laws.Power.{power_up_granted}
use Rattle.powercut.proofs.Laws.Completes.{completes}
use Rattle.powercut.proofs.Laws.PlanRun.{task, plan_ran}
use Rattle.powercut.proofs.Laws.Recovery.{recovers, ready_again}

-- the power goes and comes back: the call is granted
powered_is : (chip : Device) → Sound chip.state → powered chip ≡ with_state chip (powered_up chip.state)
powered_is chip h = ap (λ (a : Answer). with_state chip a.state) (power_up_granted chip.state h)

-- on a chip at rest
module _ (given : Device) (bp : ℕ) (wel armed : Bool) (wp : Bool) (start : ℕ) (wanted : List ℕ) (room : ℕ) (bytes : Bytes given.array)
    (accepted : Accepted (rest given.state bp wel armed) wp given.array start wanted room) where
  abbrev chip : Device
  chip = standing given (rest given.state bp wel armed) given.array

  abbrev t : Task
  t = task given bp wel armed wp start wanted room bytes accepted

  abbrev plan : List Record
  plan = plan_records chip.state chip.array start wanted

  ran : Ran t (state_after_plan plan chip.state) (start + length wanted) plan chip
  ran = plan_ran given bp wel armed wp start wanted room bytes accepted

  -- what holds of every chip that a cut may meet, powered up, holds behind every cut
  cut_by : (P : Device → Type 0) → ((met : Device) → Safe t met → P (with_state met (powered_up met.state))) → (after : Device) → CutShort plan wp chip after → P after
  cut_by P holds after (between rs ss e) =
      let safe = always_between t rs ss chip (rw e at ran.always) in
      rw (powered_is (run wp rs chip) safe.sound) (holds (run wp rs chip) safe)
  cut_by P holds after (inside rs ss f mask line e masked good) =
      let met : Device = run wp rs chip in
      let cut = (cut_accepted wp f met line mask (cut_number_accepted wp f met line mask good) record { device_is = refl; line_is = refl }).device_is in
      rw (← cut, torn_is wp f met mask) (holds (torn t f mask met) (always_inside t rs ss f chip (rw e at ran.always) mask masked))
  cut_by P holds after (during rs ss n m e part) =
      let met : Device = run wp rs chip in
      let safe = always_between t rs (wait n ∷ ss) chip (rw e at ran.always) in
      let then = safe_in_time t m met safe in
      rw (pass_time_granted met.state m safe.sound, powered_is (with_state met (time_passed met.state m)) then.sound)
      (holds (with_state met (time_passed met.state m)) then)

  safe_at_rest : PowerCutSafe plan_records wp chip start wanted room
  safe_at_rest = record {
    uncut = completes given bp wel armed wp start wanted room bytes accepted;
    cut = cut_by (Recovers plan_records wp chip.array start wanted (room + 22)) (recovers given bp wel armed wp start wanted room bytes accepted);
  }

  -- the chip is ready for the next plan: behind a cut, and at the end
  cut_ready : (after : Device) → CutShort plan wp chip after → ReadyToPlan chip.state.chip after
  cut_ready = cut_by (ReadyToPlan chip.state.chip) (ready_again given bp wel armed wp start wanted room bytes accepted)

  end_ready : (after : Device) → after ≡ run wp plan chip → ReadyToPlan chip.state.chip after
  unfolding is_active
  end_ready after e =
      let safe = ran.safe in
      rw e
      record {
        same_chip = safe.held.same_chip;
        sound = of_sound (run wp plan chip).state safe.sound;
        at_rest = rw ran.ends (still_at_rest given.state bp wel armed plan (λ (s : State). is_active s ≡ false) (λ w a. refl));
        sized = safe.near.same_length ∙ rw safe.held.same_chip accepted.region.sized;
        bytes = near_bytes given.array (wanted_at start wanted) (run wp plan chip).array safe.near bytes;
      }

-- any accepted plan is made for a chip at rest: what holds of those
module _ (wp : Bool) (chip : Device) (start : ℕ) (wanted : List ℕ) (room : ℕ) (e : plan_refusal chip.state wp chip.array start wanted room ≡ 0) where
  at_rest_by : (P : Device → Type 0)
      → ((bp : ℕ) (wel armed : Bool) → Accepted (rest chip.state bp wel armed) wp chip.array start wanted room → P (standing chip (rest chip.state bp wel armed) chip.array))
      → P chip
  at_rest_by P holds =
      let s = chip.state in
      let a = accepted_of s chip.array start wanted wp room e in
      let r = is_rest s (sound_of s a.region.sound) a.region.ready a.region.no_aai a.region.awake in
      subst (λ (x : State). P (standing chip x chip.array)) (sym r)
      (holds s.bp s.wel s.armed (subst (λ (x : State). Accepted x wp chip.array start wanted room) r a))

pub power_cut_safe : (wp : Bool) (chip : Device) (start : ℕ) (wanted : List ℕ) (room : ℕ) → Bytes chip.array
    → plan_refusal chip.state wp chip.array start wanted room ≡ 0 → PowerCutSafe plan_records wp chip start wanted room
power_cut_safe wp chip start wanted room bytes e =
    at_rest_by wp chip start wanted room e (λ (d : Device). PowerCutSafe plan_records wp d start wanted room)
    (λ bp wel armed a. safe_at_rest chip bp wel armed wp start wanted room bytes a)

-- behind it, finished or cut, the chip is ready for the next plan
pub behind_ready : (wp : Bool) (chip : Device) (start : ℕ) (wanted : List ℕ) (room : ℕ) → Bytes chip.array
    → plan_refusal chip.state wp chip.array start wanted room ≡ 0 → (after : Device) → BehindPlan wp chip start wanted after
    → ReadyToPlan chip.state.chip after
unfolding Finished PowerLost
behind_ready wp chip start wanted room bytes e after behind =
    at_rest_by wp chip start wanted room e (λ (d : Device). BehindPlan wp d start wanted after → ReadyToPlan d.state.chip after)
    (λ bp wel armed a. ⊎_elim (end_ready chip bp wel armed wp start wanted room bytes a after) (cut_ready chip bp wel armed wp start wanted room bytes a after)) behind

-- every frame of such a plan can be cut with every mask that it takes: there is a line that the call accepts
pub cut_anywhere : (wp : Bool) (chip : Device) (start : ℕ) (wanted : List ℕ) (room : ℕ) → Bytes chip.array
    → plan_refusal chip.state wp chip.array start wanted room ≡ 0 → (before after : List Record) (f mask : List ℕ)
    → plan_records chip.state chip.array start wanted ≡ before ++ (frame f ∷ after) → Bytes mask → Masked (command_of (run wp before chip).state wp f) mask
    → CutShort (plan_records chip.state chip.array start wanted) wp chip (torn_device wp f mask (run wp before chip))
cut_anywhere wp chip start wanted room bytes e before after f mask is bytewise masked =
    let met : Device = run wp before chip in
    let line : Line = on_line f f in
    let good = (power_cut_safe wp chip start wanted room bytes e).uncut.frames_accepted before after f is line record { output_long = refl; driven_long = refl } in
    let a : CutAccepted wp f mask met line = record { whole = number_accepted wp f met line good; masked = masked } in
    rw (cut_accepted wp f met line mask a record { device_is = refl; line_is = refl }).device_is
    (inside before after f mask line is bytewise (cut_accepted_number wp f met line mask a))

-- and of any planner that gives the same records
by_records : (plan : Planner) → ((s : State) (array : List ℕ) (start : ℕ) (wanted : List ℕ) → plan s array start wanted ≡ plan_records s array start wanted)
    → (wp : Bool) (chip : Device) (start : ℕ) (wanted : List ℕ) (room : ℕ)
    → PowerCutSafe plan_records wp chip start wanted room → PowerCutSafe plan wp chip start wanted room
by_records plan same wp chip start wanted room h = record {
  uncut = rw (same chip.state chip.array start wanted) h.uncut;
  cut = λ after c.
      let r = h.cut after (rw (same chip.state chip.array start wanted) at c) in
      record { partway = r.partway; accepted = r.accepted; completes = rw (same after.state after.array start wanted) r.completes };
}

-- the bytes of a plan are read back as its records
pub script_read_back : (s : State) (array : List ℕ) (start : ℕ) (wanted : List ℕ) → script_records s array start wanted ≡ plan_records s array start wanted
script_read_back s array start wanted = ap records_in (decode_encode (plan_records s array start wanted) (plan_fits s array start wanted))

pub power_cut_safe_script : (wp : Bool) (chip : Device) (start : ℕ) (wanted : List ℕ) (room : ℕ) → Bytes chip.array
    → plan_refusal chip.state wp chip.array start wanted room ≡ 0 → PowerCutSafe script_records wp chip start wanted room
power_cut_safe_script wp chip start wanted room bytes e =
    by_records script_records script_read_back wp chip start wanted room (power_cut_safe wp chip start wanted room bytes e)
