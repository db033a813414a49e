-- The refusals of each call: its tests mean the table's words, in the same order; and what a refusal leaves.
-- Assumes nothing.
use mathlib.Core.Path.{◌≡◌, refl, ap, ◌∙◌}
use mathlib.Core.Bool.{Bool, true, false, ◌||◌, not}
use mathlib.Core.List.{List, [], ◌∷◌}
use Prim.Native.Nat.{ℕ, ◌<◌}
use native.Mathlib.Omega.{arith}
use lib.Dec.{ltb, eqb}
use lib.ListN.{length}
use borrow.Author.Tests.{not-false}
use Rattle.common.specs.Bits.{Bytes}
use Rattle.common.specs.Limits.{longest_frame}
use Rattle.common.specs.Refusals.{state_not_sound, Exactly}
use Rattle.common.proofs.Laws.Choice.{cases}
use Rattle.state.specs.declared.State.{State}
use Rattle.state.specs.declared.Answer.{Answer}
use Rattle.state.specs.Soundness.{is_sound}
use Rattle.state.specs.Power.{power_up}
use Rattle.state.specs.Time.{pass_time}
use Rattle.state.proofs.Laws.Soundness.{sound_of}
use Rattle.state.proofs.Laws.Power.{power_up_granted, power_up_refused}
use Rattle.state.proofs.Laws.Passed.{pass_time_granted, pass_time_refused}
use Rattle.frame.specs.Device.{Device}
use Rattle.frame.specs.Line.{Line, is_not_long}
use Rattle.frame.specs.Cut.{takes_mask}
use Rattle.frame.proofs.Laws.Cut.{masked_of, of_masked}
use Rattle.command.specs.Command.{command_of}
use Rattle.frame.specs.Call.{frame_refusals, FrameRun, cut_refusals, CutRun}
use Rattle.frame.proofs.Laws.Accepted.{frame_exactly, cut_exactly}
use Rattle.frame.proofs.Laws.Call.{frame_refusal_keeps, cut_refusal_keeps}
use Rattle.script.specs.Survey.{survey_of}
use Rattle.run.specs.declared.Ran.{Ran}
use Rattle.run.specs.Script.{script_refusals, script_number, script_offset, ScriptRun}
use Rattle.run.proofs.Laws.Accepted.{script_exactly, carried_surveyed, offset_surveyed, offset_only}
use Rattle.run.proofs.Laws.Script.{script_refused, run_script_determined}
use Rattle.state.specs.declared.Planned.{Planned}
use Rattle.region.proofs.Laws.Words.{rises_exactly}
use Rattle.plan.specs.Refusals.{bytes_needed, plan_refusals}
use Rattle.plan.specs.Update.{PlanUpdated}
use Rattle.plan.proofs.Laws.Refusals.{refused_exactly}
use Rattle.plan.proofs.Laws.Update.{refused_untouched}
use Rattle.rules.specs.Conditions.{NotSound, WrongFrame, WrongOutput}
use Rattle.rules.proofs.Laws.Lines.{means_not_long}
use Rattle.rules.specs.Numbered.{◌when◌, Numbered}
use Rattle.rules.specs.BadRecords.{Located}
use Rattle.rules.specs.Refusals.{
  PowerUpRefusals,
  TimeRefusals,
  FrameRefusals,
  CutRefusals,
  PlanRefusals,
  ScriptRefusals,
}
use Rattle.rules.proofs.Laws.Tests.{means_equal, means_less, means_not, means_or}
use Rattle.rules.proofs.Laws.Numbered.{row, numbered, first_exactly}
use Rattle.rules.proofs.Laws.Conditions.{means_not_sound, means_wrong_array, means_wrong_region, means_not_at_rest, means_locked}
use Rattle.rules.proofs.Laws.BadRecords.{means_bad_mark, means_bad_length, means_bad_cut, means_wrong_sum}
use Rattle.rules.proofs.Laws.Survey.{means_carried, carries_none, survey_rules}

-- ---- power-up and time

module _ (s : State) where
  abbrev state_rows : List (ℕ × Bool)
  state_rows = (state_not_sound, not (is_sound s)) ∷ []

  -- a call that is granted a state that is sound, and refused any other
  state_number : (a : Answer) → (is_sound s ≡ true → a.number ≡ 0) → (is_sound s ≡ false → a.number ≡ 1) → Numbered a.number (1 when NotSound s ∷ [])
  state_number a granted refused =
      numbered state_rows (1 when NotSound s ∷ []) a.number refl (cases (is_sound s) (λ t. granted t ∙ rw t refl) (λ t. refused t ∙ rw t refl))
      (row (means_not_sound s) (λ _. refl) (λ _. tt))

  state_kept : (a : Answer) → (is_sound s ≡ true → a.number ≡ 0) → (is_sound s ≡ false → a.state ≡ s) → 0 < a.number → a.state ≡ s
  state_kept a granted refused some = cases (is_sound s) (λ t. absurd (omega (arith, some, granted t))) refused

  abbrev number_in : Answer → ℕ
  number_in a = a.number

  abbrev state_in : Answer → State
  state_in a = a.state

  pub power_up_refusals : PowerUpRefusals s
  power_up_refusals =
      let granted : is_sound s ≡ true → (power_up s).number ≡ 0 = λ e. ap number_in (power_up_granted s (sound_of s e)) in
      record {
        numbers = state_number (power_up s) granted (λ e. ap number_in (power_up_refused s e));
        refusal_keeps = state_kept (power_up s) granted (λ e. ap state_in (power_up_refused s e));
      }

  pub time_refusals : (n : ℕ) → TimeRefusals s n
  time_refusals n =
      let granted : is_sound s ≡ true → (pass_time s n).number ≡ 0 = λ e. ap number_in (pass_time_granted s n (sound_of s e)) in
      record {
        numbers = state_number (pass_time s n) granted (λ e. ap number_in (pass_time_refused s n e));
        refusal_keeps = state_kept (pass_time s n) granted (λ e. ap state_in (pass_time_refused s n e));
      }

-- ---- a frame, whole and interrupted

module _ (wp : Bool) (f : List ℕ) (d : Device) (line : Line) where
  abbrev s : State
  s = d.state

  means_wrong_frame : Exactly (eqb (length f) 0 || ltb longest_frame (length f) ≡ true) (WrongFrame f)
  means_wrong_frame = means_or (eqb (length f) 0) (ltb longest_frame (length f)) (means_equal (length f) 0) (means_less 4101 (length f))

  means_wrong_output : Exactly (is_not_long (length f) line ≡ true) (WrongOutput f line)
  means_wrong_output = means_not_long line (length f)

  pub frame_refusals_lem : (number : ℕ) (after : Device) (line_after : Line) (run : FrameRun wp f d line number after line_after)
      → FrameRefusals wp f d line number after line_after run
  frame_refusals_lem number after line_after run = record {
    numbers = numbered (frame_refusals wp f d line) _ number refl (run.number_is ∙ first_exactly (frame_refusals wp f d line) _ (frame_exactly wp f d line))
        (row (means_not_sound s) (λ _. refl)
        (λ sound. row (means_wrong_array s (not-false (is_sound s) sound) d.array) (λ _. refl)
        (λ _. row means_wrong_frame (λ _. refl) (λ _. row means_wrong_output (λ _. refl) (λ _. tt)))));
    refusal_keeps = frame_refusal_keeps wp f d line run;
  }

  pub cut_refusals_lem : (mask : List ℕ) (number : ℕ) (after : Device) (line_after : Line) (run : CutRun wp f mask d line number after line_after)
      → CutRefusals wp f mask d line number after line_after run
  cut_refusals_lem mask number after line_after run = let command = command_of s wp f in record {
    numbers = numbered (cut_refusals wp f mask d line) _ number refl (run.number_is ∙ first_exactly (cut_refusals wp f mask d line) _ (cut_exactly wp f d line mask))
        (row (means_not_sound s) (λ _. refl)
        (λ sound. row (means_wrong_array s (not-false (is_sound s) sound) d.array) (λ _. refl)
        (λ _. row means_wrong_frame (λ _. refl)
        (λ _. row means_wrong_output (λ _. refl)
        (λ _. row (means_not (takes_mask command mask) record { when = masked_of command mask; only_when = of_masked command mask }) (λ _. refl) (λ _. tt))))));
    refusal_keeps = cut_refusal_keeps wp f d line mask run;
  }

-- ---- a plan

module _ (s : State) (wp : Bool) (array : List ℕ) (start : ℕ) (wanted buffer after : List ℕ) (planned : Planned) (bytes : Bytes wanted) where
  abbrev plan_rows : List (ℕ × Bool)
  plan_rows = plan_refusals s wp array start wanted (length buffer)

  pub plan_refusals_lem : (run : PlanUpdated s wp array start wanted buffer after planned) → PlanRefusals s wp array start wanted buffer after planned bytes run
  unfolding bytes_needed
  plan_refusals_lem run = record {
    numbers = numbered plan_rows _ planned.number refl (run.number ∙ first_exactly plan_rows _ (refused_exactly s array start wanted wp (length buffer)))
        (row (means_not_sound s) (λ _. refl)
        (λ sound. row (means_wrong_array s (not-false (is_sound s) sound) array) (λ _. refl)
        (λ _. row (means_wrong_region s (not-false (is_sound s) sound) start wanted) (λ _. refl)
        (λ _. row (means_not_at_rest s) (λ _. refl)
        (λ _. row (rises_exactly array start wanted bytes) (λ _. refl)
        (λ _. row (means_locked array start wanted s wp) (λ _. refl)
        (λ _. row (means_less (length buffer) (bytes_needed s array start wanted)) (λ _. refl) (λ _. tt))))))));
    refusal_keeps = refused_untouched s wp array start wanted buffer after planned run;
  }

-- ---- a script

module _ (wp : Bool) (script : List ℕ) (d : Device) (line : Line) (bytes : Bytes script) where
  -- the offset is the survey's, where the number is
  located : Located script (script_number wp script d line) (script_offset wp script d line)
  located = record {
    of_the_first = λ e.
        let t = (means_carried (script_number wp script d line)).only_when e in
        let number_is = carried_surveyed wp script d line t in
        let offset_is : script_offset wp script d line ≡ (survey_of script).offset = offset_surveyed wp script d line ∙ rw t refl in
        rw (number_is, offset_is) ((survey_rules script bytes).located.of_the_first (rw number_is at e));
    else_none = λ never. offset_only wp script d line (carries_none (script_number wp script d line) never);
  }

  pub script_refusals_lem : (ran : Ran) (after : Device) (line_after : Line) (run : ScriptRun wp script d line ran after line_after)
      → ScriptRefusals wp script d line ran after line_after bytes run
  script_refusals_lem ran after line_after run = record {
    numbers = numbered (script_refusals wp script d line) _ ran.number refl
        (run.number_is ∙ first_exactly (script_refusals wp script d line) _ (script_exactly wp script d line))
        (row (means_not_sound d.state) (λ _. refl)
        (λ sound. row (means_wrong_array d.state (not-false (is_sound d.state) sound) d.array) (λ _. refl)
        (λ _. row (means_less 32768 (length script)) (λ _. refl)
        (λ _. row (means_bad_mark script bytes) (λ _. refl)
        (λ mark. row (means_bad_length script bytes) (λ _. refl)
        (λ long. row (means_bad_cut script bytes) (λ _. refl) (λ cut. row (means_wrong_sum script bytes line mark long cut) (λ _. refl) (λ _. tt))))))));
    refusal_keeps = λ some.
        let refused = script_refused wp script d line (λ z. omega (arith, run.number_is, z, some)) in
        let same = run_script_determined wp script d line _ _ _ _ _ _ run refused in
        (same.0 ∙ rw (run.number_is, run.offset_is) refl, same.1);
    located = rw (run.number_is, run.offset_is) located;
  }
