-- An accepted plan by its records: empty exactly where nothing changes, else the four steps in their order, no other records, and all of it in the buffer.
-- Assumes nothing.
use mathlib.Core.Path.{◌≡◌, refl, sym, ap, ◌∙◌}
use mathlib.Core.Bool.{Bool, true, false, true≢false}
use mathlib.Core.List.{List, [], ◌++◌, append-nil}
use Prim.Native.Nat.{ℕ}
use native.Mathlib.Omega.{arith}
use lib.ListN.{length, take, drop, length-append, length-drop}
use lib.Seq.{take-append_seam, drop-append_seam}
use Rattle.common.proofs.Laws.Choice.{cases}
use Rattle.chip.specs.declared.Chip.{Chip}
use Rattle.chip.proofs.Laws.Chip.{chip_of_8, chip_of_5}
use Rattle.state.specs.declared.State.{State}
use Rattle.state.specs.State.{data_of}
use Rattle.state.proofs.Laws.Soundness.{sound_of}
use Rattle.script.specs.Record.{Record, encode}
use Rattle.script.specs.Decode.{decode}
use Rattle.state.specs.declared.Planned.{Planned}
use Rattle.plan.specs.Plan.{step_one_needed, status_records, program_step, plan_records}
use Rattle.plan.specs.Refusals.{RegionAccepted, Accepted}
use Rattle.plan.specs.Update.{PlanUpdated}
use Rattle.plan.proofs.Laws.Steps.{program_words, program_pages}
use Rattle.plan.proofs.Laws.Plan.{plan_empty_exactly, plan_with_status, plan_without_status, plan_reads_back}
use Rattle.plan.proofs.Laws.Refusals.{accepted_of, accepted_inside}
use Rattle.plan.proofs.Laws.Update.{plan_given}
use Rattle.rules.specs.PlanWords.{WordsStep}
use Rattle.rules.specs.PlanPages.{PagesStep}
use Rattle.rules.specs.Plans.{PlanWritten, PlanSteps, PlanRules}
use Rattle.rules.proofs.Laws.Running.{counted}
use Rattle.rules.proofs.Laws.PlanStatus.{protected_needed, none_not_needed, status_frames}
use Rattle.rules.proofs.Laws.PlanWords.{words_step}
use Rattle.rules.proofs.Laws.PlanPages.{pages_step_lem}
use Rattle.rules.proofs.Laws.PlanDetermined.{plan_steps_determined}

module _ (s : State) (array : List ℕ) (start : ℕ) (wanted : List ℕ) where
  -- ---- the four steps

  abbrev programs : List Record
  programs = program_step (data_of s).word_plans array start wanted

  module _ (accepted : RegionAccepted s array start wanted) where
    program_step_2 : s.chip ≡ 8 → WordsStep array start wanted programs
    program_step_2 e =
        let on : (data_of s).word_plans ≡ true = rw e (ap (λ (c : Chip). c.word_plans) chip_of_8) in
        rw (program_words (data_of s).word_plans array start wanted on) (words_step array start wanted (accepted_inside s array start wanted accepted))

    program_step_3 : s.chip ≡ 5 → PagesStep array start wanted programs
    program_step_3 e =
        let off : (data_of s).word_plans ≡ false = rw e (ap (λ (c : Chip). c.word_plans) chip_of_5) in
        rw (program_pages (data_of s).word_plans array start wanted off) (pages_step_lem array start wanted (accepted_inside s array start wanted accepted))

    plan_steps : PlanSteps s array start wanted (plan_records s array start wanted)
    plan_steps =
        let sound = sound_of s accepted.sound in
        let empty = plan_empty_exactly s array start wanted in
        cases (step_one_needed s array start wanted)
        (λ t. record {
          changing_nothing = empty.only_when;
          empty_changes_nothing = empty.when;
          before = status_records s 0;
          program = programs;
          after = status_records s s.bp;
          in_this_order = plan_with_status s array start wanted t;
          step_1 = λ _. status_frames s 0 (omega arith) sound.chip_known;
          no_step_1 = λ h. absurd (true≢false (sym t ∙ none_not_needed s array start wanted h));
          step_2 = program_step_2;
          step_3 = program_step_3;
          step_4 = λ _. status_frames s s.bp sound.bp_le_7 sound.chip_known;
          no_step_4 = λ h. absurd (true≢false (sym t ∙ none_not_needed s array start wanted h));
        })
        (λ f. record {
          changing_nothing = empty.only_when;
          empty_changes_nothing = empty.when;
          before = [];
          program = programs;
          after = [];
          in_this_order = plan_without_status s array start wanted f ∙ sym (append-nil programs);
          step_1 = λ p. absurd (true≢false (sym (protected_needed s array start wanted p) ∙ f));
          no_step_1 = λ _. refl;
          step_2 = program_step_2;
          step_3 = program_step_3;
          step_4 = λ p. absurd (true≢false (sym (protected_needed s array start wanted p) ∙ f));
          no_step_4 = λ _. refl;
        })

    -- records of which the steps hold are the planner's
    pub plan_steps_only : (other : List Record) → PlanSteps s array start wanted other → other ≡ plan_records s array start wanted
    plan_steps_only other p = plan_steps_determined s array start wanted (sound_of s accepted.sound).chip_known other (plan_records s array start wanted) p plan_steps

  -- ---- the buffer and the answer

  module _ (wp : Bool) (buffer after : List ℕ) (r : Planned) (p : PlanUpdated s wp array start wanted buffer after r) (zero_is : r.number ≡ 0) where
    accepted : Accepted s wp array start wanted (length buffer)
    accepted = accepted_of s array start wanted wp (length buffer) (sym p.number ∙ zero_is)

    plan_written : PlanWritten (plan_records s array start wanted) buffer after r
    plan_written =
        let given = plan_given s wp array start wanted buffer (sym p.number ∙ zero_is) in
        let script : List ℕ = encode (plan_records s array start wanted) in
        let long : r.length ≡ length script = rw given at p.length in
        let laid : after ≡ script ++ drop (length script) buffer = rw given at p.buffer_after in
        let front : take r.length after ≡ script = rw (long, laid) (take-append_seam script (drop (length script) buffer)) in
        record {
          at_the_front = front;
          rest_untouched = rw (long, laid) (drop-append_seam script (drop (length script) buffer));
          buffer_as_long = omega (
            arith,
            ap length laid,
            length-append script (drop (length script) buffer),
            length-drop (length script) buffer,
            accepted.roomy,
          );
          length = long;
          frames_and_microseconds = rw (p.frames, p.microseconds, given) (counted (plan_records s array start wanted));
          a_script = ap decode front ∙ plan_reads_back s array start wanted;
        }

    pub plan_rules : PlanRules s array start wanted buffer after r
    plan_rules = record {
      up_to_4096 = accepted.region.short;
      plan = plan_records s array start wanted;
      written = plan_written;
      steps = plan_steps accepted.region;
      only = plan_steps_only accepted.region;
    }
