-- No accepted plan takes longer than the worst case of its chip, and in so much room none is refused for its length.
-- Assumes nothing.
use mathlib.Core.Path.{◌≡◌, refl, sym, ap, ◌∙◌}
use mathlib.Core.Bool.{Bool, true}
use mathlib.Core.List.{List}
use Prim.Native.Nat.{ℕ, ◌+◌, ◌*◌, ◌≤◌}
use native.Mathlib.Omega.{arith}
use lib.ListN.{length}
use Rattle.common.specs.Limits.{longest_wanted}
use Rattle.common.specs.Refusals.{buffer_too_short}
use Rattle.common.proofs.Laws.Choice.{cases}
use Rattle.chip.proofs.Laws.Chip.{words_at_once}
use Rattle.state.specs.declared.State.{State}
use Rattle.state.specs.State.{data_of}
use Rattle.script.specs.Record.{encode}
use Rattle.script.specs.declared.measure.Measure.{Measure}
use Rattle.script.specs.Measure.{measure_of, AtMost}
use Rattle.script.proofs.Laws.Measure.{measure_is}
use Rattle.words.specs.Words.{step_two}
use Rattle.pages.specs.Pages.{step_three}
use Rattle.state.specs.declared.Planned.{Planned}
use Rattle.plan.specs.Plan.{step_one_needed, plan_records, with_waits, with_status_steps}
use Rattle.plan.specs.Refusals.{plan_refusal}
use Rattle.plan.specs.Update.{PlanUpdated}
use Rattle.plan.proofs.Laws.Steps.{program_words, program_pages, step_two_most, step_two_frames_or_time, step_three_most, with_status_most, wait_bytes_le}
use Rattle.plan.proofs.Laws.Plan.{plan_measure}
use Rattle.plan.proofs.Laws.Refusals.{of_accepted, accepted_of, too_short_of}
use Rattle.plan.proofs.Laws.Update.{measured_length, plan_counts}
use Rattle.worst.specs.Worst.{worst_by_words, worst_by_pages, worst_of, reported}

-- ---- the records

-- with steps 1 and 4
module _ (array : List ℕ) (start : ℕ) (wanted : List ℕ) (short : length wanted ≤ longest_wanted) (needed : Bool) where
  words_worst : (time : ℕ) → AtMost (with_status_steps time needed (measure_of (step_two array start wanted))) (with_waits time worst_by_words)
  words_worst time =
      let step = step_two_most array start wanted short in
      let both = with_status_most time (measure_of (step_two array start wanted)) needed in
      record { frames = omega arith; microseconds = omega arith; bytes = omega arith }

  pages_worst : (time : ℕ) → AtMost (with_status_steps time needed (measure_of (step_three array start wanted))) (with_waits time worst_by_pages)
  pages_worst time =
      let step = step_three_most array start wanted short in
      let both = with_status_most time (measure_of (step_three array start wanted)) needed in
      record { frames = omega arith; microseconds = omega arith; bytes = omega arith }

  words_frames_or_time : 7 * (with_status_steps 0 needed (measure_of (step_two array start wanted))).frames
      + (with_status_steps 0 needed (measure_of (step_two array start wanted))).microseconds ≤ 28728
  words_frames_or_time =
      let step = step_two_frames_or_time array start wanted short in
      let both = with_status_most 0 (measure_of (step_two array start wanted)) needed in
      omega arith

-- every plan of at most 4,096 wanted bytes, whatever else it would be refused for
pub records_worst : (s : State) (array : List ℕ) (start : ℕ) (wanted : List ℕ) → length wanted ≤ longest_wanted
    → AtMost (measure_of (plan_records s array start wanted)) (worst_of (data_of s))
records_worst s array start wanted short =
    let needed : Bool = step_one_needed s array start wanted in
    rw (plan_measure s array start wanted)
    (cases (data_of s).word_plans
    (λ w. rw (program_words (data_of s).word_plans array start wanted w, w) (words_worst array start wanted short needed (data_of s).status_time))
    (λ w. rw (program_pages (data_of s).word_plans array start wanted w, w) (pages_worst array start wanted short needed (data_of s).status_time)))

pub bytes_worst : (s : State) (array : List ℕ) (start : ℕ) (wanted : List ℕ) → length wanted ≤ longest_wanted
    → length (encode (plan_records s array start wanted)) ≤ (worst_of (data_of s)).length
bytes_worst s array start wanted short =
    rw (← measured_length (plan_records s array start wanted) (measure_of (plan_records s array start wanted)) refl) (records_worst s array start wanted short).bytes

-- so, on every chip, no plan is longer than a script can be
worst_le : (s : State) → (worst_of (data_of s)).length ≤ 26672
worst_le s =
    cases (data_of s).word_plans (λ w. rw (w, words_at_once s.chip w) (omega arith))
    (λ w. let waits = wait_bytes_le (data_of s).status_time in rw w (omega arith))

pub plan_le : (s : State) (array : List ℕ) (start : ℕ) (wanted : List ℕ) → length wanted ≤ longest_wanted
    → length (encode (plan_records s array start wanted)) ≤ 26672
plan_le s array start wanted short = omega (arith, bytes_worst s array start wanted short, worst_le s)

-- what is accepted in some room is accepted in this much
pub accepted_in_worst : (s : State) (wp : Bool) (array : List ℕ) (start : ℕ) (wanted : List ℕ) (room more : ℕ)
    → plan_refusal s wp array start wanted room ≡ 0 → (worst_of (data_of s)).length ≤ more → plan_refusal s wp array start wanted more ≡ 0
accepted_in_worst s wp array start wanted room more e enough =
    let a = accepted_of s array start wanted wp room e in
    of_accepted s array start wanted wp more
    record { region = a.region; writable = a.writable; roomy = omega (arith, enough, bytes_worst s array start wanted a.region.short) }

-- ---- the call

module _ (s : State) (wp : Bool) (array : List ℕ) (start : ℕ) (wanted buffer after : List ℕ) (r : Planned)
    (plans : PlanUpdated s wp array start wanted buffer after r) where
  -- what is reported of an accepted plan
  pub reported_is : r.number ≡ 0 → reported r ≡ measure_of (plan_records s array start wanted)
  reported_is e = sym (measure_is (plan_counts s wp array start wanted buffer after r plans e))

  -- "a worst case over all accepted plans": of updates, which an erase (02, A11) is not
  pub plan_worst : r.number ≡ 0 → AtMost (reported r) (worst_of (data_of s))
  plan_worst e =
      let short = (accepted_of s array start wanted wp (length buffer) (sym plans.number ∙ e)).region.short in
      rw (reported_is e) (records_worst s array start wanted short)

  -- where plans go by words none reaches the frames and the time together: more frames are less time
  pub frames_or_time : r.number ≡ 0 → (data_of s).word_plans ≡ true → 7 * r.frames + r.microseconds ≤ 28728
  frames_or_time e w =
      let short = (accepted_of s array start wanted wp (length buffer) (sym plans.number ∙ e)).region.short in
      let needed : Bool = step_one_needed s array start wanted in
      let whole : reported r ≡ with_status_steps 0 needed (measure_of (step_two array start wanted)) =
      reported_is e ∙ plan_measure s array start wanted ∙ rw (program_words (data_of s).word_plans array start wanted w, words_at_once s.chip w) refl in
      let frames = ap (λ (m : Measure). m.frames) whole in
      let microseconds = ap (λ (m : Measure). m.microseconds) whole in
      omega (arith, words_frames_or_time array start wanted short needed)

  -- a buffer of so many bytes is never too short
  pub worst_room : (worst_of (data_of s)).length ≤ length buffer → r.number ≡ buffer_too_short → ⊥
  worst_room enough e =
      let t = too_short_of s array start wanted wp (length buffer) (sym plans.number ∙ e) in
      omega (arith, t.1, enough, bytes_worst s array start wanted t.0.short)
