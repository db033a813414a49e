-- The laws of a whole plan: what it measures, that its script is read back as its records, and that it is empty exactly where nothing changes.
-- Assumes nothing.
use mathlib.Core.Path.{◌≡◌, refl, sym, ap, ◌∙◌}
use mathlib.Core.Bool.{Bool, true, false, true≢false}
use mathlib.Core.List.{List, [], ◌∷◌, ◌++◌, append-nil}
use mathlib.Core.Logic.{⊎_elim}
use Prim.Native.Nat.{ℕ, ◌+◌, ◌*◌, ◌≤◌}
use native.Mathlib.Omega.{arith}
use lib.ListN.{length}
use Rattle.common.proofs.Laws.Choice.{cases}
use Rattle.common.proofs.Laws.Lists.{split}
use Rattle.script.specs.Record.{Record, AllFit, encode, script_length}
use Rattle.script.specs.Decode.{records, decode}
use Rattle.script.proofs.Laws.Decode.{decode_encode}
use Rattle.script.proofs.Laws.Records.{all_fit_append, encoded_length, encode_append}
use Rattle.state.specs.declared.State.{State}
use Rattle.state.specs.State.{data_of}
use Rattle.region.specs.Region.{changes, NothingChanges}
use Rattle.script.specs.Measure.{measure_of}
use Rattle.script.specs.declared.measure.Measure.{Measure}
use Rattle.script.proofs.Laws.Measure.{measured}
use Rattle.region.proofs.Laws.Region.{changes_before, changes_behind}
use Rattle.region.proofs.Laws.Words.{nothing_changes_exactly}
use Rattle.plan.proofs.Laws.Steps.{free_not_needed, status_fits, measure_status, with_status_needed, with_status_none, program_fits, program_none, program_unchanged}
use Rattle.plan.specs.Plan.{step_one_needed, status_records, status_step, program_step, plan_records, wait_bytes, with_status_steps}
use Rattle.common.specs.Refusals.{Exactly}

-- nothing before, between and behind
middle_none : (rs ss ts : List Record) → rs ++ (ss ++ ts) ≡ [] → ss ≡ []
middle_none [] [] ts e = refl
middle_none [] (s ∷ ss) ts e = let some = ap length e in absurd (omega arith)
middle_none (r ∷ rs) ss ts e = let some = ap length e in absurd (omega arith)

module _ (s : State) (array : List ℕ) (start : ℕ) (wanted : List ℕ) where
  abbrev needed : Bool
  needed = step_one_needed s array start wanted

  abbrev programs : List Record
  programs = program_step (data_of s).word_plans array start wanted

  pub plan_measure : measure_of (plan_records s array start wanted) ≡ with_status_steps (data_of s).status_time needed (measure_of programs)
  unfolding plan_records
  plan_measure = measure_status needed s s.bp programs

  pub plan_bytes : (n : Bool) → n ≡ needed
      → encode (plan_records s array start wanted) ≡ encode (status_step n s 0) ++ (encode programs ++ encode (status_step n s s.bp))
  unfolding plan_records
  plan_bytes n e =
      rw (e, encode_append (status_step needed s 0) (programs ++ status_step needed s s.bp), encode_append programs (status_step needed s s.bp)) refl

  -- with steps 1 and 4, or without them
  pub plan_with_status : needed ≡ true → plan_records s array start wanted ≡ status_records s 0 ++ (programs ++ status_records s s.bp)
  unfolding plan_records
  plan_with_status e = rw e refl

  pub plan_without_status : needed ≡ false → plan_records s array start wanted ≡ programs
  unfolding plan_records
  plan_without_status e = rw (e, append-nil programs) refl

  -- they have 22 bytes, and those of two waits
  counted : length (encode (plan_records s array start wanted)) ≡ (with_status_steps (data_of s).status_time needed (measure_of programs)).length
  counted =
      let whole = encoded_length (plan_records s array start wanted) in
      let count = (measured (plan_records s array start wanted)).bytes in
      let same = ap (λ (m : Measure). m.length) plan_measure in
      omega arith

  pub length_with_status : needed ≡ true → length (encode (plan_records s array start wanted)) ≡ script_length programs + 22 + 2 * wait_bytes (data_of s).status_time
  length_with_status e =
      let step = (measured programs).bytes in
      let both = ap (λ (m : Measure). m.length) (with_status_needed (data_of s).status_time (measure_of programs)) in
      let all = rw e at counted in
      omega arith

  pub length_without_status : needed ≡ false → length (encode (plan_records s array start wanted)) ≡ script_length programs
  length_without_status e =
      let step = (measured programs).bytes in
      let none = ap (λ (m : Measure). m.length) (with_status_none (data_of s).status_time (measure_of programs)) in
      let all = rw e at counted in
      omega arith

  pub length_least : script_length programs ≤ length (encode (plan_records s array start wanted))
  length_least = cases needed (λ e. omega (arith, length_with_status e)) (λ e. omega (arith, length_without_status e))

  -- every record of a plan fits a script
  pub plan_fits : AllFit (plan_records s array start wanted)
  unfolding plan_records
  plan_fits =
      all_fit_append (status_step needed s 0) (programs ++ status_step needed s s.bp) (status_fits s 0 needed)
      (all_fit_append programs (status_step needed s s.bp) (program_fits (data_of s).word_plans array start wanted) (status_fits s s.bp needed))

  -- so the runner and the reader meet neither 11 nor 12 in it: it is read back as its records
  pub plan_reads_back : decode (encode (plan_records s array start wanted)) ≡ records (plan_records s array start wanted)
  plan_reads_back = decode_encode (plan_records s array start wanted) plan_fits

  -- "Changing nothing gives the empty script.", and nothing else does
  plan_none : ((k : ℕ) → changes array start wanted k ≡ false) → plan_records s array start wanted ≡ []
  plan_none h =
      plan_without_status (free_not_needed s array start wanted (λ k c. absurd (true≢false (sym c ∙ h k)))) ∙ program_none (data_of s).word_plans array start wanted h

  plan_unchanged : plan_records s array start wanted ≡ [] → (k : ℕ) → changes array start wanted k ≡ false
  unfolding plan_records
  plan_unchanged e k =
      let none = middle_none (status_step needed s 0) programs (status_step needed s s.bp) e in
      ⊎_elim (λ h. changes_before array start wanted k h)
      (λ h. ⊎_elim (λ l. program_unchanged (data_of s).word_plans array start wanted none k h l) (λ l. changes_behind array start wanted k l)
      (split k (start + length wanted))) (split k start)

  pub plan_empty_exactly : Exactly (plan_records s array start wanted ≡ []) (NothingChanges array start wanted)
  plan_empty_exactly =
      let same = nothing_changes_exactly array start wanted in
      record { when = λ e. same.when (plan_unchanged e); only_when = λ h. plan_none (same.only_when h) }
