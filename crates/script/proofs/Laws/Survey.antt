-- The laws of `survey_of`: its refusals, what is left to look through after some records were counted, what number 0 tells. Two results of the call are equal.
-- Assumes nothing.
use mathlib.Core.Path.{◌≡◌, refl, sym, ap, ◌∙◌}
use mathlib.Core.List.{List, [], ◌∷◌}
use Prim.Native.Nat.{ℕ, ◌+◌, ◌*◌, ◌≤◌, ◌<◌}
use native.Mathlib.Nat.{zero-add, add-zero, add_assoc}
use native.Mathlib.Omega.{arith}
use lib.Dec.{ltb}
use lib.ListN.{length, take, drop}
use borrow.Author.Tests.{ltb-true, ltb-false, lt-ltb, le-ltb}
use Rattle.common.proofs.Laws.Choice.{cases, yes, no}
use Rattle.script.specs.Record.{Record, frame, wait, record_length, frames_in, microseconds_in, output_length}
use Rattle.common.specs.Limits.{longest_script}
use Rattle.common.specs.Refusals
use Rattle.common.specs.Refusals.{script_too_long, number_of, first_of, Exactly}
use Rattle.common.specs.declared.refusals.Refusal.{Refusal}
use Rattle.common.proofs.Laws.Refusals.{Given, given_exactly}
use Rattle.script.specs.Decode.{Fault, unknown_mark, wrong_length, cut_short, is_unknown_mark, is_wrong_length, is_cut_short, fault_number, Decoded, records, bad_at, records_in, followed, decode, records_of}
use Rattle.std.specs.Prelude.{Result, Ok, Err}
use Rattle.common.specs.declared.refusals.Refusal.TheVariants.{ScriptTooLong}
use Rattle.script.specs.Reader.{refusal_of}
use Rattle.script.specs.declared.survey.Counts.{Counts}
use Rattle.script.specs.declared.survey.Refused.{Refused}
use Rattle.script.specs.Survey.{survey_refusals, refused_survey, no_offset, counted, counts_of, in_struct, surveyed, survey_of}
use Rattle.script.specs.declared.survey.Surveyed.{Surveyed}
use Rattle.script.proofs.Laws.Answers.{refusal_number, Stands, FrameTold, EndTold, RefusalTold}

-- no fault has the number of an accepted call
pub fault_numbered : (fault : Fault) → 0 < fault_number fault
fault_numbered unknown_mark = omega arith
fault_numbered wrong_length = omega arith
fault_numbered cut_short = omega arith

-- and no two have the same
pub fault_same : (a b : Fault) → fault_number a ≡ fault_number b → a ≡ b
fault_same unknown_mark unknown_mark e = refl
fault_same unknown_mark wrong_length e = absurd (omega (arith, e))
fault_same unknown_mark cut_short e = absurd (omega (arith, e))
fault_same wrong_length unknown_mark e = absurd (omega (arith, e))
fault_same wrong_length wrong_length e = refl
fault_same wrong_length cut_short e = absurd (omega (arith, e))
fault_same cut_short unknown_mark e = absurd (omega (arith, e))
fault_same cut_short wrong_length e = absurd (omega (arith, e))
fault_same cut_short cut_short e = refl

pub survey_long : (script : List ℕ) → longest_script < length script → survey_of script ≡ refused_survey script_too_long 0
unfolding survey_of
survey_long script long = sym (yes _ (lt-ltb longest_script (length script) long) refl)

pub survey_short : (script : List ℕ) → length script ≤ longest_script → survey_of script ≡ surveyed (decode script)
unfolding survey_of
survey_short script short = sym (no _ (le-ltb longest_script (length script) short) refl)

-- the same of the counts
pub counts_long : (script : List ℕ) → longest_script < length script → counts_of script ≡ Err (no_offset ScriptTooLong)
unfolding counts_of
counts_long script long = sym (yes _ (lt-ltb longest_script (length script) long) refl)

counts_short : (script : List ℕ) → length script ≤ longest_script → counts_of script ≡ counted (decode script)
unfolding counts_of
counts_short script short = sym (no _ (le-ltb longest_script (length script) short) refl)

-- the survey is the counts, as a struct
pub counts_in_struct : (script : List ℕ) → in_struct (counts_of script) ≡ survey_of script
counts_in_struct script =
    cases (ltb longest_script (length script))
    (λ t. let h = ltb-true longest_script (length script) t in ap in_struct (counts_long script h) ∙ sym (survey_long script h))
    (λ t. let h = ltb-false longest_script (length script) t in ap in_struct (counts_short script h) ∙ by_decoded (decode script) ∙ sym (survey_short script h))
  where
    by_decoded : (d : Decoded) → in_struct (counted d) ≡ surveyed d
    by_decoded (records rs) = refl
    by_decoded (bad_at fault offset) = ap (λ (n : ℕ). refused_survey n offset) (refusal_number fault)

-- by what the script is: too long, good records, or a first bad one
pub survey_by : (P : Surveyed → Type 0) (script : List ℕ) → (longest_script < length script → P (refused_survey script_too_long 0))
    → ((rs : List Record) → length script ≤ longest_script → decode script ≡ records rs → P (surveyed (records rs)))
    → ((fault : Fault) (offset : ℕ) → length script ≤ longest_script → decode script ≡ bad_at fault offset → P (surveyed (bad_at fault offset)))
    → P (survey_of script)
survey_by P script long good bad =
    cases (ltb longest_script (length script))
    (λ t. let h = ltb-true longest_script (length script) t in rw (survey_long script h) (long h))
    (λ t. let h = ltb-false longest_script (length script) t in rw (survey_short script h) (by_decoded h (decode script) refl))
  where
    by_decoded : length script ≤ longest_script → (d : Decoded) → decode script ≡ d → P (surveyed d)
    by_decoded short (records rs) e = good rs short e
    by_decoded short (bad_at fault offset) e = bad fault offset short e

-- its number is the first of its refusals
pub survey_number : (script : List ℕ) → (survey_of script).number ≡ first_of (survey_refusals script)
survey_number script =
    survey_by (λ s. s.number ≡ first_of (survey_refusals script)) script (λ long. rw (lt-ltb longest_script (length script) long) refl)
    (λ rs short e. rw (le-ltb longest_script (length script) short, e) refl)
    (λ fault offset short e. rw (le-ltb longest_script (length script) short, e) (by_fault fault))
  where
    by_fault : (fault : Fault) → fault_number fault
        ≡ first_of ((Refusals.unknown_mark, is_unknown_mark fault) ∷ (Refusals.wrong_length, is_wrong_length fault) ∷ (Refusals.cut_short, is_cut_short fault) ∷ [])
    by_fault unknown_mark = refl
    by_fault wrong_length = refl
    by_fault cut_short = refl

-- "given exactly when": its condition holds and none that is checked before it
pub survey_exactly : (script : List ℕ) (number : ℕ) → 0 < number → Exactly ((survey_of script).number ≡ number) (Given number (survey_refusals script))
survey_exactly script number some = rw (survey_number script) (given_exactly (survey_refusals script) number some)

-- the counts from an offset on, with what was counted before it
abbrev pub counted_from : ℕ → ℕ → ℕ → ℕ → Decoded → Result Counts Refused
counted_from at frames microseconds output (records rs) =
    Ok (record { frames = frames + frames_in rs; microseconds = microseconds + microseconds_in rs; output = output + output_length rs })
counted_from at frames microseconds output (bad_at fault offset) = Err (record { refusal = refusal_of fault; offset = at + offset })

-- nothing is counted at the start
counted_start : (d : Decoded) → counted_from 0 0 0 0 d ≡ counted d
counted_start (records rs) = simp zero-add
counted_start (bad_at fault offset) = simp zero-add

-- a frame of n bytes is counted
counted_frame : (at f m o n next : ℕ) (bytes : List ℕ) (d : Decoded) → length bytes ≡ n → next ≡ at + record_length (frame bytes)
    → counted_from at f m o (followed (frame bytes) d) ≡ counted_from next (f + 1) m (o + n) d
unfolding frames_in microseconds_in output_length
counted_frame at f m o n next bytes (records rs) long e = rw (← long) (simp add_assoc)
counted_frame at f m o n next bytes (bad_at fault offset) long e = rw e (simp add_assoc)

-- a wait of n microseconds is counted
counted_wait : (at f m o n next : ℕ) (d : Decoded) → next ≡ at + record_length (wait n)
    → counted_from at f m o (followed (wait n) d) ≡ counted_from next f (m + n) o d
unfolding frames_in microseconds_in output_length
counted_wait at f m o n next (records rs) e = simp add_assoc
counted_wait at f m o n next (bad_at fault offset) e = rw e (simp add_assoc)

-- where a walk over the records stands: it has counted what lies before `at`, and what lies behind makes up the counts
pub record Counted (script : List ℕ) (at frames microseconds output : ℕ) : Type 0 where
  pub short : length script ≤ longest_script
  pub inside : at ≤ length script
  pub frames_few : frames ≤ at
  pub microseconds_few : microseconds ≤ at * 4294967295
  pub output_few : output ≤ at
  pub left : counted_from at frames microseconds output (decode (drop at script)) ≡ counted (decode script)

pub count_start : (script : List ℕ) → length script ≤ longest_script → Counted script 0 0 0 0
count_start script short = record {
  short = short;
  inside = omega arith;
  frames_few = omega arith;
  microseconds_few = omega arith;
  output_few = omega arith;
  left = counted_start (decode script);
}

pub count_frame : {script : List ℕ} {at start n next f m o : ℕ} → FrameTold script at start n next → Counted script at f m o
    → Counted script next (f + 1) m (o + n)
count_frame {script} {at} {start} {n} {next} {f} {m} {o} t k =
    let bytes : List ℕ = take n (drop start script) in
    let s = t.stands in
    record {
      short = k.short;
      inside = s.inside;
      frames_few = omega (arith, s.next_is, k.frames_few);
      microseconds_few = omega (arith, s.next_is, k.microseconds_few);
      output_few = omega (arith, s.next_is, t.long, k.output_few);
      left =
          sym (counted_frame at f m o n next bytes (decode (drop next script)) t.long s.next_is)
          ∙ ap (counted_from at f m o) (sym s.decoded) ∙ k.left;
    }

pub count_wait : {script : List ℕ} {at waited next f m o : ℕ} → waited < 4294967296 → Stands script at (wait waited) next → Counted script at f m o
    → Counted script next f (m + waited) o
count_wait {script} {at} {waited} {next} {f} {m} {o} h s k = record {
  short = k.short;
  inside = s.inside;
  frames_few = omega (arith, s.next_is, k.frames_few);
  microseconds_few = omega (arith, s.next_is, k.microseconds_few);
  output_few = omega (arith, s.next_is, k.output_few);
  left =
      sym (counted_wait at f m o waited next (decode (drop next script)) s.next_is) ∙ ap (counted_from at f m o) (sym s.decoded) ∙ k.left;
}

-- it ends, or meets a bad record
pub count_end : {script : List ℕ} {at f m o : ℕ} → EndTold script at → Counted script at f m o
    → Ok (record { frames = f; microseconds = m; output = o }) ≡ counts_of script
unfolding frames_in microseconds_in output_length
count_end {script} {at} {f} {m} {o} t k =
    let none : Ok (record { frames = f; microseconds = m; output = o }) ≡ counted_from at f m o (records []) = simp add-zero in
    none ∙ ap (counted_from at f m o) (sym t.decoded) ∙ k.left ∙ sym (counts_short script k.short)

pub count_refused : {script : List ℕ} {at f m o : ℕ} {refusal : Refusal} → RefusalTold script at refusal → Counted script at f m o
    → Err (record { refusal = refusal; offset = at }) ≡ counts_of script
count_refused {script} {at} {f} {m} {o} {refusal} t k =
    let bad : Err (record { refusal = refusal; offset = at }) ≡ counted_from at f m o (bad_at t.fault 0) = rw t.refusal_is (simp add-zero) in
    bad ∙ ap (counted_from at f m o) (sym t.decoded) ∙ k.left ∙ sym (counts_short script k.short)

-- a survey with number 0: a script whose records are read to the end, and counted
pub record Whole (script : List ℕ) : Type 0 where
  pub short : length script ≤ longest_script
  pub list : List Record
  pub decoded : decode script ≡ records list
  pub counts : survey_of script ≡ surveyed (records list)

pub survey_whole : (script : List ℕ) → (survey_of script).number ≡ 0 → Whole script
survey_whole script =
    survey_by (λ s. s.number ≡ 0 → Whole script) script (λ _ e. absurd (omega (arith, e)))
    (λ rs short q _. record { short = short; list = rs; decoded = q; counts = survey_short script short ∙ ap surveyed q })
    (λ fault _ _ _ e. absurd (omega (arith, e, fault_numbered fault)))

pub survey_output : (script : List ℕ) → (survey_of script).number ≡ 0 → output_length (records_of script) ≡ (survey_of script).output
survey_output script e =
    let w = survey_whole script e in
    ap (λ (d : Decoded). output_length (records_in d)) w.decoded ∙ sym (ap (λ (s : Surveyed). s.output) w.counts)

-- a survey with another number but 11: a script whose first bad record is told
pub record Blamed (script : List ℕ) : Type 0 where
  pub fault : Fault
  pub offset : ℕ
  pub short : length script ≤ longest_script
  pub decoded : decode script ≡ bad_at fault offset
  pub survey_is : survey_of script ≡ refused_survey (fault_number fault) offset

pub survey_bad : (script : List ℕ) → ((survey_of script).number ≡ 0 → ⊥) → ((survey_of script).number ≡ script_too_long → ⊥) → Blamed script
survey_bad script =
    survey_by (λ s. (s.number ≡ 0 → ⊥) → (s.number ≡ script_too_long → ⊥) → Blamed script) script (λ _ _ other. absurd (other refl))
    (λ _ _ _ some _. absurd (some refl))
    (λ fault offset short e _ _. record { fault = fault; offset = offset; short = short; decoded = e; survey_is = survey_short script short ∙ ap surveyed e })

-- "counts 0" with a refusal
pub survey_refused : (script : List ℕ) → ((survey_of script).number ≡ 0 → ⊥) → survey_of script ≡ refused_survey (survey_of script).number (survey_of script).offset
survey_refused script =
    survey_by (λ s. (s.number ≡ 0 → ⊥) → s ≡ refused_survey s.number s.offset) script (λ _ _. refl) (λ _ _ _ some. absurd (some refl)) (λ _ _ _ _ _. refl)

-- two results of a call are equal
pub survey_of_determined : (script : List ℕ) (a b : Surveyed) → a ≡ survey_of script → b ≡ survey_of script → a ≡ b
survey_of_determined script a b e f = e ∙ sym f

pub counts_of_determined : (script : List ℕ) (a b : Result Counts Refused) → a ≡ counts_of script → b ≡ counts_of script → a ≡ b
counts_of_determined script a b e f = e ∙ sym f
