-- A script looked through: its number and offset in words, its counts, and what running it can be refused for.
-- Assumes nothing.
use mathlib.Core.Path.{◌≡◌, refl, ap, ◌∙◌}
use mathlib.Core.Bool.{Bool, true, false, false≢true, ◌||◌}
use mathlib.Core.List.{List, [], ◌∷◌, ◌++◌}
use mathlib.Core.Logic.{inl, inr, ⊎_elim}
use Prim.Native.Nat.{ℕ, ◌≤◌}
use native.Mathlib.Omega.{arith}
use lib.Dec.{eqb}
use lib.ListN.{length}
use borrow.Author.Tests.{not-false}
use Rattle.common.specs.Bits.{Bytes}
use Rattle.common.specs.Limits.{longest_script}
use Rattle.common.specs.Refusals.{Exactly}
use Rattle.state.specs.Soundness.{is_sound}
use Rattle.script.specs.Decode.{Fault, unknown_mark, wrong_length, cut_short, fault_number}
use Rattle.script.specs.declared.survey.Surveyed.{Surveyed}
use Rattle.script.specs.Survey.{survey_refusals, surveyed, survey_of}
use Rattle.script.proofs.Laws.Decode.{encode_decode}
use Rattle.script.specs.declared.reader.AtOffset.{AtOffset}
use Rattle.script.specs.Reader.{refusal_of}
use Rattle.script.proofs.Laws.Answers.{refusal_number}
use Rattle.script.proofs.Laws.Bad.{bad_at_read}
use Rattle.rules.proofs.Laws.Scripts.{refused_with}
use Rattle.script.proofs.Laws.Survey.{survey_short, survey_number, survey_whole, Blamed, survey_bad, survey_refused}
use Rattle.frame.specs.Device.{Device}
use Rattle.frame.specs.Line.{Line}
use Rattle.run.specs.declared.Ran.{Ran}
use Rattle.run.specs.Script.{chip_refusals, line_refusals, carries_offset, ScriptRun}
use Rattle.run.proofs.Laws.Accepted.{survey_accepts, survey_located}
use Rattle.rules.specs.Conditions.{NotSound, WrongArray, BothLong}
use Rattle.rules.specs.Numbered.{◌when◌, Numbered}
use Rattle.rules.specs.BadRecords.{FirstBad, Carries, Located, CountedScript, SurveyRules}
use Rattle.rules.proofs.Laws.Tests.{off, means_equal, means_less, means_or}
use Rattle.rules.proofs.Laws.Numbered.{row, numbered}
use Rattle.rules.proofs.Laws.Lines.{means_not_long}
use Rattle.rules.proofs.Laws.Conditions.{means_not_sound, means_wrong_array}
use Rattle.rules.proofs.Laws.Running.{counted}
use Rattle.rules.proofs.Laws.BadRecords.{means_first, means_bad_mark, means_bad_length, means_bad_cut}

-- 12, 13 and 14 alone carry an offset
pub means_carried : (number : ℕ) → Exactly (carries_offset number ≡ true) (Carries number)
means_carried number =
    let two = means_or (eqb number 12) (eqb number 13) (means_equal number 12) (means_equal number 13) in
    let three = means_or (eqb number 12 || eqb number 13) (eqb number 14) two (means_equal number 14) in
    record {
      when = λ t. ⊎_elim (⊎_elim inl (λ e. inr (inl e))) (λ e. inr (inr e)) (three.when t);
      only_when = λ e. three.only_when (⊎_elim (λ a. inl (inl a)) (⊎_elim (λ b. inl (inr b)) inr) e);
    }

pub carries_none : (number : ℕ) → (Carries number → ⊥) → carries_offset number ≡ false
carries_none number never = off (carries_offset number) (λ t. never ((means_carried number).when t))

module _ (script : List ℕ) (bytes : Bytes script) where
  -- one of the three: the script's first bad record is told
  blamed : Carries (survey_of script).number → Blamed script
  blamed e =
      let t = (means_carried (survey_of script).number).only_when e in
      survey_bad script (λ z. false≢true (rw z at t)) (λ z. false≢true (rw z at t))

  located : Located script (survey_of script).number (survey_of script).offset
  located = record {
    of_the_first = λ e. let b = blamed e in rw b.survey_is ((means_first script bytes b.fault b.offset).when b.decoded);
    else_none = λ never. survey_located script ∙ rw (carries_none (survey_of script).number never) refl;
  }

  first_by : (fault : Fault) (offset : ℕ) → length script ≤ longest_script → FirstBad script offset (fault_number fault)
      → ((survey_of script).number ≡ fault_number fault) × ((survey_of script).offset ≡ offset)
  first_by fault offset short first =
      let is = survey_short script short ∙ ap surveyed ((means_first script bytes fault offset).only_when first) in
      (ap (λ (s : Surveyed). s.number) is, ap (λ (s : Surveyed). s.offset) is)

  first_told : (number offset : ℕ) → length script ≤ longest_script → Carries number → FirstBad script offset number
      → ((survey_of script).number ≡ number) × ((survey_of script).offset ≡ offset)
  first_told number offset short =
      ⊎_elim (λ e. rw e (first_by unknown_mark offset short))
      (⊎_elim (λ e. rw e (first_by wrong_length offset short)) (λ e. rw e (first_by cut_short offset short)))

  counts : (survey_of script).number ≡ 0 → CountedScript script (survey_of script).frames (survey_of script).microseconds (survey_of script).output
  counts e =
      let w = survey_whole script e in
      rw w.counts
      record {
        list = w.list;
        of_the_script = (encode_decode script w.list bytes w.decoded).0;
        counted = counted w.list;
        output_is = refl;
      }

  then_run : (wp : Bool) (d : Device) (line : Line) (ran : Ran) (after : Device) (line_after : Line)
      → (survey_of script).number ≡ 0 → ScriptRun wp script d line ran after line_after
      → Numbered ran.number
      (1 when NotSound d.state ∷ 2 when WrongArray d.state d.array ∷ 4 when (BothLong line (survey_of script).output → ⊥) ∷ [])
  then_run wp d line ran after line_after e run =
      numbered (chip_refusals d ++ line_refusals line (survey_of script).output) _ ran.number refl (run.number_is ∙ survey_accepts wp script d line e)
      (row (means_not_sound d.state) (λ _. refl)
      (λ sound. row (means_wrong_array d.state (not-false (is_sound d.state) sound) d.array) (λ _. refl)
      (λ _. row (means_not_long line (survey_of script).output) (λ _. refl) (λ _. tt))))

  pub survey_rules : SurveyRules script
  survey_rules = record {
    numbers = numbered (survey_refusals script) _ (survey_of script).number refl (survey_number script)
        (row (means_less 32768 (length script)) (λ _. refl)
        (λ _. row (means_bad_mark script bytes) (λ _. refl)
        (λ _. row (means_bad_length script bytes) (λ _. refl) (λ _. row (means_bad_cut script bytes) (λ _. refl) (λ _. tt)))));
    located = located;
    first_told = first_told;
    refusal_counts = λ some. rw (survey_refused script (λ z. omega (arith, z, some))) (refl, (refl, refl));
    counts = counts;
    read_there = λ e. let b = blamed e in rw (b.survey_is, ← refusal_number b.fault) (refused_with script b.offset (refusal_of b.fault) (ap (λ (r : AtOffset). r.read) (bad_at_read script bytes b.short b.decoded)));
    then_run = then_run;
  }
