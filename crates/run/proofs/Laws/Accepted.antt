-- When a script is accepted, and when it gets which refusal; its survey tells the same.
-- Assumes nothing.
use mathlib.Core.Path.{◌≡◌, refl, sym, ap, ◌∙◌}
use mathlib.Core.Bool.{Bool, true, false, true≢false, false≢true, cond, not}
use mathlib.Core.List.{List, ◌∷◌, ◌++◌}
use Prim.Native.Nat.{ℕ, ◌≤◌, ◌<◌}
use native.Mathlib.Omega.{arith}
use lib.Dec.{eqb}
use lib.ListN.{length}
use borrow.Author.Tests.{eqb-true, eqb-false, eq-eqb, ne_eqb, ltb-false, le-ltb, not-false}
use Rattle.common.specs.Limits.{longest_script}
use Rattle.common.specs.Refusals.{state_not_sound, wrong_array, wrong_output, number_of, first_of, Exactly}
use Rattle.common.specs.declared.refusals.Refusal.{Refusal}
use Rattle.common.specs.declared.refusals.Refusal.TheVariants.{WrongOutput}
use Rattle.common.proofs.Laws.Choice.{cases}
use Rattle.common.proofs.Laws.Refusals.{number_some, Clear, clear, first_of_clear, Given, given_exactly, first_behind, first_before}
use Rattle.state.specs.State.{data_of}
use Rattle.state.specs.Soundness.{is_sound, Sound}
use Rattle.state.proofs.Laws.Soundness.{sound_of, of_sound}
use Rattle.script.specs.Record.{Record, AllFit, encode, script_length, frames_in, microseconds_in, output_length}
use Rattle.script.specs.Decode.{Fault, unknown_mark, wrong_length, cut_short, fault_number, is_unknown_mark, is_wrong_length, is_cut_short, Decoded, records, bad_at, is_bad, bad_offset, decode, records_in, records_of}
use Rattle.script.specs.declared.survey.Surveyed.{Surveyed}
use Rattle.script.specs.declared.survey.Counts.{Counts}
use Rattle.script.specs.declared.survey.Refused.{Refused}
use Rattle.script.specs.Survey.{survey_refusals, counted_survey, no_offset, in_struct, survey_of}
use Rattle.std.specs.Prelude.{Ok, Err}
use Rattle.script.proofs.Laws.Records.{encoded_length}
use Rattle.script.proofs.Laws.Decode.{decode_encode}
use Rattle.script.proofs.Laws.Survey.{survey_short, survey_by, survey_number, survey_output}
use Rattle.frame.specs.Device.{Device}
use Rattle.frame.specs.Line.{Line, is_not_long, Long}
use Rattle.frame.proofs.Laws.Line.{long_of, of_long}
use Rattle.run.specs.Script.{chip_refusals, line_refusals, script_refusals, script_number, ScriptAccepted, carries_offset, script_offset, Checked}

-- the number of a bad record carries an offset
pub fault_carries : (fault : Fault) → carries_offset (fault_number fault) ≡ true
fault_carries unknown_mark = refl
fault_carries wrong_length = refl
fault_carries cut_short = refl

-- "these three alone": the survey's offset
pub survey_located : (script : List ℕ) → (survey_of script).offset ≡ cond (carries_offset (survey_of script).number) (bad_offset (decode script)) 0
survey_located script =
    survey_by (λ s. s.offset ≡ cond (carries_offset s.number) (bad_offset (decode script)) 0) script (λ _. refl) (λ _ _ _. refl)
    (λ fault _ _ e. rw (fault_carries fault, e) refl)

module _ (wp : Bool) (script : List ℕ) (d : Device) (line : Line) where
  abbrev rows : List (ℕ × Bool)
  rows = script_refusals wp script d line

  -- "given exactly when": its condition holds and none that is checked before it
  pub script_exactly : (number : ℕ) → 0 < number → Exactly (script_number wp script d line ≡ number) (Given number (script_refusals wp script d line))
  unfolding script_number
  script_exactly number h = given_exactly rows number h

  -- none of the refusals holds
  accepted_clear : ScriptAccepted wp script d line → Clear rows
  accepted_clear a = (
    ap not (of_sound d.state a.sound),
    (
      rw (eq-eqb _ _ a.sized) refl,
      (
        le-ltb longest_script (length script) a.short,
        (rw a.decoded refl, (rw a.decoded refl, (rw a.decoded refl, (rw a.decoded (of_long (output_length a.list) line a.same), tt)))),
      ),
    ),
  )

  clear_accepted : Clear rows → ScriptAccepted wp script d line
  clear_accepted c = by_decoded (decode script) refl c.1.1.1.0 c.1.1.1.1.0 c.1.1.1.1.1.0 c.1.1.1.1.1.1.0
    where
      by_decoded : (e : Decoded) → decode script ≡ e → is_bad is_unknown_mark e ≡ false → is_bad is_wrong_length e ≡ false → is_bad is_cut_short e ≡ false
          → is_not_long (output_length (records_in e)) line ≡ false → ScriptAccepted wp script d line
      by_decoded (records rs) e mark long cut same = record {
        sound = sound_of d.state (not-false (is_sound d.state) c.0);
        sized = eqb-true _ _ (not-false (eqb (length d.array) (data_of d.state).size) c.1.0);
        short = ltb-false longest_script (length script) c.1.1.0;
        list = rs;
        decoded = e;
        same = long_of (output_length rs) line same;
      }
      by_decoded (bad_at unknown_mark offset) e mark long cut same = absurd (true≢false mark)
      by_decoded (bad_at wrong_length offset) e mark long cut same = absurd (true≢false long)
      by_decoded (bad_at cut_short offset) e mark long cut same = absurd (true≢false cut)

  pub number_accepted : script_number wp script d line ≡ 0 → ScriptAccepted wp script d line
  unfolding script_number
  number_accepted e = clear_accepted (clear rows refl e)

  pub accepted_number : ScriptAccepted wp script d line → script_number wp script d line ≡ 0
  unfolding script_number
  accepted_number a = first_of_clear rows (accepted_clear a)

  -- the survey tells all but 1 and 2: its own number, then the line's length
  abbrev by_survey : Surveyed → List (ℕ × Bool)
  by_survey survey = (survey.number, not (eqb survey.number 0)) ∷ line_refusals line survey.output

  abbrev last : List (ℕ × Bool)
  last = line_refusals line (output_length (records_of script))

  behind_two : first_of (survey_refusals script ++ last) ≡ first_of (by_survey (survey_of script))
  behind_two =
      cases (eqb (survey_of script).number 0)
      (λ t. let none = eqb-true (survey_of script).number 0 t in
      first_behind (survey_refusals script) last (clear (survey_refusals script) refl (sym (survey_number script) ∙ none)) ∙ rw (survey_output script none, t) refl)
      (λ t. let some = eqb-false (survey_of script).number 0 t in
      first_before (survey_refusals script) last (survey_of script).number (omega (arith, some)) (sym (survey_number script)) ∙ rw t refl)

  pub number_surveyed : script_number wp script d line ≡ first_of (chip_refusals d ++ by_survey (survey_of script))
  unfolding script_number
  number_surveyed = rw behind_two refl

  -- a script that the survey accepts is refused for the state, the array or the line's length alone: 1, 2 or 4
  pub survey_accepts : (survey_of script).number ≡ 0
      → script_number wp script d line ≡ first_of (chip_refusals d ++ line_refusals line (survey_of script).output)
  survey_accepts e = number_surveyed ∙ rw e refl

  -- on a sound chip with a line as long as was counted, the number is the survey's
  pub number_by_survey : is_sound d.state ≡ true → length d.array ≡ (data_of d.state).size → Long (survey_of script).output line
      → script_number wp script d line ≡ (survey_of script).number
  number_by_survey sound sized o = number_surveyed ∙ rw (sound, eq-eqb _ _ sized, of_long (survey_of script).output line o) (by_number (survey_of script).number)
    where
      by_number : (n : ℕ) → cond (not (eqb n 0)) n 0 ≡ n
      by_number n = cases (eqb n 0) (λ t. rw t (sym (eqb-true n 0 t))) (λ t. rw t refl)

  -- ---- the offset

  -- where the number carries one, it is the survey's number
  pub carried_surveyed : carries_offset (script_number wp script d line) ≡ true → script_number wp script d line ≡ (survey_of script).number
  carried_surveyed h =
      number_surveyed
      ∙ by_tests (is_sound d.state) (eqb (length d.array) (data_of d.state).size) (eqb (survey_of script).number 0) (is_not_long (survey_of script).output line)
      (rw number_surveyed at h)
    where
      -- behind a sound state, an array of its size and a survey with number 0 the line's length is left
      told : Bool → Bool → Bool → Bool → ℕ
      told sound sized good other =
          cond (not sound) state_not_sound
          (cond (not sized) wrong_array (cond (not good) (survey_of script).number (cond other wrong_output 0)))

      by_tests : (sound sized good other : Bool) → carries_offset (told sound sized good other) ≡ true → told sound sized good other ≡ (survey_of script).number
      by_tests false sized good other h = absurd (false≢true h)
      by_tests true false good other h = absurd (false≢true h)
      by_tests true true false other h = refl
      by_tests true true true false h = absurd (false≢true h)
      by_tests true true true true h = absurd (false≢true h)

  pub script_located : script_offset wp script d line ≡ cond (carries_offset (script_number wp script d line)) (bad_offset (decode script)) 0
  unfolding script_offset
  script_located = refl

  -- and the survey's offset
  pub offset_surveyed : script_offset wp script d line ≡ cond (carries_offset (script_number wp script d line)) (survey_of script).offset 0
  offset_surveyed =
      cases (carries_offset (script_number wp script d line))
      (λ t. let same : (survey_of script).offset ≡ bad_offset (decode script) = survey_located script ∙ rw (sym (carried_surveyed t), t) refl in script_located ∙ rw (t, same) refl)
      (λ t. script_located ∙ rw t refl)

  -- "these three alone carry an offset"
  pub offset_only : carries_offset (script_number wp script d line) ≡ false → script_offset wp script d line ≡ 0
  offset_only none = script_located ∙ rw none refl

  -- 1 and 2 carry none
  chip_carries_none : (refusal : Refusal) → number_of refusal ≡ first_of (chip_refusals d) → carries_offset (number_of refusal) ≡ false
  chip_carries_none refusal e = rw e (by_tests (is_sound d.state) (eqb (length d.array) (data_of d.state).size))
    where
      by_tests : (sound sized : Bool) → carries_offset (cond (not sound) state_not_sound (cond (not sized) wrong_array 0)) ≡ false
      by_tests false sized = refl
      by_tests true false = refl
      by_tests true true = refl

  -- a refusal that is of no record
  checked_by : (refusal : Refusal) → carries_offset (number_of refusal) ≡ false → number_of refusal ≡ script_number wp script d line
      → Checked wp script d line (in_struct (Err (no_offset refusal)))
  checked_by refusal none e = record {
    number_is = e;
    offset_is = sym (offset_only (ap carries_offset (sym e) ∙ none));
    counts_are = λ z. absurd (omega (arith, number_some refusal, z));
  }

  -- the chip's
  pub checked_by_chip : (refusal : Refusal) → number_of refusal ≡ first_of (chip_refusals d) → Checked wp script d line (in_struct (Err (no_offset refusal)))
  checked_by_chip refusal e =
      let number_is : number_of refusal ≡ script_number wp script d line =
      sym (number_surveyed ∙ first_before (chip_refusals d) (by_survey (survey_of script)) (number_of refusal) (number_some refusal) (sym e)) in
      checked_by refusal (chip_carries_none refusal e) number_is

  module _ (sound : is_sound d.state ≡ true) (sized : length d.array ≡ (data_of d.state).size) where
    -- the survey's
    pub checked_by_survey : (refused : Refused) → in_struct (Err refused) ≡ survey_of script → Checked wp script d line (in_struct (Err refused))
    checked_by_survey refused e =
        let some : eqb (number_of refused.refusal) 0 ≡ false = ne_eqb _ 0 (λ z. omega (arith, number_some refused.refusal, z)) in
        let number_is : number_of refused.refusal ≡ script_number wp script d line = sym (number_surveyed ∙ rw (← e, sound, eq-eqb _ _ sized, some) refl) in
        record {
          number_is = number_is;
          offset_is =
              ap (λ (s : Surveyed). s.offset) e ∙ survey_located script
              ∙ ap (λ (n : ℕ). cond (carries_offset n) (bad_offset (decode script)) 0) (sym (ap (λ (s : Surveyed). s.number) e) ∙ number_is)
              ∙ sym script_located;
          counts_are = λ _. e;
        }

    module _ (counts : Counts) (e : in_struct (Ok counts) ≡ survey_of script) where
      -- the line's length
      pub checked_line : is_not_long counts.output line ≡ true → Checked wp script d line (in_struct (Err (no_offset WrongOutput)))
      checked_line other = checked_by WrongOutput refl (sym (number_surveyed ∙ rw (← e, sound, eq-eqb _ _ sized, other) refl))

      -- and none
      pub checked_none : is_not_long counts.output line ≡ false → Checked wp script d line (in_struct (Ok counts))
      checked_none same =
          let number_is : 0 ≡ script_number wp script d line = sym (number_surveyed ∙ rw (← e, sound, eq-eqb _ _ sized, same) refl) in
          record { number_is = number_is; offset_is = sym (offset_only (ap carries_offset (sym number_is))); counts_are = λ _. e }

  -- it counts what the records do
  pub counts_surveyed : ScriptAccepted wp script d line
      → survey_of script ≡ counted_survey (frames_in (records_of script)) (microseconds_in (records_of script)) (output_length (records_of script))
  counts_surveyed a = survey_short script a.short ∙ rw a.decoded refl

-- the script of records that fit is accepted on a sound chip of its size, with room for what they show
pub encoded_accepted : (wp : Bool) (rs : List Record) (d : Device) (line : Line) → Sound d.state → length d.array ≡ (data_of d.state).size → AllFit rs
    → script_length rs ≤ longest_script → Long (output_length rs) line → ScriptAccepted wp (encode rs) d line
encoded_accepted wp rs d line sound sized fit short same = record {
  sound = sound;
  sized = sized;
  short = rw (encoded_length rs) short;
  list = rs;
  decoded = decode_encode rs fit;
  same = same;
}
