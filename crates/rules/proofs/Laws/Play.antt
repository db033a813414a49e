-- What program `play` prints: record by record as each call shows it, or why the script is refused.
-- Assumes nothing.
use mathlib.Core.Path.{◌≡◌, refl, sym, ap, ◌∙◌}
use mathlib.Core.Bool.{true, false≢true, cond, not}
use mathlib.Core.List.{List, [], ◌∷◌, ◌++◌, append_assoc}
use mathlib.Core.Logic.{inl, inr, ⊎_elim}
use Prim.Native.Nat.{ℕ, ◌≤◌, ◌<◌}
use native.Mathlib.Omega.{arith}
use lib.Dec.{eqb}
use lib.ListN.{length, replicate, length-replicate}
use borrow.Author.Tests.{eqb-true, eq-eqb}
use Rattle.common.specs.Bits.{Bytes}
use Rattle.common.specs.Limits.{longest_script}
use Rattle.common.specs.Refusals.{wrong_output}
use Rattle.common.proofs.Laws.Choice.{cases}
use Rattle.common.proofs.Laws.Lists.{split}
use Rattle.state.specs.Status.{status_of}
use Rattle.state.proofs.Laws.Soundness.{of_sound}
use Rattle.script.specs.Record.{Record, frame, wait, AllFit}
use Rattle.script.specs.Decode.{records_in, records_of}
use Rattle.script.specs.Survey.{survey_of}
use Rattle.script.proofs.Laws.Decode.{encode_decode}
use Rattle.script.proofs.Laws.Survey.{survey_whole}
use Rattle.frame.specs.Device.{Device}
use Rattle.frame.specs.Line.{Line, on_line, is_not_long, Long}
use Rattle.run.specs.Run.{step, shown_by, run}
use Rattle.run.specs.Script.{script_number, carries_offset, script_offset}
use Rattle.run.proofs.Laws.Run.{run_none, run_first, Ready}
use Rattle.run.proofs.Laws.Accepted.{number_surveyed, number_by_survey, carried_surveyed, offset_surveyed}
use Rattle.text.specs.Text.{hex, shown_hex, decimal_end, decimal}
use Rattle.text.proofs.Laws.Text.{hex_none, hex_first, digits, digit_low}
use Rattle.text.proofs.Laws.Shown.{shown_none, shown_untold, shown_first}
use Rattle.text.proofs.Laws.Decimal.{decimal_two, decimal_zero, decimal_digits, decimal_value, decimal_no_leading_zero, decimals_line_one, decimals_line_two}
use Rattle.listing.specs.Listing.{new05pa, frame_lines, status_line, listing}
use Rattle.listing.proofs.Laws.Frames.{lines_none, lines_frame, lines_wait}
use Rattle.listing.proofs.Laws.Listing.{number_cases, listing_refused, listing_run, erased_is, new_ready, listing_empty, listing_long}
use Rattle.rules.specs.BadRecords.{FirstBad, Carries}
use Rattle.rules.specs.Play.{erased_05pa, in_hex, in_hex_or_dashes, InDecimal, three_fields, Printed, frame_line_lem, no_line, status_line_lem, Listed, PlayRules}
use Rattle.rules.proofs.Laws.Power.{new_chips}
use Rattle.rules.proofs.Laws.Running.{by_turns}
use Rattle.rules.proofs.Laws.Survey.{means_carried, survey_rules}

-- ---- the lines

hex_is : (bytes : List ℕ) → hex bytes ≡ in_hex bytes
hex_is [] = hex_none
hex_is (byte ∷ bytes) = rw (hex_first byte bytes, hex_is bytes) refl

shown_is : (bytes driven : List ℕ) → shown_hex bytes driven ≡ in_hex_or_dashes bytes driven
shown_is [] driven = shown_none driven
shown_is (byte ∷ bytes) [] = shown_untold byte bytes
shown_is (byte ∷ bytes) (d ∷ driven) = rw (shown_first byte d bytes driven, shown_is bytes driven) refl

-- the frames' lines, and the status last
abbrev lines : List Record → Device → List ℕ
lines rs d = frame_lines rs d ++ status_line (run true rs d)

frame_lines_lem : (f : List ℕ) (rs : List Record) (d : Device)
    → lines (frame f ∷ rs) d
    ≡ 0x46 ∷ 0x20 ∷ (in_hex_or_dashes (shown_by true (frame f) d).output (shown_by true (frame f) d).driven ++ (0x0a ∷ lines rs (step true (frame f) d)))
frame_lines_lem f rs d =
    let line : Line = shown_by true (frame f) d in
    let own : List ℕ = shown_hex line.output line.driven in
    let behind : List ℕ = frame_lines rs (step true (frame f) d) in
    let last : List ℕ = status_line (run true rs (step true (frame f) d)) in
    rw (lines_frame f rs d, run_first true (frame f) rs d, ← shown_is line.output line.driven)
    (ap (λ (l : List ℕ). 0x46 ∷ 0x20 ∷ l) (append_assoc (own ++ (0x0a ∷ [])) behind last ∙ append_assoc own (0x0a ∷ []) (behind ++ last)))

printed : (rs : List Record) (d : Device) → AllFit rs → Ready d → Printed rs d (lines rs d)
printed =
    by_turns true (λ (rs : List Record) (d : Device). Printed rs d (lines rs d))
    (λ d. rw (lines_none d, run_none true d, hex_is (status_of d.state ∷ [])) status_line_lem)
    (λ f rs d one rest. rw (frame_lines_lem f rs d, one.line_is, one.device_is)
    (frame_line_lem (on_line f f) (refl, refl) (sym one.number_is) (rw one.device_is at rest)))
    (λ n rs d given same rest. rw (lines_wait n rs d, run_first true (wait n) rs d, same) (no_line given (rw same at rest)))

-- ---- the chip

chip_is : new05pa ≡ erased_05pa
unfolding erased_05pa
chip_is = rw (new_chips.new_05pa_lem, erased_is) refl

ready : Ready erased_05pa
ready = rw chip_is at new_ready

-- ---- the numbers

eleven : decimal 11 ≡ 0x31 ∷ 0x31 ∷ []
eleven = decimal_two 11 (omega arith) (omega arith) ∙ rw (digit_low 1 (omega arith)) refl

in_decimal : (number : ℕ) → number < decimal_end → InDecimal number (decimal number)
in_decimal number small = record {
  digits = decimal_digits number small;
  value = decimal_value number small;
  no_zero_first = λ more.
      ⊎_elim (λ some. decimal_no_leading_zero number some small)
      (λ none. let zero_is : number ≡ 0 = omega (arith, none) in absurd (omega (arith, more, ap (λ (n : ℕ). length (decimal n)) zero_is, ap length decimal_zero))) (split 0 number);
}

module _ (script : List ℕ) where
  -- but for the line's length the number is the survey's
  by_survey_lem : (line : Line) (number : ℕ) → (number ≡ 4 → ⊥) → script_number true script erased_05pa line ≡ number → (survey_of script).number ≡ number
  by_survey_lem line number other e =
      by_number (survey_of script).number
      (sym (number_surveyed true script erased_05pa line ∙ rw (of_sound erased_05pa.state ready.sound, eq-eqb _ _ ready.sized) refl) ∙ e)
    where
      by_number : (n : ℕ) → cond (not (eqb n 0)) n (cond (is_not_long (survey_of script).output line) wrong_output 0) ≡ number → n ≡ number
      by_number n =
          cases (eqb n 0)
          (λ t. rw t
          (cases (is_not_long (survey_of script).output line) (λ u. rw u (λ z. absurd (other (sym z)))) (λ u. rw u (λ z. eqb-true n 0 t ∙ z))))
          (λ t. rw t (λ z. z))

  -- a line as long as was counted
  abbrev room : Line
  room = on_line (replicate (survey_of script).output 0) (replicate (survey_of script).output 0)

  room_long : Long (survey_of script).output room
  room_long =
      let long = length-replicate {A = ℕ} (survey_of script).output 0 in
      record { output_long = long; driven_long = long }

  refused_11 : (survey_of script).number ≡ 11 → listing script ≡ 0x52 ∷ 0x20 ∷ 0x31 ∷ 0x31 ∷ 0x0a ∷ []
  refused_11 e = listing_refused script (λ z. omega (arith, z, e)) ∙ rw e (decimals_line_one 0x52 11 ∙ rw eleven refl)

  -- a bad record's number and offset
  bad_line : carries_offset (survey_of script).number ≡ true → listing script ≡ three_fields (survey_of script).number (survey_of script).offset
  bad_line t =
      listing_refused script (λ z. false≢true (rw z at t)) ∙ rw t (decimals_line_two 0x52 (survey_of script).number (survey_of script).offset)

  refused_bad : (number : ℕ) (line : Line) → Carries number → script_number true script erased_05pa line ≡ number
      → listing script ≡ three_fields number (script_offset true script erased_05pa line)
  refused_bad number line which e =
      let t : carries_offset (script_number true script erased_05pa line) ≡ true = rw e ((means_carried number).only_when which) in
      let same = carried_surveyed true script erased_05pa line t in
      let place : script_offset true script erased_05pa line ≡ (survey_of script).offset = offset_surveyed true script erased_05pa line ∙ rw t refl in
      rw (sym e ∙ same, place) (bad_line (rw same at t))

  module _ (bytes : Bytes script) where
    first_line : (number offset : ℕ) → length script ≤ longest_script → Carries number → FirstBad script offset number
        → listing script ≡ three_fields number offset
    first_line number offset short which first =
        let told = (survey_rules script bytes).first_told number offset short which first in
        rw (sym told.0, sym told.1) (bad_line (rw told.0 ((means_carried number).only_when which)))

    listed : (survey_of script).number ≡ 0 → Listed script
    listed e =
        let w = survey_whole script e in
        let read = encode_decode script w.list bytes w.decoded in
        let list_is : records_of script ≡ w.list = ap records_in w.decoded in
        record {
          list = w.list;
          of_the_script = read.0;
          printed = rw (listing_run script e, list_is, chip_is) (printed w.list erased_05pa read.1 ready);
        }

    pub play_rules : PlayRules script
    play_rules = record {
      digits = digits;
      runs = λ line e. listed (by_survey_lem line 0 (λ z. omega (arith, z)) e);
      refused_11 = λ line e. refused_11 (by_survey_lem line 11 (λ z. omega (arith, z)) e);
      refused_bad = refused_bad;
      in_decimal = in_decimal;
      room = room;
      in_that_room =
          rw (number_by_survey true script erased_05pa room (of_sound erased_05pa.state ready.sound) ready.sized room_long)
          (⊎_elim inl (λ other. inr (⊎_elim inl (λ t. inr ((means_carried (survey_of script).number).when t)) other)) (number_cases script));
      too_long = listing_long script;
      bad_record = first_line;
      empty = λ e. rw e listing_empty;
    }
