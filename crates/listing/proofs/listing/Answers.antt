-- `listing::listing` meets its contract: the run's answer and line are those of the definition, and each text line is laid behind the one before it.
use mathlib.Core.Path.{◌≡◌, sym, ap, ◌∙◌}
use mathlib.Core.List.{List, [], ◌∷◌, ◌++◌}
use Prim.Native.Nat.{ℕ, ◌≤◌, ◌<◌}
use native.Mathlib.Omega.{arith}
use lib.ListN.{length, take, drop, replicate, length-append, length-replicate}
use lib.Seq.{take_at, length-take-le}
use Rattle.state.specs.Status.{status_of}
use Rattle.state.specs.declared.Answer.{Answer}
use Rattle.state.specs.Power.{new_chip}
use Rattle.common.specs.Limits.{longest_script}
use Rattle.common.specs.Buffer.{Put}
use Rattle.script.specs.Survey.{survey_of}
use Rattle.script.specs.declared.survey.Surveyed.{Surveyed}
use Rattle.frame.specs.Device.{Device, device}
use Rattle.frame.specs.Line.{Line, on_line, Long, front}
use Rattle.run.specs.declared.Ran.{Ran}
use Rattle.run.specs.Script.{ScriptRun}
use Rattle.script.specs.Decode.{records_of}
use Rattle.common.proofs.Laws.Buffer.{Left, left_start, left_fits, left_turn, left_last}
use Rattle.text.specs.Text.{hex, decimal_end, line}
use Rattle.listing.specs.Listing.{longest_listing, high, new05pa, why_refused, listing, cut_lines}
use Rattle.listing.proofs.Laws.Listing.{erased_is, number_small, offset_small, output_small, listing_fits, listing_refused}
use Rattle.listing.proofs.Laws.Listing.{ran_number, ran_offset, ran_long, ran_listing}
use Rattle.listing.proofs.listing.Goals as goal

-- the room that each slice is lent from
abbrev room : List ℕ
room = replicate longest_script 0

-- what lies in front of each where a line is filled in
abbrev Kept : Surveyed → Line → Line
Kept s shown = on_line (take s.output (shown.output ++ drop s.output room)) (take s.output (shown.driven ++ drop s.output room))

abbrev Lines : List ℕ → Line → List ℕ
Lines script shown = cut_lines (records_of script) shown

abbrev Status : Ran → List ℕ
Status ran = line 0x53 (hex (status_of ran.state ∷ []))

module _ (script : List ℕ) {s : Surveyed} (counted : s ≡ survey_of script) where
  count_is : s.output ≡ (survey_of script).output
  count_is = ap (λ (s : Surveyed). s.output) counted

  -- the part of the room that is lent
  cut : length (take s.output room) ≡ s.output
  cut = length-take-le _ _ (omega (arith, count_is, output_small script, length-replicate {A = ℕ} longest_script 0))

  lent : Long (survey_of script).output (front s.output (on_line room room))
  lent = record { output_long = cut ∙ count_is; driven_long = cut ∙ count_is }

  -- the script is run: what is shown lies in them afterwards
  module _ {chip : Answer} (new : chip ≡ new_chip 5) {ran : Ran} {after : Device} {shown : Line}
      (given : ScriptRun high script (device chip.state (replicate 65536 0xff)) (front s.output (on_line room room)) ran after shown) where
    r : ScriptRun high script new05pa (front s.output (on_line room room)) ran after shown
    r = rw (← erased_is, new) at given

    number : ran.number ≡ (survey_of script).number
    number = ran_number lent r

    refusal_small : (ran.number < decimal_end) × (ran.offset < decimal_end)
    refusal_small = (rw number (number_small script), rw (ran_offset lent r) (offset_small script))

    refused : (ran.number ≡ 0 → ⊥) → listing script ≡ why_refused ran.number ran.offset
    refused never = rw (number, ran_offset lent r) (listing_refused script (λ e. never (number ∙ e)))

    -- it was not refused
    module _ (e : ran.number ≡ 0) where
      filled : Long (survey_of script).output shown
      filled = ran_long lent r e

      kept_output : s.output ≤ length (shown.output ++ drop s.output room)
      kept_output = omega (arith, filled.output_long, count_is, length-append shown.output (drop s.output room))

      kept_driven : s.output ≤ length (shown.driven ++ drop s.output room)
      kept_driven = omega (arith, filled.driven_long, count_is, length-append shown.driven (drop s.output room))

      cut_output : take s.output (shown.output ++ drop s.output room) ≡ shown.output
      cut_output = take_at _ _ _ (filled.output_long ∙ sym count_is)

      cut_driven : take s.output (shown.driven ++ drop s.output room) ≡ shown.driven
      cut_driven = take_at _ _ _ (filled.driven_long ∙ sym count_is)

      kept : Long (survey_of script).output (Kept s shown)
      kept = rw (cut_output, cut_driven) filled

      -- the status line is left
      whole : listing script ≡ Lines script shown ++ Status ran
      whole = ran_listing lent r e

      last : {text₀ text : List ℕ} {next : ℕ} → length text₀ ≡ longest_listing → Put 0 (Lines script (Kept s shown)) text₀ text next
          → Left next (Status ran) text 0 (Lines script shown ++ Status ran) text₀
      last {text₀} long p =
          let fits : length (Lines script shown ++ Status ran) ≤ longest_listing = rw whole at (listing_fits script) in
          left_turn (Lines script shown) (Status ran) (left_start 0 (Lines script shown ++ Status ran) text₀ (omega (arith, fits, long))) (rw (cut_output, cut_driven) at p)

pub slice_bounds-run_script-end-2 : goal.slice_bounds-run_script-end-2
slice_bounds-run_script-end-2 c =
    sym (cut _ c.survey_of-survey.ensures)

pub slice_bounds-run_script-end-3 : goal.slice_bounds-run_script-end-3
slice_bounds-run_script-end-3 c =
    sym (cut _ c.survey_of-survey.ensures)

pub put_refusal-requires : goal.put_refusal-requires
put_refusal-requires c =
    let small = refusal_small _ c.survey_of-survey.ensures c.new_chip.ensures c.run_script-ran.ensures in record {
      number_lt_decimal_end = small.0;
      offset_lt_decimal_end = small.1;
      in_bounds = omega arith;
    }

pub returns-then-ran-ne0 : goal.returns-then-ran-ne0
returns-then-ran-ne0 c =
    rw (refused _ c.survey_of-survey.ensures c.new_chip.ensures c.run_script-ran.ensures c.if-ran-ne0.true) c.put_refusal.ensures

pub slice_bounds-output-end-2 : goal.slice_bounds-output-end-2
slice_bounds-output-end-2 c =
    kept_output _ c.survey_of-survey.ensures c.new_chip.ensures c.run_script-ran.ensures c.if-ran-ne0.false

pub slice_bounds-put_frame_lines-end : goal.slice_bounds-put_frame_lines-end
slice_bounds-put_frame_lines-end c =
    sym (length-take-le _ _ (kept_output _ c.survey_of-survey.ensures c.new_chip.ensures c.run_script-ran.ensures c.if-ran-ne0.false))

pub slice_bounds-driven-end-2 : goal.slice_bounds-driven-end-2
slice_bounds-driven-end-2 c =
    kept_driven _ c.survey_of-survey.ensures c.new_chip.ensures c.run_script-ran.ensures c.if-ran-ne0.false

pub slice_bounds-put_frame_lines-end-2 : goal.slice_bounds-put_frame_lines-end-2
slice_bounds-put_frame_lines-end-2 c =
    sym (length-take-le _ _ (kept_driven _ c.survey_of-survey.ensures c.new_chip.ensures c.run_script-ran.ensures c.if-ran-ne0.false))

pub put_frame_lines-last_line-requires : goal.put_frame_lines-last_line-requires
put_frame_lines-last_line-requires c =
    record {
      script_value = sym (number _ c.survey_of-survey.ensures c.new_chip.ensures c.run_script-ran.ensures) ∙ c.if-ran-ne0.false;
      long = kept _ c.survey_of-survey.ensures c.new_chip.ensures c.run_script-ran.ensures c.if-ran-ne0.false;
      longest_script_in_bounds = omega arith;
    }

pub put_hex_line-requires : goal.put_hex_line-requires
put_hex_line-requires c =
    rw c.status_of.ensures (left_fits (last _ c.survey_of-survey.ensures c.new_chip.ensures c.run_script-ran.ensures c.if-ran-ne0.false c.told-text c.put_frame_lines-last_line.ensures))

pub returns : goal.returns
returns c =
    let told = rw c.status_of.ensures at c.put_hex_line.ensures in
    rw (whole _ c.survey_of-survey.ensures c.new_chip.ensures c.run_script-ran.ensures c.if-ran-ne0.false) (left_last (last _ c.survey_of-survey.ensures c.new_chip.ensures c.run_script-ran.ensures c.if-ran-ne0.false c.told-text c.put_frame_lines-last_line.ensures) told)
