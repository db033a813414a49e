-- The call "run a script" (01, "Scripts and plans"): its refusals in the order checked, and what it answers and leaves.
use Rattle.std.specs.Prelude.{◌≡◌, Bool, cond, not, ◌||◌, List, [], ◌∷◌, ◌++◌, ℕ, ◌≤◌, eqb, length}
use Rattle.common.specs.Limits.{longest_script}
use Rattle.common.specs.Refusals.{state_not_sound, wrong_array, wrong_output, unknown_mark, wrong_length, cut_short, first_of, accepted}
use Rattle.state.specs.State.{data_of}
use Rattle.state.specs.Soundness.{is_sound, Sound}
use Rattle.script.specs.Record.{Record, frames_in, microseconds_in, output_length}
use Rattle.script.specs.Decode.{records, bad_offset, decode, records_of}
use Rattle.script.specs.Survey.{survey_refusals, survey_of}
use Rattle.script.specs.declared.survey.Surveyed.{Surveyed}
use Rattle.frame.specs.Device.{Device}
use Rattle.frame.specs.Line.{Line, is_not_long, Long}
use Rattle.run.specs.declared.Ran.{Ran}
use Rattle.run.specs.Run.{run, shown_by_all}

-- of the chip: 1 and 2
abbrev pub chip_refusals : Device → List (ℕ × Bool)
chip_refusals d =
    (state_not_sound, not (is_sound d.state))
    ∷ (wrong_array, not (eqb (length d.array) (data_of d.state).size))
    ∷ []

-- of the lent line, where it has to be so long: 4
abbrev pub line_refusals : Line → ℕ → List (ℕ × Bool)
line_refusals line long = (wrong_output, is_not_long long line) ∷ []

-- the level of WP, the script, the chip and the lent line: "a script is checked 1, 2, 11, 12, 4", the 12 being its first bad record's 12, 13 or 14
abbrev pub script_refusals : Bool → List ℕ → Device → Line → List (ℕ × Bool)
script_refusals wp script d line = chip_refusals d ++ (survey_refusals script ++ line_refusals line (output_length (records_of script)))

unfoldable pub script_number : Bool → List ℕ → Device → Line → ℕ
script_number wp script d line = first_of (script_refusals wp script d line)

-- what holds where none of them does
pub record ScriptAccepted (wp : Bool) (script : List ℕ) (d : Device) (line : Line) : Type 0 where
  pub sound : Sound d.state
  pub sized : length d.array ≡ (data_of d.state).size
  pub short : length script ≤ longest_script
  pub list : List Record
  pub decoded : decode script ≡ records list
  pub same : Long (output_length list) line

-- what an accepted script leaves: its records run from the first to the last
pub record ScriptDone (wp : Bool) (script : List ℕ) (d : Device) (after : Device) (line_after : Line) : Type 0 where
  pub device_is : after ≡ run wp (records_of script) d
  pub line_is : line_after ≡ shown_by_all wp (records_of script) d

unfoldable pub script_device : Bool → List ℕ → Device → Line → Device
script_device wp script d line = accepted (script_number wp script d line) (run wp (records_of script) d) d

unfoldable pub script_line_after : Bool → List ℕ → Device → Line → Line
script_line_after wp script d line = accepted (script_number wp script d line) (shown_by_all wp (records_of script) d) line

-- "It reports frames run and microseconds waited."; a refusal's "counts" are 0
unfoldable pub script_count : (List Record → ℕ) → Bool → List ℕ → Device → Line → ℕ
script_count count wp script d line = accepted (script_number wp script d line) (count (records_of script)) 0

-- 12, 13 and 14: "these three alone carry an offset" (02, A1)
abbrev pub carries_offset : ℕ → Bool
carries_offset number = eqb number unknown_mark || eqb number wrong_length || eqb number cut_short

-- "the offset of the first bad record's mark"; 0 with all other numbers
unfoldable pub script_offset : Bool → List ℕ → Device → Line → ℕ
script_offset wp script d line = cond (carries_offset (script_number wp script d line)) (bad_offset (decode script)) 0

-- what is told of a script before it is run: a refusal's number and offset, or number 0 and the counts
pub record Checked (wp : Bool) (script : List ℕ) (d : Device) (line : Line) (told : Surveyed) : Type 0 where
  pub number_is : told.number ≡ script_number wp script d line
  pub offset_is : told.offset ≡ script_offset wp script d line
  pub counts_are : told.number ≡ 0 → told ≡ survey_of script

-- what the call answers and leaves; the answer has the chip's state
pub record ScriptRun (wp : Bool) (script : List ℕ) (d : Device) (line : Line) (ran : Ran) (after : Device) (line_after : Line) : Type 0 where
  pub number_is : ran.number ≡ script_number wp script d line
  pub state_is : ran.state ≡ (script_device wp script d line).state
  pub frames_are : ran.frames ≡ script_count frames_in wp script d line
  pub microseconds_are : ran.microseconds ≡ script_count microseconds_in wp script d line
  pub offset_is : ran.offset ≡ script_offset wp script d line
  pub device_is : after ≡ script_device wp script d line
  pub line_is : line_after ≡ script_line_after wp script d line
