-- An accepted script that makes another byte of one, told by what is computed without an array; and the chips and scripts of the witnesses.
-- Assumes nothing.
use mathlib.Core.Path.{◌≡◌, refl, sym, ap, ◌∙◌}
use mathlib.Core.Bool.{Bool, true, false, cond}
use mathlib.Core.List.{List, [], ◌∷◌}
use Prim.Native.Nat.{ℕ, ◌≤◌, ◌<◌}
use native.Mathlib.Omega.{arith}
use lib.ListN.{length, get_or}
use Rattle.common.specs.Limits.{longest_script}
use Rattle.common.proofs.Laws.Pairs.{◌▹◌}
use Rattle.chip.specs.Chip.{Model}
use Rattle.state.specs.declared.State.{State}
use Rattle.state.specs.State.{data_of}
use Rattle.state.specs.Soundness.{is_sound}
use Rattle.state.specs.Power.{at_rest}
use Rattle.state.proofs.Laws.Soundness.{sound_of}
use Rattle.script.specs.Record.{Record, frame, wait, AllFit, encode, script_length, output_length}
use Rattle.script.proofs.Laws.Decode.{decode_encode}
use Rattle.frame.specs.Device.{Device, device}
use Rattle.frame.specs.Line.{Line, Long}
use Rattle.run.specs.Run.{run}
use Rattle.run.specs.Script.{script_number, ScriptAccepted, script_device}
use Rattle.run.proofs.Laws.Accepted.{accepted_number, encoded_accepted}
use Rattle.run.proofs.Laws.Prefix.{script_ran_records}
use Rattle.run.proofs.Laws.Script.{script_ran}
use Rattle.run.proofs.Laws.Trace.{byte_behind, traced}

-- the records' script, at any level of WP, with every array of the chip's size
abbrev pub IsAccepted : State → List Record → Type 0
IsAccepted s rs =
    (wp : Bool) (array : List ℕ) (line : Line) → length array ≡ (data_of s).size → Long (output_length rs) line
    → script_number wp (encode rs) (device s array) line ≡ 0

-- and where the array has the old byte at the address, it has the new one behind it
pub record Turns (s : State) (records : List Record) (k old new : ℕ) : Type 0 where
  pub accepted : IsAccepted s records
  pub byte_is_lem : (wp : Bool) (array : List ℕ) (line : Line) → length array ≡ (data_of s).size → Long (output_length records) line → get_or array k 0 ≡ old
      → get_or (script_device wp (encode records) (device s array) line).array k 0 ≡ new

module _ (s : State) (rs : List Record) (fit : AllFit rs) (sound : is_sound s ≡ true) (short : script_length rs ≤ longest_script)
    (wp : Bool) (array : List ℕ) (line : Line) (sized : length array ≡ (data_of s).size) (long : Long (output_length rs) line) where
  good : ScriptAccepted wp (encode rs) (device s array) line
  good = encoded_accepted wp rs (device s array) line (sound_of s sound) sized fit short long

  pub records_accepted : script_number wp (encode rs) (device s array) line ≡ 0
  records_accepted = accepted_number wp (encode rs) (device s array) line good

  records_ran : script_device wp (encode rs) (device s array) line ≡ run wp rs (device s array)
  records_ran =
      let ran = script_ran wp (encode rs) (device s array) line good in
      sym ran.device_is ∙ (script_ran_records wp (encode rs) (device s array) line ran refl (decode_encode rs fit)).device_is

-- from what is computed without an array
pub turns : {s : State} {rs : List Record} {k old new : ℕ} → AllFit rs → is_sound s ≡ true → script_length rs ≤ longest_script → k < (data_of s).size
    → ((wp : Bool) → byte_behind wp rs s k old ≡ new) → Turns s rs k old new
turns {s} {rs} {k} fit sound short inside byte = record {
  accepted = records_accepted s rs fit sound short;
  byte_is_lem = λ wp array line sized long is.
      ap (λ (e : Device). get_or e.array k 0) (records_ran s rs fit sound short wp array line sized long)
      ∙ (traced wp rs (device s array)).byte_is_lem k (rw sized inside)
      ∙ rw is (byte wp);
}

-- ---- the chips and the scripts

-- at rest, WEL 0, with nothing and with everything protected
abbrev pub unprotected : Model → State
unprotected m = at_rest m.number 0 false false

abbrev pub protected : Model → State
protected m = at_rest m.number 7 false false

-- one byte on every chip, at address 1000
abbrev pub program : Record
program = frame (0x02 ∷ 0x00 ∷ 0x10 ∷ 0x00 ∷ 0xa5 ∷ [])

abbrev pub enabled_erase : List Record
enabled_erase = frame (0x06 ∷ []) ∷ frame (0x20 ∷ 0x00 ∷ 0x10 ∷ 0x00 ∷ []) ∷ []

abbrev pub enabled_program : List Record
enabled_program = frame (0x06 ∷ []) ∷ program ∷ []

-- 50, or 06 on a chip that has no 50; 01 with BP 000; and the time that it takes
abbrev pub unprotected_program : Model → List Record
unprotected_program m = frame (cond m.chip.ewsr 0x50 0x06 ∷ []) ∷ frame (0x01 ∷ 0x00 ∷ []) ∷ wait m.chip.status_time ∷ enabled_program

pub enabled_program_fits : AllFit enabled_program
enabled_program_fits = (omega arith, omega arith) ▹ (omega arith, omega arith) ▹ tt
