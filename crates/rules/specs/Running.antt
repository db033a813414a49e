-- "Running takes one WP level for all frames" (01, "Scripts and plans").
use Rattle.std.specs.Prelude.{◌≡◌, Bool, List, [], ◌∷◌, ◌++◌, ◌⊎◌, ℕ, ◌+◌, ◌*◌, ◌≤◌, length}
use Rattle.common.specs.Lists.{Each}
use Rattle.state.specs.Time.{pass_time}
use Rattle.script.specs.Record.{Record, frame, wait, encode, output_length}
use Rattle.script.specs.Decode.{records, decode}
use Rattle.frame.specs.Device.{Device, with_state}
use Rattle.frame.specs.Line.{Line, no_line, joined}
use Rattle.frame.specs.Call.{frame_number, frame_device, frame_line_after}
use Rattle.run.specs.declared.Ran.{Ran}
use Rattle.run.specs.Script.{script_number}
use Rattle.rules.specs.Scripts.{Writable}
use Rattle.rules.specs.Conditions.{BothLong}

-- each record in its turn by its own call, every frame at the one WP level; what they show lies "one after another", in both slices
pub data InTurn (wp : Bool) : List Record → Device → Device → Line → Type 0 where
  runs : (lent : Line) {f : List ℕ} {shown : Line} {rs : List Record} {d after : Device} → BothLong lent (length f) → frame_number wp f d lent ≡ 0
      → InTurn wp rs (frame_device wp f d lent) after shown → InTurn wp (frame f ∷ rs) d after (joined (frame_line_after wp f d lent) shown)
  waits : {n : ℕ} {shown : Line} {rs : List Record} {d after : Device} → (pass_time d.state n).number ≡ 0
      → InTurn wp rs (with_state d (pass_time d.state n).state) after shown → InTurn wp (wait n ∷ rs) d after shown
  ends : {d : Device} → InTurn wp [] d d no_line

-- how many frames, and the sum of the waits
pub data Counted : List Record → ℕ → ℕ → Type 0 where
  a_frame : {f : List ℕ} {rs : List Record} {frames microseconds : ℕ} → Counted rs frames microseconds → Counted (frame f ∷ rs) (1 + frames) microseconds
  a_wait : {n : ℕ} {rs : List Record} {frames microseconds : ℕ} → Counted rs frames microseconds → Counted (wait n ∷ rs) frames (n + microseconds)
  none : Counted [] 0 0

-- an accepted script
pub record RunRules (wp : Bool) (script : List ℕ) (d : Device) (ran : Ran) (after : Device) (line_after : Line) : Type 0 where
  pub list : List Record
  pub of_the_script : decode script ≡ records list
  -- "Running takes one WP level for all frames and lays their outputs one after another."
  pub in_turn : InTurn wp list d after line_after
  pub state : ran.state ≡ after.state
  -- "It reports frames run and microseconds waited."
  pub reported : Counted list ran.frames ran.microseconds

-- which scripts are accepted, on a chip that is sound and has an array of its size
pub record ScriptRules (wp : Bool) (d : Device) : Type 0 where
  -- "empty is a script"
  pub empty_is_a_script : script_number wp [] d no_line ≡ 0
  -- "A script is records", "at most 32,768 bytes"
  pub records_are_a_script : (rs : List Record) (line : Line) → Each Writable rs → length (encode rs) ≤ 32768 → BothLong line (output_length rs)
      → script_number wp (encode rs) d line ≡ 0
  pub too_long_is_none : (script : List ℕ) (line : Line) → 32769 ≤ length script → script_number wp script d line ≡ 11
  -- a length that is not "1 to 4,101", wherever it stands and whatever follows
  pub wrong_length_is_none : (rs : List Record) (high low : ℕ) (rest : List ℕ) (line : Line) → Each Writable rs
      → length (encode rs ++ (0x5a ∷ 0x46 ∷ high ∷ low ∷ rest)) ≤ 32768 → (high * 256 + low ≡ 0) ⊎ (4102 ≤ high * 256 + low)
      → script_number wp (encode rs ++ (0x5a ∷ 0x46 ∷ high ∷ low ∷ rest)) d line ≡ 13
  -- "a script's: the sum" (refusal 4)
  pub no_output : output_length [] ≡ 0
  pub frame_output : (f : List ℕ) (rs : List Record) → output_length (frame f ∷ rs) ≡ length f + output_length rs
  pub wait_output : (n : ℕ) (rs : List Record) → output_length (wait n ∷ rs) ≡ output_length rs
