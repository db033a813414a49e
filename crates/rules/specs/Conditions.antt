-- The conditions of the refusals (01, "Refusal numbers"), in words: each number's second column. What can be wrong with a record: specs/BadRecords.antt.
use Rattle.std.specs.Prelude.{◌≡◌, Bool, true, false, List, ◌⊎◌, ℕ, ◌+◌, ◌≤◌, ◌<◌, length, get_or}
use Rattle.state.specs.declared.State.{State}
use Rattle.state.specs.Protection.{first_protected}
use Rattle.command.specs.Command.{command_of}
use Rattle.frame.specs.Device.{Device}
use Rattle.frame.specs.Line.{Line}
use Rattle.frame.specs.Cut.{Masked}
use Rattle.script.specs.Record.{Record, AllFit, encode, output_length}
use Rattle.plan.specs.Plan.{plan_records}
use Rattle.rules.specs.Chips.{bytes_of}
use Rattle.rules.specs.Soundness.{SoundState}
-- 8: "a wanted 1 where the array has 0", as a place of the region and a bit
pub use Rattle.region.specs.Region.{WantedRises}

-- 1: "state not sound, or chip number unknown"
abbrev pub NotSound : State → Type 0
NotSound s = SoundState s → ⊥

-- the chip's size
abbrev pub size : State → ℕ
size s = bytes_of s.chip

-- 2: "array length isn't the chip's size"
abbrev pub WrongArray : State → List ℕ → Type 0
WrongArray s array = length array ≡ size s → ⊥

-- 3: "frame empty or over 4,101"
abbrev pub WrongFrame : List ℕ → Type 0
WrongFrame f = (length f ≡ 0) ⊎ (4101 < length f)

-- both slices have so many bytes: "4 now covers both slices" (02, A10)
abbrev pub BothLong : Line → ℕ → Type 0
BothLong line n = (length line.output ≡ n) × (length line.driven ≡ n)

-- 4: "output length isn't the frame's
abbrev pub WrongOutput : List ℕ → Line → Type 0
WrongOutput f line = BothLong line (length f) → ⊥

-- (a script's: the sum)"
abbrev pub WrongSum : List ℕ → Line → Type 0
WrongSum script line = (records : List Record) → AllFit records → script ≡ encode records → BothLong line (output_length records) → ⊥

-- 5: "mask length wrong"; of a status write that takes time it "also covers that mask's length and any other value in it" (02, A4)
abbrev pub WrongMask : Bool → List ℕ → List ℕ → Device → Type 0
WrongMask wp f mask d = Masked (command_of d.state wp f) mask → ⊥

-- 6: "over 4,096 wanted bytes, or start plus length above the size"
abbrev pub WrongRegion : State → ℕ → List ℕ → Type 0
WrongRegion s start wanted = (4096 < length wanted) ⊎ (size s < start + length wanted)

-- 7: "not at rest: busy, AAI or power-down"
abbrev pub NotAtRest : State → Type 0
NotAtRest s = (0 < s.left) ⊎ (s.aai ≡ true) ⊎ (s.power_down ≡ true)

-- 9: "step 1 needed, BPL 1, WP low"; "if a byte that changes is protected"
pub record StatusLocked (s : State) (wp : Bool) (array : List ℕ) (start : ℕ) (wanted : List ℕ) : Type 0 where
  pub place : ℕ
  pub inside : place < length wanted
  pub changes : get_or array (start + place) 0 ≡ get_or wanted place 0 → ⊥
  pub protected : first_protected s ≤ start + place
  pub bpl_1 : s.bpl ≡ true
  pub wp_low : wp ≡ false

-- 10: "script longer than the buffer"
abbrev pub BufferTooShort : State → List ℕ → ℕ → List ℕ → List ℕ → Type 0
BufferTooShort s array start wanted buffer = length buffer < length (encode (plan_records s array start wanted))

-- 11: "script over 32,768"
abbrev pub ScriptTooLong : List ℕ → Type 0
ScriptTooLong script = 32768 < length script
