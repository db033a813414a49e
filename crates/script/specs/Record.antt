-- A script's records, their bytes and what is counted of them (01, "Scripts and plans").
use Rattle.std.specs.Prelude.{List, [], ◌∷◌, ◌++◌, ℕ, ◌+◌, ◌/◌, ◌%◌, ◌≤◌, ◌<◌, length}
use Rattle.common.specs.Limits.{longest_frame}
use Rattle.common.specs.Lists.{Each}

-- "A script is records": a frame with its bytes, or a wait with its microseconds
pub data Record : Type 0 where
  frame : List ℕ → Record
  wait : ℕ → Record

-- what a record can hold: a frame of 1 to 4,101 bytes, a number of four bytes
abbrev pub Fits : Record → Type 0
Fits (frame bytes) = (1 ≤ length bytes) × (length bytes ≤ longest_frame)
Fits (wait microseconds) = microseconds < 4294967296

abbrev pub AllFit : List Record → Type 0
AllFit = Each Fits

-- "each with a two-byte mark: 5A 46 .. or 5A 57": the first byte of both, a frame's second, a wait's second
abbrev pub script_mark : ℕ
script_mark = 0x5a

abbrev pub frame_mark : ℕ
frame_mark = 0x46

abbrev pub wait_mark : ℕ
wait_mark = 0x57

-- what stands before a frame's bytes: its mark and "a length of two bytes, high first"
abbrev pub frame_head : ℕ → List ℕ
frame_head n = script_mark ∷ frame_mark ∷ n / 256 ∷ n % 256 ∷ []

-- "then the frame; or 5A 57 and four bytes of microseconds, high first"
unfoldable pub encode_record : Record → List ℕ
encode_record (frame bytes) = frame_head (length bytes) ++ bytes
encode_record (wait microseconds) =
    script_mark ∷ wait_mark ∷ microseconds / 16777216 ∷ microseconds / 65536 % 256 ∷ microseconds / 256 % 256 ∷ microseconds % 256 ∷ []

-- the script of these records
unfoldable pub encode : List Record → List ℕ
encode [] = []
encode (r ∷ rs) = encode_record r ++ encode rs

-- how many bytes a record has: the mark, and a length and a frame or four bytes
abbrev pub record_length : Record → ℕ
record_length (frame bytes) = 4 + length bytes
record_length (wait microseconds) = 6

-- how many bytes the script of these records has
unfoldable pub script_length : List Record → ℕ
script_length [] = 0
script_length (r ∷ rs) = record_length r + script_length rs

-- "frames run"
unfoldable pub frames_in : List Record → ℕ
frames_in [] = 0
frames_in (frame bytes ∷ rs) = 1 + frames_in rs
frames_in (wait microseconds ∷ rs) = frames_in rs

-- "microseconds waited"
unfoldable pub microseconds_in : List Record → ℕ
microseconds_in [] = 0
microseconds_in (frame bytes ∷ rs) = microseconds_in rs
microseconds_in (wait microseconds ∷ rs) = microseconds + microseconds_in rs

-- the length of all frames' outputs, laid "one after another" (01, refusal 4: "a script's: the sum")
unfoldable pub output_length : List Record → ℕ
output_length [] = 0
output_length (frame bytes ∷ rs) = length bytes + output_length rs
output_length (wait microseconds ∷ rs) = output_length rs
