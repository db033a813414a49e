-- "Which bytes did the chip drive?" (02, A10): of every accepted frame, whole or interrupted.
use Rattle.std.specs.Prelude.{◌≡◌, Bool, false, ◌&&◌, ◌||◌, not, cond, List, [], ◌∷◌, ℕ, ◌<◌, leb, length, get_or}
use Rattle.state.specs.declared.State.{State}
use Rattle.state.specs.Soundness.{is_busy}
use Rattle.frame.specs.Device.{Device}
use Rattle.frame.specs.Line.{Line}
use Rattle.frame.specs.Call.{frame_number, frame_line_after, cut_number, cut_line_after}
use Rattle.rules.specs.Chips.{by_chip}
use Rattle.rules.specs.Frames.{opcode, is_resting, is_among}

-- the frames that are answered: "While busy only 05 is taken; in AAI only AD, 05, 04; in power-down only AB" (01), and no other opcode reads
abbrev pub is_answered : ℕ → State → Bool
is_answered op s =
    cond (is_among op (0x05 ∷ [])) (not s.power_down)
    (cond (is_among op (0xab ∷ [])) (not (is_busy s || s.aai))
    (is_among op (0x03 ∷ 0x0b ∷ 0x9f ∷ 0x90 ∷ []) && is_resting s))

-- the byte from which on "01's table names a value": 05 and 9F from 1, AB from 1 or 4, 03 and 90 from 4, 0B from 5
abbrev pub first_named : ℕ → ℕ → ℕ
first_named op chip =
    cond (is_among op (0x05 ∷ 0x9f ∷ [])) 1 (cond (is_among op (0xab ∷ [])) (by_chip chip 1 4) (cond (is_among op (0x03 ∷ 0x90 ∷ [])) 4 5))

-- "but not 9F's FF from byte 4"
abbrev pub is_named : ℕ → ℕ → ℕ → Bool
is_named op chip i = leb (first_named op chip) i && not (is_among op (0x9f ∷ []) && leb 4 i)

abbrev pub is_driven : List ℕ → Device → ℕ → Bool
is_driven f d i = is_answered (opcode f) d.state && is_named (opcode f) d.state.chip i

-- of a frame that its call accepts
pub record DrivenBytes (wp : Bool) (f : List ℕ) (d : Device) (line : Line) : Type 0 where
  -- "Driven are exactly the bytes for which 01's table names a value": "01 or 00 a byte"
  pub exactly : (i : ℕ) → i < length f → get_or (frame_line_after wp f d line).driven i 0 ≡ cond (is_driven f d i) 0x01 0x00
  -- "The first slice still holds FF there."
  pub silent_is_ff : (i : ℕ) → i < length f → is_driven f d i ≡ false → get_or (frame_line_after wp f d line).output i 0 ≡ 0xff
  -- both are as long as the frame
  pub as_long : (length (frame_line_after wp f d line).output ≡ length f) × (length (frame_line_after wp f d line).driven ≡ length f)
  -- an interrupted frame's are the whole frame's
  pub interrupted : (mask : List ℕ) → cut_number wp f mask d line ≡ 0 → cut_line_after wp f mask d line ≡ frame_line_after wp f d line

pub record DrivenRules : Type 0 where
  pub every_frame : (wp : Bool) (f : List ℕ) (d : Device) (line : Line) → frame_number wp f d line ≡ 0 → DrivenBytes wp f d line
