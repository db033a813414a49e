-- Frames (01, "Frames"): what an accepted frame does, which are ignored, and what becomes of armed.
use Rattle.std.specs.Prelude.{◌≡◌, Bool, true, false, ◌&&◌, ◌||◌, not, cond, List, [], ◌∷◌, ℕ, eqb, length, get_or, Option, Some, None}
use Rattle.common.specs.Lists.{mapi, tab}
use Rattle.state.specs.declared.State.{State}
use Rattle.state.specs.State.{with_armed}
use Rattle.state.specs.Soundness.{is_busy}
use Rattle.effect.specs.Effect.{touches}
use Rattle.frame.specs.Device.{Device, device}
use Rattle.frame.specs.Line.{Line, on_line}
use Rattle.frame.specs.Ran.{effect_at}
use Rattle.frame.specs.Call.{frame_device, frame_line_after}
use Rattle.rules.specs.Chips.{by_chip}

-- "byte 0 the opcode"
abbrev pub opcode : List ℕ → ℕ
opcode f = get_or f 0 0

-- what a frame does to the array: which addresses it programs or erases, and what becomes of the byte x at such an address
pub record Change : Type 0 where
  pub touched : ℕ → Bool
  pub becomes : ℕ → ℕ → ℕ

abbrev pub changed_by : Change → List ℕ → List ℕ
changed_by c array = mapi (λ k x. cond (c.touched k) (c.becomes k x) x) array

-- it programs and erases nothing
abbrev pub unchanged : Change
unchanged = record { touched = λ k. false; becomes = λ k x. x }

-- "A byte the chip doesn't drive reads FF (our board's pull-up)."
abbrev pub reads_as : Option ℕ → ℕ
reads_as None = 0xff
reads_as (Some byte) = byte

-- "the calls that return output fill a second lent slice with 01 or 00 a byte" (02, A10): whether the chip drove it
abbrev pub marked_as : Option ℕ → ℕ
marked_as None = 0x00
marked_as (Some byte) = 0x01

-- both slices, n bytes long, of a chip that shows this at byte i: "the same length, output byte i going with input byte i"
abbrev pub both_slices : ℕ → (ℕ → Option ℕ) → Line
both_slices n shows = on_line (tab n (λ i. reads_as (shows i))) (tab n (λ i. marked_as (shows i)))

-- what a frame does, whole: what it shows at byte i; the chip behind it; and which bytes count as programmed or erased when it is interrupted
pub record Does (wp : Bool) (f : List ℕ) (d : Device) (line : Line) (shows : ℕ → Option ℕ) (registers : State) (change : Change) : Type 0 where
  pub line_is : frame_line_after wp f d line ≡ both_slices (length f) shows
  pub device_is : frame_device wp f d line ≡ device registers (changed_by change d.array)
  pub touched_are : (k : ℕ) → touches (effect_at d.state wp f) k ≡ change.touched k

-- no byte is driven
abbrev pub silent : ℕ → Option ℕ
silent i = None

-- what every frame but 06 and 50 does to the registers
abbrev pub disarmed : Device → State
disarmed d = with_armed d.state false

-- ""Ignored" means: output all FF, nothing changed, except that armed is cleared."
abbrev pub Ignored : Bool → List ℕ → Device → Line → Type 0
Ignored wp f d line = Does wp f d line silent (disarmed d) unchanged

-- neither busy nor in AAI nor in power-down
abbrev pub is_resting : State → Bool
is_resting s = not (is_busy s || s.aai || s.power_down)

-- "exactly the opcodes below are known": the table's, and those of one chip alone
abbrev pub shared_opcodes : List ℕ
shared_opcodes =
    0x05 ∷ 0x03 ∷ 0x0b ∷ 0x9f ∷ 0xab ∷ 0x90 ∷ 0x06 ∷ 0x04 ∷ 0x01 ∷ 0x20 ∷ 0xd8 ∷ 0x60 ∷ 0xc7 ∷ 0x02 ∷ []

abbrev pub opcodes_008a : List ℕ
opcodes_008a = 0x50 ∷ 0xad ∷ shared_opcodes

abbrev pub opcodes_05pa : List ℕ
opcodes_05pa = 0xb9 ∷ shared_opcodes

abbrev pub is_among : ℕ → List ℕ → Bool
is_among op [] = false
is_among op (known ∷ others) = eqb op known || is_among op others

-- of every accepted frame
pub record FrameRules (wp : Bool) (f : List ℕ) (d : Device) (line : Line) : Type 0 where
  -- "nothing changed"
  pub kept : changed_by unchanged d.array ≡ d.array
  -- "exactly the opcodes below are known"
  pub unknown : is_among (opcode f) (by_chip d.state.chip opcodes_008a opcodes_05pa) ≡ false → Ignored wp f d line
  -- "While busy only 05 is taken;
  pub while_busy : is_busy d.state ≡ true → is_among (opcode f) (0x05 ∷ []) ≡ false → Ignored wp f d line
  -- in AAI only AD, 05, 04;
  pub in_aai_lem : d.state.aai ≡ true → is_among (opcode f) (0xad ∷ 0x05 ∷ 0x04 ∷ []) ≡ false → Ignored wp f d line
  -- in power-down only AB."
  pub in_power_down : d.state.power_down ≡ true → is_among (opcode f) (0xab ∷ []) ≡ false → Ignored wp f d line
  -- "Every taken frame clears armed too, but WREN and EWSR, which set it": a taken 06, and on the 008A a taken 50
  pub armed : (frame_device wp f d line).state.armed
      ≡ (is_resting d.state && eqb (length f) 1 && is_among (opcode f) (by_chip d.state.chip (0x06 ∷ 0x50 ∷ []) (0x06 ∷ [])))
