-- "The small chip's status write takes time" (02, A4), sentence by sentence: of every frame that begins one. What it adds to plans: specs/PlanStatus.antt and
-- specs/Worst.antt; to soundness: specs/Soundness.antt; to power cuts: specs/Demands.antt, whose cuts are those of the calls.
use Rattle.std.specs.Prelude.{◌≡◌, Bool, true, false, ◌&&◌, List, [], ◌∷◌, ℕ, ◌+◌, ◌-◌, ◌≤◌, ◌<◌, length, get_or}
use Rattle.state.specs.declared.State.{State}
use Rattle.state.specs.Protection.{first_protected}
use Rattle.state.specs.Status.{status_of}
use Rattle.state.specs.Power.{power_up}
use Rattle.state.specs.Time.{pass_time}
use Rattle.frame.specs.Device.{Device, device}
use Rattle.frame.specs.Line.{Line}
use Rattle.frame.specs.Call.{frame_number, frame_device, cut_number, cut_device, cut_line_after}
use Rattle.rules.specs.Chips.{by_chip}
use Rattle.rules.specs.State.{state_of}
use Rattle.rules.specs.Status.{bits_in}
use Rattle.rules.specs.Power.{kept_05pa, written_05pa}
use Rattle.rules.specs.Frames.{opcode, is_resting, is_among, silent, both_slices}
use Rattle.rules.specs.Opcodes.{is_status_taken}

-- a frame that begins one: 01, taken, at rest, on the F25L05PA; "The 008A keeps its rule."
abbrev pub begins_cycle : Bool → List ℕ → Device → Bool
begins_cycle wp f d = is_resting d.state && (is_among (opcode f) (by_chip d.state.chip [] (0x01 ∷ [])) && is_status_taken wp f d)

-- the F25L05PA while it goes on, with so much time left: "WEL stays 1", the bits are the old ones, and the new ones are pending
abbrev pub writing_05pa : State → ℕ → ℕ → State
writing_05pa old byte left = state_of 5 old.bp old.tb old.bpl true false false false true (bits_in byte) left 0

pub record StatusWrite (wp : Bool) (f : List ℕ) (d : Device) (line : Line) : Type 0 where
  -- "On the 05PA it is a write cycle"; "It lasts the typical time in source document 004's timing table": T_W, 5 ms. The array stays
  pub begins : frame_device wp f d line ≡ device (writing_05pa d.state (get_or f 1 0) 5000) d.array
  -- m microseconds later
  pub goes_on : (m : ℕ) → m < 5000 → (pass_time (frame_device wp f d line).state m).state ≡ writing_05pa d.state (get_or f 1 0) (5000 - m)
  -- "BUSY reads 1, WEL stays 1 until the end, the new bits are seen only then": 05's byte is the one from before, where WEL was 1, with BUSY
  pub shows : (left : ℕ) → 0 < left → status_of (writing_05pa d.state (get_or f 1 0) left) ≡ status_of d.state + 1
  -- the old bits protect
  pub protects : (left : ℕ) → first_protected (writing_05pa d.state (get_or f 1 0) left) ≡ first_protected d.state
  pub ends : (m : ℕ) → 5000 ≤ m → (pass_time (frame_device wp f d line).state m).state ≡ written_05pa (get_or f 1 0)
  -- "Power-up with bits pending keeps the old."
  pub powers_up : (m : ℕ) → m < 5000
      → power_up (pass_time (frame_device wp f d line).state m).state ≡ record { number = 0; state = kept_05pa d.state }
  -- "An interrupted status write powers up with the old bits if its one mask byte is 00,
  pub cut_old : (cut_number wp f (0x00 ∷ []) d line ≡ 0) × (cut_device wp f (0x00 ∷ []) d line ≡ device (kept_05pa d.state) d.array)
  -- the new if FF"
  pub cut_new : (cut_number wp f (0xff ∷ []) d line ≡ 0) × (cut_device wp f (0xff ∷ []) d line ≡ device (written_05pa (get_or f 1 0)) d.array)
  -- "5 now also covers that mask's length and any other value in it."
  pub cut_other : (mask : List ℕ) → (mask ≡ 0x00 ∷ [] → ⊥) → (mask ≡ 0xff ∷ [] → ⊥) → cut_number wp f mask d line ≡ 5
  -- what is shown is the whole frame's: nothing
  pub cut_shows : (mask : List ℕ) → cut_number wp f mask d line ≡ 0 → cut_line_after wp f mask d line ≡ both_slices (length f) silent

pub record StatusWriteRules : Type 0 where
  pub every_frame : (wp : Bool) (f : List ℕ) (d : Device) (line : Line) → frame_number wp f d line ≡ 0 → begins_cycle wp f d ≡ true → StatusWrite wp f d line
