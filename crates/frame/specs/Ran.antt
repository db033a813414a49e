-- An accepted frame on a chip (01, "Frames"): what it shows and leaves, whole, and interrupted by a power cut.
use Rattle.std.specs.Prelude.{◌≡◌, Bool, List, ℕ, length}
use Rattle.common.specs.Lists.{mapi}
use Rattle.state.specs.declared.State.{State}
use Rattle.state.specs.Power.{powered_up}
use Rattle.command.specs.Command.{command_of}
use Rattle.registers.specs.Registers.{state_after}
use Rattle.output.specs.Output.{memory, shown_at}
use Rattle.effect.specs.declared.Effect.{Effect}
use Rattle.effect.specs.Effect.{changed}
use Rattle.effect.specs.Cut.{cut}
use Rattle.frame.specs.Device.{Device, device}
use Rattle.frame.specs.Line.{Line, showing}
use Rattle.frame.specs.Effect.{effect_of}
use Rattle.frame.specs.Cut.{mask_bytes, state_cut}

-- the frame's effect on the array, at a level of WP
abbrev pub effect_at : State → Bool → List ℕ → Effect
effect_at s wp f = effect_of (command_of s wp f)

-- the registers when the frame ends
abbrev pub state_at : State → Bool → List ℕ → State
state_at s wp f = state_after s (command_of s wp f)

-- ---- the whole frame

unfoldable pub ran_device : Bool → List ℕ → Device → Device
ran_device wp f d = device (state_at d.state wp f) (mapi (changed (effect_at d.state wp f) f) d.array)

unfoldable pub shown_line : Bool → List ℕ → Device → Line
shown_line wp f d = showing (length f) (shown_at d.state (command_of d.state wp f) (memory d.array))

-- what an accepted frame leaves
pub record FrameDone (wp : Bool) (f : List ℕ) (d : Device) (after : Device) (line_after : Line) : Type 0 where
  pub device_is : after ≡ ran_device wp f d
  pub line_is : line_after ≡ shown_line wp f d

-- ---- the interrupted frame

-- how many bytes its mask has
abbrev pub mask_wanted : Bool → List ℕ → Device → ℕ
mask_wanted wp f d = mask_bytes (command_of d.state wp f)

-- the registers that power-up finds
abbrev pub cut_at : State → Bool → List ℕ → List ℕ → State
cut_at s wp f mask = state_cut s (command_of s wp f) mask

-- "Then power-up."
unfoldable pub torn_device : Bool → List ℕ → List ℕ → Device → Device
torn_device wp f mask d = device (powered_up (cut_at d.state wp f mask)) (mapi (cut (effect_at d.state wp f) f mask) d.array)

pub record CutDone (wp : Bool) (f mask : List ℕ) (d : Device) (after : Device) (line_after : Line) : Type 0 where
  pub device_is : after ≡ torn_device wp f mask d
  pub line_is : line_after ≡ shown_line wp f d
