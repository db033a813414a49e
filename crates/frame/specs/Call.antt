-- The calls "run a frame" and "run an interrupted frame": their refusals in the order checked, and what they answer and leave.
use Rattle.std.specs.Prelude.{◌≡◌, Bool, ◌||◌, not, List, [], ◌∷◌, ◌++◌, ℕ, ◌≤◌, ◌<◌, ltb, eqb, length}
use Rattle.common.specs.Limits.{longest_frame}
use Rattle.common.specs.Refusals.{state_not_sound, wrong_array, wrong_frame, wrong_output, wrong_mask, first_of, accepted}
use Rattle.state.specs.State.{data_of}
use Rattle.state.specs.Soundness.{is_sound, Sound}
use Rattle.command.specs.Command.{command_of}
use Rattle.frame.specs.Device.{Device}
use Rattle.frame.specs.Line.{Line, is_not_long, Long}
use Rattle.frame.specs.Cut.{takes_mask, Masked}
use Rattle.frame.specs.Ran.{ran_device, shown_line, torn_device}

-- ---- run a frame: the level of WP, the frame, the chip and the lent line

abbrev pub frame_refusals : Bool → List ℕ → Device → Line → List (ℕ × Bool)
frame_refusals wp f d line =
    (state_not_sound, not (is_sound d.state))
    ∷ (wrong_array, not (eqb (length d.array) (data_of d.state).size))
    ∷ (wrong_frame, eqb (length f) 0 || ltb longest_frame (length f))
    ∷ (wrong_output, is_not_long (length f) line)
    ∷ []

unfoldable pub frame_number : Bool → List ℕ → Device → Line → ℕ
frame_number wp f d line = first_of (frame_refusals wp f d line)

-- what holds where none of them does
pub record Accepted (wp : Bool) (f : List ℕ) (d : Device) (line : Line) : Type 0 where
  pub sound : Sound d.state
  pub sized : length d.array ≡ (data_of d.state).size
  pub some : 0 < length f
  pub short : length f ≤ longest_frame
  pub same : Long (length f) line

unfoldable pub frame_device : Bool → List ℕ → Device → Line → Device
frame_device wp f d line = accepted (frame_number wp f d line) (ran_device wp f d) d

unfoldable pub frame_line_after : Bool → List ℕ → Device → Line → Line
frame_line_after wp f d line = accepted (frame_number wp f d line) (shown_line wp f d) line

-- what the call answers and leaves
pub record FrameRun (wp : Bool) (f : List ℕ) (d : Device) (line : Line) (number : ℕ) (after : Device) (line_after : Line) : Type 0 where
  pub number_is : number ≡ frame_number wp f d line
  pub device_is : after ≡ frame_device wp f d line
  pub line_is : line_after ≡ frame_line_after wp f d line

-- ---- run an interrupted frame: with a mask

abbrev pub mask_refusals : Bool → List ℕ → List ℕ → Device → List (ℕ × Bool)
mask_refusals wp f mask d = (wrong_mask, not (takes_mask (command_of d.state wp f) mask)) ∷ []

-- the frame's own, then the mask's
abbrev pub cut_refusals : Bool → List ℕ → List ℕ → Device → Line → List (ℕ × Bool)
cut_refusals wp f mask d line = frame_refusals wp f d line ++ mask_refusals wp f mask d

unfoldable pub cut_number : Bool → List ℕ → List ℕ → Device → Line → ℕ
cut_number wp f mask d line = first_of (cut_refusals wp f mask d line)

pub record CutAccepted (wp : Bool) (f mask : List ℕ) (d : Device) (line : Line) : Type 0 where
  pub whole : Accepted wp f d line
  pub masked : Masked (command_of d.state wp f) mask

unfoldable pub cut_device : Bool → List ℕ → List ℕ → Device → Line → Device
cut_device wp f mask d line = accepted (cut_number wp f mask d line) (torn_device wp f mask d) d

unfoldable pub cut_line_after : Bool → List ℕ → List ℕ → Device → Line → Line
cut_line_after wp f mask d line = accepted (cut_number wp f mask d line) (shown_line wp f d) line

pub record CutRun (wp : Bool) (f mask : List ℕ) (d : Device) (line : Line) (number : ℕ) (after : Device) (line_after : Line) : Type 0 where
  pub number_is : number ≡ cut_number wp f mask d line
  pub device_is : after ≡ cut_device wp f mask d line
  pub line_is : line_after ≡ cut_line_after wp f mask d line
