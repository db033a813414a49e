-- An interrupted frame (01, "Interrupted frame"). "This model of a cut is ours."
use Rattle.std.specs.Prelude.{◌≡◌, Bool, true, false, cond, List, ℕ, ◌<◌, eqb, length, get_or, Option}
use Rattle.common.specs.Bits.{bit_at}
use Rattle.common.specs.Lists.{count_below}
use Rattle.state.specs.declared.State.{State}
use Rattle.state.specs.Power.{power_up}
use Rattle.frame.specs.Device.{Device}
use Rattle.frame.specs.Line.{Line}
use Rattle.frame.specs.Call.{cut_device, cut_line_after}
use Rattle.rules.specs.Frames.{Change, both_slices}

-- "one byte for each array byte the frame programs or erases .. (none if it does neither)"
abbrev pub mask_needed : Change → Device → ℕ
mask_needed change d = count_below change.touched (length d.array)

-- "by rising address": the mask's byte for an address
abbrev pub mask_byte : Change → List ℕ → ℕ → ℕ
mask_byte change mask k = get_or mask (count_below change.touched k) 0

-- of an accepted one, where the whole frame shows, leaves and changes this, and begins no status write that takes time (specs/StatusWrite.antt)
pub record Interrupted (wp : Bool) (f mask : List ℕ) (d : Device) (line : Line) (shows : ℕ → Option ℕ) (registers : State) (change : Change) : Type 0 where
  -- "As the frame, with a lent mask": both slices are the whole frame's
  pub line_is : cut_line_after wp f mask d line ≡ both_slices (length f) shows
  pub mask_length_lem : length mask ≡ mask_needed change d
  -- "Each such byte takes its new bit where the mask has 1 and keeps the old where it has 0."
  pub touched : (k b : ℕ) → k < length d.array → b < 8 → change.touched k ≡ true
      → bit_at (get_or (cut_device wp f mask d line).array k 0) b
      ≡ cond (eqb (bit_at (mask_byte change mask k) b) 1) (bit_at (change.becomes k (get_or d.array k 0)) b) (bit_at (get_or d.array k 0) b)
  -- and no other byte moves
  pub untouched : (k : ℕ) → k < length d.array → change.touched k ≡ false → get_or (cut_device wp f mask d line).array k 0 ≡ get_or d.array k 0
  pub same_length : length (cut_device wp f mask d line).array ≡ length d.array
  -- "Then power-up."
  pub state_is : (cut_device wp f mask d line).state ≡ (power_up registers).state
