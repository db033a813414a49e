-- Steps 1 and 4 of a plan (01, "Scripts and plans"; 02, A4), read off its records.
use Rattle.std.specs.Prelude.{◌≡◌, List, [], ◌∷◌, ℕ, ◌/◌, ◌%◌, ◌≤◌}
use Rattle.common.specs.Bits.{bit}
use Rattle.state.specs.declared.State.{State}
use Rattle.state.specs.Protection.{first_protected}
use Rattle.script.specs.Record.{Record, frame, wait}
use Rattle.rules.specs.Chips.{by_chip}
use Rattle.rules.specs.Sent.{Changing}

-- "a byte that changes is protected"
pub record ProtectedChange (s : State) (array : List ℕ) (start : ℕ) (wanted : List ℕ) : Type 0 where
  pub address : ℕ
  pub changing : Changing array start wanted address
  pub protected : first_protected s ≤ address

-- "50 (008A) or 06 (05PA), then 01 with" BP as given "and TB, BPL as they were, other bits 0"; "Plans on the 05PA get a wait record after each 01"
pub record StatusFrames (s : State) (bp : ℕ) (rs : List Record) : Type 0 where
  pub byte : ℕ
  pub two_frames : rs ≡ frame (by_chip s.chip 0x50 0x06 ∷ []) ∷ frame (0x01 ∷ byte ∷ []) ∷ by_chip s.chip [] (wait 5000 ∷ [])
  pub bits_2_to_4 : byte / 4 % 8 ≡ bp
  pub bit_5 : byte / 32 % 2 ≡ bit s.tb 1
  pub bit_7 : byte / 128 ≡ bit s.bpl 1
  pub bits_0_and_1 : byte % 4 ≡ 0
  pub bit_6 : byte / 64 % 2 ≡ 0
