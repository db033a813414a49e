-- What holds of a state and the command that a frame is at it: a taken command was allowed there, and touches what the array has.
use Rattle.std.specs.Prelude.{◌≡◌, true, false, List, ℕ, ◌+◌, ◌%◌, ◌≤◌, ◌<◌, length}
use Rattle.state.specs.declared.State.{State}
use Rattle.state.specs.State.{data_of}
use Rattle.state.specs.Protection.{first_protected}
use Rattle.command.specs.declared.Command.{Command}
use Rattle.command.specs.declared.Command.TheVariants.{
  Ignored,
  ReadStatus,
  ReadArray,
  ReadJedec,
  ReadSignature,
  ReadIdentity,
  WriteEnable,
  WriteDisable,
  Arm,
  WriteStatus,
  Erase,
  ProgramByte,
  ProgramPage,
  ProgramWord,
  Sleep,
}

-- neither busy nor in AAI nor in power-down
pub record Resting (s : State) : Type 0 where
  pub still : s.left ≡ 0
  pub single : s.aai ≡ false
  pub awake : s.power_down ≡ false

-- WEL 1, and the target ends at or below the first protected address
pub record Open (s : State) (end : ℕ) : Type 0 where
  pub enabled : s.wel ≡ true
  pub free : end ≤ first_protected s

pub record Words (s : State) (address : ℕ) : Type 0 where
  pub aai_had : (data_of s).aai ≡ true
  pub still : s.left ≡ 0
  pub awake : s.power_down ≡ false
  pub even : address % 2 ≡ 0

abbrev pub Fits : State → Command → Type 0
Fits s Ignored = Unit {0}
Fits s ReadStatus = Unit {0}
Fits s (ReadArray a i) = a < (data_of s).size
Fits s ReadJedec = Unit {0}
Fits s ReadSignature = Unit {0}
Fits s (ReadIdentity b) = Unit {0}
Fits s WriteEnable = Resting s
Fits s WriteDisable = s.left ≡ 0
Fits s Arm = Resting s × ((data_of s).ewsr ≡ true)
Fits s (WriteStatus b t) = Resting s × ((s.armed ≡ true) × (t ≡ (data_of s).status_time))
Fits s (Erase a n t) = Resting s × (Open s (a + n) × (t ≤ (data_of s).chip_time))
Fits s (ProgramByte a) = Resting s × Open s (a + 1)
Fits s (ProgramPage a n) = Resting s × Open s (a + 1)
Fits s (ProgramWord a i) = Words s a × Open s (a + 2)
Fits s Sleep = Resting s × ((data_of s).sleeps ≡ true)

-- the frame has the data bytes that the command speaks of
abbrev pub Carries : List ℕ → Command → Type 0
Carries f Ignored = Unit {0}
Carries f ReadStatus = Unit {0}
Carries f (ReadArray a i) = Unit {0}
Carries f ReadJedec = Unit {0}
Carries f ReadSignature = Unit {0}
Carries f (ReadIdentity b) = Unit {0}
Carries f WriteEnable = Unit {0}
Carries f WriteDisable = Unit {0}
Carries f Arm = Unit {0}
Carries f (WriteStatus b t) = Unit {0}
Carries f (Erase a n t) = Unit {0}
Carries f (ProgramByte a) = length f ≡ 5
Carries f (ProgramPage a n) = 4 + n ≡ length f
Carries f (ProgramWord a i) = i + 2 ≡ length f
Carries f Sleep = Unit {0}
