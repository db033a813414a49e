-- What a frame shows depends on the memory only below the chip's size.
-- Assumes nothing.
use mathlib.Core.Path.{◌≡◌, refl, ap}
use Prim.Native.Nat.{ℕ, ◌+◌, ◌-◌, ◌%◌, ◌<◌}
use native.Mathlib.Nat.{mod-lt}
use Rattle.state.specs.declared.State.{State}
use Rattle.state.specs.State.{data_of}
use Rattle.chip.proofs.Laws.Chip.{regular}
use Rattle.command.specs.declared.Command.{Command}
use Rattle.command.specs.declared.Command.TheVariants.{
  Ignored,
  ReadStatus,
  ReadArray,
  ReadJedec,
  ReadSignature,
  ReadIdentity,
  WriteEnable,
  WriteDisable,
  Arm,
  WriteStatus,
  Erase,
  ProgramByte,
  ProgramPage,
  ProgramWord,
  Sleep,
}
use Rattle.output.specs.Output.{since, shown_at}

pub shown_by_memory : (s : State) (c : Command) (m n : ℕ → ℕ) → ((k : ℕ) → k < (data_of s).size → m k ≡ n k) → (i : ℕ) → shown_at s c m i ≡ shown_at s c n i
unfolding shown_at
shown_by_memory s Ignored m n h i = refl
shown_by_memory s ReadStatus m n h i = refl
shown_by_memory s (ReadArray a at) m n h i = ap (since at i) (h ((a + (i - at)) % (data_of s).size) (mod-lt _ (regular s.chip).size_positive))
shown_by_memory s ReadJedec m n h i = refl
shown_by_memory s ReadSignature m n h i = refl
shown_by_memory s (ReadIdentity b) m n h i = refl
shown_by_memory s WriteEnable m n h i = refl
shown_by_memory s WriteDisable m n h i = refl
shown_by_memory s Arm m n h i = refl
shown_by_memory s (WriteStatus b t) m n h i = refl
shown_by_memory s (Erase a c t) m n h i = refl
shown_by_memory s (ProgramByte a) m n h i = refl
shown_by_memory s (ProgramPage a c) m n h i = refl
shown_by_memory s (ProgramWord a j) m n h i = refl
shown_by_memory s Sleep m n h i = refl
