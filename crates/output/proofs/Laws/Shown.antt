-- What each command shows at byte i (`shows-…`).
-- Assumes nothing.
use mathlib.Core.Path.{◌≡◌, refl}
use mathlib.Core.Bool.{Bool}
use Prim.Native.Nat.{ℕ}
use Rattle.state.specs.declared.State.{State}
use Rattle.state.specs.State.{data_of}
use Rattle.state.specs.Status.{status_of}
use Rattle.command.specs.declared.Command.TheVariants.{
  Ignored,
  ReadStatus,
  ReadArray,
  ReadJedec,
  ReadSignature,
  ReadIdentity,
  WriteEnable,
  WriteDisable,
  Arm,
  WriteStatus,
  Erase,
  ProgramByte,
  ProgramPage,
  ProgramWord,
  Sleep,
}
use Rattle.std.specs.Prelude.{None}
use Rattle.output.specs.Output.{since, read_at, jedec, identity, shown_at}

module _ (s : State) (m : ℕ → ℕ) (i : ℕ) where
  pub shows_ignored : shown_at s Ignored m i ≡ None
  unfolding shown_at
  shows_ignored = refl

  pub shows_read_status : shown_at s ReadStatus m i ≡ since 1 i (status_of s)
  unfolding shown_at
  shows_read_status = refl

  pub shows_read_array : (address silent : ℕ) → shown_at s (ReadArray address silent) m i ≡ read_at (data_of s).size address silent m i
  unfolding shown_at
  shows_read_array address silent = refl

  pub shows_read_jedec : shown_at s ReadJedec m i ≡ jedec (data_of s).family (data_of s).capacity i
  unfolding shown_at
  shows_read_jedec = refl

  pub shows_read_signature : shown_at s ReadSignature m i ≡ since (data_of s).preamble i (data_of s).signature
  unfolding shown_at
  shows_read_signature = refl

  pub shows_read_identity : (odd : Bool) → shown_at s (ReadIdentity odd) m i ≡ since 4 i (identity (data_of s).device_id odd i)
  unfolding shown_at
  shows_read_identity odd = refl

  pub shows_write_enable : shown_at s WriteEnable m i ≡ None
  unfolding shown_at
  shows_write_enable = refl

  pub shows_write_disable : shown_at s WriteDisable m i ≡ None
  unfolding shown_at
  shows_write_disable = refl

  pub shows_arm : shown_at s Arm m i ≡ None
  unfolding shown_at
  shows_arm = refl

  pub shows_write_status : (byte time : ℕ) → shown_at s (WriteStatus byte time) m i ≡ None
  unfolding shown_at
  shows_write_status byte time = refl

  pub shows_erase : (address count time : ℕ) → shown_at s (Erase address count time) m i ≡ None
  unfolding shown_at
  shows_erase address count time = refl

  pub shows_program_byte : (address : ℕ) → shown_at s (ProgramByte address) m i ≡ None
  unfolding shown_at
  shows_program_byte address = refl

  pub shows_program_page : (address count : ℕ) → shown_at s (ProgramPage address count) m i ≡ None
  unfolding shown_at
  shows_program_page address count = refl

  pub shows_program_word : (address from : ℕ) → shown_at s (ProgramWord address from) m i ≡ None
  unfolding shown_at
  shows_program_word address from = refl

  pub shows_sleep : shown_at s Sleep m i ≡ None
  unfolding shown_at
  shows_sleep = refl
