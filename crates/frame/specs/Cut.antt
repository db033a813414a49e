-- An interrupted frame (01, "Interrupted frame"; a status write 02, A4): the mask that it wants, and the registers that power-up finds.
use Rattle.std.specs.Prelude.{◌≡◌, Bool, true, ◌&&◌, ◌||◌, cond, List, ◌⊎◌, ℕ, ltb, eqb, length, get_or}
use Rattle.state.specs.declared.State.{State}
use Rattle.state.specs.Soundness.{implies}
use Rattle.state.specs.Time.{cycle_ended}
use Rattle.command.specs.declared.Command.{Command}
use Rattle.command.specs.declared.Command.TheVariants.{
  Ignored,
  ReadStatus,
  ReadArray,
  ReadJedec,
  ReadSignature,
  ReadIdentity,
  WriteEnable,
  WriteDisable,
  Arm,
  WriteStatus,
  Erase,
  ProgramByte,
  ProgramPage,
  ProgramWord,
  Sleep,
}
use Rattle.registers.specs.Registers.{state_after}
use Rattle.effect.specs.Effect.{mask_length}
use Rattle.frame.specs.Effect.{effect_of}

-- a status write's time, else 0
abbrev pub status_time : Command → ℕ
status_time Ignored = 0
status_time ReadStatus = 0
status_time (ReadArray a i) = 0
status_time ReadJedec = 0
status_time ReadSignature = 0
status_time (ReadIdentity b) = 0
status_time WriteEnable = 0
status_time WriteDisable = 0
status_time Arm = 0
status_time (WriteStatus b t) = t
status_time (Erase a n t) = 0
status_time (ProgramByte a) = 0
status_time (ProgramPage a n) = 0
status_time (ProgramWord a i) = 0
status_time Sleep = 0

-- a status write that takes time
abbrev pub is_status_cycle : Command → Bool
is_status_cycle c = ltb 0 (status_time c)

-- ---- the mask

-- how many bytes it has: "one byte for each array byte the frame programs or erases"; that of a status write's cycle "its one mask byte"
abbrev pub mask_bytes : Command → ℕ
mask_bytes c = cond (is_status_cycle c) 1 (mask_length (effect_of c))

-- "the old bits if its one mask byte is 00, the new if FF"
abbrev pub is_old_or_new : ℕ → Bool
is_old_or_new byte = eqb byte 0x00 || eqb byte 0xff

-- "5 now also covers that mask's length and any other value in it"
abbrev pub takes_mask : Command → List ℕ → Bool
takes_mask c mask = eqb (length mask) (mask_bytes c) && implies (is_status_cycle c) (is_old_or_new (get_or mask 0 0))

-- the same in words
pub record Masked (c : Command) (mask : List ℕ) : Type 0 where
  pub bytes : length mask ≡ mask_bytes c
  pub old_or_new : is_status_cycle c ≡ true → (get_or mask 0 0 ≡ 0x00) ⊎ (get_or mask 0 0 ≡ 0xff)

-- ---- the registers

-- before power-up: of a status write's cycle as if it had just begun, or as if it had ended
abbrev pub state_cut : State → Command → List ℕ → State
state_cut s c mask = cond (is_status_cycle c && eqb (get_or mask 0 0) 0xff) (cycle_ended (state_after s c)) (state_after s c)
