-- What the registers are behind each command (`after-…`); behind any, which chip they are of and whether it is armed.
-- Assumes nothing.
use mathlib.Core.Path.{◌≡◌, refl}
use mathlib.Core.Bool.{Bool, true, false}
use Prim.Native.Nat.{ℕ, ◌+◌, ◌<◌}
use native.Mathlib.Omega.{arith}
use lib.Dec.{eqb}
use borrow.Author.Tests.{ne_eqb}
use Rattle.common.proofs.Laws.Choice.{cond_elim}
use Rattle.state.specs.declared.State.{State}
use Rattle.state.specs.State.{with_left, with_wel, with_armed, with_power_down, with_aai, with_pending}
use Rattle.command.specs.declared.Command.{Command}
use Rattle.command.specs.declared.Command.TheVariants.{
  Ignored,
  ReadStatus,
  ReadArray,
  ReadJedec,
  ReadSignature,
  ReadIdentity,
  WriteEnable,
  WriteDisable,
  Arm,
  WriteStatus,
  Erase,
  ProgramByte,
  ProgramPage,
  ProgramWord,
  Sleep,
}
use Rattle.state.specs.Status.{writable_bits, with_status_byte}
use Rattle.registers.specs.Registers.{disarm, state_after}

module _ (s : State) where
  pub after_ignored : state_after s Ignored ≡ disarm s
  unfolding state_after
  after_ignored = refl

  pub after_read_status : state_after s ReadStatus ≡ disarm s
  unfolding state_after
  after_read_status = refl

  pub after_read_array : (address silent : ℕ) → state_after s (ReadArray address silent) ≡ disarm s
  unfolding state_after
  after_read_array address silent = refl

  pub after_read_jedec : state_after s ReadJedec ≡ disarm s
  unfolding state_after
  after_read_jedec = refl

  pub after_read_signature : state_after s ReadSignature ≡ with_power_down (disarm s) false
  unfolding state_after
  after_read_signature = refl

  pub after_read_identity : (odd : Bool) → state_after s (ReadIdentity odd) ≡ disarm s
  unfolding state_after
  after_read_identity odd = refl

  pub after_write_enable : state_after s WriteEnable ≡ with_armed (with_wel s true) true
  unfolding state_after
  after_write_enable = refl

  pub after_write_disable : state_after s WriteDisable ≡ with_aai (with_wel (disarm s) false) false 0
  unfolding state_after
  after_write_disable = refl

  pub after_arm : state_after s Arm ≡ with_armed s true
  unfolding state_after
  after_arm = refl

  -- at once,
  pub after_write_status : (byte : ℕ) → state_after s (WriteStatus byte 0) ≡ with_wel (with_status_byte (disarm s) byte) false
  unfolding state_after
  after_write_status byte = refl

  -- or by a cycle of its own
  pub after_status_begun : (byte time : ℕ) → 0 < time → state_after s (WriteStatus byte time) ≡ with_pending (with_left (disarm s) time) true (writable_bits byte)
  unfolding state_after
  after_status_begun byte time h = rw (ne_eqb time 0 (λ z. absurd (omega arith))) refl

  pub after_erase : (address count time : ℕ) → state_after s (Erase address count time) ≡ with_left (disarm s) time
  unfolding state_after
  after_erase address count time = refl

  pub after_program_byte : (address : ℕ) → state_after s (ProgramByte address) ≡ with_left (disarm s) 7
  unfolding state_after
  after_program_byte address = refl

  pub after_program_page : (address count : ℕ) → state_after s (ProgramPage address count) ≡ with_left (disarm s) 1500
  unfolding state_after
  after_program_page address count = refl

  pub after_program_word : (address from : ℕ) → state_after s (ProgramWord address from) ≡ with_aai (with_left (disarm s) 7) true (address + 2)
  unfolding state_after
  after_program_word address from = refl

  pub after_sleep : state_after s Sleep ≡ with_power_down (disarm s) true
  unfolding state_after
  after_sleep = refl

pub state_after_chip : (s : State) (c : Command) → (state_after s c).chip ≡ s.chip
unfolding state_after
state_after_chip s Ignored = refl
state_after_chip s ReadStatus = refl
state_after_chip s (ReadArray a i) = refl
state_after_chip s ReadJedec = refl
state_after_chip s ReadSignature = refl
state_after_chip s (ReadIdentity b) = refl
state_after_chip s WriteEnable = refl
state_after_chip s WriteDisable = refl
state_after_chip s Arm = refl
state_after_chip s (WriteStatus b t) = cond_elim (λ (x : State). x.chip ≡ s.chip) (eqb t 0) (λ _. refl) (λ _. refl)
state_after_chip s (Erase a n t) = refl
state_after_chip s (ProgramByte a) = refl
state_after_chip s (ProgramPage a n) = refl
state_after_chip s (ProgramWord a i) = refl
state_after_chip s Sleep = refl

-- the commands that set armed; every other clears it
abbrev pub arms : Command → Bool
arms Ignored = false
arms ReadStatus = false
arms (ReadArray a i) = false
arms ReadJedec = false
arms ReadSignature = false
arms (ReadIdentity b) = false
arms WriteEnable = true
arms WriteDisable = false
arms Arm = true
arms (WriteStatus b t) = false
arms (Erase a n t) = false
arms (ProgramByte a) = false
arms (ProgramPage a n) = false
arms (ProgramWord a i) = false
arms Sleep = false

pub state_after_armed : (s : State) (c : Command) → (state_after s c).armed ≡ arms c
unfolding state_after
state_after_armed s Ignored = refl
state_after_armed s ReadStatus = refl
state_after_armed s (ReadArray a i) = refl
state_after_armed s ReadJedec = refl
state_after_armed s ReadSignature = refl
state_after_armed s (ReadIdentity b) = refl
state_after_armed s WriteEnable = refl
state_after_armed s WriteDisable = refl
state_after_armed s Arm = refl
state_after_armed s (WriteStatus b t) = cond_elim (λ (x : State). x.armed ≡ false) (eqb t 0) (λ _. refl) (λ _. refl)
state_after_armed s (Erase a n t) = refl
state_after_armed s (ProgramByte a) = refl
state_after_armed s (ProgramPage a n) = refl
state_after_armed s (ProgramWord a i) = refl
state_after_armed s Sleep = refl
