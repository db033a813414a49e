-- The premises can be met: all of them by a script that only reads, and the first two by one that programs.
-- Assumes nothing.
use mathlib.Core.Path.{◌≡◌, refl}
use mathlib.Core.Bool.{Bool, true, false}
use mathlib.Core.List.{List, [], ◌∷◌}
use Prim.Native.Nat.{ℕ}
use native.Mathlib.Omega.{arith}
use Rattle.common.specs.Lists.{Each, within}
use Rattle.common.proofs.Laws.Pairs.{◌▹◌}
use Rattle.chip.specs.Chip.{models, is_known, chip_of, kind_of}
use Rattle.state.specs.declared.State.{State}
use Rattle.state.specs.Protection.{first_protected}
use Rattle.state.specs.Soundness.{is_sound}
use Rattle.state.specs.Power.{at_rest, new_state}
use Rattle.state.specs.Time.{time_passed}
use Rattle.command.specs.Command.{address, writable, by_kind, command_of}
use Rattle.registers.specs.Registers.{state_after}
use Rattle.script.specs.Record.{Record, frame, wait, script_length}
use Rattle.effect.specs.Effect.{page_effect, touches, struck, changed}
use Rattle.frame.specs.Device.{device}
use Rattle.frame.specs.Ran.{ran_device}
use Rattle.run.specs.Run.{step}
use Rattle.unread.specs.Unread.{NoEraseTaken, AlwaysProtected, NoWriteEnable}
use Rattle.unread.proofs.Laws.Turns.{IsAccepted, Turns, records_accepted, turns, unprotected, enabled_program, enabled_program_fits}

-- ---- all of them can be met: by a script that only reads

abbrev reading : List Record
reading = frame (0x05 ∷ 0x00 ∷ []) ∷ wait 7 ∷ frame (0x03 ∷ 0x00 ∷ 0x10 ∷ 0x00 ∷ 0x00 ∷ 0x00 ∷ []) ∷ []

-- an accepted script of which all premises hold, the second at every address
pub record Meets (s : State) (records : List Record) : Type 0 where
  pub accepted : IsAccepted s records
  pub no_erase_taken : (wp : Bool) (array : List ℕ) → NoEraseTaken wp records (device s array)
  pub always_protected : (k : ℕ) (wp : Bool) (array : List ℕ) → AlwaysProtected k wp records (device s array)
  pub disabled : s.wel ≡ false
  pub no_write_enable : NoWriteEnable records

-- a new F25L008A; and an F25L05PA with BP 001, since a new one protects nothing
pub reads_only : Each (λ s. Meets s reading) (new_state 8 ∷ at_rest 5 1 false false ∷ [])
unfolding new_state is_sound is_known chip_of first_protected command_of by_kind kind_of state_after time_passed ran_device step script_length
reads_only =
    record {
      accepted = is_accepted (new_state 8) refl;
      no_erase_taken = λ wp array. refl ▹ refl ▹ refl ▹ tt;
      always_protected = λ k wp array. omega arith ▹ omega arith ▹ omega arith ▹ tt;
      disabled = refl;
      no_write_enable = refl ▹ refl ▹ refl ▹ tt;
    }
    ▹ record {
      accepted = is_accepted (at_rest 5 1 false false) refl;
      no_erase_taken = λ wp array. refl ▹ refl ▹ refl ▹ tt;
      always_protected = λ k wp array. omega arith ▹ omega arith ▹ omega arith ▹ tt;
      disabled = refl;
      no_write_enable = refl ▹ refl ▹ refl ▹ tt;
    }
    ▹ tt
  where
    is_accepted : (s : State) → is_sound s ≡ true → IsAccepted s reading
    is_accepted s sound = records_accepted s reading ((omega arith, omega arith) ▹ omega arith ▹ (omega arith, omega arith) ▹ tt) sound (omega arith)

-- ---- the first two can be met by a script that changes the array

-- a program is no erase
pub program_no_erase : Each (λ m. (wp : Bool) (array : List ℕ) → NoEraseTaken wp enabled_program (device (unprotected m) array)) models
unfolding chip_of first_protected command_of by_kind kind_of state_after page_effect writable address ran_device step
program_no_erase = (λ wp array. refl ▹ refl ▹ tt) ▹ (λ wp array. refl ▹ refl ▹ tt) ▹ tt

-- the F25L008A with BP 001: a byte below F0000 is programmed, and those from there up stay protected
pub program_beside : ((wp : Bool) (array : List ℕ) → AlwaysProtected 0xf0000 wp enabled_program (device (at_rest 8 1 false false) array))
    × Turns (at_rest 8 1 false false) enabled_program 0x1000 0xff 0xa5
unfolding is_sound is_known chip_of first_protected command_of by_kind kind_of state_after changed touches struck writable address within ran_device step script_length
program_beside = ((λ wp array. omega arith ▹ omega arith ▹ tt), turns enabled_program_fits refl (omega arith) (omega arith) (λ wp. refl))

-- ---- the second can be met while a status write goes on: the old bits protect until its cycle ends

-- 01 00 on the F25L05PA with BP 001; a microsecond before its end 05 shows BP 001, and all is protected before each record
abbrev unprotecting : List Record
unprotecting = frame (0x06 ∷ []) ∷ frame (0x01 ∷ 0x00 ∷ []) ∷ wait 4999 ∷ frame (0x05 ∷ 0x00 ∷ []) ∷ []

pub protected_while_pending : (k : ℕ) (wp : Bool) (array : List ℕ) → AlwaysProtected k wp unprotecting (device (at_rest 5 1 false false) array)
unfolding is_known chip_of first_protected command_of by_kind kind_of state_after time_passed ran_device step
protected_while_pending k wp array = omega arith ▹ omega arith ▹ omega arith ▹ omega arith ▹ tt
