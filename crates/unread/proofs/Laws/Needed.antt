-- Each premise is needed, on every chip: a taken erase raises bits, a byte that is protected at the start alone can change, and so can the array behind
-- a 06, or with WEL 1 at the start.
-- Assumes nothing.
use mathlib.Core.Path.{◌≡◌, refl}
use mathlib.Core.Bool.{true, false}
use mathlib.Core.List.{[], ◌∷◌}
use Prim.Native.Nat.{ℕ, ◌≤◌}
use native.Mathlib.Omega.{arith}
use Rattle.common.specs.Lists.{Each, within}
use Rattle.common.proofs.Laws.Pairs.{◌▹◌}
use Rattle.chip.specs.Chip.{models, is_known, chip_of, kind_of}
use Rattle.state.specs.State.{with_wel}
use Rattle.state.specs.Protection.{first_protected}
use Rattle.state.specs.Soundness.{is_sound}
use Rattle.state.specs.Time.{cycle_ended, time_passed}
use Rattle.command.specs.Command.{address, writable, by_kind, command_of}
use Rattle.registers.specs.Registers.{state_after}
use Rattle.script.specs.Record.{frame, wait, AllFit, script_length}
use Rattle.effect.specs.Effect.{page_effect, touches, struck, changed}
use Rattle.unread.specs.Unread.{NoWriteEnable}
use Rattle.unread.proofs.Laws.Turns.{Turns, turns, unprotected, protected, program, enabled_erase, enabled_program, unprotected_program, enabled_program_fits}

-- clause 1: an erase is taken, and bits rise
pub erase_raises : Each (λ m. Turns (unprotected m) enabled_erase 0x1000 0x00 0xff) models
unfolding is_sound is_known chip_of first_protected command_of by_kind kind_of state_after changed touches struck writable address within script_length
erase_raises = turns fit refl (omega arith) (omega arith) (λ wp. refl) ▹ turns fit refl (omega arith) (omega arith) (λ wp. refl) ▹ tt
  where
    fit : AllFit enabled_erase
    fit = (omega arith, omega arith) ▹ (omega arith, omega arith) ▹ tt

-- clause 2: protected before the first record is not enough. Where a status write takes time it is the wait that lifts it
pub protection_lifted : Each (λ m. (first_protected (protected m) ≤ 0x1000) × Turns (protected m) (unprotected_program m) 0x1000 0xff 0xa5) models
unfolding is_sound is_known chip_of first_protected command_of by_kind kind_of state_after cycle_ended time_passed page_effect changed touches struck writable address within script_length
protection_lifted =
    (omega arith, turns (fit 0 (omega arith)) refl (omega arith) (omega arith) (λ wp. refl))
    ▹ (omega arith, turns (fit 5000 (omega arith)) refl (omega arith) (omega arith) (λ wp. refl))
    ▹ tt
  where
    -- by their lengths alone, so that of 06 in the place of 50 it is the same
    fit : (n : ℕ) → n ≤ 90000 → AllFit (frame (0x50 ∷ []) ∷ frame (0x01 ∷ 0x00 ∷ []) ∷ wait n ∷ enabled_program)
    fit n low = (omega arith, omega arith) ▹ (omega arith, omega arith) ▹ omega arith ▹ enabled_program_fits

-- clause 3: WEL 0 at the start, and a 06
pub program_after_06 : Each (λ m. ((unprotected m).wel ≡ false) × Turns (unprotected m) enabled_program 0x1000 0xff 0xa5) models
unfolding is_sound is_known chip_of first_protected command_of by_kind kind_of state_after page_effect changed touches struck writable address within script_length
program_after_06 =
    (refl, turns enabled_program_fits refl (omega arith) (omega arith) (λ wp. refl))
    ▹ (refl, turns enabled_program_fits refl (omega arith) (omega arith) (λ wp. refl))
    ▹ tt

-- and no 06, but WEL 1 at the start
pub wel_1_at_start : Each (λ m. NoWriteEnable (program ∷ []) × Turns (with_wel (unprotected m) true) (program ∷ []) 0x1000 0xff 0xa5) models
unfolding is_sound is_known chip_of first_protected command_of by_kind kind_of state_after page_effect changed touches struck writable address within script_length
wel_1_at_start =
    ((refl, tt), turns fit refl (omega arith) (omega arith) (λ wp. refl))
    ▹ ((refl, tt), turns fit refl (omega arith) (omega arith) (λ wp. refl))
    ▹ tt
  where
    fit : AllFit (program ∷ [])
    fit = (omega arith, omega arith) ▹ tt
