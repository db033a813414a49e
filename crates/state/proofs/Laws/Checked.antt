-- What holds behind `check_chip`, and the number of a call whose other refusals come behind its own.
-- Assumes nothing.
use mathlib.Core.Path.{◌≡◌, refl, sym, ap}
use mathlib.Core.Bool.{Bool, true, not, cond}
use Prim.Native.Nat.{ℕ}
use lib.Dec.{eqb}
use borrow.Author.Tests.{eqb-true, not-false}
use Rattle.common.specs.Refusals.{state_not_sound, wrong_array, first_of}
use Rattle.common.proofs.Laws.Refusals.{Clear, clear}
use Rattle.common.proofs.Laws.Choice.{no}
use Rattle.state.specs.declared.State.{State}
use Rattle.state.specs.State.{data_of}
use Rattle.state.specs.Soundness.{is_sound, first_refusals}

module _ (s : State) (size : ℕ) (passed : 0 ≡ first_of (first_refusals s size)) where
  none : Clear (first_refusals s size)
  none = clear (first_refusals s size) refl (sym passed)

  pub chip_sound : is_sound s ≡ true
  chip_sound = not-false (is_sound s) none.0

  pub chip_sized : size ≡ (data_of s).size
  chip_sized = eqb-true size (data_of s).size (not-false (eqb size (data_of s).size) none.1.0)

  -- the others decide
  pub chip_passed : {number others : ℕ} → number ≡ others
      → number ≡ cond (not (is_sound s)) state_not_sound (cond (not (eqb size (data_of s).size)) wrong_array others)
  chip_passed e = no _ none.0 (no _ none.1.0 e)
