-- The model of a number, as the code finds it: the F25L008A's number is tested, and every other is the F25L05PA's.
-- Assumes nothing.
use mathlib.Core.Path.{◌≡◌, refl}
use Prim.Native.Nat.{ℕ}
use lib.Dec.{eqb}
use borrow.Author.Tests.{eq-eqb, ne_eqb}
use Rattle.common.proofs.Laws.Choice.{cond_elim}
use Rattle.chip.specs.Chip.{Model, model_008a, model_05pa, model_of}

pub model_of_8 : (number : ℕ) → number ≡ 8 → model_008a ≡ model_of number
model_of_8 number e = rw (eq-eqb number 8 e) refl

pub model_of_other : (number : ℕ) → (number ≡ 8 → ⊥) → model_05pa ≡ model_of number
model_of_other number n =
    rw (ne_eqb number 8 n) (cond_elim (λ (m : Model). model_05pa ≡ m) (eqb number 5) (λ _. refl) (λ _. refl))
