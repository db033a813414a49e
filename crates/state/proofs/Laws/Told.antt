-- A question's answer: with its value where it is accepted, with 0 where it is refused.
-- Assumes nothing.
use mathlib.Core.Path.{◌≡◌, refl}
use Prim.Native.Nat.{ℕ, ◌<◌}
use native.Mathlib.Omega.{arith}
use borrow.Author.Tests.{ne_eqb}
use Rattle.state.specs.declared.State.{State}
use Rattle.state.specs.Answer.{told_of}

pub told_value : (number : ℕ) (s : State) (value : ℕ) → number ≡ 0 → told_of number s value ≡ record { number = 0; state = s; value = value }
told_value number s value e = rw e refl

pub told_refused : (number : ℕ) (s : State) (value : ℕ) → 0 < number → told_of number s value ≡ record { number = number; state = s; value = 0 }
told_refused number s value h = rw (ne_eqb number 0 (λ e. omega arith)) refl
