-- The setters by their definitions: each writes its own fields and copies the others.
-- Assumes nothing.
use mathlib.Core.Path.{refl}
use mathlib.Core.Bool.{Bool}
use Prim.Native.Nat.{ℕ}
use Rattle.rules.specs.State.{Setters}

pub setters : (chip bp : ℕ) (tb bpl wel aai armed asleep pending : Bool) (bits left next : ℕ)
    → Setters chip bp tb bpl wel aai armed asleep pending bits left next
setters chip bp tb bpl wel aai armed asleep pending bits left next = record {
  sets_left = λ n. refl;
  sets_wel = λ b. refl;
  sets_armed = λ b. refl;
  sets_power_down = λ b. refl;
  sets_aai = λ b n. refl;
  sets_bits = λ n b c. refl;
  sets_pending = λ b n. refl;
}
