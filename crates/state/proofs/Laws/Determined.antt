-- Each call's statement determines its answer: two answers that satisfy it are equal.
-- Assumes nothing.
use mathlib.Core.Path.{◌≡◌, sym, ◌∙◌}
use Prim.Native.Nat.{ℕ}
use Rattle.state.specs.declared.State.{State}
use Rattle.state.specs.declared.Answer.{Answer}
use Rattle.state.specs.Power.{new_chip, power_up}
use Rattle.state.specs.Time.{pass_time}

pub new_chip_determined : (number : ℕ) (a b : Answer) → a ≡ new_chip number → b ≡ new_chip number → a ≡ b
new_chip_determined number a b p q = p ∙ sym q

pub power_up_determined : (s : State) (a b : Answer) → a ≡ power_up s → b ≡ power_up s → a ≡ b
power_up_determined s a b p q = p ∙ sym q

pub pass_time_determined : (s : State) (n : ℕ) (a b : Answer) → a ≡ pass_time s n → b ≡ pass_time s n → a ≡ b
pass_time_determined s n a b p q = p ∙ sym q
