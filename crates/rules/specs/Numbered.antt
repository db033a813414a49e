-- A table of refusals (01, "Refusal numbers, in the order checked"): numbers, each with its condition in words. A number may stand in it more than once.
use Rattle.std.specs.Prelude.{◌≡◌, Bool, true, false, ◌||◌, List, [], ◌∷◌, ◌⊎◌, ℕ, ◌<◌, eqb}
use Rattle.common.specs.Refusals.{Exactly}

-- a number, "given exactly when" this holds and nothing that is checked before it
pub record Check : Type 1 where
  pub number : ℕ
  pub condition : Type 0

infix 70 ◌when◌
abbrev pub ◌when◌ : ℕ → Type 0 → Check
number when condition = record { number = number; condition = condition }

abbrev pub is_checked : ℕ → List Check → Bool
is_checked number [] = false
is_checked number (c ∷ cs) = eqb c.number number || is_checked number cs

-- whether a row has the number, and whether a later one has it again
abbrev pub FirstBy : Bool → Bool → Type 0 → Type 0 → Type 0
FirstBy true false own later = own
FirstBy true true own later = own ⊎ ((own → ⊥) × later)
FirstBy false again own later = (own → ⊥) × later

-- the number's own condition holds and no earlier one does
abbrev pub FirstIs : ℕ → List Check → Type 0
FirstIs number [] = ⊥
FirstIs number (c ∷ cs) = FirstBy (eqb c.number number) (is_checked number cs) c.condition (FirstIs number cs)

abbrev pub NoneHolds : List Check → Type 0
NoneHolds [] = Unit {0}
NoneHolds (c ∷ cs) = (c.condition → ⊥) × NoneHolds cs

-- a call's number by its table
pub record Numbered (number : ℕ) (checks : List Check) : Type 0 where
  -- "given exactly when", "in the order checked"; no number that the table lacks is given
  pub given : (n : ℕ) → 0 < n → Exactly (number ≡ n) (FirstIs n checks)
  -- "An accepted call's number is 0."
  pub accepted : Exactly (number ≡ 0) (NoneHolds checks)
