-- Walks over bytes. A reader that goes from record to record takes at most so many turns: with as many as there are bytes it has enough. And what is so
-- of bytes whenever it is so of all shorter ones is so of all.
-- Assumes nothing.
use mathlib.Core.Path.{◌≡◌, sym}
use mathlib.Core.List.{List, [], ◌∷◌}
use Prim.Native.Nat.{ℕ, zero, suc, ◌≤◌, ◌<◌}
use native.Mathlib.Nat.{le_refl}
use native.Mathlib.Omega.{arith}
use lib.ListN.{length}

-- by turns: at the end further ones change nothing, and one more turn sees of the others only what they make of shorter bytes
module _ {A : Type 0} (walk : ℕ → List ℕ → A)
    (at_end : (n : ℕ) → walk n [] ≡ walk 0 [])
    (a_turn : (n m : ℕ) (bytes : List ℕ) → ((rest : List ℕ) → length rest < length bytes → walk n rest ≡ walk m rest) → walk (suc n) bytes ≡ walk (suc m) bytes) where
  pub turns_same : (n m : ℕ) (bytes : List ℕ) → length bytes ≤ n → length bytes ≤ m → walk n bytes ≡ walk m bytes
  turns_same zero m [] a b = sym (at_end m)
  turns_same zero m (x ∷ bytes) a b = absurd (omega arith)
  turns_same (suc n) zero [] a b = at_end (suc n)
  turns_same (suc n) zero (x ∷ bytes) a b = absurd (omega arith)
  turns_same (suc n) (suc m) bytes a b = a_turn n m bytes (λ rest h. turns_same n m rest (omega arith) (omega arith))

-- by length
module _ (P : List ℕ → Type 0) (go : (bytes : List ℕ) → ((rest : List ℕ) → length rest < length bytes → P rest) → P bytes) where
  up_to_length : (n : ℕ) (bytes : List ℕ) → length bytes ≤ n → P bytes
  up_to_length zero bytes h = go bytes (λ rest l. absurd (omega arith))
  up_to_length (suc n) bytes h = go bytes (λ rest l. up_to_length n rest (omega arith))

  pub by_length : (bytes : List ℕ) → P bytes
  by_length bytes = up_to_length (length bytes) bytes (le_refl (length bytes))
