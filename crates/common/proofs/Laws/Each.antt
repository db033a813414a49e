-- The laws of `Each`: at a place, and of lists one after another.
-- Assumes nothing.
use mathlib.Core.List.{List, [], ◌∷◌, ◌++◌}
use Prim.Native.Nat.{ℕ, zero, suc, ◌<◌}
use native.Mathlib.Omega.{arith}
use lib.ListN.{length, get_or}
use Rattle.common.specs.Lists.{Each}

module _ {A : Type 0} (P : A → Type 0) where
  pub each_at : (xs : List A) (i : ℕ) (d : A) → Each P xs → i < length xs → P (get_or xs i d)
  each_at [] i d e h = absurd (omega arith)
  each_at (x ∷ xs) zero d e h = e.0
  each_at (x ∷ xs) (suc i) d e h = each_at xs i d e.1 (omega arith)

  pub each_append : (xs ys : List A) → Each P xs → Each P ys → Each P (xs ++ ys)
  each_append [] ys p q = q
  each_append (x ∷ xs) ys p q = (p.0, each_append xs ys p.1 q)

  pub each_left : (xs ys : List A) → Each P (xs ++ ys) → Each P xs
  each_left [] ys p = tt
  each_left (x ∷ xs) ys p = (p.0, each_left xs ys p.1)

  pub each_right : (xs ys : List A) → Each P (xs ++ ys) → Each P ys
  each_right [] ys p = p
  each_right (x ∷ xs) ys p = each_right xs ys p.1
