-- A name among others: two names are the same exactly where they are equal, and a name is on a list exactly where it stands at some index.
-- Assumes nothing.
use mathlib.Core.Path.{◌≡◌, refl, sym, ap, ◌∙◌}
use mathlib.Core.Bool.{Bool, true, false, false≢true, true≢false, or_assoc, ◌&&◌, ◌||◌}
use mathlib.Core.List.{List, [], ◌∷◌, ◌++◌}
use Prim.Native.Nat.{ℕ, zero, suc, ◌<◌}
use native.Mathlib.Omega.{arith}
use lib.Dec.{eqb}
use lib.ListN.{length, get_or, take}
use lib.Pointwise.{pointwise}
use Rattle.std.specs.List.{list_all, zip}
use Rattle.std.proofs.lemmas.List.{length-take, take_min}
use borrow.Author.Tests.{eq-eqb, eqb-true}
use Rattle.common.specs.Refusals.{Exactly}
use Rattle.common.proofs.Laws.Booleans.{and_l, and_r, and_i, or_imp, or_true}
use Rattle.common.proofs.Laws.Choice.{cases}
use Rattle.names.specs.Search.{same_bytes, is_on}

-- ---- the same bytes

-- as `==` of two slices tells it
pub same_pointwise : (xs ys : List ℕ) → pointwise eqb xs ys ≡ same_bytes xs ys
unfolding same_bytes
same_pointwise [] [] = refl
same_pointwise [] (y ∷ ys) = refl
same_pointwise (x ∷ xs) [] = refl
same_pointwise (x ∷ xs) (y ∷ ys) = ap (λ (t : Bool). eqb x y && t) (same_pointwise xs ys)

-- and by a search among the places of both, once they are known to be as long
pub same_zip : (xs ys : List ℕ) → length xs ≡ length ys → list_all (λ p. eqb p.0 p.1) (zip xs ys) ≡ same_bytes xs ys
unfolding same_bytes
same_zip [] [] e = refl
same_zip [] (y ∷ ys) e = absurd (omega (arith, e))
same_zip (x ∷ xs) [] e = absurd (omega (arith, e))
same_zip (x ∷ xs) (y ∷ ys) e = ap (λ (t : Bool). eqb x y && t) (same_zip xs ys (omega (arith, e)))

pub same_refl : (xs : List ℕ) → same_bytes xs xs ≡ true
unfolding same_bytes
same_refl [] = refl
same_refl (x ∷ xs) = and_i (eq-eqb x x refl) (same_refl xs)

same_equal : (xs ys : List ℕ) → same_bytes xs ys ≡ true → xs ≡ ys
unfolding same_bytes
same_equal [] [] e = refl
same_equal [] (y ∷ ys) e = absurd (false≢true e)
same_equal (x ∷ xs) [] e = absurd (false≢true e)
same_equal (x ∷ xs) (y ∷ ys) e =
    rw (eqb-true x y (and_l (eqb x y) (same_bytes xs ys) e), same_equal xs ys (and_r (eqb x y) (same_bytes xs ys) e)) refl

pub same_exactly : (xs ys : List ℕ) → Exactly (same_bytes xs ys ≡ true) (xs ≡ ys)
same_exactly xs ys = record { when = same_equal xs ys; only_when = λ e. rw e (same_refl ys) }

-- and not, exactly where they differ
pub differ_exactly : (xs ys : List ℕ) → Exactly (same_bytes xs ys ≡ false) (xs ≡ ys → ⊥)
differ_exactly xs ys = record {
  when = λ f e. true≢false (sym ((same_exactly xs ys).only_when e) ∙ f);
  only_when = λ h. cases (same_bytes xs ys) (λ t. absurd (h (same_equal xs ys t))) (λ f. f);
}

-- and where their fronts do
pub differ_front : (n : ℕ) (xs ys : List ℕ) → pointwise eqb (take n xs) (take (length (take n xs)) ys) ≡ false → false ≡ same_bytes xs ys
differ_front n xs ys f =
    sym ((differ_exactly xs ys).only_when
    (λ e. true≢false (sym (ap (pointwise eqb (take n xs)) (ap (take (length (take n xs))) (sym e) ∙ rw (length-take n xs) (take_min n xs)) ∙ same_pointwise (take n xs) (take n xs) ∙ same_refl (take n xs)) ∙ f)))

pub same_sym : (xs ys : List ℕ) → same_bytes xs ys ≡ same_bytes ys xs
same_sym xs ys =
    cases (same_bytes ys xs)
    (λ t. (same_exactly xs ys).only_when (sym ((same_exactly ys xs).when t)) ∙ sym t)
    (λ f. (differ_exactly xs ys).only_when (λ e. (differ_exactly ys xs).when f (sym e)) ∙ sym f)

module _ (xs ys : List ℕ) where
  -- of other lengths they differ
  pub differ_long : (length xs ≡ length ys → ⊥) → false ≡ same_bytes xs ys
  differ_long h = sym ((differ_exactly xs ys).only_when (λ e. h (ap length e)))

  -- and where a byte does
  pub differ_at : (i : ℕ) → (get_or xs i 0 ≡ get_or ys i 0 → ⊥) → false ≡ same_bytes xs ys
  differ_at i h = sym ((differ_exactly xs ys).only_when (λ e. h (ap (λ (l : List ℕ). get_or l i 0) e)))

-- ---- a name on a list

-- it stands at some index
pub record Stands (name : List ℕ) (names : List (List ℕ)) : Type 0 where
  pub index : ℕ
  pub inside : index < length names
  pub there : get_or names index [] ≡ name

pub on_none : (name : List ℕ) → is_on name [] ≡ false
unfolding is_on
on_none name = refl

pub on_first : (name first : List ℕ) (others : List (List ℕ)) → is_on name (first ∷ others) ≡ (same_bytes name first || is_on name others)
unfolding is_on
on_first name first others = refl

pub on_append : (name : List ℕ) (xs ys : List (List ℕ)) → is_on name (xs ++ ys) ≡ (is_on name xs || is_on name ys)
unfolding is_on
on_append name [] ys = refl
on_append name (x ∷ xs) ys =
    ap (λ (t : Bool). same_bytes name x || t) (on_append name xs ys) ∙ sym (or_assoc (same_bytes name x) (is_on name xs) (is_on name ys))

on_at : (name : List ℕ) (names : List (List ℕ)) (i : ℕ) → i < length names → get_or names i [] ≡ name → is_on name names ≡ true
unfolding is_on
on_at name [] i h e = absurd (omega arith)
on_at name (first ∷ others) zero h e = rw ((same_exactly name first).only_when (sym e)) refl
on_at name (first ∷ others) (suc i) h e = rw (on_at name others i (omega arith) e) (or_true (same_bytes name first))

stands : (name : List ℕ) (names : List (List ℕ)) → is_on name names ≡ true → Stands name names
unfolding is_on
stands name [] e = absurd (false≢true e)
stands name (first ∷ others) e =
    cases (same_bytes name first)
    (λ t. record { index = 0; inside = omega arith; there = sym ((same_exactly name first).when t) })
    (λ f. let s = stands name others (or_imp (same_bytes name first) (is_on name others) e f) in
    record { index = suc s.index; inside = omega (arith, s.inside); there = s.there })

pub on_exactly : (name : List ℕ) (names : List (List ℕ)) → Exactly (is_on name names ≡ true) (Stands name names)
on_exactly name names = record { when = stands name names; only_when = λ s. on_at name names s.index s.inside s.there }
