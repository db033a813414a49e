-- The laws of `within` and `count_below`: which places are meant, and how many of them lie below one. A search below a place.
-- Assumes nothing.
use mathlib.Core.Path.{◌≡◌, refl, ap, ◌∙◌}
use mathlib.Core.Bool.{Bool, true, false, cond}
use mathlib.Core.List.{List}
use mathlib.Core.Logic.{⊎_elim, ◌⊎◌, inl, inr}
use Prim.Native.Nat.{ℕ, zero, suc, ◌+◌, ◌-◌, ◌≤◌, ◌<◌, min}
use native.Mathlib.Nat.{add-zero, add-suc, eq-or-lt_of_le, le_of_suc-le-suc}
use native.Mathlib.Numerals.{add-one}
use native.Mathlib.Omega.{arith}
use lib.Arith.{le-zero}
use lib.Dec.{leb, ltb}
use borrow.Author.Tests.{leb-true, ltb-true, le-leb, lt-leb, lt-ltb, le-ltb}
use Rattle.common.specs.Lists.{mapi, on_run, count_below, within}
use Rattle.common.proofs.Laws.Booleans.{and_l, and_r, and_i}
use Rattle.common.proofs.Laws.Choice.{cases}
use Rattle.common.proofs.Laws.Lists.{split}

-- ---- the n places from a on

module _ (a n k : ℕ) where
  pub within_bounds : within a n k ≡ true → (a ≤ k) × (k < a + n)
  unfolding within
  within_bounds e = (leb-true a k (and_l (leb a k) (ltb k (a + n)) e), ltb-true k (a + n) (and_r (leb a k) (ltb k (a + n)) e))

  pub within_yes : a ≤ k → k < a + n → within a n k ≡ true
  unfolding within
  within_yes h l = and_i (le-leb a k h) (lt-ltb k (a + n) l)

  pub within_below : k < a → within a n k ≡ false
  unfolding within
  within_below h = rw (lt-leb a k h) refl

  pub within_above : a + n ≤ k → within a n k ≡ false
  unfolding within
  within_above h = rw (le-leb a k (omega arith), le-ltb k (a + n) h) refl

-- a run of n places from a on
pub run_within : (a n : ℕ) (f : ℕ → ℕ → ℕ) (l : List ℕ) → mapi (on_run a (a + n) f) l ≡ mapi (λ k x. cond (within a n k) (f k x) x) l
unfolding within
run_within a n f l = refl

-- ---- counting

-- one number further
pub count_turn : (test : ℕ → Bool) (k : ℕ) → count_below test (k + 1) ≡ count_below test k + cond (test k) 1 0
unfolding count_below
count_turn test k = rw (add-one k) refl

-- no number below k passes
pub count_none : (test : ℕ → Bool) (k : ℕ) → ((i : ℕ) → i < k → test i ≡ false) → count_below test k ≡ 0
unfolding count_below
count_none test zero h = refl
count_none test (suc k) h = rw (count_none test k (λ i b. h i (omega arith)), h k (omega arith)) refl

-- two tests that agree below k
pub count_cong : (s t : ℕ → Bool) (k : ℕ) → ((i : ℕ) → i < k → s i ≡ t i) → count_below s k ≡ count_below t k
unfolding count_below
count_cong s t zero h = refl
count_cong s t (suc k) h = rw (count_cong s t k (λ i b. h i (omega arith)), h k (omega arith)) refl

-- the numbers below j, and the k from j on
pub count_add : (test : ℕ → Bool) (j k : ℕ) → count_below test (j + k) ≡ count_below test j + count_below (λ i. test (j + i)) k
unfolding count_below
count_add test j zero = ap (count_below test) (add-zero j) ∙ omega arith
count_add test j (suc k) = ap (count_below test) (add-suc j k) ∙ omega (arith, count_add test j k)

-- the number 0, and those behind it
pub count_first : (test : ℕ → Bool) (k : ℕ) → count_below test (suc k) ≡ cond (test 0) 1 0 + count_below (λ i. test (suc i)) k
unfolding count_below
count_first test zero = omega arith
count_first test (suc k) = omega (arith, count_first test k)

-- what counts in one of two tests counts once
pub count_sum : (test s t : ℕ → Bool) → ((k : ℕ) → cond (test k) 1 0 ≡ cond (s k) 1 0 + cond (t k) 1 0)
    → (k : ℕ) → count_below test k ≡ count_below s k + count_below t k
unfolding count_below
count_sum test s t one zero = refl
count_sum test s t one (suc k) = omega (arith, count_sum test s t one k, one k)

pub count_le_count : (test : ℕ → Bool) (j k : ℕ) → j ≤ k → count_below test j ≤ count_below test k
unfolding count_below
count_le_count test j zero h = rw (le-zero h) (omega arith)
count_le_count test j (suc k) h =
    ⊎_elim (λ e. rw e (omega arith)) (λ l. omega (arith, count_le_count test j k (le_of_suc-le-suc l))) (eq-or-lt_of_le h)

pub count_within : (a n k : ℕ) → count_below (within a n) k ≡ min (k - a) n
unfolding count_below
count_within a n zero = omega arith
count_within a n (suc k) =
    let e = count_within a n k in
    ⊎_elim (λ l. rw (within_below a n k l) (omega arith))
    (λ g. ⊎_elim (λ l. rw (within_yes a n k g l) (omega arith)) (λ l. rw (within_above a n k l) (omega arith)) (split k (a + n))) (split k a)

-- ---- a search: some number below k passes the test, or none does

pub record Passing (test : ℕ → Bool) (k : ℕ) : Type 0 where
  pub place : ℕ
  pub below : place < k
  pub passes : test place ≡ true

pub some_passes : (test : ℕ → Bool) (k : ℕ) → Passing test k ⊎ ((i : ℕ) → i < k → test i ≡ false)
some_passes test zero = inr (λ i h. absurd (omega arith))
some_passes test (suc k) = ⊎_elim (λ p. inl record { place = p.place; below = omega (arith, p.below); passes = p.passes }) (λ none. at none) (some_passes test k)
  where
    at : ((i : ℕ) → i < k → test i ≡ false) → Passing test (suc k) ⊎ ((i : ℕ) → i < suc k → test i ≡ false)
    at none =
        cases (test k) (λ t. inl record { place = k; below = omega arith; passes = t })
        (λ t. inr (λ i h. ⊎_elim (λ l. none i l) (λ g. let e : i ≡ k = omega arith in rw e t) (split i k)))
