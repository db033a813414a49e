-- The first and the last changing address of some: what `before_first` and `through_last` say of every address, and that looking at every address finds them.
-- Names: `first-` or `last-`, then the claim.
-- Assumes nothing.
use mathlib.Core.Path.{◌≡◌, refl, sym, ap, ◌∙◌}
use mathlib.Core.Bool.{Bool, true, false, cond, true≢false}
use mathlib.Core.Logic.{⊎_elim}
use Prim.Native.Nat.{ℕ, zero, suc, ◌+◌, ◌-◌, ◌≤◌, ◌<◌}
use native.Mathlib.Nat.{not-suc-le-zero}
use native.Mathlib.Omega.{arith}
use lib.Dec.{eqb}
use borrow.Author.Tests.{lt-ltb, eqb-true, eqb-false}
use Rattle.common.proofs.Laws.Choice.{cases}
use Rattle.common.proofs.Laws.Lists.{split}
use Rattle.pages.specs.Pages.{before_first, through_last}

-- ---- one address further

module _ (d : ℕ → Bool) (n a : ℕ) where
  first_here : d a ≡ true → before_first d (suc n) a ≡ 0
  unfolding before_first
  first_here e = rw e refl

  first_on : d a ≡ false → before_first d (suc n) a ≡ suc (before_first d n (suc a))
  unfolding before_first
  first_on e = rw e refl

  last_on : 0 < through_last d n (suc a) → through_last d (suc n) a ≡ suc (through_last d n (suc a))
  unfolding through_last
  last_on h = rw (lt-ltb 0 (through_last d n (suc a)) h) refl

  last_here : through_last d n (suc a) ≡ 0 → through_last d (suc n) a ≡ cond (d a) 1 0
  unfolding through_last
  last_here z = rw z refl

-- ---- the first and the last

module _ (d : ℕ → Bool) where
  pub first_le : (n a : ℕ) → before_first d n a ≤ n
  unfolding before_first
  first_le zero a = omega arith
  first_le (suc n) a = cases (d a) (λ e. omega (arith, first_here d n a e)) (λ e. omega (arith, first_on d n a e, first_le n (suc a)))

  pub first_false : (n a k : ℕ) → a ≤ k → k < a + before_first d n a → d k ≡ false
  unfolding before_first
  first_false zero a k h l = absurd (omega arith)
  first_false (suc n) a k h l =
      cases (d a) (λ e. absurd (omega (arith, first_here d n a e)))
      (λ e. let z = first_on d n a e in
      cases (eqb a k) (λ i. ap d (sym (eqb-true a k i)) ∙ e) (λ i. first_false n (suc a) k (omega (arith, eqb-false a k i)) (omega arith)))

  pub first_true : (n a : ℕ) → before_first d n a < n → d (a + before_first d n a) ≡ true
  first_true zero a l = absurd (not-suc-le-zero l)
  first_true (suc n) a l =
      cases (d a) (λ e. let y : a + before_first d (suc n) a ≡ a = omega (arith, first_here d n a e) in ap d y ∙ e)
      (λ e. let z = first_on d n a e in
      let y : a + before_first d (suc n) a ≡ suc a + before_first d n (suc a) = omega arith in
      ap d y ∙ first_true n (suc a) (omega arith))

  last_split : {A : Type 0} (n a : ℕ) → (0 < through_last d n (suc a) → through_last d (suc n) a ≡ suc (through_last d n (suc a)) → A)
      → (through_last d n (suc a) ≡ 0 → d a ≡ true → through_last d (suc n) a ≡ 1 → A)
      → (through_last d n (suc a) ≡ 0 → d a ≡ false → through_last d (suc n) a ≡ 0 → A) → A
  last_split n a f g h =
      ⊎_elim (λ p. f p (last_on d n a p))
      (λ p. let z : through_last d n (suc a) ≡ 0 = omega arith in
      cases (d a) (λ e. g z e (last_here d n a z ∙ rw e refl)) (λ e. h z e (last_here d n a z ∙ rw e refl)))
      (split 0 (through_last d n (suc a)))

  pub last_le : (n a : ℕ) → through_last d n a ≤ n
  unfolding through_last
  last_le zero a = omega arith
  last_le (suc n) a = let i = last_le n (suc a) in last_split n a (λ p e. omega arith) (λ z t e. omega arith) (λ z t e. omega arith)

  pub last_false : (n a k : ℕ) → a + through_last d n a ≤ k → k < a + n → d k ≡ false
  unfolding through_last
  last_false zero a k h l = absurd (omega arith)
  last_false (suc n) a k h l =
      last_split n a (λ p e. last_false n (suc a) k (omega arith) (omega arith)) (λ z t e. last_false n (suc a) k (omega arith) (omega arith))
      (λ z t e. cases (eqb a k) (λ i. ap d (sym (eqb-true a k i)) ∙ t)
      (λ i. last_false n (suc a) k (omega (arith, eqb-false a k i)) (omega (arith, eqb-false a k i))))

  pub last_true : (n a : ℕ) → 0 < through_last d n a → d (a + through_last d n a - 1) ≡ true
  unfolding through_last
  last_true zero a h = absurd (omega arith)
  last_true (suc n) a h =
      last_split n a
      (λ p e. let y : a + through_last d (suc n) a - 1 ≡ suc a + through_last d n (suc a) - 1 = omega arith in ap d y ∙ last_true n (suc a) p)
      (λ z t e. let y : a + through_last d (suc n) a - 1 ≡ a = omega arith in ap d y ∙ t) (λ z t e. absurd (omega arith))

-- both at one address: it changes and does not
never : (d : ℕ → Bool) (k : ℕ) → d k ≡ true → d k ≡ false → ⊥
never d k p q = true≢false (sym p ∙ q)

-- what is found by looking at every address is the first, or the last
module _ (d : ℕ → Bool) (n a : ℕ) where
  pub first_is : (f : ℕ) → a ≤ f → f < a + n → d f ≡ true → ((k : ℕ) → a ≤ k → k < f → d k ≡ false) → a + before_first d n a ≡ f
  first_is f h l e b =
      ⊎_elim (λ p. absurd (never d (a + before_first d n a) (first_true d n a (omega arith)) (b (a + before_first d n a) (omega arith) p)))
      (λ p. ⊎_elim (λ q. absurd (never d f e (first_false d n a f h q))) (λ q. omega arith) (split f (a + before_first d n a)))
      (split (a + before_first d n a) f)

  pub last_is : (t : ℕ) → a < t → t ≤ a + n → d (t - 1) ≡ true → ((k : ℕ) → t ≤ k → k < a + n → d k ≡ false) → a + through_last d n a ≡ t
  last_is t h l e b =
      let m = last_le d n a in
      ⊎_elim (λ p. absurd (never d (t - 1) e (last_false d n a (t - 1) (omega arith) (omega arith))))
      (λ p. ⊎_elim
      (λ q. absurd (never d (a + through_last d n a - 1) (last_true d n a (omega arith)) (b (a + through_last d n a - 1) (omega arith) (omega arith))))
      (λ q. omega arith) (split t (a + through_last d n a)))
      (split (a + through_last d n a) t)

  pub last_none : ((k : ℕ) → a ≤ k → k < a + n → d k ≡ false) → through_last d n a ≡ 0
  last_none b =
      let m = last_le d n a in
      ⊎_elim
      (λ p. absurd (never d (a + through_last d n a - 1) (last_true d n a p) (b (a + through_last d n a - 1) (omega arith) (omega arith))))
      (λ p. omega arith) (split 0 (through_last d n a))

-- a search up or down: one address more that does not change
pub below_more : (d : ℕ → Bool) (from address : ℕ) → ((k : ℕ) → from ≤ k → k < address → d k ≡ false) → d address ≡ false
    → (k : ℕ) → from ≤ k → k < address + 1 → d k ≡ false
below_more d from address h e k i l =
    cases (eqb address k) (λ q. ap d (sym (eqb-true address k q)) ∙ e) (λ q. h k i (omega (arith, eqb-false address k q)))

pub above_more : (d : ℕ → Bool) (to address : ℕ) → ((k : ℕ) → address ≤ k → k < to → d k ≡ false) → d (address - 1) ≡ false
    → (k : ℕ) → address - 1 ≤ k → k < to → d k ≡ false
above_more d to address h e k i l =
    cases (eqb (address - 1) k) (λ q. ap d (sym (eqb-true (address - 1) k q)) ∙ e) (λ q. h k (omega (arith, eqb-false (address - 1) k q)) l)
