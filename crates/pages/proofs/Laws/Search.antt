-- A search for the first and for the last changing address of some, by `find` and by `rfind`.
-- Assumes nothing.
use mathlib.Core.Path.{◌≡◌, refl, sym, ap, subst, ◌∙◌}
use mathlib.Core.Bool.{Bool, true, false}
use mathlib.Core.List.{List, [], ◌∷◌}
use Prim.Native.Nat.{ℕ, zero, suc, ◌+◌, ◌-◌, ◌≤◌, ◌<◌}
use native.Mathlib.Omega.{arith}
use lib.ListN.{length, get_or}
use denote.Param.Members.{Mut}
use denote.Ref.{Bor}
use Rattle.std.specs.Bool.{⊤}
use Rattle.std.specs.Fn.{CalledAt}
use Rattle.std.specs.Iterator.{YieldsThen}
use Rattle.std.specs.List.{FoldsTo, AllWithin, HoldsAt}
use Rattle.std.specs.Option.{MatchOption}
use Rattle.std.specs.Prelude.{Option, None, Some, unwrap_or}
use Rattle.std.specs.declared.ops.Range.{Range}
use Rattle.std.proofs.lemmas.Iterator.{YieldsList, first_from_find}
use Rattle.std.proofs.lemmas.Iterator.Consumers.{YieldsList-from_shown}
use Rattle.pages.specs.Parts.{First, Behind}

-- ---- n addresses from one on, the last first

abbrev down : ℕ → ℕ → List ℕ
down a zero = []
down a (suc n) = (a + n) ∷ down a n

length_down : (a n : ℕ) → length (down a n) ≡ n
length_down a zero = refl
length_down a (suc n) = ap suc (length_down a n)

down_at : (a n i d : ℕ) → i < n → get_or (down a n) i d + i + 1 ≡ a + n
down_at a zero i d h = absurd (omega arith)
down_at a (suc n) zero d h = omega arith
down_at a (suc n) (suc i) d h = omega (arith, down_at a n i d (omega arith))

counted_down : (a n b m x : ℕ) → n ≡ suc m → x ≡ a + m → b ≡ a → down a n ≡ x ∷ down b m
counted_down a n b m x e f g = ap (down a) e ∙ ap {B = List ℕ} (λ w. w ∷ down a m) (sym f) ∙ ap {B = List ℕ} (λ w. x ∷ down w m) (sym g)

abbrev pub back_steps : Range ℕ → Option ℕ → Range ℕ → Type 0
back_steps s r t = (t.start ≡ s.start) × MatchOption r ((s.end - s.start ≡ 0) × (t.end ≡ s.end)) (λ x. (0 < s.end - s.start) × (x ≡ t.end) × (s.end ≡ t.end + 1))

yields_down : (s : Range ℕ) → YieldsList back_steps (λ x. x) s (down s.start (s.end - s.start))
yields_down = YieldsList-from_shown back_steps (λ x. x) (λ s. down s.start (s.end - s.start))
    (λ s t p. length_down s.start (s.end - s.start) ∙ p.1.0)
    (λ s x t p. counted_down s.start (s.end - s.start) t.start (t.end - t.start) x (omega (arith, p.0, p.1.0, p.1.2)) (omega (arith, p.0, p.1.0, p.1.1, p.1.2)) p.0)

-- `rfind` over a range, said of the numbers in it
pub last_from_range : {F : Type 0} {g : Mut F (Bor ℕ × Unit {0}) Bool} (s u : Range ℕ) (f : F) (r : Option ℕ) (Yes No : ℕ → Type 0)
    → (xs : List ℕ) × (j : F) × YieldsThen back_steps s xs r u × FoldsTo (λ p x q. CalledAt g p x false q) f xs j × MatchOption r ⊤ (λ x. (h : F) × CalledAt g j x true h)
    → ((x : ℕ) (q : F) → CalledAt g f x true q → Yes x) → ((x : ℕ) (q : F) → CalledAt g f x false q → (q ≡ f) × No x)
    → MatchOption r ((k : ℕ) → s.start ≤ k → k < s.end → No k) (λ i. (s.start ≤ i) × (i < s.end) × Yes i × ((k : ℕ) → i < k → k < s.end → No k))
last_from_range s u f r Yes No d yes' no' = by r (first_from_find u f r Yes No d (yields_down s) yes' no')
  where
    all : List ℕ
    all = down s.start (s.end - s.start)

    long : length all ≡ s.end - s.start
    long = length_down s.start (s.end - s.start)

    above : (n : ℕ) → n ≤ s.end - s.start → AllWithin No all 0 n → (k : ℕ) → s.end ≤ k + n → k < s.end → No k
    above n l h k a b =
        subst No {x = get_or all (s.end - 1 - k) 0} {y = k} (omega (arith, down_at s.start (s.end - s.start) (s.end - 1 - k) 0 (omega arith)))
        (h (s.end - 1 - k) 0 (omega arith) (omega arith))

    by : (o : Option ℕ) → MatchOption o (AllWithin No all 0 (length all)) (λ x. Yes x × (i : ℕ) × (i < length all) × HoldsAt (λ y. y ≡ x) all i × AllWithin No all 0 i)
        → MatchOption o ((k : ℕ) → s.start ≤ k → k < s.end → No k) (λ i. (s.start ≤ i) × (i < s.end) × Yes i × ((k : ℕ) → i < k → k < s.end → No k))
    by None h = λ k a b. above (length all) (omega (arith, long)) h k (omega (arith, long)) b
    by (Some x) h =
        let i : h.1 < s.end - s.start = omega (arith, long, h.2) in
        let at : x + h.1 + 1 ≡ s.end = omega (arith, h.3 0, down_at s.start (s.end - s.start) h.1 0 i) in
        (omega arith, omega arith, h.0, λ k a b. above h.1 (omega arith) h.4 k (omega arith) b)

-- ---- what is found

module _ (d : ℕ → Bool) (from to : ℕ) (h : from ≤ to) where
  pub first_found : (r : Option ℕ) (result : ℕ) → result ≡ unwrap_or r to
      → MatchOption r ((k : ℕ) → from ≤ k → k < to → d k ≡ false) (λ i. (from ≤ i) × (i < to) × (d i ≡ true) × ((k : ℕ) → from ≤ k → k < i → d k ≡ false))
      → First d from to result
  first_found None result e f = record { low = omega arith; high = omega arith; before = λ k i l. f k i (omega arith); here = λ l. absurd (omega arith) }
  first_found (Some i) result e f =
      record { low = omega (arith, f.0); high = omega (arith, f.1); before = λ k p l. f.3 k p (omega arith); here = λ _. ap d e ∙ f.2 }

  pub behind_found : (r : Option ℕ) (result : ℕ) → MatchOption r (result ≡ from) (λ i. result ≡ i + 1)
      → MatchOption r ((k : ℕ) → from ≤ k → k < to → d k ≡ false) (λ i. (from ≤ i) × (i < to) × (d i ≡ true) × ((k : ℕ) → i < k → k < to → d k ≡ false))
      → Behind d from to result
  behind_found None result e f = record { low = omega arith; high = omega arith; after = λ k i l. f k (omega arith) l; here = λ l. absurd (omega arith) }
  behind_found (Some i) result e f =
      let last : result - 1 ≡ i = omega arith in
      record { low = omega (arith, f.0); high = omega (arith, f.1); after = λ k p l. f.3 k (omega arith) l; here = λ _. ap d last ∙ f.2 }
