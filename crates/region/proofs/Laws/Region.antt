-- The laws of a region: `wanted_at`, `changes` and `rises` inside it and outside, at its i-th byte, and `any_of` one address at a time.
-- Assumes nothing.
use mathlib.Core.Path.{◌≡◌, refl, sym, ap, ◌∙◌}
use mathlib.Core.Bool.{Bool, true, false, not, ◌||◌}
use mathlib.Core.List.{List, [], ◌∷◌}
use mathlib.Core.Logic.{⊎_elim}
use Rattle.common.proofs.Laws.Lists.{split}
use Rattle.std.proofs.lemmas.Grind.{get_or_default_zero}
use Prim.Native.Nat.{ℕ, zero, suc, ◌+◌, ◌-◌, ◌≤◌, ◌<◌}
use native.Mathlib.Nat.{add-zero}
use native.Mathlib.Omega.{arith}
use lib.Bits.{bit_and}
use lib.Dec.{eqb}
use lib.ListN.{length, get_or, take, drop, length-drop, get_or-eq_default}
use lib.Seq.{get_or-take, get_or-drop, length-take-le}
use lib.Pointwise.{pointwise}
use Rattle.std.specs.List.{list_any, zip}
use borrow.Author.Tests.{eqb-true, eqb-false, not-true, not-false}
use Rattle.common.specs.Lists.{within}
use Rattle.common.proofs.Laws.Choice.{cases}
use Rattle.common.proofs.Laws.Booleans.{and_l, and_r, and_off, and_none, or_none_l, or_none_r}
use Rattle.common.proofs.Laws.Places.{within_bounds, within_yes, within_below, within_above}
use Rattle.region.specs.Region.{wanted_at, changes, rises, any_of, wants_rise}

-- ---- an address and the region

module _ (start : ℕ) (wanted : List ℕ) (address : ℕ) where
  pub wanted_in : within start (length wanted) address ≡ true → wanted_at start wanted address ≡ get_or wanted (address - start) 0
  unfolding wanted_at
  wanted_in e = rw e refl

  pub wanted_out : within start (length wanted) address ≡ false → wanted_at start wanted address ≡ 255
  unfolding wanted_at
  wanted_out e = rw e refl

  pub wanted_inside : start ≤ address → address - start < length wanted → wanted_at start wanted address ≡ get_or wanted (address - start) 0
  wanted_inside h l = wanted_in (within_yes start (length wanted) address h (omega arith))

  -- from the region's start on: the byte there, and FF where there is none
  pub wanted_got : start ≤ address → get_or wanted (address - start) 255 ≡ wanted_at start wanted address
  wanted_got h =
      ⊎_elim
      (λ l. get_or_default_zero wanted (address - start) 255 l ∙ sym (wanted_inside h l))
      (λ ge. get_or-eq_default wanted 255 {n = address - start} ge ∙ sym (wanted_out (within_above start (length wanted) address (omega (arith, ge)))))
      (split (address - start) (length wanted))

module _ (array : List ℕ) (start : ℕ) (wanted : List ℕ) (address : ℕ) where
  pub change_in_region : changes array start wanted address ≡ true → within start (length wanted) address ≡ true
  unfolding changes
  change_in_region e = and_l (within start (length wanted) address) _ e

  -- a byte that changes is not as wanted, and one of the region that does not is
  pub change_differs : changes array start wanted address ≡ true → get_or array address 0 ≡ wanted_at start wanted address → ⊥
  unfolding changes
  change_differs e q =
      eqb-false (get_or array address 0) (wanted_at start wanted address)
      (not-true (eqb (get_or array address 0) (wanted_at start wanted address)) (and_r (within start (length wanted) address) _ e)) q

  pub no_change_as_wanted : within start (length wanted) address ≡ true → changes array start wanted address ≡ false
      → get_or array address 0 ≡ wanted_at start wanted address
  unfolding changes
  no_change_as_wanted i e =
      eqb-true (get_or array address 0) (wanted_at start wanted address)
      (not-false (eqb (get_or array address 0) (wanted_at start wanted address)) (and_off (within start (length wanted) address) _ e i))

  pub no_change_outside : within start (length wanted) address ≡ false → changes array start wanted address ≡ false
  unfolding changes
  no_change_outside e = and_none (within start (length wanted) address) _ e

  pub changes_before : address < start → changes array start wanted address ≡ false
  changes_before h = no_change_outside (within_below start (length wanted) address h)

  pub changes_behind : start + length wanted ≤ address → changes array start wanted address ≡ false
  changes_behind h = no_change_outside (within_above start (length wanted) address h)

  pub changes_inside : start ≤ address → address - start < length wanted
      → changes array start wanted address ≡ not (eqb (get_or array address 0) (get_or wanted (address - start) 0))
  unfolding changes
  changes_inside h l = rw (within_yes start (length wanted) address h (omega arith), wanted_inside start wanted address h l) refl

  pub rises_inside : start ≤ address → address - start < length wanted
      → rises array start wanted address ≡ not (eqb (bit_and (get_or array address 0) (get_or wanted (address - start) 0)) (get_or wanted (address - start) 0))
  unfolding rises
  rises_inside h l = rw (wanted_inside start wanted address h l) refl

-- the i-th byte of the region
module _ (array : List ℕ) (start : ℕ) (wanted : List ℕ) (i : ℕ) (h : i < length wanted) where
  here : start + i - start ≡ i
  here = omega arith

  pub changes_at : changes array start wanted (start + i) ≡ not (eqb (get_or array (start + i) 0) (get_or wanted i 0))
  changes_at = rw here at (changes_inside array start wanted (start + i) (omega arith) (omega arith))

  pub rises_at : rises array start wanted (start + i) ≡ not (eqb (bit_and (get_or array (start + i) 0) (get_or wanted i 0)) (get_or wanted i 0))
  rises_at = rw here at (rises_inside array start wanted (start + i) (omega arith) (omega arith))

-- what rises is said by what ANDing leaves
pub rises_same : (now array : List ℕ) (start : ℕ) (wanted : List ℕ) (address : ℕ)
    → bit_and (get_or now address 0) (wanted_at start wanted address) ≡ bit_and (get_or array address 0) (wanted_at start wanted address)
    → rises now start wanted address ≡ rises array start wanted address
unfolding rises
rises_same now array start wanted address e = rw e refl

-- ---- one of some addresses

pub any_false : (test : ℕ → Bool) (n a address : ℕ) → any_of test n a ≡ false → a ≤ address → address < a + n → test address ≡ false
unfolding any_of
any_false test zero a address e h l = absurd (omega arith)
any_false test (suc n) a address e h l =
    cases (eqb a address)
    (λ i. ap test (sym (eqb-true a address i)) ∙ or_none_l (test a) (any_of test n (suc a)) e)
    (λ i. any_false test n (suc a) address (or_none_r (test a) (any_of test n (suc a)) e) (omega (arith, eqb-false a address i)) (omega arith))

pub any_none : (test : ℕ → Bool) (n a : ℕ) → ((address : ℕ) → a ≤ address → address < a + n → test address ≡ false) → any_of test n a ≡ false
unfolding any_of
any_none test zero a h = refl
any_none test (suc n) a h =
    rw (h a (omega arith) (omega arith)) (any_none test n (suc a) (λ address i j. h address (omega arith) (omega arith)))

-- a search over n addresses from a on, at its turn i: the address passes, or it does not, or there is none left
module _ (test : ℕ → Bool) (n i a : ℕ) where
  pub any_found : i < n → test (a + i) ≡ true → any_of test (n - i) (a + i) ≡ true
  unfolding any_of
  any_found h e = let more : n - i ≡ suc (n - (i + 1)) = omega arith in rw (more, e) refl

  pub any_turn : i < n → test (a + i) ≡ false → any_of test (n - i) (a + i) ≡ any_of test (n - (i + 1)) (a + (i + 1))
  unfolding any_of
  any_turn h e =
      let more : n - i ≡ suc (n - (i + 1)) = omega arith in
      let next : suc (a + i) ≡ a + (i + 1) = omega arith in
      rw (more, e) (ap (any_of test (n - (i + 1))) next)

  pub any_end : n ≤ i → any_of test (n - i) (a + i) ≡ false
  unfolding any_of
  any_end h = let none : n - i ≡ 0 = omega arith in rw none refl

-- a search through pairs, and through n addresses from a on, by what their places have
pub any_pair : (test : ℕ × ℕ → Bool) (d : ℕ → Bool) (old new : List ℕ) (a : ℕ) → length old ≡ length new
    → ((i : ℕ) → i < length new → d (a + i) ≡ test (get_or old i 0, get_or new i 0)) → list_any test (zip old new) ≡ any_of d (length new) a
unfolding any_of
any_pair test d [] [] a e h = refl
any_pair test d [] (y ∷ new) a e h = absurd (omega arith)
any_pair test d (x ∷ old) [] a e h = absurd (omega arith)
any_pair test d (x ∷ old) (y ∷ new) a e h =
    let here : d a ≡ test (x, y) = rw add-zero at (h 0 (omega arith)) in
    rw here (ap (λ t. test (x, y) || t) (any_pair test d old new (suc a) (omega arith) (λ i l. let next : suc a + i ≡ a + suc i = omega arith in ap d next ∙ h (suc i) (omega arith))))

pub differ_pair : (d : ℕ → Bool) (old new : List ℕ) (a : ℕ) → length old ≡ length new
    → ((i : ℕ) → i < length new → d (a + i) ≡ not (eqb (get_or old i 0) (get_or new i 0))) → not (pointwise eqb old new) ≡ any_of d (length new) a
unfolding any_of
differ_pair d [] [] a e h = refl
differ_pair d [] (y ∷ new) a e h = absurd (omega arith)
differ_pair d (x ∷ old) [] a e h = absurd (omega arith)
differ_pair d (x ∷ old) (y ∷ new) a e h =
    let here : d a ≡ not (eqb x y) = rw add-zero at (h 0 (omega arith)) in
    let rest = differ_pair d old new (suc a) (omega arith) (λ i l. let next : suc a + i ≡ a + suc i = omega arith in ap d next ∙ h (suc i) (omega arith)) in
    cases (eqb x y) (λ t. rw (here, t) rest) (λ f. rw (here, f) refl)

-- those before that do not pass may be left out
pub any_skip : (test : ℕ → Bool) (m n a : ℕ) → ((k : ℕ) → a ≤ k → k < a + m → test k ≡ false) → any_of test (m + n) a ≡ any_of test n (a + m)
unfolding any_of
any_skip test zero n a h = let e : zero + n ≡ n = omega arith in let f : a + zero ≡ a = omega arith in rw (e, f) refl
any_skip test (suc m) n a h =
    let e : suc m + n ≡ suc (m + n) = omega arith in
    let f : a + suc m ≡ suc a + m = omega arith in
    rw (e, f, h a (omega arith) (omega arith)) (any_skip test m n (suc a) (λ k i l. h k (omega arith) (omega arith)))

-- a byte of a part
pub slice_at : (xs : List ℕ) (start n i : ℕ) → i < n → get_or (take n (drop start xs)) i 0 ≡ get_or xs (start + i) 0
slice_at xs start n i h = get_or-take n (drop start xs) i 0 h ∙ get_or-drop start xs i 0

-- "a wanted 1 where the array has 0": the pairs of what the array has and what is wanted say it
pub rises_pairs : (array : List ℕ) (start : ℕ) (wanted : List ℕ) (n : ℕ) → n ≡ length wanted → start + length wanted ≤ length array
    → list_any (λ p. not (eqb (bit_and p.0 p.1) p.1)) (zip (take n (drop start array)) wanted) ≡ wants_rise array start wanted
unfolding wants_rise
rises_pairs array start wanted n e h =
    any_pair (λ p. not (eqb (bit_and p.0 p.1) p.1)) (rises array start wanted) (take n (drop start array)) wanted start
    (length-take-le n (drop start array) (omega (arith, length-drop start array)) ∙ e)
    (λ i l. rises_at array start wanted i l ∙ sym (ap (λ x. not (eqb (bit_and x (get_or wanted i 0)) (get_or wanted i 0))) (slice_at array start n i (omega arith))))

-- "a wanted 1 where the array has 0": there is none
pub nothing_rises : (array : List ℕ) (start : ℕ) (wanted : List ℕ) → wants_rise array start wanted ≡ false
    → (address : ℕ) → within start (length wanted) address ≡ true
    → bit_and (get_or array address 0) (wanted_at start wanted address) ≡ wanted_at start wanted address
unfolding rises wants_rise
nothing_rises array start wanted e address i =
    let b = within_bounds start (length wanted) address i in
    eqb-true _ _
    (not-false (eqb (bit_and (get_or array address 0) (wanted_at start wanted address)) (wanted_at start wanted address))
    (any_false (rises array start wanted) (length wanted) start address e b.0 b.1))

pub wants_none : (array : List ℕ) (start : ℕ) (wanted : List ℕ)
    → ((address : ℕ) → start ≤ address → address < start + length wanted → rises array start wanted address ≡ false) → wants_rise array start wanted ≡ false
unfolding wants_rise
wants_none array start wanted h = any_none (rises array start wanted) (length wanted) start h

-- there is still none, where what ANDing leaves is the same
pub wants_rise_same : (now array : List ℕ) (start : ℕ) (wanted : List ℕ)
    → ((address : ℕ) → start ≤ address → address < start + length wanted
    → bit_and (get_or now address 0) (wanted_at start wanted address) ≡ bit_and (get_or array address 0) (wanted_at start wanted address))
    → wants_rise array start wanted ≡ false → wants_rise now start wanted ≡ false
unfolding wants_rise
wants_rise_same now array start wanted same falls =
    wants_none now start wanted
    (λ k h l. rises_same now array start wanted k (same k h l) ∙ any_false (rises array start wanted) (length wanted) start k falls h l)
