-- The mask has one byte for each touched address, by rising address: its length, and each address's place in it.
-- Assumes nothing.
use mathlib.Core.Path.{◌≡◌, refl, sym, ap₂, ◌∙◌}
use mathlib.Core.Bool.{Bool, true, false, cond}
use mathlib.Core.Logic.{⊎_elim}
use Prim.Native.Nat.{ℕ, ◌+◌, ◌-◌, ◌*◌, ◌/◌, ◌%◌, ◌≤◌, ◌<◌, min}
use native.Mathlib.Nat.{add-zero}
use native.Mathlib.Omega.{arith}
use lib.Dec.{ltb, eqb}
use borrow.Author.Tests.{ltb-true, ltb-false, eqb-true, eqb-false, lt-ltb, le-ltb, eq-eqb}
use Rattle.common.specs.Lists.{count_below, within}
use Rattle.common.proofs.Laws.Choice.{cond_elim, cases}
use Rattle.common.proofs.Laws.Lists.{split}
use Rattle.common.proofs.Laws.Places.{count_sum, count_le_count, count_within, count_turn, count_none, within_bounds, within_yes, within_below, within_above}
use Rattle.effect.specs.declared.Effect.{Effect}
use Rattle.effect.specs.declared.Effect.TheVariants.{Keep, Fill, Program, Round}
use Rattle.effect.specs.Effect.{turn, touches, span_of, mask_length}
use Rattle.effect.specs.Cut.{mask_place}
use Rattle.effect.proofs.Laws.Effect.{round_bounds, touched_in_span}
use Rattle.effect.proofs.Laws.Turn.{turn_up, turn_round}

-- ---- round the page: those past its end, which lie from its start up, and those from a up

module _ (a n : ℕ) where
  abbrev pub past_end : ℕ
  past_end = min (a % 256) (n - (256 - a % 256))

  abbrev pub to_end : ℕ
  to_end = min (256 - a % 256) n

  abbrev low : ℕ → Bool
  low = within (a / 256 * 256) past_end

  abbrev high : ℕ → Bool
  high = within a to_end

  abbrev One : ℕ → Type 0
  One k = cond (touches (Round a n) k) 1 0 ≡ cond (low k) 1 0 + cond (high k) 1 0

  one_low : (k : ℕ) → k / 256 ≡ a / 256 → k < a → One k
  unfolding touches
  one_low k p h =
      let t = turn_round a k p h in
      let b : (a / 256 * 256) ≤ k = omega arith in
      let e = eq-eqb (k / 256) (a / 256) p in
      let no = within_below a to_end k h in
      ⊎_elim
      (λ l. rw (e, lt-ltb (turn a k) n l, within_yes (a / 256 * 256) past_end k b (omega (arith, l)), no) refl)
      (λ l. rw (e, le-ltb (turn a k) n l, within_above (a / 256 * 256) past_end k (omega (arith, l)), no) refl)
      (split (turn a k) n)

  one_high : (k : ℕ) → k / 256 ≡ a / 256 → a ≤ k → One k
  unfolding touches
  one_high k p h =
      let t = turn_up a k p h in
      let e = eq-eqb (k / 256) (a / 256) p in
      let no = within_above (a / 256 * 256) past_end k (omega arith) in
      ⊎_elim
      (λ l. rw (e, lt-ltb (turn a k) n l, no, within_yes a to_end k h (omega (arith, l))) refl)
      (λ l. rw (e, le-ltb (turn a k) n l, no, within_above a to_end k (omega (arith, l))) refl)
      (split (turn a k) n)

  one_outside : (k : ℕ) → eqb (k / 256) (a / 256) ≡ false → One k
  unfolding touches
  one_outside k e =
      let p = eqb-false (k / 256) (a / 256) e in
      ⊎_elim
      (λ l. rw (e, within_below (a / 256 * 256) past_end k l, within_below a to_end k (omega (arith, l))) refl)
      (λ l. rw (e, within_above (a / 256 * 256) past_end k (omega (arith, p, l)), within_above a to_end k (omega (arith, p, l))) refl)
      (split k (a / 256 * 256))

  one : (k : ℕ) → One k
  one k =
      cases (eqb (k / 256) (a / 256))
      (λ e. let p = eqb-true (k / 256) (a / 256) e in ⊎_elim (one_low k p) (one_high k p) (split k a)) (one_outside k)

  count_round : (k : ℕ) → count_below (touches (Round a n)) k ≡ min (k - a / 256 * 256) past_end + min (k - a) to_end
  count_round k =
      let l = count_within (a / 256 * 256) past_end k in
      let h = count_within a to_end k in
      count_sum (touches (Round a n)) low high one k ∙ ap₂ ◌+◌ l h

  round_length : cond (ltb n 256) n 256 ≡ past_end + to_end
  round_length =
      cond_elim (λ (m : ℕ). m ≡ past_end + to_end) (ltb n 256) (λ l. omega (arith, ltb-true n 256 l)) (λ l. omega (arith, ltb-false n 256 l))

-- ---- the mask's length is the number of touched addresses

-- m addresses from y up all lie below x
all_below : (x y m : ℕ) → y + m ≤ x → min (x - y) m ≡ m
all_below x y m h = omega arith

none_below : (x y m : ℕ) → x < y → min (x - y) m ≡ 0
none_below x y m h = omega arith

pub mask_length_counts : (e : Effect) (size : ℕ) → (span_of e).end ≤ size → mask_length e ≡ count_below (touches e) size
unfolding touches mask_length
mask_length_counts Keep size h = sym (count_none (λ k. false) size (λ i l. refl))
mask_length_counts (Fill a n) size h = sym (count_within a n size ∙ all_below size a n h)
mask_length_counts (Program a n i) size h = sym (count_within a n size ∙ all_below size a n h)
mask_length_counts (Round a n) size h =
    sym
    (count_round a n size
    ∙ ap₂ ◌+◌ (all_below size (a / 256 * 256) (past_end a n) (omega arith)) (all_below size a (to_end a n) (omega arith))
    ∙ sym (round_length a n))

-- each touched address has a byte in the mask
pub mask_place_lt : (e : Effect) (k : ℕ) → touches e k ≡ true → mask_place e k < mask_length e
mask_place_lt e k t =
    let here : count_below (touches e) (k + 1) ≡ mask_place e k + 1 = count_turn (touches e) k ∙ rw t refl in
    let span = touched_in_span e k t in
    let upto = count_le_count (touches e) (k + 1) (span_of e).end (omega arith) in
    omega (arith, mask_length_counts e (span_of e).end (omega arith))

-- the addresses of an erase or a straight program, in order
pub mask_place_fill : (a n k : ℕ) → touches (Fill a n) k ≡ true → mask_place (Fill a n) k ≡ k - a
unfolding touches
mask_place_fill a n k t = let b = within_bounds a n k t in count_within a n k ∙ omega arith

pub mask_place_program : (a n i k : ℕ) → touches (Program a n i) k ≡ true → mask_place (Program a n i) k ≡ k - a
unfolding touches
mask_place_program a n i k t = let b = within_bounds a n k t in count_within a n k ∙ omega arith

-- round the page: first what lies past its end, from its start up, then what lies from a up
pub mask_place_past_end : (a n k : ℕ) → touches (Round a n) k ≡ true → k < a → mask_place (Round a n) k ≡ k - a / 256 * 256
mask_place_past_end a n k t h =
    let b = round_bounds a n k t in
    let r = turn_round a k b.0 h in
    let l : min (k - a / 256 * 256) (past_end a n) ≡ k - a / 256 * 256 = omega arith in
    count_round a n k ∙ ap₂ ◌+◌ l (none_below k a (to_end a n) h) ∙ add-zero (k - a / 256 * 256)

pub mask_place_to_end : (a n k : ℕ) → touches (Round a n) k ≡ true → a ≤ k → mask_place (Round a n) k ≡ past_end a n + (k - a)
mask_place_to_end a n k t h =
    let b = round_bounds a n k t in
    let r = turn_up a k b.0 h in
    let u : min (k - a) (to_end a n) ≡ k - a = omega arith in
    count_round a n k ∙ ap₂ ◌+◌ (all_below k (a / 256 * 256) (past_end a n) (omega arith)) u
