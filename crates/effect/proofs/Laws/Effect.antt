-- An effect byte by byte: all touched addresses lie in its span, and what `changed` and `cut` leave at a touched address and at another one.
-- Assumes nothing.
use mathlib.Core.Path.{◌≡◌, refl, sym, ap, ◌∙◌}
use mathlib.Core.Bool.{true, false, cond, false≢true}
use mathlib.Core.List.{List}
use Prim.Native.Nat.{ℕ, ◌+◌, ◌/◌, ◌≤◌, ◌<◌}
use native.Mathlib.Omega.{arith}
use lib.Dec.{ltb, eqb}
use lib.ListN.{length, get_or, set}
use Rattle.std.proofs.lemmas.List.{set-get_or}
use Rattle.common.specs.Lists.{mapi, up_to}
use Rattle.common.proofs.Laws.Lists.{loop_turn}
use borrow.Author.Tests.{ltb-true, eqb-true}
use Rattle.common.proofs.Laws.Places.{within_bounds, count_none}
use Rattle.common.proofs.Laws.Booleans.{and_l, and_r}
use Rattle.common.proofs.Laws.Choice.{cases}
use Rattle.std.specs.declared.ops.Range.{Range}
use Rattle.effect.specs.declared.Effect.{Effect}
use Rattle.effect.specs.declared.Effect.TheVariants.{Keep, Fill, Program, Round}
use Rattle.effect.specs.Effect.{turn, touches, struck, changed, span_of}
use Rattle.effect.specs.Cut.{mixed, mask_place, cut}

-- ---- the span

-- addresses in order, in an array of a size
pub record Inside (p : Range ℕ) (size : ℕ) : Type 0 where
  pub order : p.start ≤ p.end
  pub within : p.end ≤ size

pub span_order : (e : Effect) → (span_of e).start ≤ (span_of e).end
span_order Keep = omega arith
span_order (Fill a n) = omega arith
span_order (Program a n i) = omega arith
span_order (Round a n) = omega arith

pub span_inside : (e : Effect) (size : ℕ) → (span_of e).end ≤ size → Inside (span_of e) size
span_inside e size h = record { order = span_order e; within = h }

pub round_bounds : (a n k : ℕ) → touches (Round a n) k ≡ true → (k / 256 ≡ a / 256) × (turn a k < n)
unfolding touches
round_bounds a n k t =
    let page = eqb (k / 256) (a / 256) in
    (eqb-true (k / 256) (a / 256) (and_l page (ltb (turn a k) n) t), ltb-true (turn a k) n (and_r page (ltb (turn a k) n) t))

pub touched_in_span : (e : Effect) (k : ℕ) → touches e k ≡ true → ((span_of e).start ≤ k) × (k < (span_of e).end)
unfolding touches
touched_in_span Keep k t = absurd (false≢true t)
touched_in_span (Fill a n) k t = within_bounds a n k t
touched_in_span (Program a n i) k t = within_bounds a n k t
touched_in_span (Round a n) k t = let page = (round_bounds a n k t).0 in (omega arith, omega arith)

module _ (e : Effect) (k : ℕ) where
  untouched_below : k < (span_of e).start → touches e k ≡ false
  untouched_below h = cases (touches e k) (λ t. absurd (omega (arith, (touched_in_span e k t).0))) (λ t. t)

  untouched_above : (span_of e).end ≤ k → touches e k ≡ false
  untouched_above h = cases (touches e k) (λ t. absurd (omega (arith, (touched_in_span e k t).1))) (λ t. t)

-- no mask byte is used below the span
pub mask_place_start : (e : Effect) → mask_place e (span_of e).start ≡ 0
mask_place_start e = count_none (touches e) (span_of e).start (untouched_below e)

-- ---- a walk over the span

-- a turn at an address whose byte stays
pub loop_skip : (f : ℕ → ℕ → ℕ) (l a : List ℕ) (i : ℕ) → i < length l → ((x : ℕ) → f i x ≡ x) → a ≡ mapi (up_to i f) l → a ≡ mapi (up_to (i + 1) f) l
loop_skip f l a i b same e = sym (set-get_or a i 0) ∙ ap (set a i) (sym (same (get_or a i 0))) ∙ loop_turn f l a i b e

-- ---- the byte x at address k

module _ (e : Effect) (f : List ℕ) (k x : ℕ) where
  pub changed_is : changed e f k x ≡ cond (touches e k) (struck e f k x) x
  unfolding changed
  changed_is = refl

  pub changed_touched : touches e k ≡ true → changed e f k x ≡ struck e f k x
  unfolding changed
  changed_touched t = rw t refl

  pub changed_other : touches e k ≡ false → changed e f k x ≡ x
  unfolding changed
  changed_other t = rw t refl

  pub changed_below : k < (span_of e).start → changed e f k x ≡ x
  changed_below h = changed_other (untouched_below e k h)

  pub changed_above : (span_of e).end ≤ k → changed e f k x ≡ x
  changed_above h = changed_other (untouched_above e k h)

  module _ (mask : List ℕ) where
    pub cut_touched : touches e k ≡ true → cut e f mask k x ≡ mixed (get_or mask (mask_place e k) 0) x (struck e f k x)
    unfolding cut
    cut_touched t = rw t refl

    pub cut_other : touches e k ≡ false → cut e f mask k x ≡ x
    unfolding cut
    cut_other t = rw t refl

    pub cut_below : k < (span_of e).start → cut e f mask k x ≡ x
    cut_below h = cut_other (untouched_below e k h)

    pub cut_above : (span_of e).end ≤ k → cut e f mask k x ≡ x
    cut_above h = cut_other (untouched_above e k h)
