-- Page program: the byte that `changed` finds by a formula is the one that laying the data down byte after byte leaves, straight or round the page.
-- Assumes nothing.
use mathlib.Core.Path.{◌≡◌, refl, sym, ap, ◌∙◌}
use mathlib.Core.Bool.{true, cond, ◌&&◌}
use mathlib.Core.List.{List, [], ◌∷◌}
use mathlib.Core.Logic.{⊎_elim}
use Prim.Native.Nat.{ℕ, suc, ◌+◌, ◌-◌, ◌*◌, ◌/◌, ◌%◌, ◌≤◌, ◌<◌}
use native.Mathlib.Nat.{zero-lt-suc}
use native.Mathlib.Omega.{arith}
use lib.Bits.{bit_and}
use lib.Dec.{leb, ltb, eqb}
use lib.ListN.{get_or, length, drop, length-drop}
use lib.Seq.{get_or-drop}
use borrow.Author.Tests.{leb-true, lt-ltb, le-ltb, eqb-true, eqb-false, eq-eqb, ne_eqb}
use Rattle.common.proofs.Laws.Choice.{cond_elim, cases}
use Rattle.common.proofs.Laws.Lists.{split}
use Rattle.effect.specs.declared.Effect.{Effect}
use Rattle.effect.specs.declared.Effect.TheVariants.{Program, Round}
use Rattle.effect.specs.Effect.{page_effect, turn, last_for, touches, struck, changed}
use Rattle.effect.specs.Page.{laid, lay_down, blank}
use Rattle.common.specs.Lists.{within}
use Rattle.common.proofs.Laws.Bits.{and_full}
use Rattle.common.proofs.Laws.Places.{within_bounds, within_yes, within_below, within_above}
use Rattle.effect.proofs.Laws.Turn.{turn_offset, turn_up, turn_round, turn_here, turn_next_here, turn_there, turn_next_there}

-- ---- what it leaves at an offset: the last byte for it

-- of data whose byte t is the first for an offset, the last for it; z where there is none
abbrev last_of : ℕ → List ℕ → ℕ → ℕ
last_of t ds z = cond (ltb t (length ds)) (get_or ds (t + (length ds - 1 - t) / 256 * 256) 0) z

-- one data byte more, before the others: it is for this offset
last_here : (d z : ℕ) (ds : List ℕ) → last_of 255 ds d ≡ last_of 0 (d ∷ ds) z
last_here d z ds =
    let some = lt-ltb 0 (suc (length ds)) (zero-lt-suc (length ds)) in
    ⊎_elim
    (λ l. let i : 0 + (suc (length ds) - 1 - 0) / 256 * 256 ≡ suc (255 + (length ds - 1 - 255) / 256 * 256) = omega (arith, l) in
    rw (lt-ltb 255 (length ds) l, some, i) refl)
    (λ l. let i : 0 + (suc (length ds) - 1 - 0) / 256 * 256 ≡ 0 = omega (arith, l) in
    rw (le-ltb 255 (length ds) l, some, i) refl)
    (split 255 (length ds))

-- or for another
last_there : (t d z : ℕ) (ds : List ℕ) → last_of t ds z ≡ last_of (suc t) (d ∷ ds) z
last_there t d z ds =
    let i : suc t + (suc (length ds) - 1 - suc t) / 256 * 256 ≡ suc (t + (length ds - 1 - t) / 256 * 256) = omega arith in
    ⊎_elim
    (λ l. rw (lt-ltb t (length ds) l, lt-ltb (suc t) (suc (length ds)) (omega (arith, l)), i) refl)
    (λ l. rw (le-ltb t (length ds) l, le-ltb (suc t) (suc (length ds)) (omega (arith, l))) refl)
    (split t (length ds))

lay_down_last : (buffer : ℕ → ℕ) (a : ℕ) (ds : List ℕ) (q : ℕ) → q < 256 → lay_down buffer a ds q ≡ last_of (turn a q) ds (buffer q)
lay_down_last buffer a [] q h = rw (le-ltb (turn a q) 0 (omega arith)) refl
lay_down_last buffer a (d ∷ ds) q h = lay_down_last (laid buffer (a % 256) d) (a + 1) ds q h ∙ ⊎_elim there here (split 0 (turn a q))
  where
    there : 0 < turn a q → last_of (turn (a + 1) q) ds (laid buffer (a % 256) d q) ≡ last_of (turn a q) (d ∷ ds) (buffer q)
    there t =
        let e : turn a q ≡ suc (turn (a + 1) q) = omega (arith, turn_next_there a q h t) in
        rw (ne_eqb q (a % 256) (turn_there a q h t), e) (last_there (turn (a + 1) q) d (buffer q) ds)

    here : turn a q ≤ 0 → last_of (turn (a + 1) q) ds (laid buffer (a % 256) d q) ≡ last_of (turn a q) (d ∷ ds) (buffer q)
    here t =
        let e : turn a q ≡ 0 = omega arith in
        rw (eq-eqb q (a % 256) (turn_here a q h e), turn_next_here a q h e, e) (last_here d (buffer q) ds)

-- ---- straight or round, one rule

-- at most a page of data has one byte for an offset
only_one : (n t : ℕ) → t < n → n ≤ 256 → t + (n - 1 - t) / 256 * 256 ≡ t
only_one n t h l = omega arith

module _ (a n k : ℕ) (f : List ℕ) (x : ℕ) (page : k / 256 ≡ a / 256) where
  abbrev programmed : ℕ
  programmed = cond (ltb (turn a k) n) (bit_and x (get_or f (4 + last_for a n k) 0)) x

  straight : n ≤ 256 - a % 256 → changed (Program a n 4) f k x ≡ programmed
  unfolding changed touches struck
  straight h = ⊎_elim below above (split k a)
    where
      below : k < a → changed (Program a n 4) f k x ≡ programmed
      below l = let t = turn_round a k page l in rw (within_below a n k l, le-ltb (turn a k) n (omega arith)) refl

      above : a ≤ k → changed (Program a n 4) f k x ≡ programmed
      above l =
          let t = turn_up a k page l in
          let small : n ≤ 256 = omega arith in
          ⊎_elim
          (λ g. let i : turn a k < n = omega (arith, t, g) in
          rw (within_yes a n k l g, lt-ltb (turn a k) n i, only_one n (turn a k) i small, t) refl)
          (λ g. rw (within_above a n k g, le-ltb (turn a k) n (omega (arith, t, g))) refl)
          (split k (a + n))

  round : changed (Round a n) f k x ≡ programmed
  unfolding changed touches struck
  round = rw (eq-eqb (k / 256) (a / 256) page) refl

  pub page_changed : changed (page_effect a n) f k x ≡ cond (ltb (turn a k) n) (bit_and x (get_or f (4 + last_for a n k) 0)) x
  unfolding page_effect
  page_changed =
      cond_elim (λ (e : Effect). changed e f k x ≡ programmed) (leb n (256 - a % 256)) (λ t. straight (leb-true n (256 - a % 256) t)) (λ _. round)

-- ---- the buffer at an address of the page: FF where no data goes

module _ (a n k : ℕ) (f : List ℕ) (carried : 4 + n ≡ length f) where
  buffer : lay_down blank a (drop 4 f) (k % 256) ≡ cond (ltb (turn a k) n) (get_or f (4 + last_for a n k) 0) 255
  buffer =
      let long : length (drop 4 f) ≡ n = length-drop 4 f ∙ omega arith in
      lay_down_last blank a (drop 4 f) (k % 256) (omega arith) ∙ rw (turn_offset a k, long, get_or-drop 4 f (last_for a n k) 0) refl

  -- "Programming sets each byte to old AND new"
  pub page_laid : (x : ℕ) → k / 256 ≡ a / 256 → x < 256 → changed (page_effect a n) f k x ≡ bit_and x (lay_down blank a (drop 4 f) (k % 256))
  page_laid x page byte = page_changed a n k f x page ∙ sym (ap (bit_and x) buffer ∙ all)
    where
      all : bit_and x (cond (ltb (turn a k) n) (get_or f (4 + last_for a n k) 0) 255) ≡ cond (ltb (turn a k) n) (bit_and x (get_or f (4 + last_for a n k) 0)) x
      all = cases (ltb (turn a k) n) (λ t. rw t refl) (λ t. rw t (and_full x byte))

  -- where some goes, whatever stood there
  pub page_struck : (x : ℕ) → k / 256 ≡ a / 256 → ltb (turn a k) n ≡ true
      → changed (page_effect a n) f k x ≡ bit_and x (lay_down blank a (drop 4 f) (k % 256))
  page_struck x page sent = page_changed a n k f x page ∙ rw sent (ap (bit_and x) (sym (buffer ∙ rw sent refl)))

-- the addresses that it programs: those of the page that some data goes to
pub page_touches : (a n k : ℕ) → touches (page_effect a n) k ≡ (eqb (k / 256) (a / 256) && ltb (turn a k) n)
unfolding page_effect touches
page_touches a n k =
    cond_elim (λ (e : Effect). touches e k ≡ (eqb (k / 256) (a / 256) && ltb (turn a k) n)) (leb n (256 - a % 256))
    (λ t. straight (leb-true n (256 - a % 256) t)) (λ _. refl)
  where
    on_the_page : n ≤ 256 - a % 256 → k / 256 ≡ a / 256 → within a n k ≡ ltb (turn a k) n
    on_the_page h page =
        ⊎_elim (λ l. let t = turn_round a k page l in within_below a n k l ∙ sym (le-ltb (turn a k) n (omega arith)))
        (λ l. let t = turn_up a k page l in
        ⊎_elim (λ g. within_yes a n k l g ∙ sym (lt-ltb (turn a k) n (omega (arith, t, g))))
        (λ g. within_above a n k g ∙ sym (le-ltb (turn a k) n (omega (arith, t, g)))) (split k (a + n))) (split k a)

    straight : n ≤ 256 - a % 256 → within a n k ≡ (eqb (k / 256) (a / 256) && ltb (turn a k) n)
    straight h =
        cases (eqb (k / 256) (a / 256)) (λ t. rw t (on_the_page h (eqb-true (k / 256) (a / 256) t)))
        (λ t. rw t (cases (within a n k)
        (λ w. let b = within_bounds a n k w in absurd (eqb-false (k / 256) (a / 256) t (omega (arith, h, b.0, b.1)))) (λ w. w)))
