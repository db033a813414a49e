-- The book's own refusals, and what is so where there is none.
-- Assumes nothing.
use mathlib.Core.Path.{◌≡◌, refl, sym, ap, ◌∙◌}
use mathlib.Core.Bool.{Bool, true, false, not}
use mathlib.Core.List.{List, [], ◌∷◌}
use Prim.Native.Nat.{ℕ, ◌+◌, ◌%◌, ◌≤◌, ◌<◌}
use native.Mathlib.Omega.{arith}
use lib.Dec.{eqb, ltb}
use lib.ListN.{length}
use borrow.Author.Tests.{eqb-true, eq-eqb, ltb-true, lt-ltb, not-false}
use Rattle.common.specs.Refusals.{first_of, Exactly}
use Rattle.common.proofs.Laws.Booleans.{and_l, and_r, and_i, or_none_l, or_none_r, or_none_i}
use Rattle.common.proofs.Laws.Refusals.{clear, first_of_clear}
use Rattle.chip.proofs.Laws.Chip.{regular}
use Rattle.state.specs.declared.State.{State}
use Rattle.state.specs.State.{data_of}
use Rattle.state.specs.Soundness.{is_sound}
use Rattle.book.specs.Refusals.{has_over, is_sector, book_refusals, book_refusal, Opened}
use Rattle.book.proofs.Laws.Listed.{over_none, over_one}

-- ---- of each call

module _ (s : State) (array : List ℕ) (sector : ℕ) where
  pub refusal_of : (scenes : List ℕ) → book_refusal s array sector scenes ≡ first_of (book_refusals s (length array) sector (has_over scenes))
  unfolding book_refusal
  refusal_of scenes = refl

  pub refusal_of_one : (scene : ℕ) → book_refusal s array sector (scene ∷ []) ≡ first_of (book_refusals s (length array) sector (ltb 4095 scene))
  refusal_of_one scene = refusal_of (scene ∷ []) ∙ ap (λ (t : Bool). first_of (book_refusals s (length array) sector t)) (over_one scene)

  pub refusal_of_none : book_refusal s array sector [] ≡ first_of (book_refusals s (length array) sector false)
  refusal_of_none = refusal_of [] ∙ ap (λ (t : Bool). first_of (book_refusals s (length array) sector t)) over_none

-- ---- a sector

pub sector_exactly : (size start : ℕ) → Exactly (is_sector size start ≡ true) ((start % 4096 ≡ 0) × (start < size))
unfolding is_sector
sector_exactly size start = record {
  when = λ e. (
    eqb-true (start % 4096) 0 (and_l (eqb (start % 4096) 0) (ltb start size) e),
    ltb-true start size (and_r (eqb (start % 4096) 0) (ltb start size) e),
  );
  only_when = λ h. and_i (eq-eqb (start % 4096) 0 h.0) (lt-ltb start size h.1);
}

-- of a chip: it lies in it whole
pub sector_fits : (s : State) (start : ℕ) → is_sector (data_of s).size start ≡ true → start + 4096 ≤ (data_of s).size
sector_fits s start e =
    let h = (sector_exactly (data_of s).size start).when e in omega (arith, h.0, h.1, (regular s.chip).whole_blocks)

-- ---- none of them holds

-- whatever else a call asks of its book, the used bytes lie in the array
pub used_inside : (s : State) (array : List ℕ) (sector : ℕ) (wrong : Bool) → 0 ≡ first_of (book_refusals s (length array) sector wrong)
    → sector + 512 ≤ length array
used_inside s array sector wrong told =
    let none = clear (book_refusals s (length array) sector wrong) refl (sym told) in
    let sized : length array ≡ (data_of s).size = eqb-true (length array) (data_of s).size (not-false (eqb (length array) (data_of s).size) none.1.0) in
    let here = not-false (is_sector (data_of s).size sector) (or_none_r wrong (not (is_sector (data_of s).size sector)) none.1.1.0) in
    omega (arith, sized, sector_fits s sector here)

module _ (s : State) (array : List ℕ) (sector : ℕ) (scenes : List ℕ) where
  pub opened_exactly : Exactly (book_refusal s array sector scenes ≡ 0) (Opened s array sector scenes)
  opened_exactly = record {
    when = λ e.
        let c = clear (book_refusals s (length array) sector (has_over scenes)) refl (sym (refusal_of s array sector scenes) ∙ e) in
        record {
          sound = not-false (is_sound s) c.0;
          sized = eqb-true (length array) (data_of s).size (not-false (eqb (length array) (data_of s).size) c.1.0);
          scenes_kept = or_none_l (has_over scenes) (not (is_sector (data_of s).size sector)) c.1.1.0;
          a_sector = not-false (is_sector (data_of s).size sector) (or_none_r (has_over scenes) (not (is_sector (data_of s).size sector)) c.1.1.0);
        };
    only_when = λ o.
        refusal_of s array sector scenes
        ∙ first_of_clear (book_refusals s (length array) sector (has_over scenes))
        (ap not o.sound, (ap not (eq-eqb (length array) (data_of s).size o.sized), (or_none_i o.scenes_kept (ap not o.a_sector), tt)));
  }

  module _ (o : Opened s array sector scenes) where
    pub sector_inside : sector + 4096 ≤ length array
    sector_inside = rw o.sized (sector_fits s sector o.a_sector)

    pub book_inside : sector + 512 ≤ length array
    book_inside = omega (arith, sector_inside)
