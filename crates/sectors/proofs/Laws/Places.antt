-- The scenes of the way back in the order in which a walk over the records meets them: marked so they give the same book as in the list's order.
-- Assumes nothing.
use mathlib.Core.Path.{◌≡◌, refl, sym, ap, ◌∙◌}
use mathlib.Core.Bool.{Bool, true, false, true≢false, cond}
use mathlib.Core.List.{List, [], ◌∷◌}
use mathlib.Core.Logic.{⊎_elim}
use Prim.Native.Nat.{ℕ, ◌+◌, ◌*◌, ◌<◌}
use native.Mathlib.Omega.{arith}
use lib.Dec.{eqb}
use lib.ListN.{length, get_or, get_or-eq_default}
use lib.Seq.{ext_get_or}
use borrow.Author.Tests.{eqb-true, eqb-false, ltb-true}
use Rattle.common.specs.Bits.{Bytes, bit_at}
use Rattle.common.proofs.Laws.Bits.{bits_ext}
use Rattle.common.proofs.Laws.Choice.{cases}
use Rattle.common.proofs.Laws.Lists.{split}
use Rattle.names.specs.Records.{is_name, AllNames}
use Rattle.names.specs.Search.{same_bytes, is_on}
use Rattle.names.proofs.Laws.Search.{same_exactly, differ_exactly, on_none, on_first, on_exactly}
use Rattle.namelist.specs.Listed.{position_in}
use Rattle.namelist.specs.Twice.{is_twice}
use Rattle.namelist.proofs.Laws.Position.{on_position, position_at}
use Rattle.namelist.proofs.Laws.Twice.{twice_exactly}
use Rattle.book.specs.Book.{marked, marked_scene, is_listed}
use Rattle.book.proofs.Laws.Listed.{listed_none, listed_first}
use Rattle.book.proofs.Laws.Marked.{marked_turn, marked_end, length_marked, marked_bytes, marked_bit}
use Rattle.sectors.specs.Moves.{listed_scenes}
use Rattle.sectors.proofs.Laws.Back.{some_name, scenes_listed}

-- ---- the positions of the records' names that are on the list

unfoldable pub places_of : List (List ℕ) → List (List ℕ) → List ℕ
places_of names [] = []
places_of names (r ∷ records) = cond (is_on r names) (position_in r names ∷ places_of names records) (places_of names records)

pub places_none : (names : List (List ℕ)) → places_of names [] ≡ []
unfolding places_of
places_none names = refl

module _ (names : List (List ℕ)) (r : List ℕ) (records : List (List ℕ)) where
  pub places_first : is_on r names ≡ true → places_of names (r ∷ records) ≡ position_in r names ∷ places_of names records
  unfolding places_of
  places_first e = rw e refl

  pub places_later : is_on r names ≡ false → places_of names (r ∷ records) ≡ places_of names records
  unfolding places_of
  places_later e = rw e refl

-- a name that stands somewhere does so within the list
within_list : (ns : List (List ℕ)) (s : ℕ) (r : List ℕ) → is_name r ≡ true → get_or ns s [] ≡ r → s < length ns
within_list ns s r good e =
    ⊎_elim (λ h. h)
    (λ h. absurd (true≢false (sym ((same_exactly [] r).only_when (sym (get_or-eq_default ns [] {n = s} h) ∙ e)) ∙ some_name r good)))
    (split s (length ns))

module _ (ns : List (List ℕ)) (once : is_twice ns ≡ false) where
  -- the position of a name on the list is its only place
  place_only : (r : List ℕ) (s : ℕ) → is_name r ≡ true → is_on r ns ≡ true → eqb (position_in r ns) s ≡ same_bytes (get_or ns s []) r
  place_only r s good on =
      cases (eqb (position_in r ns) s)
      (λ t. t ∙ sym ((same_exactly (get_or ns s []) r).only_when (ap (λ (k : ℕ). get_or ns k []) (sym (eqb-true (position_in r ns) s t)) ∙ position_at r ns on)))
      (λ f. f ∙ sym ((differ_exactly (get_or ns s []) r).only_when
      (λ e. eqb-false (position_in r ns) s f
      ((twice_exactly ns).when once (position_in r ns) s (ltb-true (position_in r ns) (length ns) (on_position r ns ∙ on)) (within_list ns s r good e) (position_at r ns on ∙ sym e)))))

  -- and one that is not has none
  no_place : (r : List ℕ) (s : ℕ) → is_name r ≡ true → is_on r ns ≡ false → same_bytes (get_or ns s []) r ≡ false
  no_place r s good off =
      (differ_exactly (get_or ns s []) r).only_when
      (λ e. true≢false (sym ((on_exactly r ns).only_when record { index = s; inside = within_list ns s r good e; there = e }) ∙ off))

  pub places_listed : (records : List (List ℕ)) → AllNames records → (s : ℕ) → is_listed s (places_of ns records) ≡ is_on (get_or ns s []) records
  places_listed [] good s = ap (is_listed s) (places_none ns) ∙ listed_none s ∙ sym (on_none (get_or ns s []))
  places_listed (r ∷ records) good s =
      let others = places_listed records good.1 s in
      cases (is_on r ns)
      (λ t. ap (is_listed s) (places_first ns r records t) ∙ listed_first s (position_in r ns) (places_of ns records)
      ∙ rw (place_only r s good.0 t, others) (sym (on_first (get_or ns s []) r records)))
      (λ f. ap (is_listed s) (places_later ns r records f) ∙ others ∙ sym (on_first (get_or ns s []) r records ∙ rw (no_place r s good.0 f) refl))

-- ---- marked in either order

-- lists that have the same scenes mark the same
marked_same : (xs ys used : List ℕ) → Bytes used → ((s : ℕ) → is_listed s xs ≡ is_listed s ys) → marked xs used ≡ marked ys used
marked_same xs ys used bytes same =
    ext_get_or 0 (marked xs used) (marked ys used) (length_marked xs used ∙ sym (length_marked ys used))
    (λ k h. let inside : k < length used = omega (arith, h, length_marked xs used) in
    bits_ext 8 (get_or (marked xs used) k 0) (get_or (marked ys used) k 0) (marked_bytes xs used bytes k) (marked_bytes ys used bytes k)
    (λ b l. marked_bit xs used k b inside l ∙ ap (λ (t : Bool). cond t 0 (bit_at (get_or used k 0) b)) (same (k * 8 + b)) ∙ sym (marked_bit ys used k b inside l)))

pub marked_places : (ns records : List (List ℕ)) (used : List ℕ) → is_twice ns ≡ false → AllNames records → Bytes used
    → marked (places_of ns records) used ≡ marked (listed_scenes 0 ns records) used
marked_places ns records used once good bytes =
    marked_same (places_of ns records) (listed_scenes 0 ns records) used bytes (λ s. places_listed ns once records good s ∙ sym (scenes_listed ns records good s))

-- a walk over the records: one more has a name of the list, or one that is not on it, or there is none left
module _ (ns : List (List ℕ)) (used : List ℕ) where
  pub places_marked : (r : List ℕ) (records : List (List ℕ)) → is_on r ns ≡ true
      → marked (places_of ns (r ∷ records)) used ≡ marked (places_of ns records) (marked_scene (position_in r ns) used)
  places_marked r records e =
      ap (λ (l : List ℕ). marked l used) (places_first ns r records e) ∙ marked_turn (position_in r ns ∷ places_of ns records) used 0 (omega arith)

  pub places_passed : (r : List ℕ) (records : List (List ℕ)) → is_on r ns ≡ false → marked (places_of ns (r ∷ records)) used ≡ marked (places_of ns records) used
  places_passed r records e = ap (λ (l : List ℕ). marked l used) (places_later ns r records e)

  pub places_end : marked (places_of ns []) used ≡ used
  places_end = ap (λ (l : List ℕ). marked l used) (places_none ns) ∙ marked_end [] used 0 (omega arith)
