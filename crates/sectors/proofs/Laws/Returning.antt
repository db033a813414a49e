-- The way back, record by record: the scenes of the names passed are marked, and those that the list does not have are counted.
-- Assumes nothing.
use mathlib.Core.Path.{◌≡◌, refl, sym, ◌∙◌}
use mathlib.Core.Bool.{false}
use mathlib.Core.List.{List, [], ◌∷◌}
use Prim.Native.Nat.{ℕ, ◌+◌, ◌≤◌, ◌<◌}
use native.Mathlib.Omega.{arith}
use lib.ListN.{length}
use Rattle.std.specs.Prelude.{Some, None}
use Rattle.common.specs.Bits.{Bytes}
use Rattle.names.specs.Records.{names_of}
use Rattle.names.proofs.Laws.Names.{names_few, names_split}
use Rattle.namelist.specs.Listed.{found_in}
use Rattle.namelist.specs.Twice.{is_twice}
use Rattle.namelist.proofs.Laws.Position.{found_some, found_none}
use Rattle.book.specs.Book.{marked, marked_scene}
use Rattle.sectors.specs.Moves.{listed_scenes, unlisted}
use Rattle.sectors.proofs.Laws.Back.{unlisted_end, unlisted_on, unlisted_off}
use Rattle.sectors.proofs.Laws.Places.{places_of, marked_places, places_marked, places_passed, places_end}

-- marking and counting what is left gives what marking and counting all does
pub record Returning (image : List ℕ) (ns : List (List ℕ)) (before used : List ℕ) (count : ℕ) (left : List (List ℕ)) : Type 0 where
  pub few : count + length left ≤ length image
  pub marks : marked (places_of ns left) used ≡ marked (places_of ns (names_of image)) before
  pub counts : count + unlisted ns left ≡ unlisted ns (names_of image)

pub returning_start : (image : List ℕ) (ns : List (List ℕ)) (before : List ℕ) (left : List (List ℕ)) → left ≡ names_of image → Returning image ns before before 0 left
returning_start image ns before left e = rw e record { few = omega (arith, names_few image); marks = refl; counts = omega arith }

module _ (image : List ℕ) (ns : List (List ℕ)) (before used : List ℕ) (count : ℕ) where
  module _ (left : List (List ℕ)) (name : List ℕ) (rest : List (List ℕ)) (left_is : left ≡ name ∷ rest) (r : Returning image ns before used count left) where
    next : Returning image ns before used count (name ∷ rest)
    next = rw left_is at r

    pub returning_fits : count < length image
    returning_fits = omega (arith, next.few)

    -- the list has the name
    pub returning_marked : (place : ℕ) → Some place ≡ found_in name ns → Returning image ns before (marked_scene place used) count rest
    returning_marked place e =
        let found = found_some name ns place e in
        record {
          few = omega (arith, next.few);
          marks = rw found.position (sym (places_marked ns used name rest found.on) ∙ next.marks);
          counts = omega (arith, next.counts, unlisted_on ns name rest found.on);
        }

    -- it does not
    pub returning_counted : None ≡ found_in name ns → Returning image ns before used (count + 1) rest
    returning_counted e =
        let off = found_none name ns e in
        record {
          few = omega (arith, next.few);
          marks = sym (places_passed ns used name rest off) ∙ next.marks;
          counts = omega (arith, next.counts, unlisted_off ns name rest off);
        }

  -- there is none left
  module _ (left : List (List ℕ)) (left_is : left ≡ []) (r : Returning image ns before used count left) where
    last : Returning image ns before used count []
    last = rw left_is at r

    pub returning_used : is_twice ns ≡ false → Bytes before → used ≡ marked (listed_scenes 0 ns (names_of image)) before
    returning_used once bytes =
        sym (places_end ns used) ∙ last.marks ∙ marked_places ns (names_of image) before once (names_split image).good bytes

    pub returning_count : count ≡ unlisted ns (names_of image)
    returning_count = omega (arith, last.counts, unlisted_end ns)
