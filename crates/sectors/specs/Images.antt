-- A sector of names as it is to be (02, A7): "Wanted is the whole sector, FF behind the last used byte".
use Rattle.std.specs.Prelude.{Bool, true, false, cond, not, ◌&&◌, ◌||◌, List, [], ◌∷◌, ◌++◌, ℕ, eqb, length, take, drop}
use Rattle.names.specs.Records.{names_of, records_bytes, padded}
use Rattle.names.specs.Search.{is_on}

-- a sector of the array, by its start
unfoldable pub sector_part : List ℕ → ℕ → List ℕ
sector_part array sector = take 4096 (drop sector array)

-- ---- "Names and lengths go in by one plan, marks by a second"

-- what stands at the front, then the new records: without their marks, and with them
abbrev pub first_image : List ℕ → List (List ℕ) → List ℕ
first_image front names = padded (front ++ records_bytes false names)

abbrev pub second_image : List ℕ → List (List ℕ) → List ℕ
second_image front names = padded (front ++ records_bytes true names)

-- a byte that is wanted and not FF is not there yet. Of records without marks these are the lengths and the names
unfoldable pub is_missing : List ℕ → List ℕ → Bool
is_missing [] there = false
is_missing (w ∷ wanted) [] = false
is_missing (w ∷ wanted) (x ∷ there) = (not (eqb w 0xff) && not (eqb w x)) || is_missing wanted there

-- "the call gives the first while any such byte is missing"
unfoldable pub wanted_names : List ℕ → List ℕ → List (List ℕ) → List ℕ
wanted_names image front names =
    cond (is_missing (records_bytes false names) (drop (length front) image)) (first_image front names) (second_image front names)

-- "Marking a name appends its record, unless one has it."
unfoldable pub wanted_mark : List ℕ → List ℕ → List ℕ
wanted_mark image name = cond (is_on name (names_of image)) image (wanted_names image (records_bytes true (names_of image)) (name ∷ []))
