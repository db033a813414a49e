-- Between a position book and a sector of names (02, A7), by the list of names by position.
use Rattle.std.specs.Prelude.{Bool, true, false, cond, not, ◌||◌, List, [], ◌∷◌, ℕ, zero, suc, ◌+◌, ◌-◌, ltb, length, replicate}
use Rattle.common.specs.Bits.{bit}
use Rattle.names.specs.Records.{records_bytes, padded}
use Rattle.names.specs.Search.{is_on}
use Rattle.namelist.specs.Listed.{listed, names_in}
use Rattle.book.specs.Book.{is_read, marked}
use Rattle.sectors.specs.Images.{wanted_names}

-- ---- there: "plans records for the read scenes in list order into an erased sector"

-- the names of the read scenes, the first name being that of the given scene
unfoldable pub read_names : (ℕ → Bool) → ℕ → List (List ℕ) → List (List ℕ)
read_names read scene [] = []
read_names read scene (name ∷ names) = cond (read scene) (name ∷ read_names read (suc scene) names) (read_names read (suc scene) names)

-- one of so many scenes from the given one on is read
unfoldable pub any_read : (ℕ → Bool) → ℕ → ℕ → Bool
any_read read scene zero = false
any_read read scene (suc n) = read scene || any_read read (suc scene) n

-- "a read scene past them": past so many names
abbrev pub is_past : (ℕ → Bool) → ℕ → Bool
is_past read names = any_read read names (4096 - names)

-- of a book and a list: what a move makes records of
abbrev pub moved_names : List ℕ → ℕ → List ℕ → List (List ℕ)
moved_names array book list = read_names (is_read array book) 0 (names_in (listed list))

-- these records don't fit in a sector
abbrev pub are_too_long : List (List ℕ) → Bool
are_too_long names = ltb 4096 (length (records_bytes true names))

unfoldable pub wanted_move : List ℕ → (ℕ → Bool) → List (List ℕ) → List ℕ
wanted_move image read names = wanted_names image [] (read_names read 0 names)

-- ---- "the way back plans the book into an erased one

-- the scenes whose names are among the records, the first name being that of the given scene
unfoldable pub listed_scenes : ℕ → List (List ℕ) → List (List ℕ) → List ℕ
listed_scenes scene [] records = []
listed_scenes scene (name ∷ names) records = cond (is_on name records) (scene ∷ listed_scenes (suc scene) names records) (listed_scenes (suc scene) names records)

-- the book of these scenes, in a whole sector
unfoldable pub wanted_back : List (List ℕ) → List (List ℕ) → List ℕ
wanted_back records names = padded (marked (listed_scenes 0 names records) (replicate 512 0xff))

-- and reports how many records had a name not on the list"
unfoldable pub unlisted : List (List ℕ) → List (List ℕ) → ℕ
unlisted names [] = 0
unlisted names (r ∷ records) = bit (not (is_on r names)) 1 + unlisted names records
