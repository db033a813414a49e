-- Flags by name (02, A7): names in a sector and in a list, by their places, and the sectors that the calls want. A place is an index.
use Rattle.std.specs.Prelude.{◌≡◌, cond, List, [], ◌∷◌, ℕ, suc, ◌+◌, ◌≤◌, ◌<◌, eqb, length, get_or, take, drop}
use Rattle.common.specs.Bits.{Bytes}
use Rattle.common.specs.Refusals.{Exactly}
use Rattle.rules.specs.Book.{flag}
use Rattle.rules.specs.Salvage.{GoodRecord}

-- a sector of the array, by its start
abbrev pub sector_bytes : List ℕ → ℕ → List ℕ
sector_bytes array sector = take 4096 (drop sector array)

-- ---- names

-- "a length of 1 to 32, and the scene's name in bytes 20 to 7E"
pub record GoodName (name : List ℕ) : Type 0 where
  pub least : 1 ≤ length name
  pub most : length name ≤ 32
  pub bytes : (i : ℕ) → i < length name → (0x20 ≤ get_or name i 0) × (get_or name i 0 ≤ 0x7e)

-- it is one of these
pub record Member (name : List ℕ) (names : List (List ℕ)) : Type 0 where
  pub index : ℕ
  pub inside : index < length names
  pub there : get_or names index [] ≡ name

-- its bytes stand from a place on
abbrev pub NameAt : List ℕ → ℕ → List ℕ → Type 0
NameAt bytes at name = take (length name) (drop at bytes) ≡ name

-- "Records follow each other from the sector's start; the first place without a whole good record ends them.": from a place on
abbrev pub NamesAre : List ℕ → ℕ → List (List ℕ) → Type 0
NamesAre bytes at [] = (n : ℕ) → GoodRecord bytes at n → ⊥
NamesAre bytes at (name ∷ names) = GoodRecord bytes at (3 + length name) × (NameAt bytes (at + 3) name × NamesAre bytes (at + (3 + length name)) names)

-- "the list of names by position (each behind a length byte)": from a place on
abbrev pub ListedNames : List ℕ → ℕ → List (List ℕ) → Type 0
ListedNames list at [] = at ≡ length list
ListedNames list at (name ∷ names) =
    GoodName name
    × ((at + (1 + length name) ≤ length list)
    × ((get_or list at 0 ≡ length name) × (NameAt list (at + 1) name × ListedNames list (at + (1 + length name)) names)))

-- a list that is no 18: none of its names is bad, and there are not "over 4,096 names"
pub record GoodList (list : List ℕ) (names : List (List ℕ)) : Type 0 where
  pub listed : ListedNames list 0 names
  pub at_most : length names ≤ 4096

-- ---- records as they are to be

-- how long the records of some names are
abbrev pub records_length : List (List ℕ) → ℕ
records_length [] = 0
records_length (name ∷ names) = (3 + length name) + records_length names

-- they stand in a sector from a place on, each behind these two bytes; "FF behind the last used byte"
abbrev pub Laid : List ℕ → ℕ → ℕ → ℕ → List (List ℕ) → Type 0
Laid wanted first second at [] = (k : ℕ) → at ≤ k → k < 4096 → get_or wanted k 0 ≡ 0xff
Laid wanted first second at (name ∷ names) =
    (get_or wanted at 0 ≡ first)
    × ((get_or wanted (at + 1) 0 ≡ second)
    × ((get_or wanted (at + 2) 0 ≡ length name) × (NameAt wanted (at + 3) name × Laid wanted first second (at + (3 + length name)) names)))

-- "Names and lengths": each of them is there already
abbrev pub Whole : List ℕ → ℕ → List (List ℕ) → Type 0
Whole image at [] = Unit {0}
Whole image at (name ∷ names) = (get_or image (at + 2) 0 ≡ length name) × (NameAt image (at + 3) name × Whole image (at + (3 + length name)) names)

-- "Wanted is the whole sector": new records from a place on
pub record Wants (image : List ℕ) (at : ℕ) (names : List (List ℕ)) (wanted : List ℕ) : Type 0 where
  pub long : length wanted ≡ 4096
  pub kept : (k : ℕ) → k < at → get_or wanted k 0 ≡ get_or image k 0
  -- "Names and lengths go in by one plan, marks by a second: the call gives the first while any such byte is missing"
  pub first : (Whole image at names → ⊥) → Laid wanted 0xff 0xff at names
  pub second : Whole image at names → Laid wanted 0x4e 0x52 at names

-- ---- what each call wants

-- "Marking a name appends its record, unless one has it."
pub record MarkWants (bytes name wanted : List ℕ) : Type 0 where
  pub names : List (List ℕ)
  pub names_are : NamesAre bytes 0 names
  pub there : Member name names → wanted ≡ bytes
  pub appended : (Member name names → ⊥) → Wants bytes (records_length names) (name ∷ []) wanted

-- the names whose flag is 0, which is read, "in list order"; the first one's scene is given
abbrev pub picked_names : (ℕ → ℕ) → ℕ → List (List ℕ) → List (List ℕ)
picked_names flags scene [] = []
picked_names flags scene (name ∷ names) = cond (eqb (flags scene) 0) (name ∷ picked_names flags (suc scene) names) (picked_names flags (suc scene) names)

-- "A move takes the position book and the list of names by position .., and plans records for the read scenes in list order into an erased sector"
pub record MoveWants (array : List ℕ) (book sector : ℕ) (list wanted : List ℕ) : Type 0 where
  pub names : List (List ℕ)
  pub good_list : GoodList list names
  pub wants : Wants (sector_bytes array sector) 0 (picked_names (flag array book) 0 names) wanted

-- "the way back plans the book into an erased one": a scene is read if its name is on the list, at its position, and a record has it
pub record BackWants (array : List ℕ) (sector : ℕ) (list wanted : List ℕ) : Type 0 where
  pub records : List (List ℕ)
  pub records_are : NamesAre (sector_bytes array sector) 0 records
  pub names : List (List ℕ)
  pub good_list : GoodList list names
  pub long : length wanted ≡ 4096
  pub bytes : Bytes wanted
  pub read : (scene : ℕ) → scene < 4096 → Exactly (flag wanted 0 scene ≡ 0) ((scene < length names) × Member (get_or names scene []) records)
  pub unread : (scene : ℕ) → scene < 4096 → Exactly (flag wanted 0 scene ≡ 1) ((scene < length names) × Member (get_or names scene []) records → ⊥)
  pub erased : (k : ℕ) → 512 ≤ k → k < 4096 → get_or wanted k 0 ≡ 0xff
