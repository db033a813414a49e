-- The list of names by position (02, A7): "each behind a length byte".
use Rattle.std.specs.Prelude.{◌≡◌, Bool, true, false, cond, if◌then◌else◌, Option, Some, None, List, [], ◌∷◌, ◌++◌, ℕ, zero, suc, ◌≤◌, leb, length}
use Rattle.names.specs.Records.{Front, none, item, front_body, AllNames}
use Rattle.names.specs.Search.{same_bytes, is_on}

-- ---- the list, read

-- "a bad name, over 4,096 names", or these
pub data Listed : Type 0 where
  bad : Listed
  names : List (List ℕ) → Listed

-- one name more, before the others
abbrev pub before : List ℕ → Listed → Listed
before name bad = bad
before name (names others) = names (name ∷ others)

-- by what stands behind a length, which is what stands behind a record's; `go` reads the bytes behind the name
abbrev pub listed_on : Front → (List ℕ → Listed) → Listed
listed_on none go = bad
listed_on (item name rest) go = before name (go rest)

-- in at most so many turns
unfoldable pub listed_within : ℕ → List ℕ → Listed
listed_within zero bytes = names []
listed_within (suc n) [] = names []
listed_within (suc n) (x ∷ bytes) = listed_on (front_body x bytes) (listed_within n)

-- a length and its name have two bytes at least, so as many turns as there are bytes are enough
unfoldable pub listed_all : List ℕ → Listed
listed_all bytes = listed_within (length bytes) bytes

-- "over 4,096 names" are bad
abbrev pub few : Listed → Listed
few bad = bad
few (names ns) = cond (leb (length ns) 4096) (names ns) bad

unfoldable pub listed : List ℕ → Listed
listed bytes = few (listed_all bytes)

-- ---- what is asked of it

abbrev pub is_bad : Listed → Bool
is_bad bad = true
is_bad (names ns) = false

-- a bad one has none
abbrev pub names_in : Listed → List (List ℕ)
names_in bad = []
names_in (names ns) = ns

-- how many; 4,097, which no list has, for a bad one
abbrev pub count_in : Listed → ℕ
count_in bad = 4097
count_in (names ns) = length ns

-- the position of a name; how many there are, where it is none of them
unfoldable pub position_in : List ℕ → List (List ℕ) → ℕ
position_in name [] = 0
position_in name (first ∷ others) = cond (same_bytes name first) 0 (suc (position_in name others))

-- the same as an option: none, where it is none of them
abbrev pub found_in : List ℕ → List (List ℕ) → Option ℕ
found_in name ns = if is_on name ns then Some (position_in name ns) else None

-- ---- its bytes

unfoldable pub entries_bytes : List (List ℕ) → List ℕ
entries_bytes [] = []
entries_bytes (name ∷ ns) = (length name ∷ name) ++ entries_bytes ns

-- a good list, by its bytes
pub record Listing (bytes : List ℕ) (ns : List (List ℕ)) : Type 0 where
  pub good : AllNames ns
  pub at_most : length ns ≤ 4096
  pub is : bytes ≡ entries_bytes ns

-- the names that are read are its own
abbrev pub Good : List ℕ → Type 0
Good bytes = Listing bytes (names_in (listed bytes))
