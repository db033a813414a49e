-- Records of names in a sector (02, A7).
use Rattle.std.specs.Prelude.{◌≡◌, Bool, true, Option, Some, None, cond, ◌&&◌, List, [], ◌∷◌, ◌++◌, ℕ, zero, suc, ◌+◌, ◌-◌, eqb, leb, length, take, drop, replicate}
use Rattle.common.specs.Lists.{Each}

-- ---- a name

-- "bytes 20 to 7E"
abbrev pub is_name_byte : ℕ → Bool
is_name_byte x = leb 0x20 x && leb x 0x7e

unfoldable pub all_name : List ℕ → Bool
all_name [] = true
all_name (x ∷ xs) = is_name_byte x && all_name xs

-- "a length of 1 to 32, and the scene's name in bytes 20 to 7E"
unfoldable pub is_name : List ℕ → Bool
is_name name = leb 1 (length name) && (leb (length name) 32 && all_name name)

abbrev pub AllNames : List (List ℕ) → Type 0
AllNames = Each (λ name. is_name name ≡ true)

-- ---- what stands at the front of some bytes: no whole good record, or the name of one with the bytes behind it

pub data Front : Type 0 where
  none : Front
  item : List ℕ → List ℕ → Front

-- behind a length
unfoldable pub front_body : ℕ → List ℕ → Front
front_body n rest = cond (leb n (length rest) && is_name (take n rest)) (item (take n rest) (drop n rest)) none

-- "the mark 4E 52, a length .., and the scene's name"
unfoldable pub front : List ℕ → Front
front [] = none
front (first ∷ []) = none
front (first ∷ second ∷ []) = none
front (first ∷ second ∷ n ∷ rest) = cond (eqb first 0x4e && eqb second 0x52) (front_body n rest) none

-- how long the record is, if there is one
abbrev pub front_length : Front → Option ℕ
front_length none = None
front_length (item name rest) = Some (3 + length name)

-- ---- record after record

-- by what stands at the front; `go` reads the bytes behind a record
abbrev pub names_on : Front → (List ℕ → List (List ℕ)) → List (List ℕ)
names_on none go = []
names_on (item name rest) go = name ∷ go rest

-- in at most so many turns
unfoldable pub names_within : ℕ → List ℕ → List (List ℕ)
names_within zero bytes = []
names_within (suc n) bytes = names_on (front bytes) (names_within n)

-- "Records follow each other from the sector's start; the first place without a whole good record ends them." A record has four bytes at least, so as
-- many turns as there are bytes are enough
unfoldable pub names_of : List ℕ → List (List ℕ)
names_of image = names_within (length image) image

-- some names come first, and perhaps others behind them
pub record Begins (names all : List (List ℕ)) : Type 0 where
  pub more : List (List ℕ)
  pub all_are : all ≡ names ++ more

-- ---- their bytes

-- a record, with its mark or with FF in its place
abbrev pub record_bytes : Bool → List ℕ → List ℕ
record_bytes marked name = cond marked 0x4e 0xff ∷ cond marked 0x52 0xff ∷ length name ∷ name

unfoldable pub records_bytes : Bool → List (List ℕ) → List ℕ
records_bytes marked [] = []
records_bytes marked (name ∷ names) = record_bytes marked name ++ records_bytes marked names

-- a sector with these bytes at its front, "FF behind the last used byte"
unfoldable pub padded : List ℕ → List ℕ
padded bytes = bytes ++ replicate (4096 - length bytes) 0xff
