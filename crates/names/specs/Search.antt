-- A name among others (02, A7): "A scene is read if a record has its name."
use Rattle.std.specs.Prelude.{◌≡◌, Bool, true, false, ◌&&◌, ◌||◌, Result, Ok, Err, List, [], ◌∷◌, ℕ, ◌+◌, eqb, length, take, drop}
use Rattle.names.specs.Records.{names_of, record_bytes, records_bytes}

-- byte for byte the same
unfoldable pub same_bytes : List ℕ → List ℕ → Bool
same_bytes [] [] = true
same_bytes [] (y ∷ ys) = false
same_bytes (x ∷ xs) [] = false
same_bytes (x ∷ xs) (y ∷ ys) = eqb x y && same_bytes xs ys

-- a name is one of these
unfoldable pub is_on : List ℕ → List (List ℕ) → Bool
is_on name [] = false
is_on name (first ∷ others) = same_bytes name first || is_on name others

-- the records of some bytes, searched for a name: where one begins that has it, or how long they are, so where the next would begin
abbrev pub Searched : List ℕ → List ℕ → Result ℕ ℕ → Type 0
Searched bytes name (Ok at) =
    (is_on name (names_of bytes) ≡ true) × (take (3 + length name) (drop at bytes) ≡ record_bytes true name)
Searched bytes name (Err end) =
    (is_on name (names_of bytes) ≡ false) × (end ≡ length (records_bytes true (names_of bytes)))
