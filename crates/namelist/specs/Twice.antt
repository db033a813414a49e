-- A name that stands twice in the list (02, A7), and the prints by which the search for it is cut short.
use Rattle.std.specs.Prelude.{Bool, false, ◌||◌, List, [], ◌∷◌, ℕ, ◌+◌, ◌*◌, ◌%◌}
use Rattle.names.specs.Search.{is_on}

-- "a name twice in the list"
unfoldable pub is_twice : List (List ℕ) → Bool
is_twice [] = false
is_twice (name ∷ others) = is_on name others || is_twice others

-- A print of a name: equal names have equal prints. It is a polynomial in 251, more than any byte of a name, so that short names that differ have
-- different prints.
unfoldable pub print_from : ℕ → List ℕ → ℕ
print_from print [] = print
print_from print (x ∷ xs) = print_from ((print * 251 + x) % 16777216) xs

unfoldable pub print_of : List ℕ → ℕ
print_of name = print_from 0 name

-- of each name
unfoldable pub prints_of : List (List ℕ) → List ℕ
prints_of [] = []
prints_of (name ∷ others) = print_of name ∷ prints_of others
