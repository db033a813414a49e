-- The refusals of the calls about names (02, A7): "Refusals, after 1, 2 and A2's 15: 6, both sectors equal; 18, a bad name, over 4,096 names, a read scene
-- past them; 19, a name twice in the list; 20, records don't fit in 4,096 bytes."
use Rattle.std.specs.Prelude.{Bool, true, false, not, ◌&&◌, ◌||◌, List, [], ◌∷◌, ◌++◌, ℕ, eqb, length}
use Rattle.common.specs.Refusals.{wrong_region, wrong_names, name_twice, records_too_long, first_of}
use Rattle.state.specs.declared.State.{State}
use Rattle.state.specs.State.{data_of}
use Rattle.book.specs.Book.{is_read}
use Rattle.book.specs.Refusals.{is_sector, book_refusals}
use Rattle.names.specs.Records.{is_name, names_of}
use Rattle.names.specs.Search.{is_on}
use Rattle.namelist.specs.Listed.{listed, is_bad, names_in}
use Rattle.namelist.specs.Twice.{is_twice}
use Rattle.sectors.specs.Images.{sector_part}
use Rattle.sectors.specs.Moves.{are_too_long, moved_names, is_past}

-- ---- of a call about one name, by the array's length

abbrev pub name_refusals : State → ℕ → ℕ → List ℕ → List (ℕ × Bool)
name_refusals s size sector name = book_refusals s size sector false ++ ((wrong_names, not (is_name name)) ∷ [])

unfoldable pub name_refusal : State → List ℕ → ℕ → List ℕ → ℕ
name_refusal s array sector name = first_of (name_refusals s (length array) sector name)

-- a name that has a record already needs no room
abbrev pub is_full : List (List ℕ) → List ℕ → Bool
is_full names name = not (is_on name names) && are_too_long (names ++ (name ∷ []))

abbrev pub mark_refusals : State → List ℕ → ℕ → List ℕ → List (ℕ × Bool)
mark_refusals s array sector name =
    name_refusals s (length array) sector name ++ ((records_too_long, is_full (names_of (sector_part array sector)) name) ∷ [])

unfoldable pub mark_refusal : State → List ℕ → ℕ → List ℕ → ℕ
mark_refusal s array sector name = first_of (mark_refusals s array sector name)

-- ---- of a call about a book, a sector of names and a list; a read scene past the list matters to a move only

abbrev pub list_refusals : State → List ℕ → ℕ → ℕ → List ℕ → Bool → List (ℕ × Bool)
list_refusals s array book sector list moving =
    book_refusals s (length array) book (not (is_sector (data_of s).size sector))
    ++ ((wrong_region, eqb book sector)
    ∷ (wrong_names, is_bad (listed list) || (moving && is_past (is_read array book) (length (names_in (listed list)))))
    ∷ (name_twice, is_twice (names_in (listed list)))
    ∷ [])

abbrev pub move_refusals : State → List ℕ → ℕ → ℕ → List ℕ → List (ℕ × Bool)
move_refusals s array book sector list =
    list_refusals s array book sector list true ++ ((records_too_long, are_too_long (moved_names array book list)) ∷ [])

unfoldable pub move_refusal : State → List ℕ → ℕ → ℕ → List ℕ → ℕ
move_refusal s array book sector list = first_of (move_refusals s array book sector list)

unfoldable pub back_refusal : State → List ℕ → ℕ → ℕ → List ℕ → ℕ
back_refusal s array sector book list = first_of (list_refusals s array book sector list false)
