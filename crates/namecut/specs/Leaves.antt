-- What the scripts leave (02, A7), in names: run to their end, cut anywhere, and over a whole history. "So a cut never makes up a name."
use Rattle.std.specs.Prelude.{◌≡◌, Bool, true, false, ◌||◌, List, [], ◌∷◌, ◌++◌, ◌⊎◌, ℕ, ◌+◌, ◌≤◌, ◌<◌, length, get_or, drop}
use Rattle.common.specs.Bits.{Bytes}
use Rattle.common.specs.Lists.{within}
use Rattle.common.specs.Refusals.{wanted_rises, records_too_long}
use Rattle.state.specs.declared.Planned.{Planned}
use Rattle.promises.specs.Promises.{Device, Finished, PowerLost, BehindPlan, room_enough}
use Rattle.book.specs.Book.{is_read}
use Rattle.names.specs.Records.{names_of, Begins, records_bytes, padded}
use Rattle.names.specs.Search.{is_on}
use Rattle.namelist.specs.Listed.{listed, names_in}
use Rattle.sectors.specs.Images.{sector_part, is_missing, wanted_mark}
use Rattle.sectors.specs.Moves.{wanted_move, wanted_back}
use Rattle.sectors.specs.Moves.{moved_names}
use Rattle.flags.specs.declared.Returned.{Returned}
use Rattle.flags.specs.Answers.{is_name_read, NameMarks, BookMoves, BookReturns}

-- the names that are read in a sector
abbrev pub sector_names : List ℕ → ℕ → List (List ℕ)
sector_names array sector = names_of (sector_part array sector)

-- nothing but the sector has moved
pub record BesideSector (sector : ℕ) (before after : List ℕ) : Type 0 where
  pub same_length : length after ≡ length before
  pub same_beside : (k : ℕ) → within sector 4096 k ≡ false → get_or after k 0 ≡ get_or before k 0

-- ---- a marking

-- the chip behind its script: run to its end, cut somewhere and powered up, or either
abbrev pub MarkFinished : Bool → Device → ℕ → List ℕ → Device → Type 0
MarkFinished wp chip sector name after = Finished wp chip sector (wanted_mark (sector_part chip.array sector) name) after

abbrev pub BehindMark : Bool → Device → ℕ → List ℕ → Device → Type 0
BehindMark wp chip sector name after = BehindPlan wp chip sector (wanted_mark (sector_part chip.array sector) name) after

-- it is the first plan: a length or name byte is missing
abbrev pub is_first_mark : List ℕ → ℕ → List ℕ → Bool
is_first_mark array sector name =
    is_missing (records_bytes false (name ∷ [])) (drop (length (records_bytes true (sector_names array sector))) (sector_part array sector))

pub record MarkLeaves (sector : ℕ) (name before after : List ℕ) : Type 0 where
  -- the names before, or those and the new one at the end
  pub names_are : (sector_names after sector ≡ sector_names before sector) ⊎ (sector_names after sector ≡ sector_names before sector ++ (name ∷ []))
  -- behind the first plan the same names
  pub first_plan : is_name_read before sector name ≡ false → is_first_mark before sector name ≡ true → sector_names after sector ≡ sector_names before sector
  -- a name that is there changes nothing
  pub there_already : is_name_read before sector name ≡ true → sector_part after sector ≡ sector_part before sector
  pub beside : BesideSector sector before after

-- marked again behind a cut or the end of either plan: it meets neither 8 nor 20, and none of the call's other own refusals; on a chip whose BPL is 0 or
-- whose WP is high it is accepted in the room of the chip's worst case
pub record MarkGoesOn (sector : ℕ) (name : List ℕ) (chip : Device) : Type 0 where
  pub never_8 : (wp : Bool) (buffer after : List ℕ) (r : Planned) → NameMarks chip.state wp chip.array sector name buffer after r → r.number ≡ wanted_rises → ⊥
  pub never_20 : (wp : Bool) (buffer after : List ℕ) (r : Planned) → NameMarks chip.state wp chip.array sector name buffer after r → r.number ≡ records_too_long → ⊥
  pub accepted : (wp : Bool) (buffer after : List ℕ) (r : Planned) → NameMarks chip.state wp chip.array sector name buffer after r
      → (chip.state.bpl ≡ false) ⊎ (wp ≡ true) → room_enough chip.state ≤ length buffer → r.number ≡ 0

-- the name has its record, behind those that were there, and FF behind it
pub record NameAdded (sector : ℕ) (name before after : List ℕ) : Type 0 where
  pub sector_is : sector_part after sector ≡ padded (records_bytes true (sector_names before sector ++ (name ∷ [])))
  pub names_are : sector_names after sector ≡ sector_names before sector ++ (name ∷ [])
  pub read : is_name_read after sector name ≡ true
  pub beside : BesideSector sector before after

-- ---- a move

abbrev pub MoveFinished : Bool → Device → ℕ → ℕ → List ℕ → Device → Type 0
MoveFinished wp chip book sector list after =
    Finished wp chip sector (wanted_move (sector_part chip.array sector) (is_read chip.array book) (names_in (listed list))) after

abbrev pub BehindMove : Bool → Device → ℕ → ℕ → List ℕ → Device → Type 0
BehindMove wp chip book sector list after =
    BehindPlan wp chip sector (wanted_move (sector_part chip.array sector) (is_read chip.array book) (names_in (listed list))) after

abbrev pub is_first_move : List ℕ → ℕ → ℕ → List ℕ → Bool
is_first_move array book sector list = is_missing (records_bytes false (moved_names array book list)) (sector_part array sector)

pub record MoveLeaves (book sector : ℕ) (list before after : List ℕ) : Type 0 where
  -- of the read scenes' names those from the first on up to some, none of them behind the first plan
  pub names_are : Begins (sector_names after sector) (moved_names before book list)
  pub first_plan : is_first_move before book sector list ≡ true → sector_names after sector ≡ []
  pub names_stay : Begins (sector_names before sector) (sector_names after sector)
  pub beside : BesideSector sector before after

-- moved again behind a cut or the end of either plan, as a marking goes on
pub record MoveGoesOn (book sector : ℕ) (list : List ℕ) (chip : Device) : Type 0 where
  pub never_8 : (wp : Bool) (buffer after : List ℕ) (r : Planned) → BookMoves chip.state wp chip.array book sector list buffer after r → r.number ≡ wanted_rises → ⊥
  pub never_20 : (wp : Bool) (buffer after : List ℕ) (r : Planned) → BookMoves chip.state wp chip.array book sector list buffer after r
      → r.number ≡ records_too_long → ⊥
  pub accepted : (wp : Bool) (buffer after : List ℕ) (r : Planned) → BookMoves chip.state wp chip.array book sector list buffer after r
      → (chip.state.bpl ≡ false) ⊎ (wp ≡ true) → room_enough chip.state ≤ length buffer → r.number ≡ 0

-- ---- over a history

-- Markings with any names and moves into one sector, at any levels and in any room, each run to its end or cut anywhere, any number of times; and between
-- them anything that leaves the sector alone. The names that were asked for, the last ones first
pub data History (sector : ℕ) (first : Device) : List (List ℕ) → Device → Type 0 where
  begins : History sector first [] first
  marks : {asked : List (List ℕ)} {chip next : Device} → History sector first asked chip
      → (wp : Bool) (name buffer after : List ℕ) (r : Planned) → NameMarks chip.state wp chip.array sector name buffer after r → r.number ≡ 0
      → BehindMark wp chip sector name next → History sector first (name ∷ asked) next
  moves : {asked : List (List ℕ)} {chip next : Device} → History sector first asked chip
      → (wp : Bool) (book : ℕ) (list buffer after : List ℕ) (r : Planned) → BookMoves chip.state wp chip.array book sector list buffer after r
      → r.number ≡ 0 → BehindMove wp chip book sector list next → History sector first (moved_names chip.array book list ++ asked) next
  aside : {asked : List (List ℕ)} {chip next : Device} → History sector first asked chip
      → sector_part next.array sector ≡ sector_part chip.array sector → Bytes next.array → History sector first asked next

-- a name that is read at the end was so at the start or was asked for; and none is lost
pub record OnlyAskedNames (sector : ℕ) (first : Device) (asked : List (List ℕ)) (last : Device) : Type 0 where
  pub not_made_up : (name : List ℕ) → is_name_read last.array sector name ≡ true → (is_name_read first.array sector name || is_on name asked) ≡ true
  pub not_lost : (name : List ℕ) → is_name_read first.array sector name ≡ true → is_name_read last.array sector name ≡ true

-- ---- the way back

abbrev pub BackFinished : Bool → Device → ℕ → ℕ → List ℕ → Device → Type 0
BackFinished wp chip sector book list after = Finished wp chip book (wanted_back (sector_names chip.array sector) (names_in (listed list))) after

abbrev pub BehindBack : Bool → Device → ℕ → ℕ → List ℕ → Device → Type 0
BehindBack wp chip sector book list after = BehindPlan wp chip book (wanted_back (sector_names chip.array sector) (names_in (listed list))) after

abbrev pub BackLost : Bool → Device → ℕ → ℕ → List ℕ → Device → Type 0
BackLost wp chip sector book list after = PowerLost wp chip book (wanted_back (sector_names chip.array sector) (names_in (listed list))) after

-- planned again behind a cut: accepted with 22 bytes more room or in the chip's worst case, and run to its end it leaves what the first would have
pub record BackGoesOn (wp : Bool) (chip : Device) (sector book : ℕ) (list : List ℕ) (room : ℕ) (cut : Device) : Type 0 where
  pub accepted : (buffer after : List ℕ) (r : Returned) → BookReturns cut.state wp cut.array sector book list buffer after r → room + 22 ≤ length buffer
      → r.number ≡ 0
  pub accepted_in_worst : (buffer after : List ℕ) (r : Returned) → BookReturns cut.state wp cut.array sector book list buffer after r
      → room_enough cut.state ≤ length buffer → r.number ≡ 0
  pub finishes : (done : Device) → BackFinished wp cut sector book list done → (scene : ℕ) → scene < 4096
      → is_read done.array book scene ≡ is_name_read chip.array sector (get_or (names_in (listed list)) scene [])

-- no scene turns read but one whose name is among the records
pub record BackLeaves (sector book : ℕ) (list before after : List ℕ) : Type 0 where
  pub only_listed : (scene : ℕ) → scene < 4096 → is_read after book scene ≡ true
      → (is_read before book scene || is_name_read before sector (get_or (names_in (listed list)) scene [])) ≡ true
  pub beside : BesideSector book before after
