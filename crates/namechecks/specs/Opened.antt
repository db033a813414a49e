-- None of a call's own refusals holds, in words.
use Rattle.std.specs.Prelude.{◌≡◌, Bool, true, false, ◌&&◌, List, ℕ, length}
use Rattle.state.specs.declared.State.{State}
use Rattle.state.specs.State.{data_of}
use Rattle.state.specs.Soundness.{is_sound}
use Rattle.book.specs.Book.{is_read}
use Rattle.book.specs.Refusals.{is_sector}
use Rattle.names.specs.Records.{is_name, names_of}
use Rattle.namelist.specs.Listed.{listed, names_in, Good}
use Rattle.namelist.specs.Twice.{is_twice}
use Rattle.sectors.specs.Images.{sector_part}
use Rattle.sectors.specs.Moves.{is_past}
use Rattle.sectors.specs.Moves.{are_too_long, moved_names}
use Rattle.namechecks.specs.Refusals.{is_full}

pub record MarkOpened (s : State) (array : List ℕ) (sector : ℕ) (name : List ℕ) : Type 0 where
  pub sound : is_sound s ≡ true
  pub sized : length array ≡ (data_of s).size
  pub a_sector : is_sector (data_of s).size sector ≡ true
  pub good : is_name name ≡ true
  pub roomy : is_full (names_of (sector_part array sector)) name ≡ false

pub record ListOpened (s : State) (array : List ℕ) (book sector : ℕ) (list : List ℕ) (moving : Bool) : Type 0 where
  pub sound : is_sound s ≡ true
  pub sized : length array ≡ (data_of s).size
  pub a_book : is_sector (data_of s).size book ≡ true
  pub a_sector : is_sector (data_of s).size sector ≡ true
  pub apart : book ≡ sector → ⊥
  pub good : Good list
  pub none_past : (moving && is_past (is_read array book) (length (names_in (listed list)))) ≡ false
  pub once : is_twice (names_in (listed list)) ≡ false

pub record MoveOpened (s : State) (array : List ℕ) (book sector : ℕ) (list : List ℕ) : Type 0 where
  pub opened : ListOpened s array book sector list true
  pub roomy : are_too_long (moved_names array book list) ≡ false
