-- What the parts of a move promise (02, A7), of the sector that they build.
use Rattle.std.specs.Prelude.{◌≡◌, Bool, false, cond, List, ℕ, ◌≤◌, ◌<◌, length, Option, Some, None, Result}
use Rattle.common.specs.Buffer.{Put}
use Rattle.common.specs.Refusals.{records_too_long, number_in}
use Rattle.common.specs.declared.refusals.Refusal.{Refusal}
use Rattle.names.specs.Records.{records_bytes}
use Rattle.namelist.specs.Listed.{listed, names_in}
use Rattle.book.specs.Book.{is_read}
use Rattle.sectors.specs.Moves.{wanted_move}
use Rattle.sectors.specs.Moves.{are_too_long, moved_names}

-- the records of the read scenes, laid at the front, and their length; none where they don't fit
pub record ReadPut (array : List ℕ) (book : ℕ) (list : List ℕ) (marked : Bool) (before after : List ℕ) (r : Option ℕ) : Type 0 where
  pub laid : length (records_bytes marked (moved_names array book list)) ≤ 4096
      → (end : ℕ) × (r ≡ Some end) × Put 0 (records_bytes marked (moved_names array book list)) before after end
  pub too_long : 4096 < length (records_bytes marked (moved_names array book list)) → r ≡ None

-- the sector as it is to be, where they fit, and else the refusal
pub record MoveLaid (array : List ℕ) (book : ℕ) (list image after : List ℕ) (r : Result (Unit {0}) Refusal) : Type 0 where
  pub number_is : number_in r ≡ cond (are_too_long (moved_names array book list)) records_too_long 0
  pub laid : are_too_long (moved_names array book list) ≡ false → after ≡ wanted_move image (is_read array book) (names_in (listed list))
