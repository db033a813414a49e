-- What the calls about names answer (02, A7).
use Rattle.std.specs.Prelude.{◌≡◌, Bool, List, ℕ}
use Rattle.common.specs.Bits.{bit}
use Rattle.common.specs.Refusals.{accepted}
use Rattle.state.specs.declared.State.{State}
use Rattle.state.specs.declared.Told.{Told}
use Rattle.state.specs.declared.Planned.{Planned}
use Rattle.state.specs.Answer.{told_of}
use Rattle.promises.specs.Promises.{PlansUnless}
use Rattle.book.specs.Book.{is_read}
use Rattle.names.specs.Records.{names_of}
use Rattle.names.specs.Search.{is_on}
use Rattle.namelist.specs.Listed.{listed, names_in}
use Rattle.sectors.specs.Images.{sector_part, wanted_mark}
use Rattle.sectors.specs.Moves.{wanted_move, wanted_back, unlisted}
use Rattle.namechecks.specs.Refusals.{name_refusal, mark_refusal, move_refusal, back_refusal}
use Rattle.flags.specs.declared.Returned.{Returned}

-- "A scene is read if a record has its name."
unfoldable pub is_name_read : List ℕ → ℕ → List ℕ → Bool
is_name_read array sector name = is_on name (names_of (sector_part array sector))

-- 1 or 0
unfoldable pub name_told : State → List ℕ → ℕ → List ℕ → Told
name_told s array sector name = told_of (name_refusal s array sector name) s (bit (is_name_read array sector name) 1)

-- The answer of a marking and of a move, and the buffer before and after: the call's own refusal, or what the planner answers for the whole sector as it
-- is to be.
abbrev pub NameMarks : State → Bool → List ℕ → ℕ → List ℕ → List ℕ → List ℕ → Planned → Type 0
NameMarks s wp array sector name buffer after r =
    PlansUnless (mark_refusal s array sector name) s wp array sector (wanted_mark (sector_part array sector) name) buffer after r

abbrev pub BookMoves : State → Bool → List ℕ → ℕ → ℕ → List ℕ → List ℕ → List ℕ → Planned → Type 0
BookMoves s wp array book sector list buffer after r =
    PlansUnless (move_refusal s array book sector list) s wp array sector
    (wanted_move (sector_part array sector) (is_read array book) (names_in (listed list))) buffer after r

-- the fields of a plan
abbrev pub planned_of : Returned → Planned
planned_of r = record { number = r.number; state = r.state; length = r.length; frames = r.frames; microseconds = r.microseconds }

abbrev pub refused_return : ℕ → State → Returned
refused_return number s = record { number = number; state = s; length = 0; frames = 0; microseconds = 0; unlisted = 0 }

-- a plan's answer with the records that have a name not on the list
abbrev pub returned_of : Planned → ℕ → Returned
returned_of p unlisted = record {
  number = p.number;
  state = p.state;
  length = p.length;
  frames = p.frames;
  microseconds = p.microseconds;
  unlisted = accepted p.number unlisted 0;
}

-- the way back "reports how many records had a name not on the list"; with a refusal 0
pub record BookReturns (s : State) (wp : Bool) (array : List ℕ) (sector book : ℕ) (list buffer after : List ℕ) (r : Returned) : Type 0 where
  pub plan : PlansUnless (back_refusal s array sector book list) s wp array book
      (wanted_back (names_of (sector_part array sector)) (names_in (listed list))) buffer after (planned_of r)
  pub unlisted_is : r.unlisted ≡ accepted r.number (unlisted (names_in (listed list)) (names_of (sector_part array sector))) 0
