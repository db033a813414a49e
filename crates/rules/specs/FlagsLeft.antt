-- Flags by name (02, A7): what the scripts leave, sent to the chip as a driver does or cut on the way. "so a cut never makes up a name".
use Rattle.std.specs.Prelude.{◌≡◌, Bool, true, false, List, [], ◌∷◌, ◌++◌, ◌⊎◌, ℕ, ◌+◌, ◌≤◌, ◌<◌, length, get_or, take, None, Ok}
use Rattle.common.specs.Bits.{Bytes}
use Rattle.state.specs.declared.Planned.{Planned}
use Rattle.frame.specs.Device.{Device}
use Rattle.frame.specs.Line.{Line}
use Rattle.script.specs.Reader.{record_at}
use Rattle.run.specs.declared.Ran.{Ran}
use Rattle.run.specs.Script.{ScriptRun}
use Rattle.names.specs.Records.{Begins}
use Rattle.flags.specs.Answers.{NameMarks, BookMoves, BookReturns}
use Rattle.rules.specs.Driver.{SentTo, CutAt}
use Rattle.rules.specs.Worst.{worst_bytes}
use Rattle.rules.specs.Book.{flag}
use Rattle.rules.specs.FlagsWanted.{sector_bytes, Member, NamesAre, GoodList, records_length, Laid, Whole, picked_names}

-- ---- an accepted plan and its script

-- sent to its end, record by record, or run by the call
pub data Done (wp : Bool) (script : List ℕ) (chip : Device) : Device → Type 0 where
  sent : {at : ℕ} {met : Device} → SentTo wp script chip at met → record_at script at ≡ Ok None → Done wp script chip met
  run : {line shown : Line} {ran : Ran} {after : Device} → ScriptRun wp script chip line ran after shown → ran.number ≡ 0 → Done wp script chip after

-- by a call that answers so: before and after it the buffer
pub record Sent (Answers : List ℕ → List ℕ → Planned → Type 0) (wp : Bool) (chip done : Device) : Type 0 where
  pub buffer : List ℕ
  pub after : List ℕ
  pub planned : Planned
  pub answers : Answers buffer after planned
  pub accepted : planned.number ≡ 0
  pub finished : Done wp (take planned.length after) chip done

pub record Lost (Answers : List ℕ → List ℕ → Planned → Type 0) (wp : Bool) (chip lost : Device) : Type 0 where
  pub buffer : List ℕ
  pub after : List ℕ
  pub planned : Planned
  pub answers : Answers buffer after planned
  pub accepted : planned.number ≡ 0
  pub cut : CutAt wp (take planned.length after) chip lost

-- a marking, a move and the way back, for a chip
abbrev pub Marking : Bool → Device → ℕ → List ℕ → List ℕ → List ℕ → Planned → Type 0
Marking wp chip sector name buffer after planned = NameMarks chip.state wp chip.array sector name buffer after planned

abbrev pub Moving : Bool → Device → ℕ → ℕ → List ℕ → List ℕ → List ℕ → Planned → Type 0
Moving wp chip book sector list buffer after planned = BookMoves chip.state wp chip.array book sector list buffer after planned

-- with the count that it reports
abbrev pub Returning : Bool → Device → ℕ → ℕ → List ℕ → ℕ → List ℕ → List ℕ → Planned → Type 0
Returning wp chip sector book list count buffer after planned =
    BookReturns chip.state wp chip.array sector book list buffer after record {
      number = planned.number;
      state = planned.state;
      length = planned.length;
      frames = planned.frames;
      microseconds = planned.microseconds;
      unlisted = count;
    }

-- behind either
abbrev pub Behind : (List ℕ → List ℕ → Planned → Type 0) → Bool → Device → Device → Type 0
Behind Answers wp chip after = Sent Answers wp chip after ⊎ Lost Answers wp chip after

abbrev pub MarkSent : Bool → Device → ℕ → List ℕ → Device → Type 0
MarkSent wp chip sector name done = Sent (λ buffer after planned. Marking wp chip sector name buffer after planned) wp chip done

abbrev pub MarkBehind : Bool → Device → ℕ → List ℕ → Device → Type 0
MarkBehind wp chip sector name after = Behind (λ buffer after planned. Marking wp chip sector name buffer after planned) wp chip after

abbrev pub MoveSent : Bool → Device → ℕ → ℕ → List ℕ → Device → Type 0
MoveSent wp chip book sector list done = Sent (λ buffer after planned. Moving wp chip book sector list buffer after planned) wp chip done

abbrev pub MoveBehind : Bool → Device → ℕ → ℕ → List ℕ → Device → Type 0
MoveBehind wp chip book sector list after = Behind (λ buffer after planned. Moving wp chip book sector list buffer after planned) wp chip after

abbrev pub BackSent : Bool → Device → ℕ → ℕ → List ℕ → ℕ → Device → Type 0
BackSent wp chip sector book list count done = Sent (λ buffer after planned. Returning wp chip sector book list count buffer after planned) wp chip done

abbrev pub BackLost : Bool → Device → ℕ → ℕ → List ℕ → ℕ → Device → Type 0
BackLost wp chip sector book list count lost = Lost (λ buffer after planned. Returning wp chip sector book list count buffer after planned) wp chip lost

abbrev pub BackBehind : Bool → Device → ℕ → ℕ → List ℕ → ℕ → Device → Type 0
BackBehind wp chip sector book list count after = Behind (λ buffer after planned. Returning wp chip sector book list count buffer after planned) wp chip after

-- ---- what they leave

-- nothing but the sector has moved
pub record BesideNames (sector : ℕ) (before after : List ℕ) : Type 0 where
  pub same_length : length after ≡ length before
  pub below : (k : ℕ) → k < sector → get_or after k 0 ≡ get_or before k 0
  pub above : (k : ℕ) → sector + 4096 ≤ k → get_or after k 0 ≡ get_or before k 0

-- a marking, sent or cut
pub record MarkLeft (sector : ℕ) (name before after : List ℕ) : Type 0 where
  pub names : List (List ℕ)
  pub names_were : NamesAre (sector_bytes before sector) 0 names
  -- the names before, or those and the new one at the end
  pub names_are : NamesAre (sector_bytes after sector) 0 names ⊎ NamesAre (sector_bytes after sector) 0 (names ++ (name ∷ []))
  -- behind the first plan no name more
  pub first_plan : (Member name names → ⊥) → (Whole (sector_bytes before sector) (records_length names) (name ∷ []) → ⊥)
      → NamesAre (sector_bytes after sector) 0 names
  pub there : Member name names → sector_bytes after sector ≡ sector_bytes before sector
  pub beside : BesideNames sector before after

-- and marked again, at any level and in any room
pub record MarkAgain (sector : ℕ) (name : List ℕ) (chip : Device) : Type 0 where
  pub never_8 : (wp : Bool) (buffer after : List ℕ) (planned : Planned) → Marking wp chip sector name buffer after planned → planned.number ≡ 8 → ⊥
  pub never_20 : (wp : Bool) (buffer after : List ℕ) (planned : Planned) → Marking wp chip sector name buffer after planned → planned.number ≡ 20 → ⊥
  -- with BPL 0 or WP high, and the room of the worst case
  pub accepted : (wp : Bool) (buffer after : List ℕ) (planned : Planned) → Marking wp chip sector name buffer after planned
      → (chip.state.bpl ≡ false) ⊎ (wp ≡ true) → worst_bytes chip.state.chip ≤ length buffer → planned.number ≡ 0

-- both plans sent: "Marking a name appends its record, unless one has it."
pub record MarkAdded (sector : ℕ) (name before after : List ℕ) : Type 0 where
  pub names : List (List ℕ)
  pub names_were : NamesAre (sector_bytes before sector) 0 names
  pub appended : (Member name names → ⊥) → NamesAre (sector_bytes after sector) 0 (names ++ (name ∷ []))
  pub there : Member name names → sector_bytes after sector ≡ sector_bytes before sector
  pub beside : BesideNames sector before after

-- a move, sent or cut
pub record MoveLeft (book sector : ℕ) (list before after : List ℕ) : Type 0 where
  pub names : List (List ℕ)
  pub good_list : GoodList list names
  -- of the read scenes' names those from the first on up to some
  pub moved : List (List ℕ)
  pub moved_are : NamesAre (sector_bytes after sector) 0 moved
  pub moved_first : Begins moved (picked_names (flag before book) 0 names)
  -- behind the first plan none
  pub first_plan : (Whole (sector_bytes before sector) 0 (picked_names (flag before book) 0 names) → ⊥) → NamesAre (sector_bytes after sector) 0 []
  pub book_stays : (scene : ℕ) → scene < 4096 → flag after book scene ≡ flag before book scene
  pub beside : BesideNames sector before after

-- and moved again, at any level and in any room
pub record MoveAgain (book sector : ℕ) (list : List ℕ) (chip : Device) : Type 0 where
  pub never_8 : (wp : Bool) (buffer after : List ℕ) (planned : Planned) → Moving wp chip book sector list buffer after planned → planned.number ≡ 8 → ⊥
  pub never_20 : (wp : Bool) (buffer after : List ℕ) (planned : Planned) → Moving wp chip book sector list buffer after planned → planned.number ≡ 20 → ⊥
  -- with BPL 0 or WP high, and the room of the worst case
  pub accepted : (wp : Bool) (buffer after : List ℕ) (planned : Planned) → Moving wp chip book sector list buffer after planned
      → (chip.state.bpl ≡ false) ⊎ (wp ≡ true) → worst_bytes chip.state.chip ≤ length buffer → planned.number ≡ 0

-- both plans sent: "records for the read scenes in list order"
pub record MoveDone (book sector : ℕ) (list before after : List ℕ) : Type 0 where
  pub names : List (List ℕ)
  pub good_list : GoodList list names
  pub moved_are : NamesAre (sector_bytes after sector) 0 (picked_names (flag before book) 0 names)
  pub laid : Laid (sector_bytes after sector) 0x4e 0x52 0 (picked_names (flag before book) 0 names)
  pub book_stays : (scene : ℕ) → scene < 4096 → flag after book scene ≡ flag before book scene

-- the way back, sent or cut: no scene turns read but one whose name is among the records
pub record BackLeft (sector book : ℕ) (list before after : List ℕ) : Type 0 where
  pub names : List (List ℕ)
  pub good_list : GoodList list names
  pub records : List (List ℕ)
  pub records_are : NamesAre (sector_bytes before sector) 0 records
  pub only_listed : (scene : ℕ) → scene < 4096 → flag after book scene ≡ 0 → (flag before book scene ≡ 0) ⊎ Member (get_or names scene []) records
  pub beside : BesideNames book before after

-- and planned again behind a cut, at the level of the first plan, with 22 bytes more room or the room of the worst case
pub record BackAgain (wp : Bool) (sector book : ℕ) (list : List ℕ) (room : ℕ) (chip : Device) : Type 0 where
  pub accepted : (count : ℕ) (buffer after : List ℕ) (planned : Planned) → Returning wp chip sector book list count buffer after planned
      → room + 22 ≤ length buffer → planned.number ≡ 0
  pub accepted_in_worst : (count : ℕ) (buffer after : List ℕ) (planned : Planned) → Returning wp chip sector book list count buffer after planned
      → worst_bytes chip.state.chip ≤ length buffer → planned.number ≡ 0

-- ---- over a history

-- Markings with any names and moves into one sector, at any levels and in any room, each sent to its end or cut anywhere, any number of times; and between
-- them anything that leaves the sector alone. The names that were asked for, the last ones first
pub data NamesHistory (sector : ℕ) (first : Device) : List (List ℕ) → Device → Type 0 where
  begun : NamesHistory sector first [] first
  marked : {asked : List (List ℕ)} {chip next : Device} → NamesHistory sector first asked chip → (wp : Bool) (name : List ℕ)
      → MarkBehind wp chip sector name next → NamesHistory sector first (name ∷ asked) next
  moved : {asked : List (List ℕ)} {chip next : Device} → NamesHistory sector first asked chip → (wp : Bool) (book : ℕ) (list : List ℕ) (names : List (List ℕ))
      → GoodList list names → MoveBehind wp chip book sector list next
      → NamesHistory sector first (picked_names (flag chip.array book) 0 names ++ asked) next
  untouched : {asked : List (List ℕ)} {chip next : Device} → NamesHistory sector first asked chip
      → sector_bytes next.array sector ≡ sector_bytes chip.array sector → Bytes next.array → NamesHistory sector first asked next

-- a name that is read at the end was so at the start or was asked for, and none is lost
pub record NamesSince (sector : ℕ) (first : Device) (asked : List (List ℕ)) (last : Device) : Type 0 where
  pub names : List (List ℕ)
  pub names_were : NamesAre (sector_bytes first.array sector) 0 names
  pub now : List (List ℕ)
  pub now_are : NamesAre (sector_bytes last.array sector) 0 now
  pub not_made_up : (name : List ℕ) → Member name now → Member name names ⊎ Member name asked
  pub not_lost : (name : List ℕ) → Member name names → Member name now
