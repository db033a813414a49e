-- Flags by name, and back again (02, A7): names and wanted sectors by their places (specs/FlagsWanted.antt), what the calls answer
-- (specs/FlagsCalls.antt), and what their scripts leave (specs/FlagsLeft.antt).
use Rattle.std.specs.Prelude.{◌≡◌, Bool, List, [], ◌∷◌, ◌++◌, ℕ, ◌<◌, length}
use Rattle.common.specs.Bits.{Bytes}
use Rattle.common.specs.Refusals.{Exactly}
use Rattle.state.specs.declared.State.{State}
use Rattle.state.specs.declared.Planned.{Planned}
use Rattle.state.specs.declared.Told.{Told}
use Rattle.frame.specs.Device.{Device}
use Rattle.names.specs.Records.{names_of}
use Rattle.namelist.specs.Listed.{Listing}
use Rattle.flags.specs.declared.Returned.{Returned}
use Rattle.flags.specs.Answers.{name_told, NameMarks, BookMoves, BookReturns}
use Rattle.rules.specs.Book.{flag}
use Rattle.rules.specs.FlagsWanted.{sector_bytes, Member, NamesAre, GoodList, Laid, Wants, MarkWants, MoveWants, BackWants}
use Rattle.rules.specs.FlagsLeft.{
  Marking,
  MarkSent,
  MarkBehind,
  MoveSent,
  MoveBehind,
  BackSent,
  BackLost,
  BackBehind,
  MarkLeft,
  MarkAgain,
  MarkAdded,
  MoveLeft,
  MoveAgain,
  MoveDone,
  BackLeft,
  BackAgain,
  NamesHistory,
  NamesSince,
}
use Rattle.rules.specs.FlagsCalls.{WantedAnd, NameReadCall, NameMarkCall, MoveCall, BackCall}

pub record FlagsRules : Type 0 where
  -- a sector's names by their places are those that the calls read, and no others are
  pub names_are : (bytes : List ℕ) → NamesAre bytes 0 (names_of bytes)
  pub names_only : (bytes : List ℕ) (names names₂ : List (List ℕ)) → NamesAre bytes 0 names → NamesAre bytes 0 names₂ → names ≡ names₂
  -- and so a list's
  pub list_are : (list : List ℕ) (names : List (List ℕ)) → Exactly (GoodList list names) (Listing list names)
  pub list_only : (list : List ℕ) (names names₂ : List (List ℕ)) → GoodList list names → GoodList list names₂ → names ≡ names₂
  -- what is said of a wanted sector fixes each of its bytes
  pub wants_only : (image : List ℕ) (at : ℕ) (names : List (List ℕ)) (wanted wanted₂ : List ℕ) → Wants image at names wanted → Wants image at names wanted₂
      → wanted ≡ wanted₂
  pub mark_wants_only : (bytes name wanted wanted₂ : List ℕ) → MarkWants bytes name wanted → MarkWants bytes name wanted₂ → wanted ≡ wanted₂
  pub move_wants_only : (array : List ℕ) (book sector : ℕ) (list wanted wanted₂ : List ℕ) → MoveWants array book sector list wanted
      → MoveWants array book sector list wanted₂ → wanted ≡ wanted₂
  pub back_wants_only : (array : List ℕ) (sector : ℕ) (list wanted wanted₂ : List ℕ) → BackWants array sector list wanted → BackWants array sector list wanted₂
      → wanted ≡ wanted₂
  -- what the calls answer
  pub is_read : (s : State) (array : List ℕ) (sector : ℕ) (name : List ℕ) (r : Told) → r ≡ name_told s array sector name → NameReadCall s array sector name r
  pub mark : (s : State) (wp : Bool) (array : List ℕ) (sector : ℕ) (name buffer after : List ℕ) (planned : Planned) → Bytes array
      → NameMarks s wp array sector name buffer after planned → NameMarkCall s wp array sector name buffer after planned
  pub move : (s : State) (wp : Bool) (array : List ℕ) (book sector : ℕ) (list buffer after : List ℕ) (planned : Planned)
      → BookMoves s wp array book sector list buffer after planned → MoveCall s wp array book sector list buffer after planned
  pub back : (s : State) (wp : Bool) (array : List ℕ) (sector book : ℕ) (list buffer after : List ℕ) (r : Returned)
      → BookReturns s wp array sector book list buffer after r → BackCall s wp array sector book list buffer after r
  -- what their scripts leave: sent to its end, the sector as it was wanted;
  pub mark_sent : (wp : Bool) (chip done : Device) (sector : ℕ) (name : List ℕ) → Bytes chip.array → MarkSent wp chip sector name done
      → WantedAnd (MarkWants (sector_bytes chip.array sector) name) (λ wanted. sector_bytes done.array sector ≡ wanted)
  pub move_sent : (wp : Bool) (chip done : Device) (book sector : ℕ) (list : List ℕ) → Bytes chip.array → MoveSent wp chip book sector list done
      → WantedAnd (MoveWants chip.array book sector list) (λ wanted. sector_bytes done.array sector ≡ wanted)
  pub back_sent : (wp : Bool) (chip done : Device) (sector book : ℕ) (list : List ℕ) (count : ℕ) → Bytes chip.array
      → BackSent wp chip sector book list count done → WantedAnd (BackWants chip.array sector list) (λ wanted. sector_bytes done.array book ≡ wanted)
  -- a marking's, sent to its end or cut anywhere: "a cut never makes up a name",
  pub mark_left : (wp : Bool) (chip : Device) (sector : ℕ) (name : List ℕ) (after : Device) → Bytes chip.array → MarkBehind wp chip sector name after
      → MarkLeft sector name chip.array after.array
  -- and marking goes on from there;
  pub mark_again : (wp : Bool) (chip : Device) (sector : ℕ) (name : List ℕ) (after : Device) → Bytes chip.array → MarkBehind wp chip sector name after
      → MarkAgain sector name after
  -- both plans sent, the record is there, at the end, and FF behind it; and so they are behind a cut
  pub mark_added : (wp wp₂ : Bool) (chip mid done : Device) (sector : ℕ) (name : List ℕ) → Bytes chip.array → MarkSent wp chip sector name mid
      → MarkSent wp₂ mid sector name done → MarkAdded sector name chip.array done.array
  pub mark_laid : (wp wp₂ : Bool) (chip mid done : Device) (sector : ℕ) (name : List ℕ) → Bytes chip.array → MarkSent wp chip sector name mid
      → MarkSent wp₂ mid sector name done → (names : List (List ℕ)) → NamesAre (sector_bytes chip.array sector) 0 names → (Member name names → ⊥)
      → Laid (sector_bytes done.array sector) 0x4e 0x52 0 (names ++ (name ∷ []))
  pub mark_finishes : (wp wp₂ wp₃ : Bool) (chip lost mid done : Device) (sector : ℕ) (name : List ℕ) → Bytes chip.array → MarkBehind wp chip sector name lost
      → MarkSent wp₂ lost sector name mid → MarkSent wp₃ mid sector name done → MarkAdded sector name chip.array done.array
  -- an accepted marking is the empty script exactly where a record has the name
  pub mark_empty : (wp : Bool) (chip : Device) (sector : ℕ) (name buffer after : List ℕ) (planned : Planned) → Bytes chip.array
      → Marking wp chip sector name buffer after planned → planned.number ≡ 0 → (names : List (List ℕ)) → NamesAre (sector_bytes chip.array sector) 0 names
      → Exactly (planned.length ≡ 0) (Member name names)
  -- a move's, sent or cut; it goes on from there; and both plans sent
  pub move_left : (wp : Bool) (chip : Device) (book sector : ℕ) (list : List ℕ) (after : Device) → Bytes chip.array → MoveBehind wp chip book sector list after
      → MoveLeft book sector list chip.array after.array
  pub move_again : (wp : Bool) (chip : Device) (book sector : ℕ) (list : List ℕ) (after : Device) → Bytes chip.array → MoveBehind wp chip book sector list after
      → MoveAgain book sector list after
  pub move_done : (wp wp₂ : Bool) (chip mid done : Device) (book sector : ℕ) (list : List ℕ) → Bytes chip.array → MoveSent wp chip book sector list mid
      → MoveSent wp₂ mid book sector list done → MoveDone book sector list chip.array done.array
  -- the way back's, sent or cut, and again behind the cut
  pub back_left : (wp : Bool) (chip : Device) (sector book : ℕ) (list : List ℕ) (count : ℕ) (after : Device) → Bytes chip.array
      → BackBehind wp chip sector book list count after → BackLeft sector book list chip.array after.array
  pub back_again : (wp : Bool) (chip : Device) (sector book : ℕ) (list : List ℕ) (count : ℕ) (lost : Device) → Bytes chip.array
      → (cut : BackLost wp chip sector book list count lost) → BackAgain wp sector book list (length cut.buffer) lost
  -- "Moving there and back gives the same flags.", into any third sector; and no record is off the list
  pub there_and_back : (wp wp₂ wp₃ : Bool) (chip mid there last : Device) (book sector third : ℕ) (list : List ℕ) (count : ℕ) → Bytes chip.array
      → MoveSent wp chip book sector list mid → MoveSent wp₂ mid book sector list there → BackSent wp₃ there sector third list count last
      → (scene : ℕ) → scene < 4096 → flag last.array third scene ≡ flag chip.array book scene
  pub all_listed : (wp wp₂ wp₃ : Bool) (chip mid there last : Device) (book sector third : ℕ) (list : List ℕ) (count : ℕ) → Bytes chip.array
      → MoveSent wp chip book sector list mid → MoveSent wp₂ mid book sector list there → BackSent wp₃ there sector third list count last → count ≡ 0
  -- and back and there the same names, of those on the list
  pub back_and_there : (wp wp₂ wp₃ : Bool) (chip there mid last : Device) (sector book third : ℕ) (list : List ℕ) (count : ℕ) → Bytes chip.array
      → BackSent wp chip sector book list count there → MoveSent wp₂ there book third list mid → MoveSent wp₃ mid book third list last
      → (names records now : List (List ℕ)) → GoodList list names → NamesAre (sector_bytes chip.array sector) 0 records
      → NamesAre (sector_bytes last.array third) 0 now → (name : List ℕ) → Member name names → Exactly (Member name now) (Member name records)
  -- over any history of markings and moves, sent or cut: no name is made up and none is lost
  pub over_history : (sector : ℕ) (first last : Device) (asked : List (List ℕ)) → Bytes first.array → NamesHistory sector first asked last
      → NamesSince sector first asked last
