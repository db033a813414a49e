-- Flags by name (02, A7), sentence by sentence: what the calls answer. Names and wanted sectors by their places: specs/FlagsWanted.antt.
use Rattle.std.specs.Prelude.{◌≡◌, Bool, true, List, [], ◌∷◌, ◌⊎◌, ℕ, ◌+◌, ◌%◌, ◌≤◌, ◌<◌, length, get_or}
use Rattle.common.specs.Lists.{count_below}
use Rattle.common.specs.Refusals.{Exactly}
use Rattle.state.specs.declared.State.{State}
use Rattle.state.specs.declared.Planned.{Planned}
use Rattle.state.specs.declared.Told.{Told}
use Rattle.plan.specs.Update.{PlanUpdated}
use Rattle.flags.specs.declared.Returned.{Returned}
use Rattle.rules.specs.Conditions.{NotSound, size, WrongArray, NotAtRest, WantedRises, StatusLocked, BufferTooShort}
use Rattle.rules.specs.Numbered.{◌when◌, Numbered}
use Rattle.rules.specs.Book.{flag}
use Rattle.rules.specs.FlagsWanted.{sector_bytes, GoodName, Member, NamesAre, GoodList, records_length, MarkWants, picked_names, MoveWants, BackWants}

-- ---- the refusals: "after 1, 2 and A2's 15: 6, both sectors equal; 18, .. 19, .. 20, .."

-- 15: "a sector start that isn't a multiple of 4,096 inside the chip"
abbrev pub WrongSector : State → ℕ → Type 0
WrongSector s sector = (sector % 4096 ≡ 0) × (sector < size s) → ⊥

-- 18, of a call about one name: "a bad name"
abbrev pub BadName : List ℕ → Type 0
BadName name = GoodName name → ⊥

-- of a list: "a bad name, over 4,096 names"
abbrev pub BadList : List ℕ → Type 0
BadList list = (names : List (List ℕ)) → GoodList list names → ⊥

-- "a read scene past them", of a move
pub record ReadPast (array : List ℕ) (book : ℕ) (list : List ℕ) : Type 0 where
  pub names : List (List ℕ)
  pub good_list : GoodList list names
  pub scene : ℕ
  pub past : length names ≤ scene
  pub below : scene < 4096
  pub read : flag array book scene ≡ 0

-- 19: "a name twice in the list"
pub record NameTwice (list : List ℕ) : Type 0 where
  pub names : List (List ℕ)
  pub good_list : GoodList list names
  pub one : ℕ
  pub other : ℕ
  pub apart : one < other
  pub inside : other < length names
  pub same : get_or names one [] ≡ get_or names other []

-- 20: "records don't fit in 4,096 bytes": those there and the new one, if the name has none
pub record MarkTooLong (bytes name : List ℕ) : Type 0 where
  pub names : List (List ℕ)
  pub names_are : NamesAre bytes 0 names
  pub new : Member name names → ⊥
  pub over : 4096 < records_length names + (3 + length name)

-- those of the read scenes
pub record MoveTooLong (array : List ℕ) (book : ℕ) (list : List ℕ) : Type 0 where
  pub names : List (List ℕ)
  pub good_list : GoodList list names
  pub over : 4096 < records_length (picked_names (flag array book) 0 names)

-- the planner's 8, 9 and 10 speak of the sector as it is wanted, which there is where no earlier row holds; "unerased is the planner's 8"
pub record WantedAnd (Wanted Holds : List ℕ → Type 0) : Type 0 where
  pub wanted : List ℕ
  pub wants : Wanted wanted
  pub holds : Holds wanted

-- ---- "A scene is read if a record has its name."

pub record NameTold (bytes name : List ℕ) (value : ℕ) : Type 0 where
  pub names : List (List ℕ)
  pub names_are : NamesAre bytes 0 names
  pub read : Exactly (value ≡ 1) (Member name names)
  pub unread : Exactly (value ≡ 0) (Member name names → ⊥)

pub record NameReadCall (s : State) (array : List ℕ) (sector : ℕ) (name : List ℕ) (r : Told) : Type 0 where
  pub numbers : Numbered r.number (1 when NotSound s ∷ 2 when WrongArray s array ∷ 15 when WrongSector s sector ∷ 18 when BadName name ∷ [])
  pub state_given : r.state ≡ s
  pub refused_0 : 0 < r.number → r.value ≡ 0
  pub told : r.number ≡ 0 → NameTold (sector_bytes array sector) name r.value

-- ---- "Marking a name appends its record, unless one has it."

pub record NameMarkCall (s : State) (wp : Bool) (array : List ℕ) (sector : ℕ) (name buffer after : List ℕ) (planned : Planned) : Type 0 where
  pub numbers : Numbered planned.number
      (1 when NotSound s
      ∷ 2 when WrongArray s array
      ∷ 15 when WrongSector s sector
      ∷ 18 when BadName name
      ∷ 20 when MarkTooLong (sector_bytes array sector) name
      ∷ 7 when NotAtRest s
      ∷ 8 when WantedAnd (MarkWants (sector_bytes array sector) name) (λ wanted. WantedRises array sector wanted)
      ∷ 9 when WantedAnd (MarkWants (sector_bytes array sector) name) (λ wanted. StatusLocked s wp array sector wanted)
      ∷ 10 when WantedAnd (MarkWants (sector_bytes array sector) name) (λ wanted. BufferTooShort s array sector wanted buffer)
      ∷ [])
  pub refusal_keeps : 0 < planned.number
      → (planned ≡ record { number = planned.number; state = s; length = 0; frames = 0; microseconds = 0 }) × (after ≡ buffer)
  pub state_given : planned.state ≡ s
  -- it is the planner's answer for the wanted sector
  pub wanted : planned.number ≡ 0 → WantedAnd (MarkWants (sector_bytes array sector) name) (λ wanted. PlanUpdated s wp array sector wanted buffer after planned)

-- ---- "A move takes the position book and the list of names by position"

pub record MoveCall (s : State) (wp : Bool) (array : List ℕ) (book sector : ℕ) (list buffer after : List ℕ) (planned : Planned) : Type 0 where
  pub numbers : Numbered planned.number
      (1 when NotSound s
      ∷ 2 when WrongArray s array
      ∷ 15 when (WrongSector s sector ⊎ WrongSector s book)
      ∷ 6 when (book ≡ sector)
      ∷ 18 when (BadList list ⊎ ReadPast array book list)
      ∷ 19 when NameTwice list
      ∷ 20 when MoveTooLong array book list
      ∷ 7 when NotAtRest s
      ∷ 8 when WantedAnd (MoveWants array book sector list) (λ wanted. WantedRises array sector wanted)
      ∷ 9 when WantedAnd (MoveWants array book sector list) (λ wanted. StatusLocked s wp array sector wanted)
      ∷ 10 when WantedAnd (MoveWants array book sector list) (λ wanted. BufferTooShort s array sector wanted buffer)
      ∷ [])
  pub refusal_keeps : 0 < planned.number
      → (planned ≡ record { number = planned.number; state = s; length = 0; frames = 0; microseconds = 0 }) × (after ≡ buffer)
  pub state_given : planned.state ≡ s
  pub wanted : planned.number ≡ 0 → WantedAnd (MoveWants array book sector list) (λ wanted. PlanUpdated s wp array sector wanted buffer after planned)

-- ---- "the way back plans the book into an erased one and reports how many records had a name not on the list"

pub record UnlistedCount (array : List ℕ) (sector : ℕ) (list : List ℕ) (count : ℕ) : Type 0 where
  pub records : List (List ℕ)
  pub records_are : NamesAre (sector_bytes array sector) 0 records
  pub names : List (List ℕ)
  pub good_list : GoodList list names
  -- which of them these are
  pub test : ℕ → Bool
  pub tells : (i : ℕ) → i < length records → Exactly (test i ≡ true) (Member (get_or records i []) names → ⊥)
  pub counted : count ≡ count_below test (length records)

-- the plan's fields
abbrev pub plan_of : Returned → Planned
plan_of r = record { number = r.number; state = r.state; length = r.length; frames = r.frames; microseconds = r.microseconds }

pub record BackCall (s : State) (wp : Bool) (array : List ℕ) (sector book : ℕ) (list buffer after : List ℕ) (r : Returned) : Type 0 where
  pub numbers : Numbered r.number
      (1 when NotSound s
      ∷ 2 when WrongArray s array
      ∷ 15 when (WrongSector s sector ⊎ WrongSector s book)
      ∷ 6 when (book ≡ sector)
      ∷ 18 when BadList list
      ∷ 19 when NameTwice list
      ∷ 7 when NotAtRest s
      ∷ 8 when WantedAnd (BackWants array sector list) (λ wanted. WantedRises array book wanted)
      ∷ 9 when WantedAnd (BackWants array sector list) (λ wanted. StatusLocked s wp array book wanted)
      ∷ 10 when WantedAnd (BackWants array sector list) (λ wanted. BufferTooShort s array book wanted buffer)
      ∷ [])
  -- a refusal reports none
  pub refusal_keeps : 0 < r.number
      → (r ≡ record { number = r.number; state = s; length = 0; frames = 0; microseconds = 0; unlisted = 0 }) × (after ≡ buffer)
  pub state_given : r.state ≡ s
  pub wanted : r.number ≡ 0 → WantedAnd (BackWants array sector list) (λ wanted. PlanUpdated s wp array book wanted buffer after (plan_of r))
  pub unlisted : r.number ≡ 0 → UnlistedCount array sector list r.unlisted
