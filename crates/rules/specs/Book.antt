-- The game's own flag book (02, A2), sentence by sentence, of what its calls answer and of what their scripts leave, run by the calls.
use Rattle.std.specs.Prelude.{◌≡◌, Bool, List, [], ◌∷◌, ◌⊎◌, ℕ, ◌+◌, ◌/◌, ◌%◌, ◌≤◌, ◌<◌, eqb, length, get_or, take, None, Ok}
use Rattle.common.specs.Bits.{Bytes, bit_at}
use Rattle.common.specs.Lists.{count_below}
use Rattle.common.specs.Refusals.{Exactly}
use Rattle.state.specs.declared.State.{State}
use Rattle.state.specs.declared.Planned.{Planned}
use Rattle.state.specs.declared.Told.{Told}
use Rattle.frame.specs.Device.{Device}
use Rattle.frame.specs.Line.{Line}
use Rattle.script.specs.Reader.{record_at}
use Rattle.run.specs.declared.Ran.{Ran}
use Rattle.run.specs.Script.{ScriptRun}
use Rattle.book.specs.Book.{wanted_part}
use Rattle.book.specs.Answers.{is_read_told, count_told, Marks}
use Rattle.book.specs.Marking.{History, OnlyAskedRead}
use Rattle.rules.specs.Conditions.{NotSound, size, WrongArray, NotAtRest, StatusLocked, BufferTooShort}
use Rattle.rules.specs.Numbered.{◌when◌, Numbered}
use Rattle.rules.specs.Driver.{SentTo, CutAt}
use Rattle.rules.specs.Worst.{worst_bytes}

-- "4,096 scenes by position in one sector of 512 used bytes: scene s is bit s modulo 8, lowest first, of byte s / 8; 1 is unread"
abbrev pub flag : List ℕ → ℕ → ℕ → ℕ
flag array sector scene = bit_at (get_or array (sector + scene / 8) 0) (scene % 8)

-- ---- the refusals

-- "a scene over 4,095" stands somewhere in the list
pub record SceneOver (scenes : List ℕ) : Type 0 where
  pub place : ℕ
  pub inside : place < length scenes
  pub over : 4095 < get_or scenes place 0

-- 15: "a scene over 4,095 or a sector start that isn't a multiple of 4,096 inside the chip"
abbrev pub WrongBook : State → ℕ → List ℕ → Type 0
WrongBook s sector scenes = SceneOver scenes ⊎ ((sector % 4096 ≡ 0) × (sector < size s) → ⊥)

-- ---- "It tells whether a scene is read

pub record IsReadRules (s : State) (array : List ℕ) (sector scene : ℕ) (r : Told) : Type 0 where
  pub numbers : Numbered r.number (1 when NotSound s ∷ 2 when WrongArray s array ∷ 15 when WrongBook s sector (scene ∷ []) ∷ [])
  -- "A refusal .. returns the given state"; a question changes none
  pub state_given : r.state ≡ s
  pub refused_0 : 0 < r.number → r.value ≡ 0
  pub read : r.number ≡ 0 → Exactly (r.value ≡ 1) (flag array sector scene ≡ 0)
  pub unread : r.number ≡ 0 → Exactly (r.value ≡ 0) (flag array sector scene ≡ 1)

-- and how many are,

pub record CountRules (s : State) (array : List ℕ) (sector : ℕ) (r : Told) : Type 0 where
  pub numbers : Numbered r.number (1 when NotSound s ∷ 2 when WrongArray s array ∷ 15 when WrongBook s sector [] ∷ [])
  pub state_given : r.state ≡ s
  pub refused_0 : 0 < r.number → r.value ≡ 0
  pub counts : r.number ≡ 0 → r.value ≡ count_below (λ scene. eqb (flag array sector scene) 0) 4096

-- and plans the marking of a list, repeats allowed."

pub record MarkRefusals (s : State) (wp : Bool) (array : List ℕ) (sector : ℕ) (scenes buffer after : List ℕ) (planned : Planned) : Type 0 where
  -- 15 "after 2 and before the planner's own"; of these, 6 and 8 never come
  pub numbers : Numbered planned.number
      (1 when NotSound s
      ∷ 2 when WrongArray s array
      ∷ 15 when WrongBook s sector scenes
      ∷ 7 when NotAtRest s
      ∷ 9 when StatusLocked s wp array sector (wanted_part array sector scenes)
      ∷ 10 when BufferTooShort s array sector (wanted_part array sector scenes) buffer
      ∷ [])
  pub refusal_keeps : 0 < planned.number
      → (planned ≡ record { number = planned.number; state = s; length = 0; frames = 0; microseconds = 0 }) × (after ≡ buffer)

-- ---- what its script leaves

-- nothing but the 512 bytes has moved
pub record Beside (sector : ℕ) (before after : List ℕ) : Type 0 where
  pub same_length : length after ≡ length before
  pub below : (k : ℕ) → k < sector → get_or after k 0 ≡ get_or before k 0
  pub above : (k : ℕ) → sector + 512 ≤ k → get_or after k 0 ≡ get_or before k 0

-- a scene that stands nowhere in the list
abbrev pub Unlisted : ℕ → List ℕ → Type 0
Unlisted scene scenes = (i : ℕ) → i < length scenes → get_or scenes i 0 ≡ scene → ⊥

-- sent to its end
pub record BookMarked (sector : ℕ) (scenes before after : List ℕ) : Type 0 where
  pub listed_read : (i : ℕ) → i < length scenes → flag after sector (get_or scenes i 0) ≡ 0
  pub others_kept : (scene : ℕ) → scene < 4096 → Unlisted scene scenes → flag after sector scene ≡ flag before sector scene
  pub beside : Beside sector before after

-- "After any cut, no scene outside the list may have turned read."
pub record BookCut (sector : ℕ) (scenes before after : List ℕ) : Type 0 where
  pub others_kept : (scene : ℕ) → scene < 4096 → Unlisted scene scenes → flag after sector scene ≡ flag before sector scene
  pub read_stays : (scene : ℕ) → scene < 4096 → flag before sector scene ≡ 0 → flag after sector scene ≡ 0
  pub beside : Beside sector before after

-- an accepted marking for a chip, and its script
pub record MarkingRules (wp : Bool) (chip : Device) (sector : ℕ) (scenes : List ℕ) (room : ℕ) (script : List ℕ) : Type 0 where
  -- sent record by record, or run by the call
  pub sent : (at : ℕ) (met : Device) → SentTo wp script chip at met → record_at script at ≡ Ok None → BookMarked sector scenes chip.array met.array
  pub run : (line : Line) (ran : Ran) (after : Device) (shown : Line) → ScriptRun wp script chip line ran after shown → ran.number ≡ 0
      → BookMarked sector scenes chip.array after.array
  pub cut : (lost : Device) → CutAt wp script chip lost → BookCut sector scenes chip.array lost.array
  -- and marked again behind the cut: accepted, and it finishes
  pub again : (lost : Device) (buffer after : List ℕ) (planned : Planned) → CutAt wp script chip lost
      → Marks lost.state wp lost.array sector scenes buffer after planned → room + 22 ≤ length buffer → planned.number ≡ 0
  pub again_in_worst : (lost : Device) (buffer after : List ℕ) (planned : Planned) → CutAt wp script chip lost
      → Marks lost.state wp lost.array sector scenes buffer after planned → worst_bytes lost.state.chip ≤ length buffer → planned.number ≡ 0
  pub finishes : (lost : Device) (buffer after : List ℕ) (planned : Planned) (at : ℕ) (met : Device) → CutAt wp script chip lost
      → Marks lost.state wp lost.array sector scenes buffer after planned → planned.number ≡ 0
      → SentTo wp (take planned.length after) lost at met → record_at (take planned.length after) at ≡ Ok None
      → BookMarked sector scenes chip.array met.array

-- ---- all of it

pub record BookRules : Type 0 where
  pub is_read : (s : State) (array : List ℕ) (sector scene : ℕ) (r : Told) → r ≡ is_read_told s array sector scene → IsReadRules s array sector scene r
  pub count : (s : State) (array : List ℕ) (sector : ℕ) (r : Told) → r ≡ count_told s array sector → CountRules s array sector r
  pub mark : (s : State) (wp : Bool) (array : List ℕ) (sector : ℕ) (scenes buffer after : List ℕ) (planned : Planned) → Bytes array
      → Marks s wp array sector scenes buffer after planned → MarkRefusals s wp array sector scenes buffer after planned
  pub marking : (wp : Bool) (chip : Device) (sector : ℕ) (scenes buffer after : List ℕ) (planned : Planned) → Bytes chip.array
      → Marks chip.state wp chip.array sector scenes buffer after planned → planned.number ≡ 0
      → MarkingRules wp chip sector scenes (length buffer) (take planned.length after)
  -- over any history of markings, finished or cut: what is read was so at the start or was asked for, and what was read still is
  pub over_history : (sector : ℕ) (first last : Device) (asked : List (List ℕ)) → Bytes first.array → History sector first asked last
      → OnlyAskedRead sector first asked last
