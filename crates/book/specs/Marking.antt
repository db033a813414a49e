-- What a marking leaves (02, A2), in scenes: run to its end, cut anywhere, planned again behind a cut, and over a whole history.
use Rattle.std.specs.Prelude.{◌≡◌, Bool, true, false, ◌||◌, List, [], ◌∷◌, ℕ, ◌+◌, ◌≤◌, ◌<◌, length, get_or}
use Rattle.common.specs.Bits.{Bytes}
use Rattle.common.specs.Lists.{within}
use Rattle.state.specs.declared.Planned.{Planned}
use Rattle.promises.specs.Promises.{Device, Finished, PowerLost, BehindPlan, room_enough}
use Rattle.book.specs.Book.{is_read, wanted_part, is_listed}
use Rattle.book.specs.Answers.{Marks}

-- ---- the chip behind a marking's script

-- run to its end
abbrev pub MarkFinished : Bool → Device → ℕ → List ℕ → Device → Type 0
MarkFinished wp chip sector scenes after = Finished wp chip sector (wanted_part chip.array sector scenes) after

-- cut somewhere, and powered up
abbrev pub MarkLost : Bool → Device → ℕ → List ℕ → Device → Type 0
MarkLost wp chip sector scenes after = PowerLost wp chip sector (wanted_part chip.array sector scenes) after

-- either of the two
abbrev pub BehindMark : Bool → Device → ℕ → List ℕ → Device → Type 0
BehindMark wp chip sector scenes after = BehindPlan wp chip sector (wanted_part chip.array sector scenes) after

-- ---- what it holds

-- nothing but the used bytes has moved
pub record BesideKept (sector : ℕ) (before after : List ℕ) : Type 0 where
  pub same_length : length after ≡ length before
  pub same_beside : (k : ℕ) → within sector 512 k ≡ false → get_or after k 0 ≡ get_or before k 0

-- the listed scenes have turned read, and no other
pub record AllMarked (sector : ℕ) (scenes before after : List ℕ) : Type 0 where
  pub flags : (scene : ℕ) → scene < 4096 → is_read after sector scene ≡ (is_read before sector scene || is_listed scene scenes)
  pub beside : BesideKept sector before after

-- "After any cut, no scene outside the list may have turned read." And none has turned unread
pub record OnlyListed (sector : ℕ) (scenes before after : List ℕ) : Type 0 where
  pub unlisted : (scene : ℕ) → scene < 4096 → is_listed scene scenes ≡ false → is_read after sector scene ≡ is_read before sector scene
  pub stays_read : (scene : ℕ) → scene < 4096 → is_read before sector scene ≡ true → is_read after sector scene ≡ true
  pub beside : BesideKept sector before after

-- planned again behind a cut, with the same list: the same bytes are wanted, it is accepted with 22 bytes more room or in the chip's worst case, and run to
-- its end it leaves what the first would have
pub record MarkedAgain (wp : Bool) (chip : Device) (sector : ℕ) (scenes : List ℕ) (room : ℕ) (cut : Device) : Type 0 where
  pub same_wanted : wanted_part cut.array sector scenes ≡ wanted_part chip.array sector scenes
  pub accepted : (buffer after : List ℕ) (r : Planned) → Marks cut.state wp cut.array sector scenes buffer after r → room + 22 ≤ length buffer
      → r.number ≡ 0
  pub accepted_in_worst : (buffer after : List ℕ) (r : Planned) → Marks cut.state wp cut.array sector scenes buffer after r
      → room_enough cut.state ≤ length buffer → r.number ≡ 0
  pub finishes : (done : Device) → MarkFinished wp cut sector scenes done → AllMarked sector scenes chip.array done.array
  pub as_uncut : (done uncut : Device) → MarkFinished wp cut sector scenes done → MarkFinished wp chip sector scenes uncut → done.array ≡ uncut.array

-- ---- over a history

-- Markings of one book, with any lists, at any levels and in any room, each run to its end or cut anywhere; and between them anything that leaves the
-- used bytes alone. The lists that were asked, the last one first
pub data History (sector : ℕ) (first : Device) : List (List ℕ) → Device → Type 0 where
  begins : History sector first [] first
  marks : {asked : List (List ℕ)} {chip next : Device} → History sector first asked chip
      → {wp : Bool} {scenes buffer after : List ℕ} {r : Planned} → Marks chip.state wp chip.array sector scenes buffer after r → r.number ≡ 0
      → BehindMark wp chip sector scenes next → History sector first (scenes ∷ asked) next
  aside : {asked : List (List ℕ)} {chip next : Device} → History sector first asked chip
      → ((k : ℕ) → within sector 512 k ≡ true → get_or next.array k 0 ≡ get_or chip.array k 0) → Bytes next.array
      → History sector first asked next

-- one of the lists has the scene
unfoldable pub is_asked : ℕ → List (List ℕ) → Bool
is_asked scene [] = false
is_asked scene (scenes ∷ asked) = is_listed scene scenes || is_asked scene asked

-- a scene that is read at the end was so at the start or was asked for; and none has turned unread
pub record OnlyAskedRead (sector : ℕ) (first : Device) (asked : List (List ℕ)) (last : Device) : Type 0 where
  pub only_asked : (scene : ℕ) → scene < 4096 → is_read last.array sector scene ≡ true → (is_read first.array sector scene || is_asked scene asked) ≡ true
  pub stays_read : (scene : ℕ) → scene < 4096 → is_read first.array sector scene ≡ true → is_read last.array sector scene ≡ true

-- ---- how many are read

-- no scene stands in the list twice
abbrev pub Distinct : List ℕ → Type 0
Distinct [] = Unit {0}
Distinct (scene ∷ scenes) = (is_listed scene scenes ≡ false) × Distinct scenes

-- every listed scene is read; is unread
abbrev pub AllRead : ℕ → List ℕ → List ℕ → Type 0
AllRead sector scenes array = (scene : ℕ) → is_listed scene scenes ≡ true → is_read array sector scene ≡ true

abbrev pub AllUnread : ℕ → List ℕ → List ℕ → Type 0
AllUnread sector scenes array = (scene : ℕ) → is_listed scene scenes ≡ true → is_read array sector scene ≡ false
