-- Refusals of a call (01, "Refusal numbers, in the order checked").
use Rattle.std.specs.Prelude.{Bool, cond, List, [], ◌∷◌, ℕ, eqb, Result, Ok, Err}
use Rattle.common.specs.declared.refusals.Refusal.{Refusal}
use Rattle.common.specs.declared.refusals.Refusal.TheVariants.{StateNotSound, WrongArray, WrongFrame, WrongOutput, WrongMask, WrongRegion, NotAtRest, WantedRises, StatusLocked, BufferTooShort, ScriptTooLong, UnknownMark, WrongLength, CutShort, WrongBook, WrongNames, NameTwice, RecordsTooLong}

-- ---- the numbers, in the order of the table

-- "state not sound, or chip number unknown"
abbrev pub state_not_sound : ℕ
state_not_sound = 1

-- "array length isn't the chip's size"
abbrev pub wrong_array : ℕ
wrong_array = 2

-- "frame empty or over 4,101"
abbrev pub wrong_frame : ℕ
wrong_frame = 3

-- "output length isn't the frame's (a script's: the sum)"
abbrev pub wrong_output : ℕ
wrong_output = 4

-- "mask length wrong"
abbrev pub wrong_mask : ℕ
wrong_mask = 5

-- "over 4,096 wanted bytes, or start plus length above the size"
abbrev pub wrong_region : ℕ
wrong_region = 6

-- "not at rest: busy, AAI or power-down"
abbrev pub not_at_rest : ℕ
not_at_rest = 7

-- "a wanted 1 where the array has 0"
abbrev pub wanted_rises : ℕ
wanted_rises = 8

-- "step 1 needed, BPL 1, WP low"
abbrev pub status_locked : ℕ
status_locked = 9

-- "script longer than the buffer"
abbrev pub buffer_too_short : ℕ
buffer_too_short = 10

-- "script over 32,768"
abbrev pub script_too_long : ℕ
script_too_long = 11

-- "some record malformed or cut short", by what is wrong with it (02, A1): "12 unknown mark,
abbrev pub unknown_mark : ℕ
unknown_mark = 12

-- 13 frame length 0 or over 4,101,
abbrev pub wrong_length : ℕ
wrong_length = 13

-- 14 record cut short"
abbrev pub cut_short : ℕ
cut_short = 14

-- of a flag book (02, A2): "15, a scene over 4,095 or a sector start that isn't a multiple of 4,096 inside the chip"
abbrev pub wrong_book : ℕ
wrong_book = 15

-- of flags by name (02, A7): "18, a bad name, over 4,096 names, a read scene past them;
abbrev pub wrong_names : ℕ
wrong_names = 18

-- 19, a name twice in the list;
abbrev pub name_twice : ℕ
name_twice = 19

-- 20, records don't fit in 4,096 bytes"
abbrev pub records_too_long : ℕ
records_too_long = 20

-- the number of each refusal
abbrev pub number_of : Refusal → ℕ
number_of StateNotSound = state_not_sound
number_of WrongArray = wrong_array
number_of WrongFrame = wrong_frame
number_of WrongOutput = wrong_output
number_of WrongMask = wrong_mask
number_of WrongRegion = wrong_region
number_of NotAtRest = not_at_rest
number_of WantedRises = wanted_rises
number_of StatusLocked = status_locked
number_of BufferTooShort = buffer_too_short
number_of ScriptTooLong = script_too_long
number_of UnknownMark = unknown_mark
number_of WrongLength = wrong_length
number_of CutShort = cut_short
number_of WrongBook = wrong_book
number_of WrongNames = wrong_names
number_of NameTwice = name_twice
number_of RecordsTooLong = records_too_long

-- ---- what a call makes of them

-- the number of a test's answer: 0 where it passes
abbrev pub number_in : {A : Type 0} → Result A Refusal → ℕ
number_in (Ok _) = 0
number_in (Err refusal) = number_of refusal

-- a call's refusals, each number with its condition, in the order checked: the number of the first that holds, 0 where none does
abbrev pub first_of : List (ℕ × Bool) → ℕ
first_of [] = 0
first_of (r ∷ rs) = cond r.1 r.0 (first_of rs)

-- what is so after an accepted call (number 0), and after a refused one
abbrev pub accepted : {A : Type 0} → ℕ → A → A → A
accepted number new old = cond (eqb number 0) new old

-- "given exactly when": each of two statements gives the other
pub record Exactly (a b : Type 0) : Type 0 where
  pub when : a → b
  pub only_when : b → a
