-- "Say what is wrong with a script, and where" (02, A1): 12, 13 and 14 in words, their offset, and what looking a script through answers.
use Rattle.std.specs.Prelude.{◌≡◌, Bool, List, [], ◌∷◌, ◌⊎◌, ℕ, ◌+◌, ◌*◌, ◌≤◌, ◌<◌, length, get_or, take}
use Rattle.common.specs.Lists.{Each}
use Rattle.script.specs.Record.{Record, encode, output_length}
use Rattle.script.specs.Survey.{survey_of}
use Rattle.script.specs.Answers.{number_of}
use Rattle.script.specs.Reader.{record_at}
use Rattle.frame.specs.Device.{Device}
use Rattle.frame.specs.Line.{Line}
use Rattle.run.specs.declared.Ran.{Ran}
use Rattle.run.specs.Script.{ScriptRun}
use Rattle.rules.specs.Scripts.{Writable, RefusedWith}
use Rattle.rules.specs.Running.{Counted}
use Rattle.rules.specs.Conditions.{NotSound, WrongArray, BothLong, ScriptTooLong}
use Rattle.rules.specs.Numbered.{Check, ◌when◌, FirstIs, Numbered}

-- ---- one record

-- "each with a two-byte mark: 5A 46 .. or 5A 57" (01): its second byte is 46 or 57
abbrev pub Marked : List ℕ → ℕ → ℕ → Type 0
Marked script offset second = (get_or script offset 0 ≡ 0x5a) × (get_or script (offset + 1) 0 ≡ second)

-- a frame's "length of two bytes, high first" (01)
abbrev pub length_field : List ℕ → ℕ → ℕ
length_field script offset = get_or script (offset + 2) 0 * 256 + get_or script (offset + 3) 0

-- "one byte left"
abbrev pub OneByteLeft : List ℕ → ℕ → Type 0
OneByteLeft script offset = length script ≡ offset + 1

-- "unknown mark": two bytes are there, and neither mark
abbrev pub UnknownMark : List ℕ → ℕ → Type 0
UnknownMark script offset = (offset + 1 < length script) × ((Marked script offset 0x46 → ⊥) × (Marked script offset 0x57 → ⊥))

-- a frame whose length field is cut short
abbrev pub LengthCut : List ℕ → ℕ → Type 0
LengthCut script offset = Marked script offset 0x46 × (length script < offset + 4)

-- "frame length 0 or over 4,101"
abbrev pub WrongLength : List ℕ → ℕ → Type 0
WrongLength script offset = Marked script offset 0x46 × ((length_field script offset ≡ 0) ⊎ (4101 < length_field script offset))

-- "the rest" is cut short: a frame's bytes, or a wait's four
abbrev pub RestCut : List ℕ → ℕ → Type 0
RestCut script offset =
    (Marked script offset 0x46 × (length script < offset + 4 + length_field script offset)) ⊎ (Marked script offset 0x57 × (length script < offset + 6))

-- "12 unknown mark, 13 frame length 0 or over 4,101, 14 record cut short; in one record in the order 14 for the mark (one byte left), 12, 14 for the
-- length field, 13, 14 for the rest"
abbrev pub in_one_record : List ℕ → ℕ → List Check
in_one_record script offset =
    14 when OneByteLeft script offset
    ∷ 12 when UnknownMark script offset
    ∷ 14 when LengthCut script offset
    ∷ 13 when WrongLength script offset
    ∷ 14 when RestCut script offset
    ∷ []

-- the reader: "A reader's offset past the end is 14."
pub record ReaderRefusals (script : List ℕ) (offset : ℕ) : Type 0 where
  pub numbers : Numbered (number_of (record_at script offset)) (11 when ScriptTooLong script ∷ 14 when (length script < offset) ∷ in_one_record script offset)

-- ---- a script

-- "the first bad record" is at this offset, with this number: all bytes before its mark are those of good records
pub record FirstBad (script : List ℕ) (offset number : ℕ) : Type 0 where
  pub list : List Record
  pub good : Each Writable list
  pub before : take offset script ≡ encode list
  pub inside : offset < length script
  pub number_is : FirstIs number (in_one_record script offset)

pub record Bad (script : List ℕ) (number : ℕ) : Type 0 where
  pub offset : ℕ
  pub first : FirstBad script offset number

-- "These three alone carry an offset."
abbrev pub Carries : ℕ → Type 0
Carries number = (number ≡ 12) ⊎ (number ≡ 13) ⊎ (number ≡ 14)

-- what comes with a number: with these three "the offset of the first bad record's mark", with any other 0 (ours)
pub record Located (script : List ℕ) (number offset : ℕ) : Type 0 where
  pub of_the_first : Carries number → FirstBad script offset number
  pub else_none : (Carries number → ⊥) → offset ≡ 0

-- ---- a script looked through

-- the records of a script that can be run, and what they count
pub record CountedScript (script : List ℕ) (frames microseconds output : ℕ) : Type 0 where
  pub list : List Record
  pub of_the_script : encode list ≡ script
  pub counted : Counted list frames microseconds
  pub output_is : output ≡ output_length list

pub record SurveyRules (script : List ℕ) : Type 0 where
  pub numbers : Numbered (survey_of script).number (11 when ScriptTooLong script ∷ 12 when Bad script 12 ∷ 13 when Bad script 13 ∷ 14 when Bad script 14 ∷ [])
  pub located : Located script (survey_of script).number (survey_of script).offset
  -- there is one first bad record, and it is told
  pub first_told : (number offset : ℕ) → length script ≤ 32768 → Carries number → FirstBad script offset number
      → ((survey_of script).number ≡ number) × ((survey_of script).offset ≡ offset)
  -- "counts 0" (01, of a refusal)
  pub refusal_counts : 0 < (survey_of script).number
      → ((survey_of script).frames ≡ 0) × (((survey_of script).microseconds ≡ 0) × ((survey_of script).output ≡ 0))
  pub counts : (survey_of script).number ≡ 0 → CountedScript script (survey_of script).frames (survey_of script).microseconds (survey_of script).output
  -- the reader says the same of the record there
  pub read_there : Carries (survey_of script).number → RefusedWith script (survey_of script).offset (survey_of script).number
  -- run, a script that is accepted here is refused for what is not in it alone
  pub then_run : (wp : Bool) (d : Device) (line : Line) (ran : Ran) (after : Device) (line_after : Line)
      → (survey_of script).number ≡ 0 → ScriptRun wp script d line ran after line_after
      → Numbered ran.number
      (1 when NotSound d.state ∷ 2 when WrongArray d.state d.array ∷ 4 when (BothLong line (survey_of script).output → ⊥) ∷ [])
