-- "Program `play` reads a script from standard input" (01, "Sample sessions"; 02, A1 and A10): what it prints, each character by its ASCII code.
use Rattle.std.specs.Prelude.{◌≡◌, true, cond, List, [], ◌∷◌, ◌++◌, ◌⊎◌, ℕ, ◌/◌, ◌%◌, ◌≤◌, ◌<◌, eqb, length, get_or, replicate}
use Rattle.common.specs.Lists.{tab, Each}
use Rattle.state.specs.Status.{status_of}
use Rattle.state.specs.Time.{pass_time}
use Rattle.script.specs.Record.{Record, frame, wait, encode}
use Rattle.frame.specs.Device.{Device, device, with_state}
use Rattle.frame.specs.Line.{Line}
use Rattle.frame.specs.Call.{frame_number, frame_device, frame_line_after}
use Rattle.run.specs.Script.{script_number, script_offset}
use Rattle.text.specs.Text.{digit, decimal, Numeral, value_of}
use Rattle.listing.specs.Listing.{listing}
use Rattle.rules.specs.Power.{new_05pa}
use Rattle.rules.specs.Conditions.{BothLong, ScriptTooLong}
use Rattle.rules.specs.BadRecords.{FirstBad, Carries}

-- "a new, erased 05PA"
unfoldable pub erased_05pa : Device
erased_05pa = device new_05pa (replicate 65536 0xff)

-- "in capital hex without gaps": two digits a byte, the high one first
abbrev pub in_hex : List ℕ → List ℕ
in_hex [] = []
in_hex (byte ∷ bytes) = digit (byte / 16) ∷ digit (byte % 16) ∷ in_hex bytes

-- "`play` prints two dashes for a silent byte, which amends its listing in 01" (02, A10): each byte with whether it was driven
abbrev pub in_hex_or_dashes : List ℕ → List ℕ → List ℕ
in_hex_or_dashes [] driven = []
in_hex_or_dashes (byte ∷ bytes) [] = []
in_hex_or_dashes (byte ∷ bytes) (d ∷ driven) =
    cond (eqb d 0) (0x2d ∷ 0x2d ∷ []) (digit (byte / 16) ∷ digit (byte % 16) ∷ []) ++ in_hex_or_dashes bytes driven

-- "in decimal": characters 0 to 9 that stand for the number, none of them a 0 before others
pub record InDecimal (number : ℕ) (text : List ℕ) : Type 0 where
  pub digits : Each Numeral text
  pub value : value_of text ≡ number
  pub no_zero_first : 2 ≤ length text → 0x30 < get_or text 0 0

-- "R, a space, the number", and "a third field"
abbrev pub three_fields : ℕ → ℕ → List ℕ
three_fields number offset = 0x52 ∷ 0x20 ∷ (decimal number ++ (0x20 ∷ (decimal offset ++ (0x0a ∷ []))))

-- each record in its turn by its own call, "WP high", and the lines that are printed
pub data Printed : List Record → Device → List ℕ → Type 0 where
  -- "One line a frame: F, a space, its output in capital hex without gaps;
  frame_line_lem : (lent : Line) {f others : List ℕ} {rs : List Record} {d : Device} → BothLong lent (length f) → frame_number true f d lent ≡ 0
      → Printed rs (frame_device true f d lent) others
      → Printed (frame f ∷ rs) d
      (0x46 ∷ 0x20 ∷ (in_hex_or_dashes (frame_line_after true f d lent).output (frame_line_after true f d lent).driven ++ (0x0a ∷ others)))
  -- a wait has none
  no_line : {n : ℕ} {others : List ℕ} {rs : List Record} {d : Device} → (pass_time d.state n).number ≡ 0
      → Printed rs (with_state d (pass_time d.state n).state) others → Printed (wait n ∷ rs) d others
  -- last S, a space, the status."
  status_line_lem : {d : Device} → Printed [] d (0x53 ∷ 0x20 ∷ (in_hex (status_of d.state ∷ []) ++ (0x0a ∷ [])))

-- the script's records, run and printed
pub record Listed (script : List ℕ) : Type 0 where
  pub list : List Record
  pub of_the_script : encode list ≡ script
  pub printed : Printed list erased_05pa (listing script)

-- what is printed, by the number that the call "run a script" gives on that chip
pub record PlayRules (script : List ℕ) : Type 0 where
  -- "in capital hex": 0123456789ABCDEF
  pub digits : tab 16 digit
      ≡ 0x30 ∷ 0x31 ∷ 0x32 ∷ 0x33 ∷ 0x34 ∷ 0x35 ∷ 0x36 ∷ 0x37 ∷ 0x38 ∷ 0x39 ∷ 0x41 ∷ 0x42 ∷ 0x43 ∷ 0x44 ∷ 0x45 ∷ 0x46 ∷ []
  -- "reads a script from standard input and runs it on a new, erased 05PA, WP high"
  pub runs : (line : Line) → script_number true script erased_05pa line ≡ 0 → Listed script
  -- "A refusal is one line: R, a space, the number."
  pub refused_11 : (line : Line) → script_number true script erased_05pa line ≡ 11 → listing script ≡ 0x52 ∷ 0x20 ∷ 0x31 ∷ 0x31 ∷ 0x0a ∷ []
  -- 12, 13, 14 "with the offset of the first bad record's mark, which `play` prints as a third field, in decimal" (02, A1)
  pub refused_bad : (number : ℕ) (line : Line) → Carries number → script_number true script erased_05pa line ≡ number
      → listing script ≡ three_fields number (script_offset true script erased_05pa line)
  pub in_decimal : (number : ℕ) → number < 100000 → InDecimal number (decimal number)
  -- and the call gives no other number where what is shown has its room
  pub room : Line
  pub in_that_room : (script_number true script erased_05pa room ≡ 0) ⊎ (script_number true script erased_05pa room ≡ 11)
      ⊎ Carries (script_number true script erased_05pa room)
  -- 11, "script over 32,768", whatever its bytes are
  pub too_long : ScriptTooLong script → listing script ≡ 0x52 ∷ 0x20 ∷ 0x31 ∷ 0x31 ∷ 0x0a ∷ []
  -- and of any other script with a bad record, the first one's number and offset
  pub bad_record : (number offset : ℕ) → length script ≤ 32768 → Carries number → FirstBad script offset number
      → listing script ≡ three_fields number offset
  -- "empty is a script": "S 00" alone
  pub empty : script ≡ [] → listing script ≡ 0x53 ∷ 0x20 ∷ 0x30 ∷ 0x30 ∷ 0x0a ∷ []
