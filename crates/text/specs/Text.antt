-- Lines of text, each character by its ASCII code (01, program `play`).
use Rattle.std.specs.Prelude.{cond, List, [], ◌∷◌, ◌++◌, ℕ, zero, suc, ◌+◌, ◌-◌, ◌*◌, ◌/◌, ◌%◌, ◌≤◌, eqb, ltb}

-- a digit below 16, in "capital hex": 0 to 9, then A to F
unfoldable pub digit : ℕ → ℕ
digit n = cond (ltb n 10) (0x30 + n) (0x41 + (n - 10))

-- a byte has two digits
abbrev pub pair : ℕ → List ℕ
pair byte = digit (byte / 16) ∷ digit (byte % 16) ∷ []

-- bytes "in capital hex without gaps"
unfoldable pub hex : List ℕ → List ℕ
hex [] = []
hex (byte ∷ bytes) = pair byte ++ hex bytes

-- "two dashes for a silent byte" (02, A10)
abbrev pub dashes : List ℕ
dashes = 0x2d ∷ 0x2d ∷ []

-- a byte as the line showed it: its two digits where it was driven, else dashes
abbrev pub shown_pair : ℕ → ℕ → List ℕ
shown_pair byte driven = cond (eqb driven 0) dashes (pair byte)

-- bytes, and for each whether it was driven: each so, without gaps
unfoldable pub shown_hex : List ℕ → List ℕ → List ℕ
shown_hex [] driven = []
shown_hex (byte ∷ bytes) [] = []
shown_hex (byte ∷ bytes) (d ∷ ds) = shown_pair byte d ++ shown_hex bytes ds

-- a number in at most so many digits: the last one, behind the others where there are any
unfoldable pub decimal_within : ℕ → ℕ → List ℕ
decimal_within zero n = []
decimal_within (suc k) n = cond (ltb n 10) (digit n ∷ []) (decimal_within k (n / 10) ++ (digit (n % 10) ∷ []))

-- numbers below it have at most five digits
abbrev pub decimal_end : ℕ
decimal_end = 100000

-- such a number, in decimal
unfoldable pub decimal : ℕ → List ℕ
decimal n = decimal_within 5 n

-- a character 0 to 9
abbrev pub Numeral : ℕ → Type 0
Numeral c = (0x30 ≤ c) × (c ≤ 0x39)

-- the number that such characters stand for, behind others that stand for v
unfoldable pub value_from : ℕ → List ℕ → ℕ
value_from v [] = v
value_from v (c ∷ cs) = value_from (10 * v + (c - 0x30)) cs

abbrev pub value_of : List ℕ → ℕ
value_of cs = value_from 0 cs

-- a number behind "a space"
abbrev pub spaced : ℕ → List ℕ
spaced n = 0x20 ∷ decimal n

-- several numbers, each so
unfoldable pub decimals : List ℕ → List ℕ
decimals [] = []
decimals (n ∷ ns) = spaced n ++ decimals ns

-- what ends a line (ours)
abbrev pub line_feed : ℕ
line_feed = 0x0a

-- a line: a letter, what stands behind it, and a line feed
abbrev pub line_of : ℕ → List ℕ → List ℕ
line_of letter behind = letter ∷ (behind ++ (line_feed ∷ []))

-- a letter and "a space", what the line tells, and a line feed
abbrev pub line : ℕ → List ℕ → List ℕ
line letter told = line_of letter (0x20 ∷ told)

-- a letter, the numbers and a line feed
abbrev pub decimals_line : ℕ → List ℕ → List ℕ
decimals_line letter numbers = line_of letter (decimals numbers)
