-- Bits of a number, and lists of bytes.
use Rattle.std.specs.Prelude.{Bool, cond, List, ℕ, ◌/◌, ◌%◌, ◌^◌, ◌<◌, get_or}

-- bit b of x, counted from the lowest
unfoldable pub bit_at : ℕ → ℕ → ℕ
bit_at x b = x / 2 ^ b % 2

-- a bit of the given value, where it is set
abbrev pub bit : Bool → ℕ → ℕ
bit set value = cond set value 0

-- a list of bytes
abbrev pub Bytes : List ℕ → Type 0
Bytes l = (k : ℕ) → get_or l k 0 < 256
