-- Numbers as bytes, "high byte first" (01).
use Rattle.std.specs.Prelude.{List, [], ◌∷◌, ℕ, ◌+◌, ◌*◌, ◌/◌, ◌%◌}

-- the number of two bytes
abbrev pub two_bytes : ℕ → ℕ → ℕ
two_bytes high low = high * 256 + low

-- the number of three bytes
abbrev pub three_bytes : ℕ → ℕ → ℕ → ℕ
three_bytes a b c = a * 65536 + b * 256 + c

-- the number of four bytes
abbrev pub four_bytes : ℕ → ℕ → ℕ → ℕ → ℕ
four_bytes a b c d = two_bytes a b * 65536 + two_bytes c d

-- an address as "three bytes, high byte first"
abbrev pub address_bytes : ℕ → List ℕ
address_bytes address = address / 65536 % 256 ∷ address / 256 % 256 ∷ address % 256 ∷ []
