-- The laws of lines: how long they are, the sixteen digits, and bytes in hex.
-- Assumes nothing.
use mathlib.Core.Path.{◌≡◌, refl, sym}
use mathlib.Core.List.{List, [], ◌∷◌, ◌++◌}
use Prim.Native.Nat.{ℕ, ◌+◌, ◌*◌, ◌<◌}
use native.Mathlib.Omega.{arith}
use lib.ListN.{length, length-append}
use borrow.Author.Tests.{lt-ltb}
use Rattle.common.proofs.Laws.Choice.{yes}
use Rattle.std.specs.Prelude.{flat_map}
use Rattle.common.specs.Lists.{tab}
use Rattle.text.specs.Text.{digit, pair, hex, line_feed, line_of, line}

pub length_line_of : (letter : ℕ) (behind : List ℕ) → length (line_of letter behind) ≡ 2 + length behind
length_line_of letter behind = omega (arith, length-append behind (line_feed ∷ []))

pub length_line : (letter : ℕ) (told : List ℕ) → length (line letter told) ≡ 3 + length told
length_line letter told = omega (arith, length_line_of letter (0x20 ∷ told))

pub length_hex : (bytes : List ℕ) → length (hex bytes) ≡ 2 * length bytes
unfolding hex
length_hex [] = refl
length_hex (byte ∷ bytes) = omega (arith, length_hex bytes)

pub hex_none : hex [] ≡ []
unfolding hex
hex_none = refl

pub hex_first : (byte : ℕ) (bytes : List ℕ) → hex (byte ∷ bytes) ≡ pair byte ++ hex bytes
unfolding hex
hex_first byte bytes = refl

-- the bytes' digits, one byte behind the other
pub hex_is : (bytes : List ℕ) → flat_map pair bytes ≡ hex bytes
hex_is [] = sym hex_none
hex_is (byte ∷ bytes) = rw (hex_is bytes, hex_first byte bytes) refl

-- 0123456789ABCDEF
pub digits : tab 16 digit
    ≡ 0x30 ∷ 0x31 ∷ 0x32 ∷ 0x33 ∷ 0x34 ∷ 0x35 ∷ 0x36 ∷ 0x37 ∷ 0x38 ∷ 0x39 ∷ 0x41 ∷ 0x42 ∷ 0x43 ∷ 0x44 ∷ 0x45 ∷ 0x46 ∷ []
unfolding digit
digits = refl

pub digit_low : (n : ℕ) → n < 10 → digit n ≡ 0x30 + n
unfolding digit
digit_low n h = sym (yes _ (lt-ltb n 10 h) refl)
