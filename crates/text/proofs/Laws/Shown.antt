-- The laws of bytes as a line showed them: two characters for each, all of them driven, none of them driven.
-- Assumes nothing.
use mathlib.Core.Path.{◌≡◌, refl}
use mathlib.Core.List.{List, [], ◌∷◌, ◌++◌}
use mathlib.Core.Logic.{◌⊎◌, inl, inr}
use Prim.Native.Nat.{ℕ, suc, ◌+◌, ◌*◌, ◌≤◌, ◌<◌}
use native.Mathlib.Numerals.{add-one}
use native.Mathlib.Omega.{arith}
use lib.Dec.{eqb}
use lib.ListN.{length, get_or, drop, replicate, length-append}
use lib.Seq.{drop-cons}
use Rattle.common.proofs.Laws.Choice.{cond_elim}
use Rattle.text.specs.Text.{hex, shown_pair, shown_hex}
use Rattle.text.proofs.Laws.Text.{hex_none, hex_first}

pub length_shown_pair : (byte driven : ℕ) → length (shown_pair byte driven) ≡ 2
length_shown_pair byte driven = cond_elim (λ (l : List ℕ). length l ≡ 2) (eqb driven 0) (λ _. refl) (λ _. refl)

pub shown_none : (driven : List ℕ) → shown_hex [] driven ≡ []
unfolding shown_hex
shown_none driven = refl

-- a byte of which it is not told whether it was driven is left out
pub shown_untold : (byte : ℕ) (bytes : List ℕ) → shown_hex (byte ∷ bytes) [] ≡ []
unfolding shown_hex
shown_untold byte bytes = refl

pub shown_first : (byte d : ℕ) (bytes driven : List ℕ) → shown_hex (byte ∷ bytes) (d ∷ driven) ≡ shown_pair byte d ++ shown_hex bytes driven
unfolding shown_hex
shown_first byte d bytes driven = refl

-- from an index on
pub shown_drop : (bytes driven : List ℕ) (i : ℕ) → length driven ≡ length bytes → i < length bytes
    → shown_hex (drop i bytes) (drop i driven) ≡ shown_pair (get_or bytes i 0) (get_or driven i 0) ++ shown_hex (drop (i + 1) bytes) (drop (i + 1) driven)
shown_drop bytes driven i same h =
    rw (add-one i, drop-cons bytes i 0 h, drop-cons driven i 0 (omega (arith, same, h)))
    (shown_first (get_or bytes i 0) (get_or driven i 0) (drop (suc i) bytes) (drop (suc i) driven))

-- where either has ended, nothing is left
pub shown_ended : (bytes driven : List ℕ) → (bytes ≡ []) ⊎ (driven ≡ []) → shown_hex bytes driven ≡ []
shown_ended bytes driven (inl e) = rw (e, shown_none) refl
shown_ended [] driven (inr e) = shown_none driven
shown_ended (byte ∷ bytes) driven (inr e) = rw (e, shown_untold) refl

length_shown_first : (byte d : ℕ) (bytes driven : List ℕ) → length (shown_hex (byte ∷ bytes) (d ∷ driven)) ≡ 2 + length (shown_hex bytes driven)
length_shown_first byte d bytes driven =
    rw (shown_first byte d bytes driven) (omega (arith, length-append (shown_pair byte d) (shown_hex bytes driven), length_shown_pair byte d))

pub length_shown : (bytes driven : List ℕ) → length driven ≡ length bytes → length (shown_hex bytes driven) ≡ 2 * length bytes
length_shown [] driven same = rw (shown_none driven) refl
length_shown (byte ∷ bytes) [] same = absurd (omega (arith, same))
length_shown (byte ∷ bytes) (d ∷ driven) same = omega (arith, length_shown_first byte d bytes driven, length_shown bytes driven (omega (arith, same)))

-- however many of the bytes it is told of
pub shown_short : (bytes driven : List ℕ) → length (shown_hex bytes driven) ≤ 2 * length bytes
unfolding shown_hex
shown_short [] driven = omega arith
shown_short (byte ∷ bytes) [] = omega arith
shown_short (byte ∷ bytes) (d ∷ driven) = omega (arith, length_shown_first byte d bytes driven, shown_short bytes driven)

-- ---- all driven: the bytes in hex, also where they are FF; all silent: dashes and nothing else

pub shown_all_driven : (bytes : List ℕ) → shown_hex bytes (replicate (length bytes) 1) ≡ hex bytes
shown_all_driven [] = rw (shown_none [], hex_none) refl
shown_all_driven (byte ∷ bytes) =
    rw (shown_first byte 1 bytes (replicate (length bytes) 1), shown_all_driven bytes, hex_first byte bytes) refl

pub shown_all_silent : (bytes : List ℕ) → shown_hex bytes (replicate (length bytes) 0) ≡ replicate (2 * length bytes) 0x2d
shown_all_silent [] = shown_none []
shown_all_silent (byte ∷ bytes) =
    let two : 2 * length (byte ∷ bytes) ≡ suc (suc (2 * length bytes)) = omega arith in
    rw (shown_first byte 0 bytes (replicate (length bytes) 0), shown_all_silent bytes, two) refl
