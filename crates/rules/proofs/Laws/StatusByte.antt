-- A status byte's bits: as the model reads them, by quotients, and as the rules do, one by one.
-- Assumes nothing.
use mathlib.Core.Path.{◌≡◌, refl, ◌∙◌}
use Prim.Native.Nat.{ℕ, ◌+◌, ◌*◌, ◌/◌, ◌%◌, ◌<◌}
use native.Mathlib.Nat.{div-div-eq-div-mul}
use native.Mathlib.Omega.{arith}
use Rattle.common.specs.Bits.{bit_at}
use Rattle.common.proofs.Laws.Bits.{bit_is, bit_lt}
use Rattle.state.specs.Status.{has, writable_bits}
use Rattle.rules.specs.Status.{level_in, is_set, bits_in}
use Rattle.rules.specs.Power.{written_05pa}

-- five digits of their places' values: each is found in its place
module _ (p q r s t : ℕ) (hp : p < 2) (hq : q < 2) (hr : r < 2) (hs : s < 2) (ht : t < 2) where
  abbrev n : ℕ
  n = p * 4 + q * 8 + r * 16 + s * 32 + t * 128

  second : n / 4 % 2 ≡ p
  second = let whole : n / 4 ≡ p + 2 * (q + r * 2 + s * 4 + t * 16) = omega arith in rw whole (omega arith)

  third : n / 8 % 2 ≡ q
  third = let whole : n / 8 ≡ q + 2 * (r + s * 2 + t * 8) = omega arith in rw whole (omega arith)

  fourth : n / 16 % 2 ≡ r
  fourth = let whole : n / 16 ≡ r + 2 * (s + t * 4) = omega arith in rw whole (omega arith)

  fifth : n / 32 % 2 ≡ s
  fifth = let whole : n / 32 ≡ s + 2 * (t * 2) = omega arith in rw whole (omega arith)

  seventh : n / 128 % 2 ≡ t
  seventh = let whole : n / 128 ≡ t = omega arith in rw whole (omega arith)

module _ (byte : ℕ) where
  pub level_of : byte / 4 % 8 ≡ level_in byte
  level_of =
      let eighths : byte / 4 / 2 ≡ byte / 8 = div-div-eq-div-mul byte 4 2 in
      let sixteenths : byte / 8 / 2 ≡ byte / 16 = div-div-eq-div-mul byte 8 2 in
      rw (bit_is byte 2, bit_is byte 3, bit_is byte 4) (digits (byte / 4) ∙ rw (eighths, sixteenths) refl)
    where
      digits : (x : ℕ) → x % 8 ≡ x % 2 + x / 2 % 2 * 2 + x / 2 / 2 % 2 * 4
      digits x = omega arith

  pub tb_of : has byte 32 ≡ is_set byte 5
  tb_of = rw (bit_is byte 5) refl

  pub bpl_of : has byte 128 ≡ is_set byte 7
  bpl_of = rw (bit_is byte 7) refl

  -- those that can be written
  pub bits_of : writable_bits byte ≡ bits_in byte
  bits_of =
      let eighths : byte / 4 / 2 ≡ byte / 8 = div-div-eq-div-mul byte 4 2 in
      let sixteenths : byte / 8 / 2 ≡ byte / 16 = div-div-eq-div-mul byte 8 2 in
      let parts_of_32 : byte / 16 / 2 ≡ byte / 32 = div-div-eq-div-mul byte 16 2 in
      rw (bit_is byte 2, bit_is byte 3, bit_is byte 4, bit_is byte 5, bit_is byte 7)
      (digits (byte / 4) (byte / 128 % 2) ∙ rw (eighths, sixteenths, parts_of_32) refl)
    where
      digits : (x y : ℕ) → x % 16 * 4 + y * 128 ≡ x % 2 * 4 + x / 2 % 2 * 8 + x / 2 / 2 % 2 * 16 + x / 2 / 2 / 2 % 2 * 32 + y * 128
      digits x y = omega arith

  -- and written they are the byte's own
  pub written_again : written_05pa (bits_in byte) ≡ written_05pa byte
  written_again =
      let a = bit_lt byte 2 in
      let b = bit_lt byte 3 in
      let c = bit_lt byte 4 in
      let d = bit_lt byte 5 in
      let e = bit_lt byte 7 in
      rw (
        bit_is (bits_in byte) 2,
        bit_is (bits_in byte) 3,
        bit_is (bits_in byte) 4,
        bit_is (bits_in byte) 5,
        bit_is (bits_in byte) 7,
        second (bit_at byte 2) (bit_at byte 3) (bit_at byte 4) (bit_at byte 5) (bit_at byte 7) a b c d e,
        third (bit_at byte 2) (bit_at byte 3) (bit_at byte 4) (bit_at byte 5) (bit_at byte 7) a b c d e,
        fourth (bit_at byte 2) (bit_at byte 3) (bit_at byte 4) (bit_at byte 5) (bit_at byte 7) a b c d e,
        fifth (bit_at byte 2) (bit_at byte 3) (bit_at byte 4) (bit_at byte 5) (bit_at byte 7) a b c d e,
        seventh (bit_at byte 2) (bit_at byte 3) (bit_at byte 4) (bit_at byte 5) (bit_at byte 7) a b c d e,
      ) refl
