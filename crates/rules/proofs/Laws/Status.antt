-- The status bits: the sum that makes up the byte, read digit by digit.
-- Assumes nothing.
use mathlib.Core.Path.{◌≡◌, sym, ◌∙◌}
use mathlib.Core.Bool.{Bool, true, false, ◌&&◌}
use Prim.Native.Nat.{ℕ, ◌+◌, ◌*◌, ◌/◌, ◌%◌, ◌<◌}
use native.Mathlib.Omega.{arith}
use lib.Dec.{ltb}
use Rattle.common.specs.Bits.{bit}
use Rattle.common.proofs.Laws.Bits.{bit_is}
use Rattle.chip.specs.declared.Chip.{Chip}
use Rattle.chip.specs.Chip.{f25l008a, f25l05pa}
use Rattle.state.specs.declared.State.{State}
use Rattle.state.specs.State.{data_of}
use Rattle.state.specs.Status.{status_of}
use Rattle.state.specs.Soundness.{is_sound}
use Rattle.state.proofs.Laws.Soundness.{sound_of}
use Rattle.state.proofs.Laws.Status.{status_sum}
use Rattle.rules.specs.Chips.{by_chip}
use Rattle.rules.specs.Status.{StatusBits}
use Rattle.rules.proofs.Laws.Chips.{data_by_chip}

-- a byte of six digits, of which one has three bits
module _ (x busy wel bp tb aai bpl : ℕ) (is : x ≡ busy + 2 * wel + 4 * (bp % 8) + 32 * tb + 64 * aai + 128 * bpl)
    (a : busy < 2) (b : wel < 2) (c : tb < 2) (d : aai < 2) (e : bpl < 2) where
  digit_0 : x / 1 % 2 ≡ busy
  digit_0 = omega arith

  digit_1 : x / 2 % 2 ≡ wel
  digit_1 = omega arith

  digit_2 : x / 4 % 2 ≡ bp / 1 % 2
  digit_2 = omega arith

  digit_3 : x / 8 % 2 ≡ bp / 2 % 2
  digit_3 = omega arith

  digit_4 : x / 16 % 2 ≡ bp / 4 % 2
  digit_4 = omega arith

  digit_5 : x / 32 % 2 ≡ tb
  digit_5 = omega arith

  digit_6 : x / 64 % 2 ≡ aai
  digit_6 = omega arith

  digit_7 : x / 128 % 2 ≡ bpl
  digit_7 = omega arith

  eight : x < 256
  eight = omega arith

-- a flag as a digit
flag_lt : (b : Bool) → bit b 1 < 2
flag_lt true = omega arith
flag_lt false = omega arith

flag_value : (b : Bool) (n : ℕ) → bit b n ≡ n * bit b 1
flag_value true n = omega arith
flag_value false n = omega arith

module _ (s : State) (sound : is_sound s ≡ true) where
  -- a flag that only one of the chips has
  flag_by_chip : (has : Chip → Bool) (b : Bool) → bit (has (data_of s) && b) 1 ≡ by_chip s.chip (bit (has f25l008a && b) 1) (bit (has f25l05pa && b) 1)
  flag_by_chip has b = data_by_chip s.chip (sound_of s sound).chip_known (λ c. bit (has c && b) 1)

  abbrev tb : Bool
  tb = (data_of s).top_bottom && s.tb

  abbrev aai : Bool
  aai = (data_of s).aai && s.aai

  sum : status_of s ≡ bit (ltb 0 s.left) 1 + 2 * bit s.wel 1 + 4 * (s.bp % 8) + 32 * bit tb 1 + 64 * bit aai 1 + 128 * bit s.bpl 1
  sum = omega (arith, status_sum s, flag_value s.wel 2, flag_value tb 32, flag_value aai 64, flag_value s.bpl 128)

  pub status_bits : StatusBits s sound
  status_bits =
      let busy = flag_lt (ltb 0 s.left) in
      let wel = flag_lt s.wel in
      let top = flag_lt tb in
      let word = flag_lt aai in
      let lock = flag_lt s.bpl in
      record {
        bit_0_busy = bit_is (status_of s) 0 ∙ digit_0 _ _ _ _ _ _ _ sum busy wel top word lock;
        bit_1_wel = bit_is (status_of s) 1 ∙ digit_1 _ _ _ _ _ _ _ sum busy wel top word lock;
        bit_2_bp0 = bit_is (status_of s) 2 ∙ digit_2 _ _ _ _ _ _ _ sum busy wel top word lock ∙ sym (bit_is s.bp 0);
        bit_3_bp1 = bit_is (status_of s) 3 ∙ digit_3 _ _ _ _ _ _ _ sum busy wel top word lock ∙ sym (bit_is s.bp 1);
        bit_4_bp2 = bit_is (status_of s) 4 ∙ digit_4 _ _ _ _ _ _ _ sum busy wel top word lock ∙ sym (bit_is s.bp 2);
        bit_7_bpl = bit_is (status_of s) 7 ∙ digit_7 _ _ _ _ _ _ _ sum busy wel top word lock;
        bit_6_aai = bit_is (status_of s) 6 ∙ digit_6 _ _ _ _ _ _ _ sum busy wel top word lock ∙ flag_by_chip (λ c. c.aai) s.aai;
        bit_5_tb = bit_is (status_of s) 5 ∙ digit_5 _ _ _ _ _ _ _ sum busy wel top word lock ∙ flag_by_chip (λ c. c.top_bottom) s.tb;
        eight_bits = eight _ _ _ _ _ _ _ sum busy wel top word lock;
      }
