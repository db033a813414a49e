-- The status bits (01, "State"): of every sound state, and of a byte that is written.
use Rattle.std.specs.Prelude.{◌≡◌, Bool, true, ℕ, ◌+◌, ◌*◌, ◌<◌, ltb, eqb}
use Rattle.common.specs.Bits.{bit_at, bit}
use Rattle.state.specs.declared.State.{State}
use Rattle.state.specs.Status.{status_of}
use Rattle.state.specs.Soundness.{is_sound}
use Rattle.rules.specs.Chips.{by_chip}

pub record StatusBits (s : State) (sound : is_sound s ≡ true) : Type 0 where
  -- "Status bits: 0 BUSY", which "is left above 0"
  pub bit_0_busy : bit_at (status_of s) 0 ≡ bit (ltb 0 s.left) 1
  -- "1 WEL"
  pub bit_1_wel : bit_at (status_of s) 1 ≡ bit s.wel 1
  -- "2 to 4 BP0 to BP2"
  pub bit_2_bp0 : bit_at (status_of s) 2 ≡ bit_at s.bp 0
  pub bit_3_bp1 : bit_at (status_of s) 3 ≡ bit_at s.bp 1
  pub bit_4_bp2 : bit_at (status_of s) 4 ≡ bit_at s.bp 2
  -- "7 BPL"
  pub bit_7_bpl : bit_at (status_of s) 7 ≡ bit s.bpl 1
  -- "Bit 6 is AAI on the 008A, 0 on the 05PA."
  pub bit_6_aai : bit_at (status_of s) 6 ≡ by_chip s.chip (bit s.aai 1) 0
  -- "Bit 5 is TB on the 05PA, 0 on the 008A."
  pub bit_5_tb : bit_at (status_of s) 5 ≡ by_chip s.chip 0 (bit s.tb 1)
  -- and no further bit: it is a byte
  pub eight_bits : status_of s < 256

-- ---- a byte that is written

-- "It sets BP": bits 2 to 4
abbrev pub level_in : ℕ → ℕ
level_in byte = bit_at byte 2 + bit_at byte 3 * 2 + bit_at byte 4 * 4

-- "and BPL, and TB": the bit is 1
abbrev pub is_set : ℕ → ℕ → Bool
is_set byte b = eqb (bit_at byte b) 1

-- the bits that a status write sets, 2 to 5 and 7, as a byte
abbrev pub bits_in : ℕ → ℕ
bits_in byte = bit_at byte 2 * 4 + bit_at byte 3 * 8 + bit_at byte 4 * 16 + bit_at byte 5 * 32 + bit_at byte 7 * 128
