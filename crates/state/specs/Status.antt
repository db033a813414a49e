-- The status register as a byte (000, Table 4; 004, Table 2): as it is shown, and as it is written.
use Rattle.std.specs.Prelude.{Bool, ◌&&◌, ℕ, ◌+◌, ◌*◌, ◌/◌, ◌%◌, ltb, eqb}
use Rattle.state.specs.declared.State.{State}
use Rattle.common.specs.Bits.{bit}
use Rattle.state.specs.State.{data_of, with_bits}

-- "0 BUSY, 1 WEL, 2 to 4 BP0 to BP2, 7 BPL. Bit 6 is AAI on the 008A, 0 on the 05PA. Bit 5 is TB on the 05PA, 0 on the 008A."
unfoldable pub status_of : State → ℕ
status_of s =
    bit (ltb 0 s.left) 1 + bit s.wel 2 + s.bp % 8 * 4 + bit ((data_of s).top_bottom && s.tb) 32 + bit ((data_of s).aai && s.aai) 64
    + bit s.bpl 128

-- ---- written

-- a byte's bit, by its value
abbrev pub has : ℕ → ℕ → Bool
has byte value = eqb (byte / value % 2) 1

-- those that can be written: 2 to 5 and 7
abbrev pub writable_bits : ℕ → ℕ
writable_bits byte = byte / 4 % 16 * 4 + byte / 128 % 2 * 128

-- "It sets BP and BPL, and TB on the 05PA, from its byte"
abbrev pub with_status_byte : State → ℕ → State
with_status_byte s byte = with_bits s (byte / 4 % 8) ((data_of s).top_bottom && has byte 32) (has byte 128)
