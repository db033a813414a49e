-- The status byte: the sum of its bits' values; and of its writable bits those are all.
-- Assumes nothing.
use mathlib.Core.Path.{◌≡◌, refl}
use mathlib.Core.Bool.{◌&&◌}
use Prim.Native.Nat.{ℕ, ◌+◌, ◌*◌, ◌/◌, ◌%◌, ◌<◌}
use native.Mathlib.Omega.{arith}
use lib.Dec.{ltb}
use Rattle.common.specs.Bits.{bit}
use Rattle.state.specs.declared.State.{State}
use Rattle.state.specs.State.{data_of}
use Rattle.state.specs.Status.{status_of, writable_bits}

pub status_sum : (s : State) → status_of s
    ≡ bit (ltb 0 s.left) 1 + bit s.wel 2 + s.bp % 8 * 4 + bit ((data_of s).top_bottom && s.tb) 32 + bit ((data_of s).aai && s.aai) 64 + bit s.bpl 128
unfolding status_of
status_sum s = refl

pub writable_again : (byte : ℕ) → writable_bits byte ≡ writable_bits (writable_bits byte)
writable_again byte =
    again (byte / 4 % 16) (byte / 128 % 2) (omega arith) (omega arith)
  where
    again : (low high : ℕ) → low < 16 → high < 2 → low * 4 + high * 128 ≡ writable_bits (low * 4 + high * 128)
    again low high l h =
        let quarter : (low * 4 + high * 128) / 4 ≡ low + high * 32 = omega arith in
        let four : (low + high * 32) % 16 ≡ low = omega arith in
        let one : (low * 4 + high * 128) / 128 ≡ high = omega arith in
        let same : high % 2 ≡ high = omega arith in
        rw (quarter, four, one, same) refl
