-- Flags as numbers: what `as` makes of a bool, and the bit of a byte.
-- Assumes nothing.
use mathlib.Core.Path.{◌≡◌, refl}
use mathlib.Core.Bool.{Bool, true, false}
use Prim.Native.Nat.{ℕ, ◌*◌, ◌≤◌}
use native.Mathlib.Omega.{arith}
use mir.Val.{bool_byte}
use Rattle.common.specs.Bits.{bit}

pub flag_is : (b : Bool) → bool_byte b ≡ bit b 1
flag_is true = refl
flag_is false = refl

pub flag_times : (b : Bool) (n : ℕ) → bool_byte b * n ≡ bit b n
flag_times true n = omega arith
flag_times false n = omega arith

pub bit_le : (b : Bool) (n : ℕ) → bit b n ≤ n
bit_le true n = omega arith
bit_le false n = omega arith
