-- `command::rows::address_of` meets its contract: the number of three bytes, modulo a size that is not 0.
use mathlib.Core.Path.{◌≡◌, refl}
use native.Mathlib.Omega.{arith}
use native.Mathlib.Nat.{mod-lt, lt_of_lt_of_le}
use Rattle.common.specs.Numbers.{three_bytes}
use Rattle.chip.specs.Chip.{kind_of}
use Rattle.chip.proofs.Laws.Chip.{Regular, regular}
use Rattle.command.specs.Command.{address}
use Rattle.command.proofs.rows.address_of.Goals as goal

pub returns : goal.returns
unfolding address
returns c =
    let chip : Regular c.chip_of-size.result (kind_of c.args.s.chip) = rw c.chip_of-size.ensures (regular c.args.s.chip) in
    let number : c.from_be_bytes.result ≡ three_bytes c.byte_at.result c.byte_at-2.result c.byte_at-3.result = omega arith in (
      rw (number, c.byte_at-3.ensures, c.byte_at-2.ensures, c.byte_at.ensures, c.chip_of-size.ensures) refl,
      lt_of_lt_of_le (mod-lt _ chip.size_positive) chip.size_le_mebibyte,
    )

pub nonzero_rem-result : goal.nonzero_rem-result
nonzero_rem-result c =
    let chip : Regular c.chip_of-size.result (kind_of c.args.s.chip) = rw c.chip_of-size.ensures (regular c.args.s.chip) in
    omega (arith, chip.size_positive)
