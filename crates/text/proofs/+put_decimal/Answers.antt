-- `text::put_decimal` meets its contract: the digits of a tenth are laid, then the last one.
use native.Mathlib.Omega.{arith}
use Rattle.text.proofs.Laws.Writing.{one_room, one_put, others_room, last_room, last_put}
use Rattle.text.proofs.+put_decimal.Goals as goal

pub put-requires : goal.put-requires
put-requires t c = one_room c.args.number c.if-number-lt10.true c.args.at c.args.text.now c.requires.number_in_bounds

pub returns-then-number-lt10 : goal.returns-then-number-lt10
returns-then-number-lt10 t c = one_put c.args.number c.if-number-lt10.true (rw c.digit.ensures at c.put.ensures)

pub put_decimal-last-requires : goal.put_decimal-last-requires
put_decimal-last-requires t c = (
  omega (arith, c.decreases, c.if-number-lt10.false),
  (
    omega (arith, c.requires.number_lt_decimal_end),
    others_room c.args.number c.if-number-lt10.false c.requires.number_lt_decimal_end c.args.at c.args.text.now c.requires.number_in_bounds,
  ),
)

pub put-requires-2 : goal.put-requires-2
put-requires-2 t c =
    last_room c.args.number c.if-number-lt10.false c.requires.number_lt_decimal_end c.requires.number_in_bounds c.put_decimal-last.ensures

pub returns : goal.returns
returns t c =
    last_put c.args.number c.if-number-lt10.false c.requires.number_lt_decimal_end c.requires.number_in_bounds c.put_decimal-last.ensures
    (rw c.digit-2.ensures at c.put-2.ensures)
