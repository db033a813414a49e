-- `text::put_decimals_line` meets its contract: the numbers' characters are the numbers, each behind a space.
use Rattle.text.proofs.Laws.Decimal.{decimals_are}
use Rattle.text.proofs.put_decimals_line.Goals as goal

pub put_line-requires-clause-room : goal.put_line-requires-clause-room
put_line-requires-clause-room c = rw (← decimals_are c.args.numbers.now) at c.requires.numbers_in_bounds

pub returns : goal.returns
returns c = rw decimals_are at c.put_line.ensures
