-- `listing::refusal::put_refusal` meets its contract: a line of one number or two is short enough.
use mathlib.Core.List.{[], ◌∷◌}
use native.Mathlib.Omega.{arith}
use Rattle.text.proofs.Laws.Decimal.{decimals_line_short}
use Rattle.listing.proofs.refusal.put_refusal.Goals as goal

pub put_decimals_line-requires-clause-numbers_in_bounds : goal.put_decimals_line-requires-clause-numbers_in_bounds
put_decimals_line-requires-clause-numbers_in_bounds c = omega (arith, decimals_line_short 0x52 (c.args.number ∷ c.args.offset ∷ []))

pub put_decimals_line-requires-2-clause-numbers_in_bounds : goal.put_decimals_line-requires-2-clause-numbers_in_bounds
put_decimals_line-requires-2-clause-numbers_in_bounds c = omega (arith, decimals_line_short 0x52 (c.args.number ∷ []))
