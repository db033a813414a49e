-- `output::shown_at` meets its contract: each arm shows its command's byte, and the last arm's commands show none.
use borrow.Enum.Refused.{opened}
use mathlib.Core.Path.{sym}
use Rattle.output.proofs.Laws.Settled.{silent_shown}
use Rattle.output.proofs.shown_at.Goals as goal

pub returns-in_default : goal.returns-in_default
returns-in_default c = λ m. sym (silent_shown c.args.s c.args.c m c.args.i c.requires (opened c.in_default.in_default-own.keys5))
