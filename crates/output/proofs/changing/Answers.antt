-- `output::changing` meets its contract: by turns to the end, else from byte 4 on the same, or from the start.
use borrow.Enum.Refused.{opened}
use native.Mathlib.Nat.{min_comm}
use native.Mathlib.Omega.{arith}
use Rattle.output.proofs.Laws.Settled.{same_from_start, same_from_four}
use Rattle.output.proofs.changing.Goals as goal

pub returns-in-ReadStatus : goal.returns-in-ReadStatus
returns-in-ReadStatus c =
    let same = same_from_four c.args.c c.requires (λ odd e. grind (arith, c.in-ReadStatus.is)) c.args.count in
    (omega arith, rw (c.min.ensures, min_comm c.args.count) same)

pub returns-in_default : goal.returns-in_default
returns-in_default c = (omega arith, same_from_start c.args.c c.args.count c.requires (opened c.in_default.in_default-own.keys3))
