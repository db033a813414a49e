-- `plan::status::wait_bytes` meets its contract: a wait, or none.
use mathlib.Core.Path.{refl}
use borrow.Author.Tests.{lt-ltb, le-ltb}
use Rattle.common.proofs.Laws.Choice.{yes, no}
use Rattle.plan.proofs.status.wait_bytes.Goals as goal

pub returns-then-time-gt0 : goal.returns-then-time-gt0
returns-then-time-gt0 c = yes _ (lt-ltb 0 _ c.if-time-gt0.true) refl

pub returns-else-time-gt0 : goal.returns-else-time-gt0
returns-else-time-gt0 c = no _ (le-ltb 0 _ c.if-time-gt0.false) refl
