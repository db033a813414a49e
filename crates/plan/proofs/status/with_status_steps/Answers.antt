-- `plan::status::with_status_steps` meets its contract: steps 1 and 4 have 22 bytes, four frames, and two waits.
use mathlib.Core.Path.{refl}
use native.Mathlib.Omega.{arith}
use Rattle.common.proofs.Laws.Choice.{yes, no}
use Rattle.plan.specs.Plan.{with_status_steps}
use Rattle.plan.proofs.Laws.Steps.{wait_bytes_le}
use Rattle.plan.proofs.status.with_status_steps.Goals as goal

pub overflow_mul-result : goal.overflow_mul-result
overflow_mul-result c = omega (arith, c.wait_bytes.ensures, wait_bytes_le c.args.time)

pub overflow_add-result-then-needed : goal.overflow_add-result-then-needed
overflow_add-result-then-needed c = omega (arith, c.wait_bytes.ensures, wait_bytes_le c.args.time, c.requires)

pub returns-then-needed : goal.returns-then-needed
unfolding with_status_steps
returns-then-needed c = yes _ c.if-needed.true (rw c.wait_bytes.ensures refl)

pub returns-else-needed : goal.returns-else-needed
unfolding with_status_steps
returns-else-needed c = no _ c.if-needed.false refl
