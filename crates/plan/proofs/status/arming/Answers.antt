-- `plan::status::arming` meets its contract: the chip's data decides.
use mathlib.Core.Path.{refl}
use Rattle.common.proofs.Laws.Choice.{yes, no}
use Rattle.plan.proofs.status.arming.Goals as goal

pub returns-then-chip_of : goal.returns-then-chip_of
returns-then-chip_of c = yes _ (rw c.chip_of.ensures at c.if-chip_of.true) refl

pub returns-else-chip_of : goal.returns-else-chip_of
returns-else-chip_of c = no _ (rw c.chip_of.ensures at c.if-chip_of.false) refl
