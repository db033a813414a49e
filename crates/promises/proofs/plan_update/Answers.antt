-- `promises::plan_update` meets its contract: the planner's own statement, under its shut name.
use Rattle.plan.specs.Update.{Plans}
use Rattle.promises.proofs.plan_update.Goals as goal

pub returns : goal.returns
unfolding Plans
returns c = c.plan_update.ensures
