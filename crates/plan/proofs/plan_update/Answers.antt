-- `plan::plan_update` meets its contract: what the plan comes to is handed on.
use Rattle.plan.proofs.Laws.Update.{plan_scripted, plan_unscripted}
use Rattle.plan.proofs.plan_update.Goals as goal

pub returns-in-Ok : goal.returns-in-Ok
returns-in-Ok c = plan_scripted _ _ _ _ _ _ _ _ c.in-Ok.ensures

pub returns-in-Err : goal.returns-in-Err
returns-in-Err c = rw (c.refuse_plan.ensures, c.number.ensures) (plan_unscripted _ _ _ _ _ _ _ _ c.in-Err.ensures)
