-- `plan::Plan::measure` meets its contract: steps 1 and 4 are added to what stands between them.
use mathlib.Core.Path.{sym, ◌∙◌}
use Rattle.chip.proofs.Laws.Chip.{regular}
use Rattle.state.specs.State.{data_of}
use Rattle.plan.proofs.Laws.Steps.{program_small}
use Rattle.plan.proofs.Laws.Plan.{plan_measure}
use Rattle.plan.proofs.Plan.measure.Goals as goal

pub with_status_steps-requires : goal.with_status_steps-requires
with_status_steps-requires g c =
    let p = c.args.self.now in
    let u = p.update in
    let small = program_small (data_of p.state).word_plans u.array.now u.start u.wanted.now u.inside.short in
    let low = (regular p.state.chip).status_le_sector_time in
    rw (c.measure.ensures, c.requires, c.chip_of-time.ensures) (small.0, small.1, small.2, low)

pub returns : goal.returns
returns g c =
    let p = c.args.self.now in
    let u = p.update in
    rw (c.measure.ensures, c.requires, c.chip_of-time.ensures, p.needed_is) at c.with_status_steps.ensures ∙ sym (plan_measure p.state u.array.now u.start u.wanted.now)
