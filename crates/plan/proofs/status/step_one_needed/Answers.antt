-- `plan::status::step_one_needed` meets its contract: of the region's bytes only those of its protected part can be changing and protected.
use mathlib.Core.Path.{◌∙◌}
use native.Mathlib.Omega.{arith}
use Rattle.plan.specs.Plan.{step_one_needed}
use Rattle.plan.proofs.Laws.Steps.{part_differs}
use Rattle.plan.proofs.status.step_one_needed.Goals as goal

pub returns : goal.returns
unfolding step_one_needed
returns c =
    let u = c.args.update.now in
    rw c.first_protected-first.ensures at
    (rw c.end-end.ensures at c.ne.ensures ∙ part_differs c.first_protected-first.result u.array.now u.start u.wanted.now u.inside.fits c.min-from.result
    (omega arith) (omega arith) (λ some. omega arith) (λ k low high. omega arith))
