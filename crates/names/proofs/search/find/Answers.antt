-- `names::search::find` meets its contract: the invariant says that no record passed has the name.
use mathlib.Core.Path.{sym, ap, ◌∙◌}
use native.Mathlib.Omega.{arith}
use Rattle.names.specs.Search.{same_bytes}
use Rattle.names.proofs.Laws.Sought.{sought_start, sought_step, sought_found, sought_turn, sought_end}
use Rattle.names.proofs.search.find.Goals as goal

pub loop-size-init : goal.loop-size-init
loop-size-init c = sought_start c.args.bytes.now c.args.name.now

pub overflow_add-end : goal.overflow_add-end
overflow_add-end c =
    let step = sought_step _ c.args.name.now _ c.loop-size.invariant c.in-Some.size (sym c.in-Some.is ∙ c.record_at.ensures) in
    record { fits = omega (arith, step.fits) }

pub slice_bounds-other-end : goal.slice_bounds-other-end
slice_bounds-other-end c =
    let step = sought_step _ c.args.name.now _ c.loop-size.invariant c.in-Some.size (sym c.in-Some.is ∙ c.record_at.ensures) in
    omega (arith, step.fits)

pub returns-then-same : goal.returns-then-same
returns-then-same c =
    let step = sought_step _ c.args.name.now _ c.loop-size.invariant c.in-Some.size (sym c.in-Some.is ∙ c.record_at.ensures) in
    sought_found _ _ _ c.loop-size.invariant _ step (sym c.if-same.true ∙ c.same.ensures ∙ ap (same_bytes _) step.name_is)

pub loop-size-smaller : goal.loop-size-smaller
loop-size-smaller c =
    let step = sought_step _ c.args.name.now _ c.loop-size.invariant c.in-Some.size (sym c.in-Some.is ∙ c.record_at.ensures) in
    omega (arith, step.size, step.fits)

pub loop-size-preserved : goal.loop-size-preserved
loop-size-preserved c =
    let step = sought_step _ c.args.name.now _ c.loop-size.invariant c.in-Some.size (sym c.in-Some.is ∙ c.record_at.ensures) in
    sought_turn _ _ _ c.loop-size.invariant _ step (sym c.if-same.false ∙ c.same.ensures ∙ ap (same_bytes _) step.name_is)

pub returns : goal.returns
returns c = sought_end _ _ _ c.loop-size.invariant (sym c.in_default.is ∙ c.record_at.ensures)
