-- `sectors::returning::mark_listed` meets its contract: the scenes of the records passed are marked, and the names that the list does not have are counted.
use native.Mathlib.Omega.{arith}
use Rattle.namelist.proofs.Laws.Listed.{good_most}
use Rattle.namelist.proofs.Laws.Position.{found_some}
use Rattle.sectors.proofs.Laws.Returning.{returning_start, returning_fits, returning_marked, returning_counted, returning_used, returning_count}
use Rattle.sectors.proofs.returning.mark_listed.Goals as goal

pub loop-name-init : goal.loop-name-init
loop-name-init c = returning_start _ _ _ _ (rw c.into_iter-name-iterator.ensures.into_iter_gives c.records_of-name-items.ensures)

pub overflow_cast-scene : goal.overflow_cast-scene
overflow_cast-scene c =
    record { fits = omega (arith, good_most _ c.args.names.now.good, (found_some _ _ _ c.in-Some-position_of.ensures).inside) }

pub mark_scene-requires : goal.mark_scene-requires
mark_scene-requires c =
    omega (arith, good_most _ c.args.names.now.good, (found_some _ _ _ c.in-Some-position_of.ensures).inside)

pub loop-name-preserved-in-Some-position_of : goal.loop-name-preserved-in-Some-position_of
loop-name-preserved-in-Some-position_of c =
    rw c.mark_scene.ensures (returning_marked _ _ _ _ _ _ _ _ c.in-Some.ensures.steps c.loop-name.invariant _ c.in-Some-position_of.ensures)

pub overflow_add-unlisted : goal.overflow_add-unlisted
overflow_add-unlisted c =
    record { fits = omega (arith, returning_fits _ _ _ _ _ _ _ _ c.in-Some.ensures.steps c.loop-name.invariant, c.requires.0) }

pub loop-name-preserved : goal.loop-name-preserved
loop-name-preserved c = returning_counted _ _ _ _ _ _ _ _ c.in-Some.ensures.steps c.loop-name.invariant c.in-None-position_of.ensures

pub returns : goal.returns
returns c =
    let none_left = c.in-None.ensures.steps.0 in
    let inv = c.loop-name.invariant in
    (returning_used _ _ _ _ _ _ none_left inv c.requires.1 c.requires.2, returning_count _ _ _ _ _ _ none_left inv)
