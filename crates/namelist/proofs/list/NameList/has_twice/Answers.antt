-- `namelist::list::NameList::has_twice` meets its contract: the next name is one of those passed only if its print is one of theirs.
use native.Mathlib.Omega.{arith}
use Rattle.std.proofs.Common.{sym, ◌∙◌, length-take-le}
use Rattle.namelist.proofs.Laws.Listed.{good_most}
use Rattle.namelist.proofs.Laws.Comparing.{comparing_start, comparing_most, comparing_room, comparing_found, new_by_print, new_by_name, comparing_turn, comparing_end}
use Rattle.namelist.proofs.list.NameList.has_twice.Goals as goal
use Rattle.namelist.proofs.list.NameList.has_twice.Goals.{else-contains-via-then-contains+else-is_among, else-contains-via-else-contains}

pub loop-count-init : goal.loop-count-init
loop-count-init c = comparing_start _ _ _ c.iter-name-items.ensures (good_most _ c.args.self.now.good)

pub slice_bounds-prints-end : goal.slice_bounds-prints-end
slice_bounds-prints-end c = omega (arith, comparing_most _ _ _ _ c.loop-count.invariant, c.type_inv.prints)

pub slice_bounds-contains-end : goal.slice_bounds-contains-end
slice_bounds-contains-end c = sym (length-take-le c.loop-count.count c.loop-count.prints (omega (arith, comparing_most _ _ _ _ c.loop-count.invariant, c.print_of-print.array_long)))

pub returns-then-is_among : goal.returns-then-is_among
returns-then-is_among c =
    comparing_found _ _ _ _ c.loop-count.invariant _ _ c.in-Some.ensures.steps (sym c.if-is_among.true ∙ c.is_among.ensures)

pub offset_bounds-prints-count : goal.offset_bounds-prints-count
offset_bounds-prints-count c = record { fits = omega (arith, comparing_room _ _ _ _ c.loop-count.invariant _ _ c.in-Some.ensures.steps) }

pub bounds-prints-count : goal.bounds-prints-count
bounds-prints-count c = comparing_room _ _ _ _ c.loop-count.invariant _ _ c.in-Some.ensures.steps

pub loop-count-preserved : goal.loop-count-preserved
loop-count-preserved c =
    let inv = c.loop-count.invariant in
    let at = c.in-Some.ensures.steps in
    rw c.print_of-print.ensures
    (comparing_turn _ _ _ _ inv _ _ at c.print_of-print.array_long
    (elim c.else-contains.branch [
      | else-contains-via-then-contains+else-is_among w ↦ new_by_name _ _ _ _ inv _ _ at (sym w.if-is_among.false ∙ w.is_among.ensures)
      | else-contains-via-else-contains w ↦ new_by_print _ _ _ _ inv _ _ at (rw c.print_of-print.ensures at (sym w.if-contains.false ∙ c.contains.ensures.value))
    ]))

pub returns : goal.returns
returns c = comparing_end _ _ _ _ c.loop-count.invariant c.in-None.ensures.steps.0
