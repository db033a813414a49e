-- `salvage::pieces::list_length` meets its contract: what is listed, and the list of what is left, are together as long as the whole list.
use mathlib.Core.Path.{ap}
use native.Mathlib.Omega.{arith}
use lib.ListN.{length}
use Rattle.salvage.proofs.Laws.Apart.{list_most}
use Rattle.salvage.proofs.Laws.Walk.{lies_dropped, lies_kept, list_at_end, list_at_stretch, list_at_kept}
use Rattle.salvage.proofs.pieces.list_length.Goals as goal

pub overflow_add-listed : goal.overflow_add-listed
overflow_add-listed c =
    let inv = c.loop-piece.invariant in
    let there = lies_dropped inv.0 _ _ c.in-Dropped.is c.in-Some.ensures.steps.1 in
    omega (arith, inv.1, ap length (list_at_stretch _ _ _ there.2), list_most c.args.bytes.now c.requires)

pub loop-piece-preserved-in-Dropped : goal.loop-piece-preserved-in-Dropped
loop-piece-preserved-in-Dropped c =
    let inv = c.loop-piece.invariant in
    let there = lies_dropped inv.0 _ _ c.in-Dropped.is c.in-Some.ensures.steps.1 in
    (rw c.in-Some.ensures.steps.0 inv.0, omega (arith, inv.1, ap length (list_at_stretch _ _ _ there.2)))

pub loop-piece-preserved : goal.loop-piece-preserved
loop-piece-preserved c =
    let inv = c.loop-piece.invariant in
    let there = lies_kept inv.0 c.loop-piece.piece-iterator.at c.next.new.self.at c.in_default.is c.in-Some.ensures.steps.1 in
    let next = rw there.1 at (list_at_kept _ _ _ there.0) in
    (rw c.in-Some.ensures.steps.0 inv.0, omega (arith, inv.1, ap length next))

pub returns : goal.returns
returns c =
    let inv = c.loop-piece.invariant in
    let end = list_at_end c.args.bytes.now c.loop-piece.piece-iterator.at (omega (arith, ap length inv.0, c.in-None.ensures.steps.1.1)) in
    omega (arith, inv.1, ap length end)
