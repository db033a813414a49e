-- `salvage::pieces::put_pieces` meets its contract: what is left of the records and of the list goes behind what is laid.
use mathlib.Core.Path.{ap}
use native.Mathlib.Omega.{arith}
use lib.ListN.{length}
use Rattle.salvage.proofs.Laws.Walk.{lies_dropped, lies_kept, laying_start, entry_room, laying_stretch, record_room, laying_kept, laying_end}
use Rattle.salvage.proofs.pieces.put_pieces.Goals as goal

pub loop-piece-init : goal.loop-piece-init
loop-piece-init c =
    let start = c.pieces_of-piece-items.ensures in
    rw (c.into_iter-piece-iterator.ensures.into_iter_gives, start.1) (start.0, laying_start _ _ _ c.requires.bytes_len_bound.1 c.requires.bytes_in_bounds)

pub put-laid-requires : goal.put-laid-requires
put-laid-requires c =
    let inv = c.loop-piece.invariant in
    let there = lies_kept inv.0 c.loop-piece.piece-iterator.at c.next.new.self.at c.in-Kept.is c.in-Some.ensures.steps.1 in
    rw there.2 (record_room _ _ _ _ _ _ _ _ _ there.0 inv.1)

pub loop-piece-preserved-in-Kept : goal.loop-piece-preserved-in-Kept
loop-piece-preserved-in-Kept c =
    let inv = c.loop-piece.invariant in
    let there = lies_kept inv.0 c.loop-piece.piece-iterator.at c.next.new.self.at c.in-Kept.is c.in-Some.ensures.steps.1 in
    (rw c.in-Some.ensures.steps.0 inv.0, rw there.1 at (laying_kept _ _ _ _ _ _ _ _ _ there.0 inv.1 _ _ (rw there.2 at c.put-laid.ensures)))

pub put_stretch-listed-requires : goal.put_stretch-listed-requires
put_stretch-listed-requires c =
    let inv = c.loop-piece.invariant in
    let there = lies_dropped inv.0 _ _ c.in-Dropped.is c.in-Some.ensures.steps.1 in
    let b = c.requires.bytes_len_bound.0 in
    let s = there.2 in
    (omega (arith, there.0, s.onward, s.inside, b), omega (arith, there.1, s.inside, b), entry_room _ _ _ _ _ _ _ _ _ s inv.1)

pub loop-piece-preserved : goal.loop-piece-preserved
loop-piece-preserved c =
    let inv = c.loop-piece.invariant in
    let there = lies_dropped inv.0 _ _ c.in-Dropped.is c.in-Some.ensures.steps.1 in
    (rw c.in-Some.ensures.steps.0 inv.0, laying_stretch _ _ _ _ _ _ _ _ _ there.2 inv.1 _ _ (rw (there.0, there.1) at c.put_stretch-listed.ensures))

pub returns : goal.returns
returns c =
    let inv = c.loop-piece.invariant in
    laying_end _ _ _ _ _ _ _ _ (omega (arith, ap length inv.0, c.in-None.ensures.steps.1.1)) inv.1
