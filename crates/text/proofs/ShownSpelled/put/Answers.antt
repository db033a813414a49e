-- Bytes as a line showed them are laid one behind the other: at each turn the next of those left, and at the end none is left.
use mathlib.Core.Logic.{inl}
use lib.ListN.{get_or, drop_of_length-le}
use Rattle.common.proofs.Laws.Buffer.{left_start, left_room, left_turn, left_none}
use Rattle.text.specs.Text.{shown_pair}
use Rattle.text.proofs.Laws.Shown.{shown_drop, shown_ended, length_shown_pair}
use Rattle.text.proofs.ShownSpelled.put.Goals as goal

pub loop-i-init : goal.loop-i-init
loop-i-init c = left_start _ _ _ c.requires.room

pub put_shown_pair-next-requires : goal.put_shown_pair-next-requires
put_shown_pair-next-requires c =
    let shown = c.args.self in
    let left = rw (shown_drop shown.bytes.now shown.driven.now c.loop-i.i shown.long c.loop-i-test.true) at c.loop-i.invariant in
    rw length_shown_pair at (left_room (shown_pair (get_or shown.bytes.now c.loop-i.i 0) (get_or shown.driven.now c.loop-i.i 0)) _ left)

pub loop-i-preserved : goal.loop-i-preserved
loop-i-preserved c =
    let shown = c.args.self in
    left_turn _ _ (rw (shown_drop shown.bytes.now shown.driven.now c.loop-i.i shown.long c.loop-i-test.true) at c.loop-i.invariant) c.put_shown_pair-next.ensures

pub returns : goal.returns
returns c = left_none (rw (shown_ended _ _ (inl (drop_of_length-le c.args.self.bytes.now c.loop-i-test.false))) at c.loop-i.invariant)
