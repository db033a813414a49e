-- Several items are laid one behind the other: at each turn the next of those left, and at the end none is left.
use Rattle.std.proofs.lemmas.List.{at_drop_all}
use Rattle.std.specs.Prelude.{flat_map}
use Rattle.common.proofs.Laws.Buffer.{left_room, left_turn, left_none}
use Rattle.common.proofs.Laws.Each.{each_at}
use Rattle.text.proofs.Laws.Writing.{items_left}
use Rattle.text.proofs.RefSliceSpelled.put.Goals as goal

pub put-next-requires : goal.put-next-requires
put-next-requires g c =
    let spelled = each_at g.T.Spelled.can_spell c.args.self.now c.loop-item.item-index c.item-item.result c.requires.spelled c.loop-item-test.true in
    record {
      spelled = rw c.item-item.is spelled;
      room = left_room _ _ (items_left g.T.Spelled.characters _ _ _ c.loop-item-test.true c.item-item.is c.loop-item.invariant);
    }

pub loop-item-preserved : goal.loop-item-preserved
loop-item-preserved g c =
    left_turn _ _ (items_left g.T.Spelled.characters _ _ _ c.loop-item-test.true c.item-item.is c.loop-item.invariant) c.put-next.ensures

pub returns : goal.returns
returns g c = left_none (rw (at_drop_all (flat_map g.T.Spelled.characters) c.args.self.now c.loop-item.item-index c.loop-item-test.false) at c.loop-item.invariant)
