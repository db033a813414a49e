-- Several items are laid: with those left the text will be as it is to be.
use lib.ListN.{drop}
use Rattle.std.specs.Prelude.{flat_map}
use Rattle.common.proofs.Laws.Buffer.{Left}
use Rattle.text.proofs.RefSliceSpelled.put.Given as goal

abbrev pub invariant-loop-item : goal.invariant-loop-item
invariant-loop-item g l =
    let all = flat_map g.T.Spelled.characters in
    Left l.next (all (drop l.item-index l.self)) l.text l.at (all l.self) l.initial.text
