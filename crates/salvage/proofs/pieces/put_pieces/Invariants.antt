-- `salvage::pieces::put_pieces` meets its contract: what is left of the records and of the list goes behind what is laid.
use mathlib.Core.Path.{◌≡◌}
use Rattle.salvage.proofs.Laws.Walk.{Laying}
use Rattle.salvage.proofs.pieces.put_pieces.Given as goal

abbrev pub invariant-loop-piece : goal.invariant-loop-piece
invariant-loop-piece l =
    (l.piece-iterator.bytes.now ≡ l.bytes) × Laying l.bytes l.initial.kept l.initial.list l.kept l.list l.piece-iterator.at l.laid l.listed
