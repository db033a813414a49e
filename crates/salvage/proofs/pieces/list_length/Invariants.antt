-- `salvage::pieces::list_length` meets its contract: what is listed, and the list of what is left, are together as long as the whole list.
use mathlib.Core.Path.{◌≡◌}
use Prim.Native.Nat.{◌+◌}
use lib.ListN.{length}
use Rattle.salvage.proofs.Laws.Walk.{list_at}
use Rattle.salvage.proofs.pieces.list_length.Given as goal

abbrev pub invariant-loop-piece : goal.invariant-loop-piece
invariant-loop-piece l =
    (l.piece-iterator.bytes.now ≡ l.bytes) × (l.listed + length (list_at l.bytes l.piece-iterator.at) ≡ length (list_at l.bytes 0))
