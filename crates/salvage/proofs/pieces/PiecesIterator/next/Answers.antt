-- `salvage::pieces::Pieces::next` meets its contract: a record that stands there lies within the bytes.
use native.Mathlib.Omega.{arith}
use Rattle.salvage.proofs.Laws.Walk.{kept_at}
use Rattle.salvage.proofs.pieces.PiecesIterator.next.Goals as goal

pub overflow_add-self : goal.overflow_add-self
overflow_add-self c = omega (arith, (kept_at c.args.self.now.bytes.now c.args.self.now.at _ c.in-Some.ensures).inside)

pub slice_bounds-piece-end : goal.slice_bounds-piece-end
slice_bounds-piece-end c = omega (arith, (kept_at c.args.self.now.bytes.now c.args.self.now.at _ c.in-Some.ensures).inside)
