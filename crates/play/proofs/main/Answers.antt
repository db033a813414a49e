-- `play::main`: what was written lies within its array.
use mathlib.Core.Path.{sym}
use lib.Seq.{length-take-le}
use Rattle.common.proofs.Laws.Buffer.{front_within}
use Rattle.play.proofs.main.Goals as goal

pub slice_bounds-text-end : goal.slice_bounds-text-end
slice_bounds-text-end c = front_within c.listing-length.ensures

pub slice_bounds-write_all-end : goal.slice_bounds-write_all-end
slice_bounds-write_all-end c = sym (length-take-le _ _ (front_within c.listing-length.ensures))
