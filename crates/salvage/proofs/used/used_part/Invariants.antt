-- `salvage::used::used_part` meets its contract: FF from the end of `used` on.
use lib.ListN.{length}
use Rattle.salvage.proofs.Laws.Used.{ErasedBehind}
use Rattle.salvage.proofs.used.used_part.Given as goal

abbrev pub invariant-loop-used : goal.invariant-loop-used
invariant-loop-used l = ErasedBehind l.sector l.used

abbrev pub decreases-loop-used : goal.decreases-loop-used
decreases-loop-used l = length l.used
