-- `names::search::find` meets its contract: the invariant says that no record passed has the name.
use Prim.Native.Nat.{◌-◌}
use lib.ListN.{length}
use Rattle.names.proofs.Laws.Sought.{Sought}
use Rattle.names.proofs.search.find.Given as goal

abbrev pub invariant-loop-size : goal.invariant-loop-size
invariant-loop-size l = Sought l.bytes l.name l.at

abbrev pub decreases-loop-size : goal.decreases-loop-size
decreases-loop-size l = length l.bytes - l.at
