-- `namelist::list::NameList::read` meets its contract: what is left is bad, after the names passed, exactly where the whole list is.
use lib.ListN.{length}
use Rattle.namelist.proofs.Laws.Reading.{Reading}
use Rattle.namelist.proofs.list.NameList.read.Given as goal

abbrev pub invariant-loop-length : goal.invariant-loop-length
invariant-loop-length l = Reading l.list l.left l.names

abbrev pub decreases-loop-length : goal.decreases-loop-length
decreases-loop-length l = length l.left
