-- `namelist::list::NameList::has_twice` meets its contract: the names passed stand once each, and their prints are kept.
use Rattle.namelist.specs.Listed.{listed, names_in}
use Rattle.namelist.proofs.Laws.Comparing.{Comparing}
use Rattle.namelist.proofs.list.NameList.has_twice.Given as goal

abbrev pub invariant-loop-count : goal.invariant-loop-count
invariant-loop-count l = Comparing (names_in (listed l.self.bytes.now)) (names_in (listed l.name-iterator.left.now)) l.prints l.count
