-- `sectors::returning::mark_listed` meets its contract: the scenes of the records passed are marked, and the names that the list does not have are counted.
use Rattle.names.specs.Records.{names_of}
use Rattle.namelist.specs.Listed.{listed, names_in}
use Rattle.sectors.proofs.Laws.Returning.{Returning}
use Rattle.sectors.proofs.returning.mark_listed.Given as goal

abbrev pub invariant-loop-name : goal.invariant-loop-name
invariant-loop-name l =
    Returning l.image (names_in (listed l.names.bytes.now)) l.initial.used l.used l.unlisted (names_of l.name-iterator.left.now)
