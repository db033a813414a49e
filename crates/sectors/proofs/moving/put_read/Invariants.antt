-- `sectors::moving::put_read` meets its contract: the records of the names passed are laid, and those of the names left go behind them.
use Rattle.namelist.specs.Listed.{listed, names_in}
use Rattle.sectors.proofs.Laws.Moving.{Moving}
use Rattle.sectors.proofs.moving.put_read.Given as goal

abbrev pub invariant-loop-scene : goal.invariant-loop-scene
invariant-loop-scene l =
    Moving l.book.array.now l.book.sector l.names.bytes.now l.marked l.initial.wanted l.wanted (names_in (listed l.name-iterator.left.now)) l.scene l.end
