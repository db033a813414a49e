-- `namelist::twice::print_of` meets its contract: the invariant says that going on from here gives the print of the whole name.
use mathlib.Core.Path.{sym, ◌∙◌}
use native.Mathlib.Omega.{arith}
use Rattle.namelist.proofs.Laws.Prints.{print_start, print_turn, print_end}
use Rattle.namelist.proofs.twice.print_of.Goals as goal

pub loop-byte-init : goal.loop-byte-init
loop-byte-init c = (omega arith, print_start c.args.name.now)

pub loop-byte-preserved : goal.loop-byte-preserved
loop-byte-preserved c =
    let l = c.loop-byte in
    (omega arith, rw c.from.ensures (sym (print_turn _ l.print l.byte-index c.loop-byte-test.true) ∙ l.invariant.1))

pub returns : goal.returns
returns c = let l = c.loop-byte in sym (print_end _ l.print l.byte-index c.loop-byte-test.false) ∙ l.invariant.1
