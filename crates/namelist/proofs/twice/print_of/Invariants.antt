-- `namelist::twice::print_of` meets its contract: the invariant says that going on from here gives the print of the whole name.
use mathlib.Core.Path.{◌≡◌}
use Prim.Native.Nat.{◌<◌}
use lib.ListN.{drop}
use Rattle.namelist.specs.Twice.{print_from, print_of}
use Rattle.namelist.proofs.twice.print_of.Given as goal

abbrev pub invariant-loop-byte : goal.invariant-loop-byte
invariant-loop-byte l = (l.print < 16777216) × (print_from l.print (drop l.byte-index l.name) ≡ print_of l.name)
