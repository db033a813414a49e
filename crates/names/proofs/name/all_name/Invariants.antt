-- `names::name::all_name` meets its contract: the answer is that of the bytes left.
use mathlib.Core.Path.{◌≡◌}
use lib.ListN.{length}
use Rattle.names.specs.Records.{all_name}
use Rattle.names.proofs.name.all_name.Given as goal

abbrev pub invariant-loop-left : goal.invariant-loop-left
invariant-loop-left l = all_name l.left ≡ all_name l.bytes

abbrev pub decreases-loop-left : goal.decreases-loop-left
decreases-loop-left l = length l.left
