-- `common::runs::and_run` meets its contract: below k the run is ANDed.
use mathlib.Core.Path.{◌≡◌}
use Prim.Native.Nat.{◌+◌, ◌-◌}
use lib.ListN.{get_or}
use lib.Bits.{bit_and}
use Rattle.common.specs.Lists.{mapi, up_to, on_run}
use Rattle.common.proofs.runs.and_run.Given as goal

abbrev pub invariant-loop-k : goal.invariant-loop-k
invariant-loop-k l = l.bytes ≡ mapi (up_to l.k (on_run l.from l.to (λ k x. bit_and x (get_or l.source (l.at + (k - l.from)) 0)))) l.initial.bytes
