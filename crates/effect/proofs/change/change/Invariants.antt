-- `effect::change::change` meets its contract: round a page, below k the array is changed, and from k on it is as it was.
use mathlib.Core.Path.{◌≡◌}
use Prim.Native.Nat.{◌≤◌}
use Rattle.common.specs.Lists.{mapi, up_to}
use Rattle.effect.specs.Effect.{span_of, changed}
use Rattle.effect.proofs.change.change.Given as goal

abbrev pub invariant-loop-k : goal.invariant-loop-k
invariant-loop-k l =
    (goal.iterator-loop-k).can_next l.k-iterator × (goal.iterator-loop-k).is_finite l.k-iterator × ((span_of l.e).start ≤ l.k-iterator.start) × (l.k-iterator.start ≤ l.k-iterator.end) × (l.k-iterator.end ≡ (span_of l.e).end)
    × (l.array ≡ mapi (up_to l.k-iterator.start (changed l.e l.input)) l.initial.array)
