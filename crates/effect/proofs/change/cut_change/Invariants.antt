-- `effect::change::cut_change` meets its contract: below k the array is cut, from k on it is as it was, and the bytes left of the mask are those behind as many as there are touched addresses below k.
use mathlib.Core.Path.{◌≡◌}
use Prim.Native.Nat.{◌≤◌}
use lib.ListN.{drop}
use Rattle.std.specs.Slice.Iter.{iter_rest}
use Rattle.common.specs.Lists.{mapi, up_to}
use Rattle.effect.specs.Effect.{span_of}
use Rattle.effect.specs.Cut.{mask_place, cut}
use Rattle.effect.proofs.change.cut_change.Given as goal

abbrev pub invariant-loop-k : goal.invariant-loop-k
invariant-loop-k l =
    (goal.iterator-loop-k).can_next l.k-iterator × (goal.iterator-loop-k).is_finite l.k-iterator × ((span_of l.e).start ≤ l.k-iterator.start) × (l.k-iterator.start ≤ l.k-iterator.end) × (l.k-iterator.end ≡ (span_of l.e).end)
    × (iter_rest l.bytes ≡ drop (mask_place l.e l.k-iterator.start) l.mask) × (l.array ≡ mapi (up_to l.k-iterator.start (cut l.e l.input l.mask)) l.initial.array)
