-- `output::show_each` meets its contract: below i both slices show the command's bytes, and from where these no longer change a run lays the rest.
use mathlib.Core.Path.{◌≡◌}
use Prim.Native.Nat.{ℕ}
use Rattle.common.specs.Lists.{mapi, up_to}
use Rattle.output.specs.Output.{byte_of, driven_of, shown_at}
use Rattle.output.proofs.show_each.Given as goal

abbrev pub invariant-loop-i : goal.invariant-loop-i
invariant-loop-i l =
    ((m : ℕ → ℕ) → l.output ≡ mapi (up_to l.i (λ k x. byte_of (shown_at l.s l.c m k))) l.initial.output)
    × ((m : ℕ → ℕ) → l.driven ≡ mapi (up_to l.i (λ k x. driven_of (shown_at l.s l.c m k))) l.initial.driven)
