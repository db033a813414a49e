-- `output::emit` meets its contract: a read of the array in runs, every other command byte by byte until it no longer changes.
use Prim.Native.Nat.{ℕ, ◌+◌, ◌-◌, ◌%◌}
use native.Mathlib.Omega.{arith}
use Rattle.chip.proofs.Laws.Chip.{regular}
use Rattle.state.specs.State.{data_of}
use Rattle.output.specs.Output.{memory, shown_at}
use Rattle.output.proofs.emit.Goals as goal

pub show_array-requires : goal.show_array-requires
show_array-requires c =
    let below = rw c.in-ReadArray.is at c.requires.0 in
    let k = regular c.args.s.chip in
    (omega (arith, below, c.requires.1), omega (arith, k.size_positive, k.whole_blocks, c.requires.1, c.requires.2))

pub returns-in-ReadArray : goal.returns-in-ReadArray
unfolding shown_at
returns-in-ReadArray c =
    let a = c.args in
    let shown = rw c.requires.1 at c.show_array.ensures in
    let byte : ℕ → ℕ = λ i. memory a.array.now ((c.in-ReadArray.from + (i - c.in-ReadArray.at)) % (data_of a.s).size) in
    rw c.in-ReadArray.is record { output_after = shown; driven_after = rw c.requires.3 at (c.drive_since.ensures byte) }

pub returns-in_default : goal.returns-in_default
returns-in_default c =
    let shown = c.show_each.ensures (memory c.args.array.now) in
    record { output_after = shown.0; driven_after = shown.1 }
