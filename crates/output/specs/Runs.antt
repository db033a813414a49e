-- What the functions of this crate ask and tell of each other, so that a run lays bytes that are the same. The model is Output.antt; nothing here adds to it.
use Rattle.std.specs.Prelude.{◌≡◌, ℕ, ◌≤◌, ◌<◌}
use Rattle.state.specs.declared.State.{State}
use Rattle.command.specs.declared.Command.{Command}
use Rattle.command.specs.declared.Command.TheVariants.{ReadArray}
use Rattle.output.specs.Output.{shown_at}

-- a command that does not read the array
abbrev pub NoRead : Command → Type 0
NoRead c = (address silent : ℕ) → c ≡ ReadArray address silent → ⊥

-- from a byte on it shows one and the same, up to the frame's end
abbrev pub SameFrom : Command → ℕ → ℕ → Type 0
SameFrom c from count = (s : State) (m : ℕ → ℕ) (i : ℕ) → from ≤ i → i < count → shown_at s c m i ≡ shown_at s c m from
