-- "A chip is a state plus a lent array" (01, "State").
use Rattle.std.specs.Prelude.{List, ℕ}
use Rattle.state.specs.declared.State.{State}

pub record Device : Type 0 where
  pub state : State
  pub array : List ℕ

abbrev pub device : State → List ℕ → Device
device s array = record { state = s; array = array }

-- the same chip with other registers
abbrev pub with_state : Device → State → Device
with_state d s = record { state = s; array = d.array }
