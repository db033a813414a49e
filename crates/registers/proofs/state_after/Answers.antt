-- `registers::state_after` meets its contract: each arm's fields are found by the check; a word's next address fits, since its target is in the array.
use native.Mathlib.Omega.{arith}
use Rattle.state.proofs.Laws.Protection.{first_le}
use Rattle.registers.proofs.state_after.Goals as goal

pub overflow_add-t : goal.overflow_add-t
overflow_add-t c = let f = rw c.in-ProgramWord.is at c.requires in omega (arith, f.1.free, first_le c.args.s)
