-- `run::records::run_records` meets its contract: at the loop's head the records before `at` are run, and running those that are left makes up the whole.
-- The measure is what is left of the script. Assumes nothing.
use mathlib.Core.Path.{◌≡◌}
use Prim.Native.Nat.{◌-◌}
use lib.ListN.{length}
use Rattle.frame.specs.Device.{device}
use Rattle.frame.specs.Line.{on_line}
use Rattle.run.proofs.Laws.Walk.{Walked}
use Rattle.run.proofs.records.run_records.Given as goal

abbrev pub invariant-loop-found : goal.invariant-loop-found
invariant-loop-found l =
    (length l.initial.driven ≡ length l.initial.output) × Walked l.wp l.script (device l.initial.state l.initial.array) (length l.initial.output) (device l.state l.array) l.at l.laid (on_line l.output l.driven)

abbrev pub decreases-loop-found : goal.decreases-loop-found
decreases-loop-found l = length l.script - l.at
