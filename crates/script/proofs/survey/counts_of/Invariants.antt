-- `script::survey::counts_of` meets its contract. At the loop's head the records before `at` are counted, and the survey of what is left makes up the whole.
-- The measure is what is left of the script. Assumes nothing.
use Prim.Native.Nat.{◌-◌}
use lib.ListN.{length}
use Rattle.script.proofs.Laws.Survey.{Counted}
use Rattle.script.proofs.survey.counts_of.Given as goal

abbrev pub invariant-loop-length : goal.invariant-loop-length
invariant-loop-length l = Counted l.script l.at l.counts.frames l.counts.microseconds l.counts.output

abbrev pub decreases-loop-length : goal.decreases-loop-length
decreases-loop-length l = length l.script - l.at
