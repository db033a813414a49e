-- `listing::frames::put_frame_lines` meets its contract: the lines of the records before `at` are written, and with those that are left the text will be as it is to be.
use Prim.Native.Nat.{◌-◌}
use lib.ListN.{length}
use Rattle.frame.specs.Line.{on_line}
use Rattle.listing.proofs.Laws.Frames.{Shown}
use Rattle.listing.proofs.frames.put_frame_lines.Given as goal

abbrev pub invariant-loop-found : goal.invariant-loop-found
invariant-loop-found l = Shown l.script (on_line l.output l.driven) l.initial.text l.at l.shown l.next_line l.text

abbrev pub decreases-loop-found : goal.decreases-loop-found
decreases-loop-found l = length l.script - l.at
