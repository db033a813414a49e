-- What one more read gave stands behind what the room held.
use Rattle.std.proofs.Common.{rules}
use Rattle.play.proofs.Reading.{consumes_behind}
use Rattle.play.proofs.read_full.Goals as goal

pub loop-done-preserved : goal.loop-done-preserved
loop-done-preserved g c =
    let behind = consumes_behind _ _ _ c.loop-done.room c.read.new.buf _ c.loop-done.done c.in_ok-n.n c.loop-done.invariant.1 c.in_ok-n.ensures.bound.0 c.loop-done.invariant.2 c.in_ok-n.ensures.bytes.0 in
    (search rules, search rules, behind)
