-- `frame::call::run_frame` meets its contract: refused, nothing changes; accepted, the accepted frame is run.
use mathlib.Core.Path.{sym}
use native.Mathlib.Omega.{arith}
use Rattle.common.proofs.Laws.Refusals.{number_some}
use Rattle.frame.proofs.Laws.Accepted.{number_accepted}
use Rattle.frame.proofs.Laws.Call.{frame_refused, frame_accepted}
use Rattle.frame.proofs.call.run_frame.Goals as goal

pub run_accepted-requires : goal.run_accepted-requires
run_accepted-requires c = number_accepted _ _ _ _ (sym c.in-Ok.ensures)

pub returns-in-Ok : goal.returns-in-Ok
returns-in-Ok c = rw c.grant.ensures (frame_accepted _ _ _ _ (number_accepted _ _ _ _ (sym c.in-Ok.ensures)) c.run_accepted.ensures)

pub returns-in-Err : goal.returns-in-Err
returns-in-Err c =
    let e = c.in-Err.ensures in
    let some = number_some c.in-Err.refusal in
    rw (c.refuse.ensures, c.number.ensures, e) (frame_refused _ _ _ _ (λ z. omega (arith, z, e)))
