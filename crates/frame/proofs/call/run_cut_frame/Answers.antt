-- `frame::call::run_cut_frame` meets its contract: refused, nothing changes; accepted, the interrupted frame is run.
use mathlib.Core.Path.{sym}
use native.Mathlib.Omega.{arith}
use Rattle.common.proofs.Laws.Refusals.{number_some}
use Rattle.frame.proofs.Laws.Accepted.{cut_number_accepted}
use Rattle.frame.proofs.Laws.Call.{cut_refused, cut_accepted}
use Rattle.frame.proofs.call.run_cut_frame.Goals as goal

pub run_accepted_cut-requires : goal.run_accepted_cut-requires
run_accepted_cut-requires c = cut_number_accepted _ _ _ _ _ (sym c.in-Ok.ensures)

pub returns-in-Ok : goal.returns-in-Ok
returns-in-Ok c = rw c.grant.ensures (cut_accepted _ _ _ _ _ (cut_number_accepted _ _ _ _ _ (sym c.in-Ok.ensures)) c.run_accepted_cut.ensures)

pub returns-in-Err : goal.returns-in-Err
returns-in-Err c =
    let e = c.in-Err.ensures in
    let some = number_some c.in-Err.refusal in
    rw (c.refuse.ensures, c.number.ensures, e) (cut_refused _ _ _ _ _ (λ z. omega (arith, z, e)))
