-- `plan::Plan::put` meets its contract: the steps' bytes are laid one behind the other.
use mathlib.Core.List.{List, ◌++◌}
use Prim.Native.Nat.{ℕ, ◌≤◌}
use native.Mathlib.Omega.{arith}
use Rattle.std.proofs.Common.{◌≡◌}
use lib.ListN.{length}
use mathlib.Core.Bool.{Bool}
use Rattle.script.specs.Record.{encode}
use Rattle.state.specs.declared.State.{State}
use Rattle.state.specs.State.{data_of}
use Rattle.common.proofs.Laws.Buffer.{Whole, left_start, left_room, left_turn, left_fits, left_last}
use Rattle.plan.specs.Plan.{step_one_needed, status_step, program_step, plan_records}
use Rattle.plan.proofs.Laws.Plan.{plan_bytes}
use Rattle.plan.proofs.Plan.put.Goals as goal

-- nothing is laid yet, and there is room for all that is to be
plan_begun : (s : State) (needed : Bool) (array : List ℕ) (start : ℕ) (wanted buffer : List ℕ) → needed ≡ step_one_needed s array start wanted
    → length (encode (plan_records s array start wanted)) ≤ length buffer
    → Whole 0 (encode (status_step needed s 0) ++ (encode (program_step (data_of s).word_plans array start wanted) ++ encode (status_step needed s s.bp))) buffer
plan_begun s needed array start wanted buffer e room = left_start _ _ _ (rw (← plan_bytes s array start wanted needed e) (omega arith))

pub put_status-unprotected-requires : goal.put_status-unprotected-requires
put_status-unprotected-requires g c =
    let p = c.args.self.now in
    let begun = plan_begun p.state p.needed _ _ _ c.args.buffer.now p.needed_is c.requires.plan_in_bounds in record {
      bp_bound = omega arith;
      bp_in_bounds = left_room (encode (status_step p.needed p.state 0)) _ begun;
    }

pub put-programmed-requires : goal.put-programmed-requires
put-programmed-requires g c =
    let p = c.args.self.now in
    let u = p.update in
    let begun = plan_begun p.state p.needed _ _ _ c.args.buffer.now p.needed_is c.requires.plan_in_bounds in
    rw c.requires.program (left_room (encode (program_step (data_of p.state).word_plans u.array.now u.start u.wanted.now)) _ (left_turn _ _ begun c.put_status-unprotected.ensures))

pub put_status-requires : goal.put_status-requires
put_status-requires g c =
    let p = c.args.self.now in
    let begun = plan_begun p.state p.needed _ _ _ c.args.buffer.now p.needed_is c.requires.plan_in_bounds in record {
      bp_bound = p.bp_bound;
      bp_in_bounds = left_fits (left_turn _ _ (left_turn _ _ begun c.put_status-unprotected.ensures) (rw c.requires.program at c.put-programmed.ensures));
    }

pub returns : goal.returns
returns g c =
    let p = c.args.self.now in
    let u = p.update in
    let begun = plan_begun p.state p.needed _ _ _ c.args.buffer.now p.needed_is c.requires.plan_in_bounds in
    rw (plan_bytes p.state u.array.now u.start u.wanted.now p.needed p.needed_is)
    (left_last (left_turn _ _ (left_turn _ _ begun c.put_status-unprotected.ensures) (rw c.requires.program at c.put-programmed.ensures)) c.put_status.ensures)
