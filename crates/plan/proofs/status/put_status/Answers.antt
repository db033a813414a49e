-- `plan::status::put_status` meets its contract: nothing, or its records one behind the other.
use native.Mathlib.Omega.{arith}
use Rattle.script.specs.Record.{encode}
use Rattle.common.proofs.Laws.Buffer.{Whole, left_start, put_none}
use Rattle.script.proofs.Laws.Records.{encode_none}
use Rattle.script.proofs.Laws.Writer.{record_room, record_turn, records_done}
use Rattle.state.specs.State.{data_of}
use Rattle.plan.specs.Plan.{status_records}
use Rattle.plan.proofs.Laws.Steps.{settle_none, settle_some}
use Rattle.plan.proofs.status.put_status.Goals as goal

pub returns-then-not-needed : goal.returns-then-not-needed
returns-then-not-needed c = rw (c.if-not-needed.true, encode_none) (put_none _ _)

pub put_frame-armed-requires : goal.put_frame-armed-requires
unfolding status_records
put_frame-armed-requires c =
    let begun : let a = c.args in Whole a.at (encode (status_records a.s a.bp)) a.buffer.now = left_start _ _ _ (rw (c.if-not-needed.false) at c.requires.bp_in_bounds) in record {
      bytes_len_bound = omega arith;
      bytes_in_bounds = rw c.arming.ensures (record_room _ _ begun);
    }

pub put_frame-sent-requires : goal.put_frame-sent-requires
unfolding status_records
put_frame-sent-requires c =
    let begun : let a = c.args in Whole a.at (encode (status_records a.s a.bp)) a.buffer.now = left_start _ _ _ (rw (c.if-not-needed.false) at c.requires.bp_in_bounds) in record {
      bytes_len_bound = omega arith;
      bytes_in_bounds = rw c.status_byte.ensures
          (record_room _ _ (record_turn _ _ begun
          (rw c.arming.ensures at c.put_frame-armed.ensures)));
    }

-- a status write that is done at once: nothing is left
pub returns-then-time-eq0 : goal.returns-then-time-eq0
unfolding status_records
returns-then-time-eq0 c =
    let begun : let a = c.args in Whole a.at (encode (status_records a.s a.bp)) a.buffer.now = left_start _ _ _ (rw (c.if-not-needed.false) at c.requires.bp_in_bounds) in
    let none = settle_none _ (rw c.chip_of-time.ensures at c.if-time-eq0.true) in
    let left = record_turn _ _ (record_turn _ _ begun (rw c.arming.ensures at c.put_frame-armed.ensures))
    (rw c.status_byte.ensures at c.put_frame-sent.ensures) in
    rw (c.if-not-needed.false, none) (records_done (rw none at left))

-- one that takes time: its wait is
pub put_wait-requires : goal.put_wait-requires
unfolding status_records
put_wait-requires c =
    let begun : let a = c.args in Whole a.at (encode (status_records a.s a.bp)) a.buffer.now = left_start _ _ _ (rw (c.if-not-needed.false) at c.requires.bp_in_bounds) in
    let some = settle_some (data_of c.args.s).status_time (omega (arith, rw c.chip_of-time.ensures at c.if-time-eq0.false)) in
    let left = record_turn _ _ (record_turn _ _ begun (rw c.arming.ensures at c.put_frame-armed.ensures))
    (rw c.status_byte.ensures at c.put_frame-sent.ensures) in
    rw c.chip_of-time.ensures (record_room _ _ (rw some at left))

pub returns : goal.returns
unfolding status_records
returns c =
    let begun : let a = c.args in Whole a.at (encode (status_records a.s a.bp)) a.buffer.now = left_start _ _ _ (rw (c.if-not-needed.false) at c.requires.bp_in_bounds) in
    let some = settle_some (data_of c.args.s).status_time (omega (arith, rw c.chip_of-time.ensures at c.if-time-eq0.false)) in
    let left = record_turn _ _ (record_turn _ _ begun (rw c.arming.ensures at c.put_frame-armed.ensures))
    (rw c.status_byte.ensures at c.put_frame-sent.ensures) in
    rw (c.if-not-needed.false, some)
    (records_done (record_turn _ _ (rw some at left) (rw c.chip_of-time.ensures at c.put_wait.ensures)))
