-- `plan::Plan::write` meets its contract: what is measured is compared, and only then is a byte written.
use mathlib.Core.Path.{refl}
use Prim.Native.Nat.{◌≤◌, ◌<◌}
use native.Mathlib.Omega.{arith}
use borrow.Author.Tests.{lt-ltb, le-ltb}
use lib.ListN.{length}
use Rattle.script.specs.Record.{encode}
use Rattle.common.specs.declared.refusals.Refusal.TheVariants.{BufferTooShort}
use Rattle.plan.specs.Whole.{records_of}
use Rattle.plan.proofs.Laws.Update.{measured_length, scripted, unscripted}
use Rattle.plan.proofs.Plan.write.Goals as goal

pub returns-then-buffer-m : goal.returns-then-buffer-m
returns-then-buffer-m g c =
    let records = records_of c.args.self.now in
    let long = measured_length records c.measure-m.result c.measure-m.ensures in
    let short : length c.args.buffer.now < length (encode records) = omega arith in
    unscripted _ _ BufferTooShort _ (rw (lt-ltb _ _ short) refl)

pub put-requires-clause-plan_in_bounds : goal.put-requires-clause-plan_in_bounds
put-requires-clause-plan_in_bounds g c =
    let long = measured_length (records_of c.args.self.now) c.measure-m.result c.measure-m.ensures in omega arith

pub returns : goal.returns
returns g c =
    let records = records_of c.args.self.now in
    let long = measured_length records c.measure-m.result c.measure-m.ensures in
    let room : length (encode records) ≤ length c.args.buffer.now = omega arith in
    scripted _ _ c.measure-m.result c.measure-m.ensures _ c.put.ensures.stored _ (rw (le-ltb _ _ room) refl)
