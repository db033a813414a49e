-- `script::writer::put_wait` meets its contract: its six bytes are the record.
use mathlib.Core.Path.{◌≡◌}
use Prim.Native.Nat.{◌/◌, ◌%◌}
use native.Mathlib.Omega.{arith}
use Rattle.script.specs.Record.{encode_record}
use Rattle.script.proofs.writer.put_wait.Goals as goal

pub put-requires : goal.put-requires
unfolding encode_record
put-requires c = c.requires

pub returns : goal.returns
unfolding encode_record
returns c =
    let n = c.args.microseconds in
    let top : n / 16777216 % 256 ≡ n / 16777216 = omega arith in
    rw (← top) (rw c.to_be_bytes.ensures at c.put.ensures)
