-- `common::buffer::put` meets its contract: the part that is copied stands between the bytes before and those behind.
use Rattle.std.proofs.Common.{◌+◌, length, refl, arith}
use borrow.Rule.Slice.PartMut.{Post-is}
use Rattle.common.specs.Buffer.{written}
use Rattle.common.proofs.buffer.put.Goals as goal

pub returns : goal.returns
unfolding written
returns c =
    let a = c.args in
    record {
      behind = refl;
      stored = rw (c.copy_from_slice.ensures.after, Post-is a.at (a.at + length a.bytes.now) a.buffer.now (omega arith)) refl;
    }
