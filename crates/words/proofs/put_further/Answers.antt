-- `words::put_further` meets its contract: its records are laid one behind the other.
use mathlib.Core.Bool.{true}
use native.Mathlib.Omega.{arith}
use Rattle.script.specs.Record.{encode}
use Rattle.region.specs.Region.{wanted_at}
use Rattle.common.proofs.Laws.Buffer.{Whole, left_start}
use Rattle.script.proofs.Laws.Writer.{record_room, record_turn, records_done}
use Rattle.words.specs.Walk.{word_records}
use Rattle.words.proofs.put_further.Goals as goal

pub put_frame-sent-requires : goal.put_frame-sent-requires
unfolding word_records
put_frame-sent-requires c =
    let begun : Whole c.args.at (encode (word_records (wanted_at c.args.update.now.start c.args.update.now.wanted.now) true true c.args.address)) c.args.buffer.now = left_start _ _ _ c.requires.address_in_bounds in record {
      bytes_len_bound = omega arith;
      bytes_in_bounds = rw (c.wanted_at-odd.ensures, c.wanted_at-even.ensures) (record_room _ _ begun);
    }

pub put_wait-requires : goal.put_wait-requires
unfolding word_records
put_wait-requires c =
    let begun : Whole c.args.at (encode (word_records (wanted_at c.args.update.now.start c.args.update.now.wanted.now) true true c.args.address)) c.args.buffer.now = left_start _ _ _ c.requires.address_in_bounds in
    record_room _ _ (record_turn _ _ begun (rw (c.wanted_at-odd.ensures, c.wanted_at-even.ensures) at c.put_frame-sent.ensures))

pub returns : goal.returns
unfolding word_records
returns c =
    let begun : Whole c.args.at (encode (word_records (wanted_at c.args.update.now.start c.args.update.now.wanted.now) true true c.args.address)) c.args.buffer.now = left_start _ _ _ c.requires.address_in_bounds in
    records_done (record_turn _ _ (record_turn _ _ begun
    (rw (c.wanted_at-odd.ensures, c.wanted_at-even.ensures) at c.put_frame-sent.ensures)) c.put_wait.ensures)
