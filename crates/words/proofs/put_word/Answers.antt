-- `words::put_word` meets its contract: each of the four cases lays its records.
use mathlib.Core.Bool.{true, false}
use native.Mathlib.Omega.{arith}
use Rattle.script.specs.Record.{encode}
use Rattle.region.specs.Region.{wanted_at}
use Rattle.common.proofs.Laws.Buffer.{Whole, left_start, put_none}
use Rattle.script.proofs.Laws.Records.{encode_none}
use Rattle.script.proofs.Laws.Writer.{record_room, record_turn, records_done}
use Rattle.words.specs.Walk.{word_records}
use Rattle.words.proofs.put_word.Goals as goal

pub put_frame-requires : goal.put_frame-requires
unfolding word_records
put_frame-requires c =
    let a = c.args in
    let closing : Whole a.at (encode (word_records (wanted_at a.update.now.start a.update.now.wanted.now) true false a.address)) a.buffer.now =
    left_start _ _ _ (rw (c.in-false-true.is-1, c.in-false-true.is-0) at c.requires.address_in_bounds) in record {
      bytes_len_bound = omega arith;
      bytes_in_bounds = record_room _ _ closing;
    }

pub returns-in-false-true : goal.returns-in-false-true
unfolding word_records
returns-in-false-true c =
    let a = c.args in
    let closing : Whole a.at (encode (word_records (wanted_at a.update.now.start a.update.now.wanted.now) true false a.address)) a.buffer.now =
    left_start _ _ _ (rw (c.in-false-true.is-1, c.in-false-true.is-0) at c.requires.address_in_bounds) in
    rw (c.in-false-true.is-1, c.in-false-true.is-0) (records_done (record_turn _ _ closing c.put_frame.ensures))

pub returns-in-false-false : goal.returns-in-false-false
unfolding word_records
returns-in-false-false c = rw (c.in-false-false.is-1, c.in-false-false.is-0, encode_none) (put_none _ _)
