-- `script::writer::put_frame` meets its contract: its bytes are the head and the frame, one behind the other.
use lib.ListN.{length}
use Rattle.script.specs.Record.{frame, encode_record, frame_head}
use Rattle.common.proofs.Laws.Buffer.{Whole, left_start, left_room, left_turn, left_fits, left_last}
use Rattle.script.proofs.writer.put_frame.Goals as goal

pub put_head-headed-requires : goal.put_head-headed-requires
unfolding encode_record
put_head-headed-requires c =
    let begun : Whole c.args.at (encode_record (frame c.args.bytes.now)) c.args.buffer.now = left_start _ _ _ c.requires.bytes_in_bounds in record {
      n_le_longest_frame = c.requires.bytes_len_bound;
      at_in_bounds = left_room (frame_head (length c.args.bytes.now)) c.args.bytes.now begun;
    }

pub put-requires : goal.put-requires
unfolding encode_record
put-requires c =
    let begun : Whole c.args.at (encode_record (frame c.args.bytes.now)) c.args.buffer.now = left_start _ _ _ c.requires.bytes_in_bounds in
    left_fits (left_turn (frame_head (length c.args.bytes.now)) c.args.bytes.now begun c.put_head-headed.ensures)

pub returns : goal.returns
unfolding encode_record
returns c =
    let begun : Whole c.args.at (encode_record (frame c.args.bytes.now)) c.args.buffer.now = left_start _ _ _ c.requires.bytes_in_bounds in
    left_last (left_turn (frame_head (length c.args.bytes.now)) c.args.bytes.now begun c.put_head-headed.ensures) c.put.ensures
