-- `pages::put_part` meets its contract: the part's bytes are laid one behind the other.
use mathlib.Core.Path.{◌≡◌}
use mathlib.Core.List.{List, [], ◌∷◌}
use Prim.Native.Nat.{ℕ, ◌+◌, ◌-◌, ◌≤◌, ◌<◌}
use native.Mathlib.Omega.{arith}
use lib.ListN.{length, take, drop}
use Rattle.script.specs.Record.{frame, encode_record, encode, frame_head}
use Rattle.region.specs.Region.{wanted_at}
use Rattle.common.specs.Numbers.{address_bytes}
use Rattle.common.proofs.Laws.Buffer.{Whole, left_start, left_room, left_turn, left_fits, left_last, put_none}
use Rattle.script.proofs.Laws.Records.{encode_none}
use Rattle.pages.specs.Pages.{part_records}
use Rattle.pages.proofs.Laws.Parts.{none_in, some_in, part_bytes, part_bytes_lem}
use Rattle.pages.proofs.put_part.Goals as goal

-- nothing is laid yet, and there is room for all that is to be
part_begun : (start : ℕ) (wanted : List ℕ) (from to at : ℕ) (buffer : List ℕ) → start ≤ from → from < to → to ≤ start + length wanted
    → at + length (encode (part_records (wanted_at start wanted) from (to - from))) ≤ length buffer → Whole at (part_bytes start wanted from to) buffer
part_begun start wanted from to at buffer low some high room = left_start _ _ _ (rw (part_bytes_lem start wanted from to low some high) at room)

pub returns-then-is_empty : goal.returns-then-is_empty
unfolding part_records
returns-then-is_empty c = let none = none_in c.args.part.start c.args.part.end c.if-is_empty.ensures in let e : c.args.part.end - c.args.part.start ≡ 0 = omega arith in rw (e, encode_none) (put_none _ _)

pub put_frame-enabled-requires : goal.put_frame-enabled-requires
put_frame-enabled-requires c =
    let a = c.args in
    let begun = part_begun a.update.now.start a.update.now.wanted.now a.part.start a.part.end a.at a.buffer.now (omega arith) (some_in _ _ c.if-is_empty.ensures) (omega arith) c.requires.part_in_bounds in record {
      bytes_len_bound = omega arith;
      bytes_in_bounds = left_room (encode_record (frame (0x06 ∷ []))) _ begun;
    }

pub put_head-headed-requires : goal.put_head-headed-requires
put_head-headed-requires c =
    let a = c.args in
    let begun = part_begun a.update.now.start a.update.now.wanted.now a.part.start a.part.end a.at a.buffer.now (omega arith) (some_in _ _ c.if-is_empty.ensures) (omega arith) c.requires.part_in_bounds in record {
      n_le_longest_frame = omega arith;
      at_in_bounds = left_room (frame_head _) _ (left_turn _ _ begun c.put_frame-enabled.ensures);
    }

pub put-addressed-requires : goal.put-addressed-requires
put-addressed-requires c =
    let a = c.args in
    let begun = part_begun a.update.now.start a.update.now.wanted.now a.part.start a.part.end a.at a.buffer.now (omega arith) (some_in _ _ c.if-is_empty.ensures) (omega arith) c.requires.part_in_bounds in
    left_room (0x02 ∷ address_bytes _) _ (left_turn (frame_head _) _ (left_turn _ _ begun c.put_frame-enabled.ensures) (rw c.len.ensures.value at c.put_head-headed.ensures))

pub put-sent-requires : goal.put-sent-requires
put-sent-requires c =
    let a = c.args in
    let begun = part_begun a.update.now.start a.update.now.wanted.now a.part.start a.part.end a.at a.buffer.now (omega arith) (some_in _ _ c.if-is_empty.ensures) (omega arith) c.requires.part_in_bounds in
    left_room (take (a.part.end - a.update.now.start - (a.part.start - a.update.now.start)) (drop (a.part.start - a.update.now.start) a.update.now.wanted.now)) _
    (left_turn (0x02 ∷ address_bytes _) _ (left_turn (frame_head _) _ (left_turn _ _ begun c.put_frame-enabled.ensures) (rw c.len.ensures.value at c.put_head-headed.ensures))
    (rw c.address_bytes-place.ensures at c.put-addressed.ensures))

pub put_wait-requires : goal.put_wait-requires
put_wait-requires c =
    let a = c.args in
    let begun = part_begun a.update.now.start a.update.now.wanted.now a.part.start a.part.end a.at a.buffer.now (omega arith) (some_in _ _ c.if-is_empty.ensures) (omega arith) c.requires.part_in_bounds in
    left_fits (left_turn _ _ (left_turn (0x02 ∷ address_bytes _) _ (left_turn (frame_head _) _ (left_turn _ _ begun c.put_frame-enabled.ensures) (rw c.len.ensures.value at c.put_head-headed.ensures))
    (rw c.address_bytes-place.ensures at c.put-addressed.ensures)) c.put-sent.ensures)

pub returns : goal.returns
returns c =
    let a = c.args in
    let begun = part_begun a.update.now.start a.update.now.wanted.now a.part.start a.part.end a.at a.buffer.now (omega arith) (some_in _ _ c.if-is_empty.ensures) (omega arith) c.requires.part_in_bounds in
    rw (part_bytes_lem a.update.now.start a.update.now.wanted.now a.part.start a.part.end (omega arith) (some_in _ _ c.if-is_empty.ensures) (omega arith))
    (left_last (left_turn _ _ (left_turn (0x02 ∷ address_bytes _) _ (left_turn (frame_head _) _ (left_turn _ _ begun c.put_frame-enabled.ensures) (rw c.len.ensures.value at c.put_head-headed.ensures))
    (rw c.address_bytes-place.ensures at c.put-addressed.ensures)) c.put-sent.ensures) c.put_wait.ensures)
