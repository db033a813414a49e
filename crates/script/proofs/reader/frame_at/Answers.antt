-- `script::reader::frame_at` meets its contract: the tests that led to a `return` say which case of `front_frame` holds.
use mathlib.Core.Path.{◌≡◌, sym, ap, ◌∙◌}
use mathlib.Core.List.{List}
use mathlib.Core.Logic.{inl, inr, ⊎_elim}
use Prim.Native.Nat.{ℕ, ◌-◌}
use native.Mathlib.Omega.{arith}
use lib.ListN.{length, take, drop, length-drop}
use Rattle.std.proofs.lemmas.List.{take_rest}
use Rattle.script.proofs.Laws.Front.{right_length, other_length}
use Rattle.script.proofs.Laws.Reader.{frame_no_length, frame_wrong_length, frame_cut_short, frame_whole}
use Rattle.script.proofs.reader.frame_at.Goals as goal

left : (bytes : List ℕ) → length (take (length bytes - 2) (drop 2 bytes)) ≡ length bytes - 2
left bytes = ap length (take_rest bytes 2) ∙ length-drop 2 bytes

pub returns-in_default : goal.returns-in_default
returns-in_default c = sym (frame_no_length c.args.bytes.now c.args.offset 0 c.in_default.len_below)

pub returns-then-length-lt1 : goal.returns-then-length-lt1
returns-then-length-lt1 c =
    let n = c.from-length in
    let wrong = other_length n.result (⊎_elim inl (λ many. inr many.1) c.then-length-lt1.either) in
    sym (frame_wrong_length c.args.bytes.now c.args.offset 0 n.result c.in-len2-up.len_at_least (n.ensures ∙ c.from_be_bytes.ensures) wrong)

pub returns-then-rest-length : goal.returns-then-rest-length
returns-then-rest-length c =
    let n = c.from-length in
    let right = right_length n.result c.if-length-lt1.false c.if-length-gt-LONGEST_FRAME.false in
    sym (frame_cut_short c.args.bytes.now c.args.offset 0 n.result c.in-len2-up.len_at_least (n.ensures ∙ c.from_be_bytes.ensures) right (omega (arith, left c.args.bytes.now, c.if-rest-length.true)))

pub returns : goal.returns
returns c =
    let n = c.from-length in
    let right = right_length n.result c.if-length-lt1.false c.if-length-gt-LONGEST_FRAME.false in
    sym (frame_whole c.args.bytes.now c.args.offset 0 n.result c.in-len2-up.len_at_least (n.ensures ∙ c.from_be_bytes.ensures) right (omega (arith, left c.args.bytes.now, c.if-rest-length.false)))
