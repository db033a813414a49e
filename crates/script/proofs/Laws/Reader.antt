-- The laws of `record_at`: its answer by the tests on the script and the offset, in the order of 01.
-- Assumes nothing.
use mathlib.Core.Path.{◌≡◌, refl, sym, ap, ap₂, ◌∙◌}
use mathlib.Core.Bool.{true, false, ◌||◌}
use mathlib.Core.List.{List}
use Prim.Native.Nat.{ℕ, ◌+◌, ◌≤◌, ◌<◌}
use native.Mathlib.Omega.{arith}
use lib.Dec.{ltb}
use lib.ListN.{length, drop, length-drop}
use lib.Seq.{length-take-le}
use borrow.Author.Tests.{lt-ltb, le-ltb}
use Rattle.common.proofs.Laws.Choice.{yes, no}
use Rattle.common.specs.Limits.{longest_frame, longest_script}
use Rattle.std.specs.Prelude.{Some, Ok, Err}
use Rattle.common.specs.declared.refusals.Refusal.TheVariants.{ScriptTooLong, WrongLength, CutShort}
use Rattle.script.specs.Decode.{front_frame, front_wait, front}
use Rattle.script.specs.Answers.{Read}
use Rattle.script.specs.declared.reader.AtOffset.{AtOffset}
use Rattle.script.specs.Reader.{two_bytes_at, four_bytes_at, answer, record_at, frame_part, at_offset, Answered}
use Rattle.script.specs.declared.reader.Found.TheVariants.{Frame, Wait}
use Rattle.script.proofs.Laws.Front.{body_wrong, body_short, body_whole}
use Rattle.script.proofs.Laws.Places.{frame_front_at, frame_front_short, wait_front_at, wait_front_short}

pub record_at_long : (script : List ℕ) (offset : ℕ) → longest_script < length script → record_at script offset ≡ Err ScriptTooLong
unfolding record_at
record_at_long script offset long = sym (yes _ (lt-ltb longest_script (length script) long) refl)

pub record_at_past : (script : List ℕ) (offset : ℕ) → length script ≤ longest_script → length script < offset
    → record_at script offset ≡ Err CutShort
unfolding record_at
record_at_past script offset short past =
    sym (no _ (le-ltb longest_script (length script) short) (yes _ (lt-ltb (length script) offset past) refl))

-- a script that is not too long, at an offset that is not past its end
pub record_at_inside : (script : List ℕ) (offset : ℕ) → length script ≤ longest_script → offset ≤ length script
    → record_at script offset ≡ answer offset (front (drop offset script))
unfolding record_at
record_at_inside script offset short inside =
    sym (no _ (le-ltb longest_script (length script) short) (no _ (le-ltb (length script) offset inside) refl))

-- behind a frame's mark, from an index on: no length, a wrong one, one that is longer than what is left, or the frame
pub frame_no_length : (s : List ℕ) (offset at : ℕ) → length (drop at s) < 2 → answer offset (front_frame (drop at s)) ≡ Err CutShort
frame_no_length s offset at few = ap (answer offset) (frame_front_short (drop at s) few)

module _ (s : List ℕ) (offset at n : ℕ) (there : at + 2 ≤ length s) (n_is : n ≡ two_bytes_at s at) where
  pub frame_wrong_length : ltb n 1 || ltb longest_frame n ≡ true → answer offset (front_frame (drop at s)) ≡ Err WrongLength
  frame_wrong_length wrong = ap (answer offset) (frame_front_at s at n there n_is ∙ body_wrong n (drop (at + 2) s) wrong)

  pub frame_cut_short : ltb n 1 || ltb longest_frame n ≡ false → length s < at + 2 + n → answer offset (front_frame (drop at s)) ≡ Err CutShort
  frame_cut_short right few =
      ap (answer offset) (frame_front_at s at n there n_is ∙ body_short n (drop (at + 2) s) right (omega (arith, length-drop (at + 2) s)))

  pub frame_whole : ltb n 1 || ltb longest_frame n ≡ false → at + 2 + n ≤ length s
      → answer offset (front_frame (drop at s)) ≡ Ok (Some (Frame (offset + 4) n (offset + 4 + n)))
  frame_whole right enough =
      let rest : List ℕ = drop (at + 2) s in
      let inside : n ≤ length rest = omega (arith, length-drop (at + 2) s) in
      let next : offset + 4 + n ≡ offset + (4 + n) = omega arith in
      ap (answer offset) (frame_front_at s at n there n_is ∙ body_whole n rest right inside) ∙ rw (length-take-le n rest inside, next) refl

-- behind a wait's mark, from an index on: fewer than four bytes, or its microseconds
pub wait_cut_short : (s : List ℕ) (offset at : ℕ) → length (drop at s) < 4 → answer offset (front_wait (drop at s)) ≡ Err CutShort
wait_cut_short s offset at few = ap (answer offset) (wait_front_short (drop at s) few)

pub wait_whole : (s : List ℕ) (offset at : ℕ) → at + 4 ≤ length s → answer offset (front_wait (drop at s)) ≡ Ok (Some (Wait (four_bytes_at s at) (offset + 6)))
wait_whole s offset at enough = ap (answer offset) (wait_front_at s at enough)

-- what the promise leaves of an answer is the whole of it
pub answered_is : {script : List ℕ} {offset : ℕ} {r : AtOffset} → Answered script offset r → r ≡ at_offset script offset
answered_is a = ap₂ (λ (read : Read) (next : ℕ). record { read = read; next = next }) a.answer_is a.next_is

-- two results of a call are equal
pub record_at_determined : (script : List ℕ) (offset : ℕ) (a b : AtOffset) → Answered script offset a → Answered script offset b → a ≡ b
record_at_determined script offset a b p q = answered_is p ∙ sym (answered_is q)

pub frame_part_determined : (script : List ℕ) (offset : ℕ) (a b : List ℕ) → a ≡ frame_part script offset → b ≡ frame_part script offset → a ≡ b
frame_part_determined script offset a b e f = e ∙ sym f
