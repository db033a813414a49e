-- What `front` finds from an index of a script on, byte by byte: the mark, the frame's length, the wait's microseconds.
-- Assumes nothing.
use mathlib.Core.Path.{◌≡◌, refl, sym}
use mathlib.Core.Bool.{true, false, ◌&&◌}
use mathlib.Core.List.{List, [], ◌∷◌}
use Prim.Native.Nat.{ℕ, suc, ◌+◌, ◌≤◌, ◌<◌}
use native.Mathlib.Numerals.{add-one, add-two}
use native.Mathlib.Omega.{arith}
use lib.Dec.{eqb}
use lib.ListN.{length, get_or, drop, drop_of_length-le}
use lib.Seq.{drop-cons}
use Rattle.common.proofs.Laws.Choice.{yes, no}
use Rattle.script.specs.Record.{wait, script_mark, frame_mark, wait_mark}
use Rattle.script.specs.Decode.{unknown_mark, cut_short, end, item, malformed, front_body, front_frame, front_wait, front}
use Rattle.script.specs.Reader.{two_bytes_at, four_bytes_at}

-- the next two bytes, and what follows them
two_from : (s : List ℕ) (at : ℕ) → at + 2 ≤ length s → drop at s ≡ get_or s at 0 ∷ get_or s (at + 1) 0 ∷ drop (at + 2) s
two_from s at h = rw (add-two at, add-one at, drop-cons s at 0 (omega arith), drop-cons s (suc at) 0 (omega arith)) refl

-- two bytes are there for the mark: it decides
module _ (s : List ℕ) (at : ℕ) (there : at + 2 ≤ length s) where
  pub front_frame_lem : eqb (get_or s at 0) script_mark && eqb (get_or s (at + 1) 0) frame_mark ≡ true → front (drop at s) ≡ front_frame (drop (at + 2) s)
  unfolding front
  front_frame_lem mark = rw (two_from s at there) (sym (yes _ mark refl))

  pub front_wait_lem : eqb (get_or s at 0) script_mark && eqb (get_or s (at + 1) 0) frame_mark ≡ false → eqb (get_or s at 0) script_mark && eqb (get_or s (at + 1) 0) wait_mark ≡ true
      → front (drop at s) ≡ front_wait (drop (at + 2) s)
  unfolding front
  front_wait_lem other mark = rw (two_from s at there) (sym (no _ other (yes _ mark refl)))

  pub front_unknown : eqb (get_or s at 0) script_mark && eqb (get_or s (at + 1) 0) frame_mark ≡ false → eqb (get_or s at 0) script_mark && eqb (get_or s (at + 1) 0) wait_mark ≡ false
      → front (drop at s) ≡ malformed unknown_mark
  unfolding front
  front_unknown other neither = rw (two_from s at there) (sym (no _ other (no _ neither refl)))

pub front_at_end : (s : List ℕ) (at : ℕ) → length s ≤ at → front (drop at s) ≡ end
unfolding front
front_at_end s at h = rw (drop_of_length-le s h) refl

pub front_short : (bytes : List ℕ) → 1 ≤ length bytes → length bytes < 2 → front bytes ≡ malformed cut_short
unfolding front
front_short [] least h = absurd (omega arith)
front_short (first ∷ []) least h = refl
front_short (first ∷ second ∷ bytes) least h = absurd (omega arith)

-- two bytes are there for the frame's length
pub frame_front_at : (s : List ℕ) (at n : ℕ) → at + 2 ≤ length s → n ≡ two_bytes_at s at → front_frame (drop at s) ≡ front_body n (drop (at + 2) s)
unfolding front_frame
frame_front_at s at n h e = rw (two_from s at h, e) refl

pub frame_front_short : (bytes : List ℕ) → length bytes < 2 → front_frame bytes ≡ malformed cut_short
unfolding front_frame
frame_front_short [] h = refl
frame_front_short (high ∷ []) h = refl
frame_front_short (high ∷ low ∷ rest) h = absurd (omega arith)

-- four bytes are there for the microseconds
pub wait_front_at : (s : List ℕ) (at : ℕ) → at + 4 ≤ length s → front_wait (drop at s) ≡ item (wait (four_bytes_at s at)) (drop (at + 2 + 2) s)
unfolding front_wait
wait_front_at s at h = rw (two_from s at (omega arith), two_from s (at + 2) (omega arith)) refl

pub wait_front_short : (bytes : List ℕ) → length bytes < 4 → front_wait bytes ≡ malformed cut_short
unfolding front_wait
wait_front_short [] h = refl
wait_front_short (a ∷ []) h = refl
wait_front_short (a ∷ b ∷ []) h = refl
wait_front_short (a ∷ b ∷ c ∷ []) h = refl
wait_front_short (a ∷ b ∷ c ∷ d ∷ rest) h = absurd (omega arith)
