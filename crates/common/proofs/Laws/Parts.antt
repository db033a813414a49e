-- A part of a list: so many elements from a place on.
-- Assumes nothing.
use mathlib.Core.Path.{◌≡◌, sym, ◌∙◌}
use mathlib.Core.List.{List}
use Prim.Native.Nat.{ℕ, ◌+◌, ◌≤◌, ◌<◌}
use native.Mathlib.Omega.{arith}
use lib.ListN.{length, get_or, take, drop, length-drop}
use lib.Seq.{length-take-le, get_or-take, get_or-drop, ext_get_or}
use Rattle.common.specs.Bits.{Bytes}
use Rattle.common.proofs.Laws.Bits.{bytes_within}

module _ (l : List ℕ) (at n : ℕ) (fits : at + n ≤ length l) where
  pub part_length : length (take n (drop at l)) ≡ n
  part_length = length-take-le n (drop at l) (omega (arith, length-drop at l))

  pub part_at : (k : ℕ) → k < n → get_or (take n (drop at l)) k 0 ≡ get_or l (at + k) 0
  part_at k h = get_or-take n (drop at l) k 0 h ∙ get_or-drop at l k 0

  pub part_bytes : Bytes l → Bytes (take n (drop at l))
  part_bytes bytes = bytes_within (take n (drop at l)) (λ k h. rw (part_at k (omega (arith, part_length))) (bytes (at + k)))

  -- it is a list as long that has the same at each place
  pub part_is : (part : List ℕ) → length part ≡ n → ((k : ℕ) → k < n → get_or l (at + k) 0 ≡ get_or part k 0) → take n (drop at l) ≡ part
  part_is part long same = ext_get_or 0 (take n (drop at l)) part (part_length ∙ sym long) (λ k h. let i : k < n = omega (arith, part_length) in part_at k i ∙ same k i)
