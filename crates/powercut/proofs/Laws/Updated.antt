-- The array once the update is done, byte by byte.
-- Assumes nothing.
use mathlib.Core.Path.{◌≡◌, refl, sym, ap, ◌∙◌}
use mathlib.Core.Bool.{cond}
use mathlib.Core.List.{List}
use mathlib.Core.Logic.{inr, ⊎_elim}
use Prim.Native.Nat.{ℕ, ◌+◌, ◌-◌, ◌≤◌, ◌<◌}
use native.Mathlib.Omega.{arith}
use lib.ListN.{length, get_or, get_or-eq_default}
use Rattle.common.specs.Bits.{bit_at}
use Rattle.common.specs.Lists.{within}
use Rattle.common.proofs.Laws.Lists.{split, length_mapi, get_d_mapi}
use Rattle.common.proofs.Laws.Places.{within_bounds}
use Rattle.powercut.specs.PowerCut.{updated, Partway}

module _ (array : List ℕ) (start : ℕ) (wanted : List ℕ) where
  pub updated_at : (k : ℕ) → k < length array
      → get_or (updated array start wanted) k 0 ≡ cond (within start (length wanted) k) (get_or wanted (k - start) 0) (get_or array k 0)
  unfolding updated
  updated_at k h = get_d_mapi _ array k 0 h

  pub updated_length : length (updated array start wanted) ≡ length array
  unfolding updated
  updated_length = length_mapi _ array

  -- each bit is as wanted, so it is as before or as wanted
  pub updated_partway : start + length wanted ≤ length array → Partway array start wanted (updated array start wanted)
  updated_partway fits = record {
    same_length = updated_length;
    region = λ k b i. let within = within_bounds start (length wanted) k i in inr (ap (λ (x : ℕ). bit_at x b) (updated_at k (omega arith) ∙ rw i refl));
    outside = λ k i. ⊎_elim (λ l. updated_at k l ∙ rw i refl)
        (λ l. get_or-eq_default (updated array start wanted) 0 {n = k} (rw updated_length l) ∙ sym (get_or-eq_default array 0 {n = k} l)) (split k (length array));
  }
