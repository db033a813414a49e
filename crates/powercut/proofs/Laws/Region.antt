-- A region and an array on its way there: what changes changed before, nothing outside moves, no wanted bit is lost, and where all is settled the update is complete.
-- Assumes nothing.
use mathlib.Core.Path.{◌≡◌, refl, sym, ap, ◌∙◌}
use mathlib.Core.Bool.{true, false, cond}
use mathlib.Core.List.{List}
use mathlib.Core.Logic.{⊎_elim}
use Prim.Native.Nat.{ℕ, ◌+◌, ◌-◌, ◌≤◌, ◌<◌}
use native.Mathlib.Omega.{arith}
use lib.Bits.{bit_and, and_self}
use lib.ListN.{length, get_or, get_or-eq_default}
use lib.Seq.{ext_get_or}
use Rattle.common.proofs.Laws.Choice.{cases}
use Rattle.common.proofs.Laws.Lists.{split}
use Rattle.common.specs.Bits.{Bytes}
use Rattle.common.proofs.Laws.Bits.{and_full}
use Rattle.common.proofs.Laws.Places.{within_bounds}
use Rattle.region.specs.Region.{wanted_at, changes, wants_rise}
use Rattle.common.specs.Lists.{within}
use Rattle.region.proofs.Laws.Region.{wanted_in, wanted_out, change_in_region, change_differs, no_change_outside, no_change_as_wanted, wants_rise_same, nothing_rises}
use Rattle.powercut.specs.PowerCut.{updated, Partway}
use Rattle.powercut.proofs.Laws.Between.{between_bit}
use Rattle.powercut.proofs.Laws.Updated.{updated_at, updated_length}
use Rattle.powercut.proofs.Laws.Near.{Near, Settled, settled_start, settled_same, settled_value}

-- ---- an array on its way

module _ (array : List ℕ) (start : ℕ) (wanted : List ℕ) (bytes : Bytes array) where
  abbrev w : ℕ → ℕ
  w = wanted_at start wanted

  -- what does not change is settled
  pub calm : (k : ℕ) → changes array start wanted k ≡ false → k < length array → Settled w array k
  unfolding Settled
  calm k e l =
      cases (within start (length wanted) k)
      (λ i. ap (bit_and (get_or array k 0)) (sym (no_change_as_wanted array start wanted k i e)) ∙ and_self (get_or array k 0))
      (λ i. ap (bit_and (get_or array k 0)) (wanted_out start wanted k i) ∙ and_full (get_or array k 0) (bytes k))

  module _ (now : List ℕ) (near : Near array w now) where
    pub settled_outside : (k : ℕ) → k < length array → within start (length wanted) k ≡ false → Settled w now k
    settled_outside k l e = settled_start array w now near k l (calm k (no_change_outside array start wanted k e) l)

    -- nothing outside moves
    same_outside : (k : ℕ) → within start (length wanted) k ≡ false → get_or now k 0 ≡ get_or array k 0
    same_outside k e =
        ⊎_elim (λ l. settled_same array w now near k l (calm k (no_change_outside array start wanted k e) l))
        (λ l. get_or-eq_default now 0 {n = k} (rw near.same_length l) ∙ sym (get_or-eq_default array 0 {n = k} l)) (split k (length array))

    module _ (fits : start + length wanted ≤ length array) where
      in_array : (k : ℕ) → within start (length wanted) k ≡ true → k < length array
      in_array k i = let b = within_bounds start (length wanted) k i in omega arith

      pub partway : Partway array start wanted now
      partway = record {
        same_length = near.same_length;
        region = λ k b i. rw (← (wanted_in start wanted k i)) (between_bit (near.each k (in_array k i)) b);
        outside = same_outside;
      }

      -- what changes now changed before
      pub changes_fewer : (k : ℕ) → changes now start wanted k ≡ true → changes array start wanted k ≡ true
      changes_fewer k e =
          cases (changes array start wanted k) (λ h. h)
          (λ h. let i = change_in_region now start wanted k e in
          let l = in_array k i in
          absurd (change_differs now start wanted k e (settled_same array w now near k l (calm k h l) ∙ no_change_as_wanted array start wanted k i h)))

      module _ (falls : wants_rise array start wanted ≡ false) where
        -- no wanted bit has been lost
        pub falls_still : wants_rise now start wanted ≡ false
        falls_still = wants_rise_same now array start wanted (λ k h l. (near.each k (omega arith)).over) falls

        -- all is settled: the update is complete
        pub complete : ((k : ℕ) → k < length array → Settled w now k) → now ≡ updated array start wanted
        complete all =
            ext_get_or 0 now (updated array start wanted) (near.same_length ∙ sym (updated_length array start wanted))
            (λ k h. let l : k < length array = rw near.same_length at h in
            let value : get_or now k 0 ≡ cond (within start (length wanted) k) (get_or wanted (k - start) 0) (get_or array k 0) =
            cases (within start (length wanted) k)
            (λ i. rw i (settled_value array w now near k l (all k l) ∙ nothing_rises array start wanted falls k i ∙ wanted_in start wanted k i))
            (λ i. rw i (same_outside k i)) in
            value ∙ sym (updated_at array start wanted k l))

    -- the same update from here
    pub updated_same : updated now start wanted ≡ updated array start wanted
    updated_same =
        ext_get_or 0 (updated now start wanted) (updated array start wanted)
        (updated_length now start wanted ∙ near.same_length ∙ sym (updated_length array start wanted))
        (λ k h. let l : k < length now = rw (updated_length now start wanted) at h in
        updated_at now start wanted k l
        ∙ cases (within start (length wanted) k) (λ i. rw i refl) (λ i. rw i (same_outside k i))
        ∙ sym (updated_at array start wanted k (rw near.same_length at l)))
