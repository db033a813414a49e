-- An array on its way: each byte between what it was and what it is to be. What a frame's effect does to it, whole or cut; and which bytes are settled.
-- Over any size and any effect that programs what is wanted.
-- Assumes nothing.
use mathlib.Core.Path.{◌≡◌, refl, sym, ap, ◌∙◌}
use mathlib.Core.Bool.{true, false≢true}
use mathlib.Core.List.{List}
use mathlib.Core.Logic.{⊎_elim}
use Prim.Native.Nat.{ℕ, ◌+◌, ◌-◌, ◌<◌}
use native.Mathlib.Omega.{arith}
use lib.Bits.{bit_and}
use lib.ListN.{length, get_or, get_or-eq_default}
use Rattle.common.proofs.Laws.Bits.{and_again}
use Rattle.common.specs.Lists.{mapi}
use Rattle.common.proofs.Laws.Choice.{cases}
use Rattle.common.proofs.Laws.Lists.{length_mapi, get_d_mapi, split}
use Rattle.effect.specs.declared.Effect.{Effect}
use Rattle.effect.specs.declared.Effect.TheVariants.{Keep, Program}
use Rattle.effect.specs.Effect.{touches, struck, changed}
use Rattle.effect.specs.Cut.{mask_place, cut}
use Rattle.common.specs.Bits.{Bytes}
use Rattle.effect.proofs.Laws.Straight.{keep_untouched, program_struck}
use Rattle.effect.proofs.Laws.Effect.{touched_in_span, changed_touched, changed_other, cut_touched, cut_other}
use Rattle.powercut.proofs.Laws.Between.{Between, between_start, between_lt, between_programmed, between_mixed, between_same}

-- by address: `w` the byte that is wanted
pub record Near (before : List ℕ) (w : ℕ → ℕ) (array : List ℕ) : Type 0 where
  pub same_length : length array ≡ length before
  pub each : (k : ℕ) → k < length before → Between (get_or before k 0) (w k) (get_or array k 0)

-- the frame's effect programs what is wanted
abbrev pub Programs : (ℕ → ℕ) → Effect → List ℕ → Type 0
Programs w e f = (k x : ℕ) → touches e k ≡ true → struck e f k x ≡ bit_and x (w k)

pub keep_programs : (w : ℕ → ℕ) (f : List ℕ) → Programs w Keep f
keep_programs w f k x t = absurd (false≢true (sym (keep_untouched k) ∙ t))

-- n bytes from address a, sent from the frame's byte i on
pub program_programs : (w : ℕ → ℕ) (f : List ℕ) (a n i : ℕ) → ((j : ℕ) → j < n → get_or f (i + j) 0 ≡ w (a + j)) → Programs w (Program a n i) f
program_programs w f a n i sent k x t =
    let b = touched_in_span (Program a n i) k t in
    let e : a + (k - a) ≡ k = omega arith in
    program_struck a n i k f x ∙ ap (bit_and x) (sent (k - a) (omega arith) ∙ ap w e)

-- a byte that has no bit left that is not wanted
unfoldable pub Settled : (ℕ → ℕ) → List ℕ → ℕ → Type 0
Settled w array k = bit_and (get_or array k 0) (w k) ≡ get_or array k 0

module _ (before : List ℕ) (w : ℕ → ℕ) where
  pub near_start : Near before w before
  near_start = record { same_length = refl; each = λ k h. between_start (get_or before k 0) (w k) }

  module _ (array : List ℕ) (near : Near before w array) where
    -- by what becomes of each byte
    near_by : (g : ℕ → ℕ → ℕ) → ((k : ℕ) → k < length before → Between (get_or before k 0) (w k) (g k (get_or array k 0))) → Near before w (mapi g array)
    near_by g h = record {
      same_length = length_mapi g array ∙ near.same_length;
      each = λ k l. rw (get_d_mapi g array k 0 (rw near.same_length l)) (h k l);
    }

    module _ (e : Effect) (f : List ℕ) (programs : Programs w e f) where
      pub near_changed : Near before w (mapi (changed e f) array)
      near_changed =
          near_by (changed e f)
          (λ k l. let x : ℕ = get_or array k 0 in
          cases (touches e k)
          (λ t. rw (changed_touched e f k x t, programs k x t) (between_programmed (near.each k l)))
          (λ t. rw (changed_other e f k x t) (near.each k l)))

      pub near_cut : (mask : List ℕ) → Bytes before → Bytes mask → Near before w (mapi (cut e f mask) array)
      near_cut mask bytes masked =
          near_by (cut e f mask)
          (λ k l. let x : ℕ = get_or array k 0 in
          cases (touches e k)
          (λ t. rw (cut_touched e f k x mask t, programs k x t) (between_mixed (near.each k l) (get_or mask (mask_place e k) 0) (masked (mask_place e k)) (bytes k)))
          (λ t. rw (cut_other e f k x mask t) (near.each k l)))

      -- what is touched is settled, and what is settled stays so
      pub settled_touched : (k : ℕ) → k < length before → touches e k ≡ true → Settled w (mapi (changed e f) array) k
      unfolding Settled
      settled_touched k l t =
          let x : ℕ = get_or array k 0 in
          rw (get_d_mapi (changed e f) array k 0 (rw near.same_length l), changed_touched e f k x t, programs k x t) (and_again x (w k))

      pub settled_changed : (k : ℕ) → k < length before → Settled w array k → Settled w (mapi (changed e f) array) k
      unfolding Settled
      settled_changed k l h =
          cases (touches e k) (settled_touched k l)
          (λ t. rw (get_d_mapi (changed e f) array k 0 (rw near.same_length l), changed_other e f k (get_or array k 0) t) h)

    -- what was settled from the start is as it was
    pub settled_same : (k : ℕ) → k < length before → Settled w before k → get_or array k 0 ≡ get_or before k 0
    unfolding Settled
    settled_same k l h = between_same (near.each k l) h

    pub settled_start : (k : ℕ) → k < length before → Settled w before k → Settled w array k
    unfolding Settled
    settled_start k l h = let e = settled_same k l h in ap (λ (x : ℕ). bit_and x (w k)) e ∙ h ∙ sym e

    -- a settled byte is the old one, less what is to fall
    pub settled_value : (k : ℕ) → k < length before → Settled w array k → get_or array k 0 ≡ bit_and (get_or before k 0) (w k)
    unfolding Settled
    settled_value k l h = sym h ∙ (near.each k l).over

    pub near_bytes : Bytes before → Bytes array
    near_bytes bytes k =
        ⊎_elim (λ h. between_lt (near.each k h) (bytes k))
        (λ h. rw (get_or-eq_default array 0 {n = k} (rw near.same_length h)) (omega arith)) (split k (length before))
