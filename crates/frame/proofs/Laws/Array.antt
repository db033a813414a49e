-- The array after a call, whole or interrupted, accepted or refused: it keeps its length, what is protected keeps its value, programming turns
-- no 0 into a 1, and a cut leaves each bit as the whole frame would or as it was.
-- Assumes nothing.
use mathlib.Core.Path.{◌≡◌, refl, sym, ap, ◌∙◌}
use mathlib.Core.Bool.{Bool}
use mathlib.Core.List.{List}
use mathlib.Core.Logic.{◌⊎◌, inr, ⊎_elim}
use Prim.Native.Nat.{ℕ, ◌≤◌, ◌<◌}
use native.Mathlib.Nat.{le_trans}
use lib.Dec.{eqb}
use lib.ListN.{get_or, length, get_or-eq_default, length-replicate}
use Rattle.common.specs.Lists.{mapi}
use Rattle.common.proofs.Laws.Choice.{cases}
use Rattle.common.proofs.Laws.Lists.{split, length_mapi, get_d_mapi}
use Rattle.state.specs.Protection.{first_protected}
use Rattle.state.specs.Soundness.{Sound}
use Rattle.command.specs.Command.{command_of}
use Rattle.command.proofs.Laws.Fits.{fits}
use Rattle.effect.specs.Effect.{changed}
use Rattle.effect.specs.Cut.{cut}
use Rattle.common.specs.Bits.{Bytes, bit_at}
use Rattle.common.proofs.Laws.Bits.{NoRise, no_rise_refl}
use Rattle.effect.proofs.Laws.Cut.{cut_between, ones, zeros, cut_all, cut_none}
use Rattle.effect.proofs.Laws.Rise.{NoErase, changed_no_rise, cut_no_rise}
use Rattle.effect.proofs.Laws.Effect.{changed_above, cut_above}
use Rattle.effect.proofs.Laws.Straight.{keep_array, keep_array_cut}
use Rattle.frame.specs.Device.{Device}
use Rattle.frame.specs.Line.{Line}
use Rattle.frame.specs.Ran.{effect_at, ran_device, mask_wanted, torn_device}
use Rattle.frame.specs.Call.{frame_number, Accepted, frame_device, cut_device}
use Rattle.frame.specs.Cut.{is_status_cycle, Masked}
use Rattle.frame.proofs.Laws.Cut.{cycle_keeps}
use Rattle.frame.proofs.Laws.Accepted.{cut_number_whole}
use Rattle.frame.proofs.Laws.Call.{frame_accepted, frame_either, cut_either}
use Rattle.frame.proofs.Laws.Inside.{effect_free}

-- what holds of a byte that stays, and of each that a change leaves, holds of each byte before and after
each : (g : ℕ → ℕ → ℕ) (l : List ℕ) (P : ℕ → ℕ → Type 0) → ((x : ℕ) → P x x) → (k : ℕ) → (k < length l → P (get_or l k 0) (g k (get_or l k 0)))
    → P (get_or l k 0) (get_or (mapi g l) k 0)
each g l P same k step =
    ⊎_elim (λ b. rw (get_d_mapi g l k 0 b) (step b))
    (λ b. rw (get_or-eq_default l 0 b, get_or-eq_default (mapi g l) 0 {n = k} (rw (length_mapi g l) b)) (same 0)) (split k (length l))

-- ---- an accepted frame

module _ (wp : Bool) (f : List ℕ) (d : Device) where
  ran_each : (P : ℕ → ℕ → Type 0) → ((x : ℕ) → P x x) → (k : ℕ)
      → P (get_or d.array k 0) (changed (effect_at d.state wp f) f k (get_or d.array k 0)) → P (get_or d.array k 0) (get_or (ran_device wp f d).array k 0)
  unfolding ran_device
  ran_each P same k step = each (changed (effect_at d.state wp f) f) d.array P same k (λ _. step)

  pub ran_array_protected : Sound d.state → (k : ℕ) → first_protected d.state ≤ k → get_or (ran_device wp f d).array k 0 ≡ get_or d.array k 0
  ran_array_protected sound k h =
      ran_each (λ (x y : ℕ). y ≡ x) (λ x. refl) k
      (changed_above (effect_at d.state wp f) f k (get_or d.array k 0)
      (le_trans (effect_free d.state (command_of d.state wp f) (fits d.state wp f sound)) h))

  pub ran_no_bit_rises : NoErase (effect_at d.state wp f) → (k : ℕ) → NoRise (get_or d.array k 0) (get_or (ran_device wp f d).array k 0)
  ran_no_bit_rises p k = ran_each NoRise no_rise_refl k (changed_no_rise (effect_at d.state wp f) f k (get_or d.array k 0) p)

module _ (wp : Bool) (f : List ℕ) (d : Device) (line : Line) where
  -- ---- run a frame

  pub frame_array_protected : (k : ℕ) → first_protected d.state ≤ k → get_or (frame_device wp f d line).array k 0 ≡ get_or d.array k 0
  frame_array_protected k h =
      frame_either wp f d line (λ (e : Device). get_or e.array k 0 ≡ get_or d.array k 0) refl (λ a. ran_array_protected wp f d a.sound k h)

  pub frame_no_bit_rises : NoErase (effect_at d.state wp f) → (k : ℕ) → NoRise (get_or d.array k 0) (get_or (frame_device wp f d line).array k 0)
  frame_no_bit_rises p k =
      frame_either wp f d line (λ (e : Device). NoRise (get_or d.array k 0) (get_or e.array k 0)) (no_rise_refl _) (λ _. ran_no_bit_rises wp f d p k)

  -- an accepted one
  frame_array_at : Accepted wp f d line → (k : ℕ) → k < length d.array
      → get_or (frame_device wp f d line).array k 0 ≡ changed (effect_at d.state wp f) f k (get_or d.array k 0)
  unfolding ran_device
  frame_array_at a k b =
      ap (λ (e : Device). get_or e.array k 0) (sym (frame_accepted wp f d line a record { device_is = refl; line_is = refl }).device_is)
      ∙ get_d_mapi (changed (effect_at d.state wp f) f) d.array k 0 b

  -- ---- run an interrupted frame

  module _ (mask : List ℕ) where
    cut_each : (P : ℕ → ℕ → Type 0) → ((x : ℕ) → P x x) → (k : ℕ)
        → (Accepted wp f d line → k < length d.array → P (get_or d.array k 0) (cut (effect_at d.state wp f) f mask k (get_or d.array k 0)))
        → P (get_or d.array k 0) (get_or (cut_device wp f mask d line).array k 0)
    unfolding torn_device
    cut_each P same k step =
        cut_either wp f d line mask (λ (e : Device). P (get_or d.array k 0) (get_or e.array k 0)) (same _)
        (λ a. each (cut (effect_at d.state wp f) f mask) d.array P same k (step a.whole))

    pub cut_array_protected : (k : ℕ) → first_protected d.state ≤ k → get_or (cut_device wp f mask d line).array k 0 ≡ get_or d.array k 0
    cut_array_protected k h =
        cut_each (λ (x y : ℕ). y ≡ x) (λ x. refl) k
        (λ a _. cut_above (effect_at d.state wp f) f k (get_or d.array k 0) mask
        (le_trans (effect_free d.state (command_of d.state wp f) (fits d.state wp f a.sound)) h))

    pub cut_no_bit_rises : NoErase (effect_at d.state wp f) → (k : ℕ) → NoRise (get_or d.array k 0) (get_or (cut_device wp f mask d line).array k 0)
    cut_no_bit_rises p k = cut_each NoRise no_rise_refl k (λ _ _. cut_no_rise (effect_at d.state wp f) f k (get_or d.array k 0) p mask)

    -- each bit is as the whole frame leaves it, or as it was
    pub cut_array_between : Bytes mask → (k b : ℕ) → b < 8
        → (bit_at (get_or (cut_device wp f mask d line).array k 0) b ≡ bit_at (get_or (frame_device wp f d line).array k 0) b)
        ⊎ (bit_at (get_or (cut_device wp f mask d line).array k 0) b ≡ bit_at (get_or d.array k 0) b)
    cut_array_between bytes k b l =
        cut_each (λ (x y : ℕ). (bit_at y b ≡ bit_at (get_or (frame_device wp f d line).array k 0) b) ⊎ (bit_at y b ≡ bit_at x b)) (λ x. inr refl) k
        (λ a i. rw (frame_array_at a k i) (cut_between (effect_at d.state wp f) f mask k (get_or d.array k 0) b (bytes _) l))

  -- the mask's extremes
  module _ (bytes : Bytes d.array) where
    all_ones : Masked (command_of d.state wp f) (ones (mask_wanted wp f d))
    all_ones = record { bytes = length-replicate {A = ℕ} (mask_wanted wp f d) 255; old_or_new = λ timed. inr (rw timed refl) }

    -- a status write's one byte is none of the array's
    all_fall : mapi (cut (effect_at d.state wp f) f (ones (mask_wanted wp f d))) d.array ≡ mapi (changed (effect_at d.state wp f) f) d.array
    all_fall =
        cases (is_status_cycle (command_of d.state wp f))
        (λ timed. rw (cycle_keeps (command_of d.state wp f) timed) (keep_array_cut f d.array _ ∙ sym (keep_array f d.array)))
        (λ other. rw other (cut_all (effect_at d.state wp f) f d.array bytes))

    pub cut_array_all : (cut_device wp f (ones (mask_wanted wp f d)) d line).array ≡ (frame_device wp f d line).array
    unfolding cut_device frame_device torn_device ran_device
    cut_array_all =
        let n = cut_number_whole wp f d line (ones (mask_wanted wp f d)) all_ones in
        cases (eqb (frame_number wp f d line) 0) (λ t. rw (n, t) all_fall) (λ t. rw (n, t) refl)

    pub cut_array_none : (n : ℕ) → (cut_device wp f (zeros n) d line).array ≡ d.array
    unfolding torn_device
    cut_array_none n =
        cut_either wp f d line (zeros n) (λ (e : Device). e.array ≡ d.array) refl (λ _. cut_none (effect_at d.state wp f) f d.array n bytes)
