-- The refusals of a plan: each number exactly when 01 says, and what an accepted plan is.
-- Assumes nothing.
use mathlib.Core.Path.{◌≡◌, refl, sym, ap, ◌∙◌}
use mathlib.Core.Bool.{Bool, true, false, not, ◌&&◌, ◌||◌}
use mathlib.Core.List.{List, [], ◌∷◌}
use mathlib.Core.Logic.{⊎_elim}
use Prim.Native.Nat.{ℕ, ◌+◌, ◌-◌, ◌≤◌, ◌<◌}
use native.Mathlib.Omega.{arith}
use lib.Dec.{ltb, eqb}
use lib.ListN.{length}
use borrow.Author.Tests.{lt-ltb, le-ltb, eq-eqb, ltb-true, ltb-false, eqb-true, not-false}
use Rattle.common.specs.Refusals.{status_locked, buffer_too_short, first_of, Exactly}
use Rattle.common.proofs.Laws.Booleans.{or_none_l, or_none_r, or_true}
use Rattle.common.proofs.Laws.Lists.{split}
use Rattle.common.proofs.Laws.Refusals.{Clear, clear, first_of_clear, Given, given_exactly, first_behind, first_before}
use Rattle.script.specs.Record.{encode}
use Rattle.state.specs.declared.State.{State}
use Rattle.state.specs.State.{data_of}
use Rattle.state.specs.Soundness.{is_sound, is_busy}
use Rattle.chip.proofs.Laws.Chip.{regular}
use Rattle.region.specs.Region.{Inside}
use Rattle.plan.specs.Plan.{step_one_needed, plan_records}
use Rattle.plan.specs.Refusals.{is_active, is_locked, bytes_needed, region_refusals, script_refusals, plan_refusals, plan_refusal, RegionAccepted, Accepted}
use Rattle.common.specs.Limits.{longest_wanted}

-- ---- refusal 6, without the sum

pub region_out : (size start n : ℕ) → size < start → true ≡ (ltb longest_wanted n || ltb size (start + n))
region_out size start n h = rw (lt-ltb size (start + n) (omega arith)) (sym (or_true (ltb longest_wanted n)))

pub region_in : (size start n : ℕ) → start ≤ size → (ltb longest_wanted n || ltb (size - start) n) ≡ (ltb longest_wanted n || ltb size (start + n))
region_in size start n h = ap (λ (t : Bool). ltb longest_wanted n || t) (⊎_elim (λ l. above l) (λ l. below l) (split (size - start) n))
  where
    above : size - start < n → ltb (size - start) n ≡ ltb size (start + n)
    above l = lt-ltb (size - start) n l ∙ sym (lt-ltb size (start + n) (omega arith))

    below : n ≤ size - start → ltb (size - start) n ≡ ltb size (start + n)
    below l = le-ltb (size - start) n l ∙ sym (le-ltb size (start + n) (omega arith))

module _ (s : State) (array : List ℕ) (start : ℕ) (wanted : List ℕ) where
  region_clear : first_of (region_refusals s array start wanted) ≡ 0 → Clear (region_refusals s array start wanted)
  region_clear e = clear (region_refusals s array start wanted) refl e

  region_words : Clear (region_refusals s array start wanted) → RegionAccepted s array start wanted
  unfolding is_active
  region_words c =
      let six = c.1.1.0 in
      let seven = c.1.1.1.0 in
      record {
        sound = not-false (is_sound s) c.0;
        sized = eqb-true (length array) (data_of s).size (not-false (eqb (length array) (data_of s).size) c.1.0);
        short = ltb-false longest_wanted (length wanted) (or_none_l (ltb longest_wanted (length wanted)) (ltb (data_of s).size (start + length wanted)) six);
        fits = ltb-false (data_of s).size (start + length wanted) (or_none_r (ltb longest_wanted (length wanted)) (ltb (data_of s).size (start + length wanted)) six);
        ready = omega (arith, ltb-false 0 s.left (or_none_l (is_busy s) s.aai (or_none_l (is_busy s || s.aai) s.power_down seven)));
        no_aai = or_none_r (is_busy s) s.aai (or_none_l (is_busy s || s.aai) s.power_down seven);
        awake = or_none_r (is_busy s || s.aai) s.power_down seven;
        falls = c.1.1.1.1.0;
      }

  words_region : RegionAccepted s array start wanted → Clear (region_refusals s array start wanted)
  unfolding is_active
  words_region a = (
    rw a.sound refl,
    (
      rw (eq-eqb (length array) (data_of s).size a.sized) refl,
      (
        rw (le-ltb longest_wanted (length wanted) a.short, le-ltb (data_of s).size (start + length wanted) a.fits) refl,
        (rw (le-ltb 0 s.left (omega (arith, a.ready)), a.no_aai, a.awake) refl, (a.falls, tt)),
      ),
    ),
  )

  pub region_accepted : first_of (region_refusals s array start wanted) ≡ 0 → RegionAccepted s array start wanted
  region_accepted e = region_words (region_clear e)

  pub accepted_region : RegionAccepted s array start wanted → first_of (region_refusals s array start wanted) ≡ 0
  accepted_region a = first_of_clear (region_refusals s array start wanted) (words_region a)

  -- a region that is not too large lies within the array of a chip
  pub region_inside : length array ≡ (data_of s).size → (ltb longest_wanted (length wanted) || ltb (data_of s).size (start + length wanted)) ≡ false
      → Inside array start wanted
  region_inside sized six = record {
    short = ltb-false longest_wanted (length wanted) (or_none_l (ltb longest_wanted (length wanted)) (ltb (data_of s).size (start + length wanted)) six);
    fits = rw sized (ltb-false (data_of s).size (start + length wanted) (or_none_r (ltb longest_wanted (length wanted)) (ltb (data_of s).size (start + length wanted)) six));
    small = rw sized (regular s.chip).size_le_mebibyte;
  }

  pub accepted_inside : RegionAccepted s array start wanted → Inside array start wanted
  accepted_inside a = record { short = a.short; fits = rw a.sized a.fits; small = rw a.sized (regular s.chip).size_le_mebibyte }

  module _ (wp : Bool) (room : ℕ) where
    -- each number exactly when its own condition holds and no earlier one does
    pub refused_exactly : (number : ℕ) → 0 < number
        → Exactly (plan_refusal s wp array start wanted room ≡ number) (Given number (plan_refusals s wp array start wanted room))
    unfolding plan_refusal
    refused_exactly number h = given_exactly (plan_refusals s wp array start wanted room) number h

    pub refusal_region : (number : ℕ) → 0 < number → first_of (region_refusals s array start wanted) ≡ number → plan_refusal s wp array start wanted room ≡ number
    unfolding plan_refusal
    refusal_region number h e = first_before (region_refusals s array start wanted) (script_refusals s wp array start wanted room) number h e

    pub refusal_locked : first_of (region_refusals s array start wanted) ≡ 0 → (step_one_needed s array start wanted && s.bpl && not wp) ≡ true
        → plan_refusal s wp array start wanted room ≡ status_locked
    unfolding plan_refusal is_locked
    refusal_locked e locked = first_behind (region_refusals s array start wanted) (script_refusals s wp array start wanted room) (region_clear e) ∙ rw locked refl

    pub refusal_room : first_of (region_refusals s array start wanted) ≡ 0 → (step_one_needed s array start wanted && s.bpl && not wp) ≡ false
        → plan_refusal s wp array start wanted room ≡ first_of ((buffer_too_short, ltb room (bytes_needed s array start wanted)) ∷ [])
    unfolding plan_refusal is_locked
    refusal_room e locked = first_behind (region_refusals s array start wanted) (script_refusals s wp array start wanted room) (region_clear e) ∙ rw locked refl

    pub refusal_short : first_of (region_refusals s array start wanted) ≡ 0 → (step_one_needed s array start wanted && s.bpl && not wp) ≡ false
        → room < length (encode (plan_records s array start wanted)) → plan_refusal s wp array start wanted room ≡ buffer_too_short
    unfolding bytes_needed
    refusal_short e locked short = refusal_room e locked ∙ rw (lt-ltb room (length (encode (plan_records s array start wanted))) short) refl

    -- accepted: number 0, and the same in words
    pub of_accepted : Accepted s wp array start wanted room → plan_refusal s wp array start wanted room ≡ 0
    unfolding plan_refusal is_locked bytes_needed
    of_accepted a =
        first_behind (region_refusals s array start wanted) (script_refusals s wp array start wanted room) (words_region a.region)
        ∙ rw (a.writable, le-ltb room (length (encode (plan_records s array start wanted))) a.roomy) refl

    pub accepted_of : plan_refusal s wp array start wanted room ≡ 0 → Accepted s wp array start wanted room
    unfolding plan_refusal is_locked bytes_needed
    accepted_of e =
        let c = clear (plan_refusals s wp array start wanted room) refl e in
        record {
          region = region_words (c.0, (c.1.0, (c.1.1.0, (c.1.1.1.0, (c.1.1.1.1.0, tt)))));
          writable = c.1.1.1.1.1.0;
          roomy = ltb-false room (length (encode (plan_records s array start wanted))) c.1.1.1.1.1.1.0;
        }

    -- refused for the room: for nothing else
    pub too_short_of : plan_refusal s wp array start wanted room ≡ buffer_too_short
        → RegionAccepted s array start wanted × (room < length (encode (plan_records s array start wanted)))
    unfolding bytes_needed
    too_short_of e =
        let g = (refused_exactly buffer_too_short (omega arith)).when e in (
          region_words (g.0, (g.1.0, (g.1.1.0, (g.1.1.1.0, (g.1.1.1.1.0, tt))))),
          ltb-true room (length (encode (plan_records s array start wanted))) g.1.1.1.1.1.1,
        )
