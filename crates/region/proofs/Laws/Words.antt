-- What changes and what rises in a region: the tests, and the same in words.
-- Assumes nothing.
use mathlib.Core.Path.{◌≡◌, refl, sym, ◌∙◌}
use mathlib.Core.Bool.{Bool, true, false, true≢false}
use mathlib.Core.List.{List}
use mathlib.Core.Logic.{⊎_elim}
use Prim.Native.Nat.{ℕ, ◌+◌, ◌-◌, ◌≤◌, ◌<◌}
use native.Mathlib.Omega.{arith}
use lib.Bits.{bit_and, and_comm}
use lib.Dec.{eqb}
use lib.ListN.{length, get_or}
use borrow.Author.Tests.{eq-eqb, eqb-true, eqb-false, not-true, not-false}
use Rattle.common.specs.Bits.{Bytes}
use Rattle.common.specs.Refusals.{Exactly}
use Rattle.common.proofs.Laws.Bits.{NoRise, no_rise_bit, some_rise}
use Rattle.common.proofs.Laws.Choice.{cases}
use Rattle.common.proofs.Laws.Places.{within_bounds, Passing, some_passes}
use Rattle.region.specs.Region.{changes, rises, wants_rise, NothingChanges, WantedRises}
use Rattle.region.proofs.Laws.Region.{change_in_region, changes_at, rises_at, any_false, any_none}

module _ (array : List ℕ) (start : ℕ) (wanted : List ℕ) where
  abbrev new : ℕ → ℕ
  new place = get_or wanted place 0

  abbrev old : ℕ → ℕ
  old place = get_or array (start + place) 0

  -- an address of the region, by its place
  placed : (test : ℕ → Bool) → ((i : ℕ) → i < length wanted → test (start + i) ≡ false)
      → (address : ℕ) → start ≤ address → address < start + length wanted → test address ≡ false
  placed test none address h l =
      let is : start + (address - start) ≡ address = omega arith in rw is at (none (address - start) (omega arith))

  -- ---- what changes

  none_changes : NothingChanges array start wanted → (k : ℕ) → changes array start wanted k ≡ false
  none_changes h k =
      cases (changes array start wanted k)
      (λ t. let b = within_bounds start (length wanted) k (change_in_region array start wanted k t) in
      absurd (true≢false (sym t ∙ placed (changes array start wanted) same k b.0 b.1)))
      (λ f. f)
    where
      same : (i : ℕ) → i < length wanted → changes array start wanted (start + i) ≡ false
      same i l = rw (changes_at array start wanted i l, eq-eqb (old i) (new i) (h i l)) refl

  as_wanted : ((k : ℕ) → changes array start wanted k ≡ false) → NothingChanges array start wanted
  as_wanted h i l = eqb-true (old i) (new i) (not-false (eqb (old i) (new i)) (sym (changes_at array start wanted i l) ∙ h (start + i)))

  pub nothing_changes_exactly : Exactly ((k : ℕ) → changes array start wanted k ≡ false) (NothingChanges array start wanted)
  nothing_changes_exactly = record { when = as_wanted; only_when = none_changes }

  -- ---- what rises

  risen : Bytes wanted → Passing (λ i. rises array start wanted (start + i)) (length wanted) → WantedRises array start wanted
  risen bytes p =
      let lost = eqb-false (bit_and (old p.place) (new p.place)) (new p.place)
      (not-true (eqb (bit_and (old p.place) (new p.place)) (new p.place)) (sym (rises_at array start wanted p.place p.below) ∙ p.passes)) in
      let rise = some_rise 8 (old p.place) (new p.place) (bytes p.place) (λ h. lost (and_comm (old p.place) (new p.place) ∙ h)) in
      record { place = p.place; bit = rise.place; inside = p.below; wanted_1 = rise.wanted; array_0 = rise.missing }

  -- where the test finds none, no bit rises
  none_risen : wants_rise array start wanted ≡ false → WantedRises array start wanted → ⊥
  unfolding wants_rise
  none_risen e w =
      let at = w.place in
      let falls = sym (rises_at array start wanted at w.inside)
      ∙ any_false (rises array start wanted) (length wanted) start (start + at) e (omega arith) (omega (arith, w.inside)) in
      let kept : NoRise (old at) (new at) =
      and_comm (new at) (old at) ∙ eqb-true (bit_and (old at) (new at)) (new at) (not-false (eqb (bit_and (old at) (new at)) (new at)) falls) in
      omega (arith, w.wanted_1, no_rise_bit (old at) (new at) w.bit kept w.array_0)

  pub rises_exactly : Bytes wanted → Exactly (wants_rise array start wanted ≡ true) (WantedRises array start wanted)
  unfolding wants_rise
  rises_exactly bytes = record {
    when = λ e. ⊎_elim (λ p. risen bytes p)
        (λ none. absurd (true≢false (sym e ∙ any_none (rises array start wanted) (length wanted) start (placed (rises array start wanted) none))))
        (some_passes (λ i. rises array start wanted (start + i)) (length wanted));
    only_when = λ w. cases (wants_rise array start wanted) (λ t. t) (λ f. absurd (none_risen f w));
  }
