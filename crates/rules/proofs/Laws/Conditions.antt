-- The conditions of the refusals, of state, array and region: what a call tests, and the table's words.
-- Assumes nothing.
use mathlib.Core.Path.{◌≡◌, sym, ◌∙◌}
use mathlib.Core.Bool.{Bool, true, false, true≢false, ◌&&◌, ◌||◌, not}
use mathlib.Core.List.{List}
use mathlib.Core.Logic.{inl, inr, ⊎_elim}
use Prim.Native.Nat.{ℕ, ◌+◌, ◌-◌, ◌<◌}
use native.Mathlib.Omega.{arith}
use lib.Dec.{leb, ltb, eqb}
use lib.ListN.{length, get_or}
use borrow.Author.Tests.{eqb-false, ne_eqb, leb-true, leb-false, not-true}
use Rattle.common.specs.Limits.{longest_wanted}
use Rattle.common.proofs.Laws.Booleans.{and_l, and_r, and_i, and_off, not_i}
use Rattle.common.proofs.Laws.Choice.{cases}
use Rattle.common.proofs.Laws.Places.{within_bounds, Passing, some_passes}
use Rattle.common.specs.Refusals.{Exactly}
use Rattle.state.specs.declared.State.{State}
use Rattle.state.specs.State.{data_of}
use Rattle.state.specs.Protection.{first_protected}
use Rattle.state.specs.Soundness.{is_sound, is_busy}
use Rattle.state.proofs.Laws.Soundness.{sound_of}
use Rattle.region.specs.Region.{changes}
use Rattle.region.proofs.Laws.Region.{change_in_region, changes_at}
use Rattle.plan.specs.Plan.{step_one_needed}
use Rattle.plan.specs.Refusals.{is_active, is_locked}
use Rattle.plan.proofs.Laws.Steps.{not_needed_free, free_not_needed}
use Rattle.rules.specs.Conditions.{
  NotSound,
  size,
  WrongArray,
  WrongRegion,
  NotAtRest,
  StatusLocked,
}
use Rattle.rules.proofs.Laws.Chips.{data_by_chip}
use Rattle.rules.proofs.Laws.Soundness.{soundness}
use Rattle.rules.proofs.Laws.Tests.{means_equal, means_less, means_not, means_or}

-- ---- 1, 2, 6, 7: the state, the array and the region

pub means_not_sound : (s : State) → Exactly (not (is_sound s) ≡ true) (NotSound s)
means_not_sound s = means_not (is_sound s) (soundness s).sound_when

module _ (s : State) (sound : is_sound s ≡ true) where
  pub size_is : (data_of s).size ≡ size s
  size_is = data_by_chip s.chip (sound_of s sound).chip_known (λ c. c.size)

  pub means_wrong_array : (array : List ℕ) → Exactly (not (eqb (length array) (data_of s).size) ≡ true) (WrongArray s array)
  means_wrong_array array = rw size_is (means_not (eqb (length array) (size s)) (means_equal (length array) (size s)))

  pub means_wrong_region : (start : ℕ) (wanted : List ℕ)
      → Exactly (ltb longest_wanted (length wanted) || ltb (data_of s).size (start + length wanted) ≡ true) (WrongRegion s start wanted)
  means_wrong_region start wanted =
      rw size_is
      (means_or (ltb longest_wanted (length wanted)) (ltb (size s) (start + length wanted)) (means_less 4096 (length wanted)) (means_less (size s) (start + length wanted)))

pub means_not_at_rest : (s : State) → Exactly (is_active s ≡ true) (NotAtRest s)
unfolding is_active
means_not_at_rest s =
    let two = means_or (is_busy s || s.aai) s.power_down
    (means_or (is_busy s) s.aai (means_less 0 s.left) record { when = λ e. e; only_when = λ e. e }) record { when = λ e. e; only_when = λ e. e } in
    record {
      when = λ e. ⊎_elim (λ w. ⊎_elim (λ b. inl b) (λ a. inr (inl a)) w) (λ p. inr (inr p)) (two.when e);
      only_when = λ w. two.only_when (⊎_elim (λ b. inl (inl b)) (λ o. ⊎_elim (λ a. inl (inr a)) (λ p. inr p) o) w);
    }

-- ---- 9: "step 1 needed, BPL 1, WP low"

module _ (array : List ℕ) (start : ℕ) (wanted : List ℕ) where
  abbrev new : ℕ → ℕ
  new place = get_or wanted place 0

  abbrev old : ℕ → ℕ
  old place = get_or array (start + place) 0

  module _ (s : State) (wp : Bool) where
    abbrev needed : Bool
    needed = step_one_needed s array start wanted

    abbrev touches : ℕ → Bool
    touches i = changes array start wanted (start + i) && leb (first_protected s) (start + i)

    found : needed ≡ true → Passing touches (length wanted)
    found e = ⊎_elim (λ p. p) (λ none. absurd (true≢false (sym e ∙ free_not_needed s array start wanted (free none)))) (some_passes touches (length wanted))
      where
        free : ((i : ℕ) → i < length wanted → touches i ≡ false) → (k : ℕ) → changes array start wanted k ≡ true → k < first_protected s
        free none k c =
            let b = within_bounds start (length wanted) k (change_in_region array start wanted k c) in
            let is : start + (k - start) ≡ k = omega (arith, b.0) in
            leb-false (first_protected s) k (and_off (changes array start wanted k) (leb (first_protected s) k) (rw is at (none (k - start) (omega (arith, b.0, b.1)))) c)

    pub means_locked : Exactly (is_locked s wp array start wanted ≡ true) (StatusLocked s wp array start wanted)
    unfolding is_locked
    means_locked = record {
      when = λ e.
          let two = and_l (needed && s.bpl) (not wp) e in
          let p = found (and_l needed s.bpl two) in
          let at = p.place in
          let c = and_l (changes array start wanted (start + at)) (leb (first_protected s) (start + at)) p.passes in
          record {
            place = at;
            inside = p.below;
            changes = eqb-false (old at) (new at) (not-true (eqb (old at) (new at)) (sym (changes_at array start wanted at p.below) ∙ c));
            protected = leb-true (first_protected s) (start + at) (and_r (changes array start wanted (start + at)) (leb (first_protected s) (start + at)) p.passes);
            bpl_1 = and_r needed s.bpl two;
            wp_low = not-true wp (and_r (needed && s.bpl) (not wp) e);
          };
      only_when = λ w. and_i (and_i (cases needed (λ t. t) (λ f. absurd (free_of w f))) w.bpl_1) (not_i wp w.wp_low);
    }
      where
        free_of : StatusLocked s wp array start wanted → needed ≡ false → ⊥
        free_of w f =
            let c = changes_at array start wanted w.place w.inside ∙ not_i (eqb (old w.place) (new w.place)) (ne_eqb (old w.place) (new w.place) w.changes) in
            omega (arith, not_needed_free s array start wanted f (start + w.place) c, w.protected)
