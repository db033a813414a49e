-- What a call that stands above the planner answers: as a refusal and where there is none, and that two answers to one call are equal.
-- Assumes nothing.
use mathlib.Core.Path.{◌≡◌, refl, sym, ap, ◌∙◌}
use mathlib.Core.Bool.{Bool, true, false, true≢false}
use mathlib.Core.List.{List, [], ◌∷◌, ◌++◌}
use mathlib.Core.Logic.{◌⊎◌, ⊎_elim}
use Prim.Native.Nat.{ℕ, ◌≤◌, ◌<◌}
use native.Mathlib.Omega.{arith}
use native.Mathlib.Decide.{ℕ_discrete}
use lib.Dec.{ltb}
use lib.ListN.{length}
use Rattle.common.specs.Bits.{Bytes}
use Rattle.common.specs.Refusals.{not_at_rest, wanted_rises, status_locked, buffer_too_short, first_of}
use Rattle.common.proofs.Laws.Choice.{cases}
use Rattle.common.proofs.Laws.Refusals.{are_numbered, clear, first_before, first_behind}
use Rattle.state.specs.declared.State.{State}
use Rattle.state.specs.declared.Planned.{Planned}
use Rattle.state.specs.Answer.{refused_plan}
use Rattle.frame.specs.Device.{Device}
use Rattle.region.specs.Region.{WantedRises, wants_rise}
use Rattle.plan.specs.Update.{Plans}
use Rattle.plan.specs.Refusals.{is_active, is_locked, bytes_needed}
use Rattle.worst.specs.Worst.{room_enough}
use Rattle.promises.specs.Promises.{Fitting, fitting_refusals, later_refusals, PlanAnswered, PlansUnless, Promises}
use Rattle.promises.proofs.Laws.Answered.{plans_determined, plan_answered}
use Rattle.promises.proofs.Laws.Promises.{promises_kept}

-- where what is wanted fits no number is above 10
pub fitting_few : (s : State) (wp : Bool) (array : List ℕ) (start : ℕ) (wanted : List ℕ) (room : ℕ) → first_of (fitting_refusals s wp array start wanted room) ≤ 10
fitting_few s wp array start wanted room =
    by (is_active s) (wants_rise array start wanted) (is_locked s wp array start wanted) (ltb room (bytes_needed s array start wanted))
  where
    by : (a b c d : Bool) → first_of ((not_at_rest, a) ∷ (wanted_rises, b) ∷ (status_locked, c) ∷ (buffer_too_short, d) ∷ []) ≤ 10
    by true b c d = omega arith
    by false true c d = omega arith
    by false false true d = omega arith
    by false false false true = omega arith
    by false false false false = omega arith

module _ (own : ℕ) (s : State) (wp : Bool) (array : List ℕ) (start : ℕ) (wanted buffer : List ℕ) where
  pub unless_refused : (n : ℕ) → 0 < n → own ≡ n → PlansUnless own s wp array start wanted buffer buffer (refused_plan n s)
  unless_refused n h e = record {
    refused = λ m g q. (ap (λ (k : ℕ). refused_plan k s) (sym e ∙ q), refl);
    planned = λ q. absurd (omega (arith, e, q));
  }

  pub unless_planned : (after : List ℕ) (r : Planned) → own ≡ 0 → Plans s wp array start wanted buffer after r
      → PlansUnless own s wp array start wanted buffer after r
  unless_planned after r e p = record { refused = λ n g q. absurd (omega (arith, e, q)); planned = λ _. p }

  module _ (after : List ℕ) (r : Planned) (u : PlansUnless own s wp array start wanted buffer after r) where
    pub unless_state : r.state ≡ s
    unless_state =
        elim (ℕ_discrete own 0) [
          | yes e ↦ (plan_answered s wp array start wanted buffer after r (u.planned e)).state_given
          | no n ↦ ap (λ (p : Planned). p.state) (u.refused own (omega arith) refl).0
        ]

    -- its own number, where it has one
    pub unless_own : 0 < own → r.number ≡ own
    unless_own h = ap (λ (p : Planned). p.number) (u.refused own h refl).0

    -- a refusal says nothing but its number, and leaves every byte of the buffer
    pub unless_untouched : 0 < r.number → (r ≡ refused_plan r.number s) × (after ≡ buffer)
    unless_untouched h =
        elim (ℕ_discrete own 0) [
          | yes e ↦ (plan_answered s wp array start wanted buffer after r (u.planned e)).refused_untouched h
          | no n ↦ let x = u.refused own (omega arith) refl in (x.0 ∙ ap (λ (k : ℕ). refused_plan k s) (sym (unless_own (omega arith))), x.1)
        ]

    -- an accepted one has no refusal of its own
    pub unless_none : r.number ≡ 0 → own ≡ 0
    unless_none good = elim (ℕ_discrete own 0) [ yes e ↦ e | no n ↦ absurd (omega (arith, good, unless_own (omega arith))) ]

    pub unless_answered : own ≡ 0 → PlanAnswered s wp array start wanted buffer after r
    unless_answered e = plan_answered s wp array start wanted buffer after r (u.planned e)

    -- the first that holds of its own refusals and of those that the planner has where what is wanted fits
    pub unless_number : (rows : List (ℕ × Bool)) → are_numbered rows ≡ true → own ≡ first_of rows → (own ≡ 0 → Fitting s array start wanted)
        → r.number ≡ first_of (rows ++ fitting_refusals s wp array start wanted (length buffer))
    unless_number rows numbered is fitting =
        elim (ℕ_discrete own 0) [
          | yes e ↦
              (unless_answered e).fitted (fitting e)
              ∙ sym (first_behind rows (fitting_refusals s wp array start wanted (length buffer)) (clear rows numbered (sym is ∙ e)))
          | no n ↦
              unless_own (omega arith)
              ∙ sym (first_before rows (fitting_refusals s wp array start wanted (length buffer)) own (omega arith) (sym is))
        ]

    -- where nothing is to rise on a chip at rest, whose BPL is 0 or whose WP is high, in the room of its worst case: accepted
    pub unless_accepted : own ≡ 0 → Bytes wanted → Fitting s array start wanted → (WantedRises array start wanted → ⊥) → is_active s ≡ false
        → (s.bpl ≡ false) ⊎ (wp ≡ true) → room_enough s ≤ length buffer → r.number ≡ 0
    unless_accepted e bytes fitting falls calm unlocked enough =
        let answered = unless_answered e in
        let left : r.number ≡ first_of (later_refusals s wp array start wanted (length buffer)) = answered.later bytes fitting falls in
        cases (is_locked s wp array start wanted)
        (λ t. let locked = answered.nine_locked (left ∙ rw (calm, t) refl) in
        absurd (⊎_elim (λ b. true≢false (sym locked.0 ∙ b)) (λ h. true≢false (sym h ∙ locked.1)) unlocked))
        (λ f. cases (ltb (length buffer) (bytes_needed s array start wanted))
        (λ t. absurd (answered.room_enough_lem enough (left ∙ rw (calm, f, t) refl)))
        (λ g. left ∙ rw (calm, f, g) refl))

  -- two answers to one call are equal, by the planner's promise alone
  pub unless_determined : (after₁ after₂ : List ℕ) (r₁ r₂ : Planned) → PlansUnless own s wp array start wanted buffer after₁ r₁
      → PlansUnless own s wp array start wanted buffer after₂ r₂ → (r₁ ≡ r₂) × (after₁ ≡ after₂)
  unless_determined after₁ after₂ r₁ r₂ p q =
      elim (ℕ_discrete own 0) [
        | yes e ↦ plans_determined s wp array start wanted buffer after₁ after₂ r₁ r₂ (p.planned e) (q.planned e)
        | no n ↦
            let x = p.refused own (omega arith) refl in
            let y = q.refused own (omega arith) refl in
            (x.0 ∙ sym y.0, x.1 ∙ sym y.1)
      ]

-- an accepted one for a chip has the planner's promises
pub unless_kept : (own : ℕ) (wp : Bool) (chip : Device) (start : ℕ) (wanted buffer after : List ℕ) (r : Planned) → Bytes chip.array
    → PlansUnless own chip.state wp chip.array start wanted buffer after r → r.number ≡ 0 → Promises wp chip start wanted (length buffer)
unless_kept own wp chip start wanted buffer after r bytes u good =
    let e = unless_none own chip.state wp chip.array start wanted buffer after r u good in
    promises_kept wp chip start wanted (length buffer) bytes
    (sym (unless_answered own chip.state wp chip.array start wanted buffer after r u e).number_is ∙ good)
