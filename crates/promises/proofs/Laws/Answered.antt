-- What the planner's call answers is as promised, and nothing but one answer is.
-- Assumes nothing.
use mathlib.Core.Path.{◌≡◌, refl, sym, ap, ◌∙◌}
use mathlib.Core.Bool.{Bool, true, false, true≢false, not, ◌&&◌, ◌||◌}
use mathlib.Core.List.{List, []}
use Prim.Native.Nat.{ℕ, ◌+◌}
use native.Mathlib.Omega.{arith}
use lib.Dec.{ltb, eqb}
use lib.ListN.{length}
use borrow.Author.Tests.{eq-eqb, eqb-true, le-ltb, ltb-false, not-true, not-false}
use Rattle.common.specs.Bits.{Bytes}
use Rattle.common.specs.Limits.{longest_wanted}
use Rattle.common.specs.Refusals.{wanted_rises, status_locked, first_of, Exactly}
use Rattle.common.proofs.Laws.Booleans.{and_l, and_r, or_none_l, or_none_r, or_none_i}
use Rattle.common.proofs.Laws.Choice.{cases}
use Rattle.common.proofs.Laws.Refusals.{clear, first_of_clear, given_exactly}
use Rattle.state.specs.declared.State.{State}
use Rattle.state.specs.declared.Planned.{Planned}
use Rattle.state.specs.State.{data_of}
use Rattle.state.specs.Answer.{empty_plan}
use Rattle.state.specs.Soundness.{is_sound}
use Rattle.script.proofs.Laws.Records.{encode_none, encode_empty}
use Rattle.script.proofs.Laws.Measure.{counts_none}
use Rattle.region.specs.Region.{wants_rise, NothingChanges, WantedRises}
pub use Rattle.region.proofs.Laws.Words.{rises_exactly}
use Rattle.plan.specs.Plan.{step_one_needed, plan_records}
use Rattle.plan.specs.Refusals.{is_locked, bytes_needed, plan_refusals, plan_refusal}
use Rattle.plan.specs.Update.{given_records, PlanUpdated, Plans}
use Rattle.plan.proofs.Laws.Plan.{plan_empty_exactly}
use Rattle.plan.proofs.Laws.Update.{plan_given, plan_update_determined, refused_untouched}
use Rattle.worst.specs.Worst.{room_enough}
use Rattle.worst.proofs.Laws.Worst.{worst_room}
use Rattle.promises.specs.Promises.{Fitting, PlanAccepted, RiseRefused, fitting_refusals, later_refusals, PlanAnswered}

module _ (s : State) (wp : Bool) (array : List ℕ) (start : ℕ) (wanted : List ℕ) where
  module _ (room : ℕ) where
    abbrev number : ℕ
    number = plan_refusal s wp array start wanted room

    refusal_in_order : number ≡ first_of (plan_refusals s wp array start wanted room)
    unfolding plan_refusal
    refusal_in_order = refl

    fitting_of : not (is_sound s) ≡ false → not (eqb (length array) (data_of s).size) ≡ false
        → (ltb longest_wanted (length wanted) || ltb (data_of s).size (start + length wanted)) ≡ false → Fitting s array start wanted
    fitting_of one two six = record {
      sound = not-false (is_sound s) one;
      sized = eqb-true (length array) (data_of s).size (not-false (eqb (length array) (data_of s).size) two);
      short = ltb-false longest_wanted (length wanted) (or_none_l (ltb longest_wanted (length wanted)) (ltb (data_of s).size (start + length wanted)) six);
      fits = ltb-false (data_of s).size (start + length wanted) (or_none_r (ltb longest_wanted (length wanted)) (ltb (data_of s).size (start + length wanted)) six);
    }

    module _ (o : Fitting s array start wanted) where
      not_1 : not (is_sound s) ≡ false
      not_1 = ap not o.sound

      not_2 : not (eqb (length array) (data_of s).size) ≡ false
      not_2 = ap not (eq-eqb (length array) (data_of s).size o.sized)

      not_6 : (ltb longest_wanted (length wanted) || ltb (data_of s).size (start + length wanted)) ≡ false
      not_6 = or_none_i (le-ltb longest_wanted (length wanted) o.short) (le-ltb (data_of s).size (start + length wanted) o.fits)

    refusal_fitted : Fitting s array start wanted → number ≡ first_of (fitting_refusals s wp array start wanted room)
    refusal_fitted o = refusal_in_order ∙ rw (not_1 o, not_2 o, not_6 o) refl

    module _ (bytes : Bytes wanted) where
      falling : wants_rise array start wanted ≡ false → WantedRises array start wanted → ⊥
      falling e w = true≢false (sym ((rises_exactly array start wanted bytes).only_when w) ∙ e)

      not_8 : (WantedRises array start wanted → ⊥) → wants_rise array start wanted ≡ false
      not_8 none = cases (wants_rise array start wanted) (λ t. absurd (none ((rises_exactly array start wanted bytes).when t))) (λ f. f)

      refusal_0_exactly : Exactly (number ≡ 0) (PlanAccepted s wp array start wanted room)
      refusal_0_exactly = record {
        when = λ e.
            let c = clear (plan_refusals s wp array start wanted room) refl (sym refusal_in_order ∙ e) in
            record {
              fitting = fitting_of c.0 c.1.0 c.1.1.0;
              at_rest = c.1.1.1.0;
              falls = falling c.1.1.1.1.0;
              unlocked = c.1.1.1.1.1.0;
              roomy = ltb-false room (bytes_needed s array start wanted) c.1.1.1.1.1.1.0;
            };
        only_when = λ a.
            let o = a.fitting in
            refusal_in_order
            ∙ first_of_clear (plan_refusals s wp array start wanted room)
            (not_1 o, (not_2 o, (not_6 o, (a.at_rest, (not_8 a.falls, (a.unlocked, (le-ltb room (bytes_needed s array start wanted) a.roomy, tt)))))));
      }

      refusal_8_exactly : Exactly (number ≡ wanted_rises) (RiseRefused s array start wanted)
      refusal_8_exactly =
          let given = given_exactly (plan_refusals s wp array start wanted room) wanted_rises (omega arith) in
          let bits = rises_exactly array start wanted bytes in
          record {
            when = λ e.
                let g = given.when (sym refusal_in_order ∙ e) in
                record { fitting = fitting_of g.0 g.1.0 g.1.1.0; at_rest = g.1.1.1.0; rises = bits.when g.1.1.1.1 };
            only_when = λ h.
                let o = h.fitting in
                refusal_in_order ∙ given.only_when (not_1 o, (not_2 o, (not_6 o, (h.at_rest, bits.only_when h.rises))));
          }

      refusal_later : Fitting s array start wanted → (WantedRises array start wanted → ⊥) → number ≡ first_of (later_refusals s wp array start wanted room)
      refusal_later o none = refusal_fitted o ∙ rw (not_8 none) refl

    refusal_9_locked : number ≡ status_locked → (s.bpl ≡ true) × (wp ≡ false)
    unfolding is_locked
    refusal_9_locked e =
        let g = (given_exactly (plan_refusals s wp array start wanted room) status_locked (omega arith)).when (sym refusal_in_order ∙ e) in
        let locked = g.1.1.1.1.1 in
        let two = and_l (step_one_needed s array start wanted && s.bpl) (not wp) locked in
        (and_r (step_one_needed s array start wanted) s.bpl two, not-true wp (and_r (step_one_needed s array start wanted && s.bpl) (not wp) locked))

  -- two answers to one call are equal
  pub plans_determined : (buffer after₁ after₂ : List ℕ) (r₁ r₂ : Planned) → Plans s wp array start wanted buffer after₁ r₁
      → Plans s wp array start wanted buffer after₂ r₂ → (r₁ ≡ r₂) × (after₁ ≡ after₂)
  unfolding Plans
  plans_determined buffer after₁ after₂ r₁ r₂ p q = plan_update_determined s wp array start wanted buffer after₁ after₂ r₁ r₂ p q

  module _ (buffer after : List ℕ) (r : Planned) (plans : PlanUpdated s wp array start wanted buffer after r) where
    module _ (good : r.number ≡ 0) where
      given : given_records s wp array start wanted (length buffer) ≡ plan_records s array start wanted
      given = plan_given s wp array start wanted buffer (sym plans.number ∙ good)

      nothing : NothingChanges array start wanted → given_records s wp array start wanted (length buffer) ≡ []
      nothing same = given ∙ (plan_empty_exactly s array start wanted).only_when same

      -- the answer of the empty plan is one, so it is this one
      empty_answer : NothingChanges array start wanted → (r ≡ empty_plan s) × (after ≡ buffer)
      empty_answer same =
          let none = nothing same in
          plan_update_determined s wp array start wanted buffer after buffer r (empty_plan s) plans
          record {
            number = sym good ∙ plans.number;
            state = refl;
            length = rw (none, encode_none) refl;
            frames = rw none (sym counts_none.frames);
            microseconds = rw none (sym counts_none.microseconds);
            buffer_after = rw (none, encode_none) refl;
          }

      length_0_exactly : Exactly (r.length ≡ 0) (NothingChanges array start wanted)
      length_0_exactly = record {
        when = λ e. (plan_empty_exactly s array start wanted).when (encode_empty (plan_records s array start wanted) (sym (rw given at plans.length) ∙ e));
        only_when = λ same. ap (λ (p : Planned). p.length) (empty_answer same).0;
      }

  pub plan_answered : (buffer after : List ℕ) (r : Planned) → Plans s wp array start wanted buffer after r → PlanAnswered s wp array start wanted buffer after r
  unfolding Plans room_enough
  plan_answered buffer after r plans = record {
    number_is = plans.number;
    accepted_exactly = λ bytes. let e = refusal_0_exactly (length buffer) bytes in
        record { when = λ z. e.when (sym plans.number ∙ z); only_when = λ a. plans.number ∙ e.only_when a };
    eight_exactly = λ bytes. let e = refusal_8_exactly (length buffer) bytes in
        record { when = λ z. e.when (sym plans.number ∙ z); only_when = λ a. plans.number ∙ e.only_when a };
    fitted = λ fitting. plans.number ∙ refusal_fitted (length buffer) fitting;
    later = λ bytes fitting none. plans.number ∙ refusal_later (length buffer) bytes fitting none;
    nine_locked = λ z. refusal_9_locked (length buffer) (sym plans.number ∙ z);
    refused_untouched = refused_untouched s wp array start wanted buffer after r plans;
    state_given = plans.state;
    empty_exactly = length_0_exactly buffer after r plans;
    nothing_to_do = empty_answer buffer after r plans;
    room_enough_lem = worst_room s wp array start wanted buffer after r plans;
  }
