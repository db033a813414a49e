-- What planning an update answers: as a refusal, as an accepted plan, and that two answers to one call are equal.
-- Assumes nothing.
use mathlib.Core.Path.{◌≡◌, refl, sym, ◌∙◌}
use mathlib.Core.Bool.{Bool}
use mathlib.Core.List.{List, []}
use Prim.Native.Nat.{ℕ, ◌<◌}
use native.Mathlib.Omega.{arith}
use lib.ListN.{length}
use borrow.Author.Tests.{ne_eqb}
use Rattle.std.specs.Prelude.{Ok, Err}
use Rattle.common.proofs.Laws.Refusals.{number_some}
use Rattle.common.specs.Refusals.{number_of}
use Rattle.common.specs.declared.refusals.Refusal.{Refusal}
use Rattle.common.specs.declared.refusals.Refusal.TheVariants.{StateNotSound, WrongArray, WrongFrame, WrongOutput, WrongMask, WrongRegion, NotAtRest, WantedRises, StatusLocked, BufferTooShort, ScriptTooLong, UnknownMark, WrongLength, CutShort, WrongBook, WrongNames, NameTwice, RecordsTooLong}
use Rattle.script.specs.Record.{Record, encode}
use Rattle.script.proofs.Laws.Records.{encoded_length, encode_none}
use Rattle.script.proofs.Laws.Measure.{Counts, counts_none, measured}
use Rattle.state.specs.declared.State.{State}
use Rattle.state.specs.Answer.{refused_plan}
use Rattle.script.specs.declared.measure.Measure.{Measure}
use Rattle.common.specs.Buffer.{written}
use Rattle.script.specs.Measure.{measure_of}
use Rattle.common.proofs.Laws.Buffer.{written_front}
use Rattle.state.specs.declared.Planned.{Planned}
use Rattle.plan.specs.Plan.{plan_records}
use Rattle.plan.specs.Refusals.{plan_refusal}
use Rattle.plan.specs.Update.{given_records, Scripted, PlanUpdated}

-- the length that was measured is that of the script
pub measured_length : (rs : List Record) (m : Measure) → m ≡ measure_of rs → m.length ≡ length (encode rs)
measured_length rs m e = rw e (sym (measured rs).bytes ∙ sym (encoded_length rs))

-- the two outcomes, as the layer below leaves them
module _ (rs : List Record) (buffer : List ℕ) where
  pub scripted : (m : Measure) → m ≡ measure_of rs → (after : List ℕ) → after ≡ written 0 (encode rs) buffer → (number : ℕ) → number ≡ 0
      → Scripted number rs buffer after (Ok m)
  scripted m e after w number z = record { number_lem = sym z; measured = e; buffer_after = rw z w }

  pub unscripted : (refusal : Refusal) (number : ℕ) → number ≡ number_of refusal → Scripted number rs buffer buffer (Err refusal)
  unscripted refusal number e = record { number_lem = sym e; measured = tt; buffer_after = rw (e, ne_eqb (number_of refusal) 0 (λ z. omega (arith, number_some refusal))) refl }

module _ (s : State) (wp : Bool) (array : List ℕ) (start : ℕ) (wanted buffer : List ℕ) where
  abbrev number : ℕ
  number = plan_refusal s wp array start wanted (length buffer)

  nothing_given : 0 < number → given_records s wp array start wanted (length buffer) ≡ []
  unfolding given_records
  nothing_given h = rw (ne_eqb number 0 (λ e. omega arith)) refl

  pub plan_given : number ≡ 0 → given_records s wp array start wanted (length buffer) ≡ plan_records s array start wanted
  unfolding given_records
  plan_given e = rw e refl

  -- "A refusal changes no buffer and returns the given state, length and counts 0"
  pub plan_refused : (n : ℕ) → 0 < n → number ≡ n → PlanUpdated s wp array start wanted buffer buffer (refused_plan n s)
  plan_refused n h e =
      let none = nothing_given (rw e h) in
      record {
        number = sym e;
        state = refl;
        length = rw (none, encode_none) refl;
        frames = rw none (sym counts_none.frames);
        microseconds = rw none (sym counts_none.microseconds);
        buffer_after = rw (none, encode_none) refl;
      }

  pub plan_accepted : number ≡ 0 → (m : Measure) → m ≡ measure_of (plan_records s array start wanted)
      → (after : List ℕ) → after ≡ written 0 (encode (plan_records s array start wanted)) buffer
      → PlanUpdated s wp array start wanted buffer after record { number = 0; state = s; length = m.length; frames = m.frames; microseconds = m.microseconds }
  plan_accepted e m q after w =
      let given = plan_given e in
      let counted = measured (plan_records s array start wanted) in
      record {
        number = sym e;
        state = refl;
        length = rw given (measured_length (plan_records s array start wanted) m q);
        frames = rw (given, q) (sym counted.frames);
        microseconds = rw (given, q) (sym counted.microseconds);
        buffer_after = rw given (w ∙ written_front (encode (plan_records s array start wanted)) buffer);
      }

  pub plan_scripted : (m : Measure) (after : List ℕ) → Scripted number (plan_records s array start wanted) buffer after (Ok m)
      → PlanUpdated s wp array start wanted buffer after record { number = 0; state = s; length = m.length; frames = m.frames; microseconds = m.microseconds }
  plan_scripted m after p = let accepted = sym p.number_lem in plan_accepted accepted m p.measured after (rw accepted at p.buffer_after)

  pub plan_unscripted : (refusal : Refusal) (after : List ℕ) → Scripted number (plan_records s array start wanted) buffer after (Err refusal)
      → PlanUpdated s wp array start wanted buffer after (refused_plan (number_of refusal) s)
  plan_unscripted refusal after p =
      let some = number_some refusal in
      rw (rw (← p.number_lem, ne_eqb (number_of refusal) 0 (λ z. omega arith)) at p.buffer_after) (plan_refused (number_of refusal) some (sym p.number_lem))

  -- an accepted plan reports what its records amount to
  pub plan_counts : (after : List ℕ) (r : Planned) → PlanUpdated s wp array start wanted buffer after r → r.number ≡ 0
      → Counts (plan_records s array start wanted) r.length r.frames r.microseconds
  plan_counts after r p e =
      let given = plan_given (sym p.number ∙ e) in
      record {
        bytes = sym (encoded_length (plan_records s array start wanted)) ∙ sym (rw given at p.length);
        frames = sym (rw given at p.frames);
        microseconds = sym (rw given at p.microseconds);
      }

  -- the statement determines the answer and the whole buffer
  pub plan_update_determined : (after₁ after₂ : List ℕ) (r₁ r₂ : Planned) → PlanUpdated s wp array start wanted buffer after₁ r₁
      → PlanUpdated s wp array start wanted buffer after₂ r₂ → (r₁ ≡ r₂) × (after₁ ≡ after₂)
  plan_update_determined after₁ after₂ r₁ r₂ p q = (
    λ i. record {
      number = (p.number ∙ sym q.number) i;
      state = (p.state ∙ sym q.state) i;
      length = (p.length ∙ sym q.length) i;
      frames = (p.frames ∙ sym q.frames) i;
      microseconds = (p.microseconds ∙ sym q.microseconds) i;
    },
    p.buffer_after ∙ sym q.buffer_after,
  )

  -- so a refusal leaves every byte of the buffer and says nothing but its number
  pub refused_untouched : (after : List ℕ) (r : Planned) → PlanUpdated s wp array start wanted buffer after r → 0 < r.number
      → (r ≡ refused_plan r.number s) × (after ≡ buffer)
  refused_untouched after r p h = plan_update_determined after buffer r (refused_plan r.number s) p (plan_refused r.number h (sym p.number))
