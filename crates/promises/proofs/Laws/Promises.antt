-- The planner keeps its promises; and what a layer above makes of them alone.
-- Assumes nothing.
use mathlib.Core.Path.{◌≡◌, refl, ap, ◌∙◌}
use mathlib.Core.Bool.{Bool, true, false}
use mathlib.Core.List.{List, [], ◌∷◌}
use mathlib.Core.Logic.{◌⊎◌, inl, inr, ⊎_elim}
use Prim.Native.Nat.{ℕ, ◌+◌, ◌-◌, ◌≤◌}
use native.Mathlib.Nat.{le_refl}
use lib.ListN.{length, get_or}
use Rattle.common.specs.Bits.{Bytes, bit_at}
use Rattle.common.specs.Lists.{within}
use Rattle.common.proofs.Laws.Choice.{cases}
use Rattle.state.specs.declared.State.{State}
use Rattle.state.specs.State.{with_wel, with_armed}
use Rattle.state.specs.Power.{at_rest}
use Rattle.script.specs.Record.{Record}
use Rattle.frame.specs.Device.{Device}
use Rattle.plan.specs.Plan.{plan_records}
use Rattle.plan.specs.Refusals.{is_active, plan_refusal}
use Rattle.plan.proofs.Laws.Refusals.{accepted_of}
use Rattle.worst.specs.Worst.{room_enough}
use Rattle.worst.proofs.Laws.Worst.{accepted_in_worst}
use Rattle.powercut.specs.PowerCut.{state_after_plan, Partway, Finished, PowerLost, BehindPlan}
use Rattle.powercut.proofs.Laws.PowerCut.{power_cut_safe, behind_ready}
use Rattle.promises.specs.Promises.{Promises}
pub use Rattle.powercut.proofs.Laws.Updated.{updated_at, updated_length, updated_partway}

-- with nothing to do, or with something
rested_by : (rs : List Record) (s : State) → (state_after_plan rs s ≡ s) ⊎ (state_after_plan rs s ≡ with_armed (with_wel s false) false)
rested_by [] s = inl refl
rested_by (r ∷ rs) s = inr refl

pub promises_kept : (wp : Bool) (chip : Device) (start : ℕ) (wanted : List ℕ) (room : ℕ) → Bytes chip.array
    → plan_refusal chip.state wp chip.array start wanted room ≡ 0 → Promises wp chip start wanted room
unfolding Finished PowerLost room_enough
promises_kept wp chip start wanted room bytes e =
    let safe = power_cut_safe wp chip start wanted room bytes e in
    let a = (accepted_of chip.state chip.array start wanted wp room e).region in
    let fits : start + length wanted ≤ length chip.array = rw a.sized a.fits in
    let at_end : (after : Device) → Finished wp chip start wanted after → Partway chip.array start wanted after.array =
    λ after f. rw (ap (λ (d : Device). d.array) f ∙ safe.uncut.array_is) (updated_partway chip.array start wanted fits) in
    record {
      finished = λ after f. ap (λ (d : Device). d.array) f ∙ safe.uncut.array_is;
      rested = λ after f. rw (ap (λ (d : Device). d.state) f ∙ safe.uncut.state_is)
          (rested_by (plan_records chip.state chip.array start wanted) chip.state);
      partway = λ after behind. ⊎_elim (at_end after) (λ c. (safe.cut after c).partway) behind;
      ready = behind_ready wp chip start wanted room bytes e;
      again = λ cut c more enough. (safe.cut cut c).accepted more enough;
      again_in_worst = λ cut c more enough.
          accepted_in_worst cut.state wp cut.array start wanted (room + 22) more ((safe.cut cut c).accepted (room + 22) (le_refl (room + 22))) enough;
      completed = λ cut after c f. ap (λ (d : Device). d.array) f ∙ (safe.cut cut c).completes.array_is;
    }

-- a chip that was just made or powered up is at rest
pub calm_at_rest : (chip bp : ℕ) (tb bpl : Bool) → is_active (at_rest chip bp tb bpl) ≡ false
unfolding is_active
calm_at_rest chip bp tb bpl = refl

-- ---- from the promises alone

-- a bit that was not to change, in the region or outside it, is as it was, run to the end or cut anywhere
pub unwanted_bit_stays : {wp : Bool} {chip : Device} {start : ℕ} {wanted : List ℕ} {room : ℕ} → Promises wp chip start wanted room
    → (after : Device) → BehindPlan wp chip start wanted after → (k b : ℕ)
    → (within start (length wanted) k ≡ true → bit_at (get_or wanted (k - start) 0) b ≡ bit_at (get_or chip.array k 0) b)
    → bit_at (get_or after.array k 0) b ≡ bit_at (get_or chip.array k 0) b
unwanted_bit_stays {wp} {chip} {start} {wanted} {room} p after behind k b same =
    let part = p.partway after behind in
    cases (within start (length wanted) k)
    (λ i. ⊎_elim (λ e. e) (λ e. e ∙ same i) (part.region k b i))
    (λ i. ap (λ (x : ℕ). bit_at x b) (part.outside k i))
