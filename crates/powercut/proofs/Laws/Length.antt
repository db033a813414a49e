-- Where fewer bytes change, step 2 or 3 is no longer: so a plan made anew is at most its steps 1 and 4 longer. Those have 22 bytes where a status write takes
-- no time; where it takes some, they are in the new plan only if they were in the old one.
-- Assumes nothing.
use mathlib.Core.Path.{◌≡◌, refl}
use mathlib.Core.Bool.{true}
use mathlib.Core.List.{List}
use mathlib.Core.Logic.{◌⊎◌, ⊎_elim}
use Prim.Native.Nat.{ℕ, ◌+◌, ◌≤◌}
use native.Mathlib.Omega.{arith}
use lib.ListN.{length}
use Rattle.common.proofs.Laws.Choice.{cases}
use Rattle.state.specs.declared.State.{State}
use Rattle.state.specs.State.{data_of}
use Rattle.script.specs.Record.{encode, script_length}
use Rattle.region.specs.Region.{changes}
use Rattle.plan.specs.Plan.{step_one_needed, program_step, plan_records, wait_bytes}
use Rattle.plan.proofs.Laws.Steps.{program_no_longer}
use Rattle.plan.proofs.Laws.Plan.{length_with_status, length_without_status, length_least}

-- for two states of the same chip
module _ (now before : List ℕ) (start : ℕ) (wanted : List ℕ) (fewer : (k : ℕ) → changes now start wanted k ≡ true → changes before start wanted k ≡ true)
    (s s₀ : State) (e : s.chip ≡ s₀.chip) where
  step : script_length (program_step (data_of s).word_plans now start wanted) ≤ script_length (program_step (data_of s₀).word_plans before start wanted)
  step =
      let same : (data_of s).word_plans ≡ (data_of s₀).word_plans = rw e refl in
      rw same (program_no_longer now before start wanted fewer (data_of s₀).word_plans)

  pub plan_22_longer : ((data_of s).status_time ≡ 0) ⊎ (step_one_needed s now start wanted ≡ true → step_one_needed s₀ before start wanted ≡ true)
      → length (encode (plan_records s now start wanted)) ≤ length (encode (plan_records s₀ before start wanted)) + 22
  plan_22_longer why =
      cases (step_one_needed s now start wanted)
      (λ needed. let long = length_with_status s now start wanted needed in
      ⊎_elim (λ none. let short = rw none at long in omega (arith, step, length_least s₀ before start wanted))
      (λ was. let same : wait_bytes (data_of s).status_time ≡ wait_bytes (data_of s₀).status_time = rw e refl in
      omega (arith, step, length_with_status s₀ before start wanted (was needed))) why)
      (λ free. omega (arith, step, length_without_status s now start wanted free, length_least s₀ before start wanted))
