-- The sentences of `PlanSteps` fix a plan: they hold of one list of records at most.
-- Assumes nothing.
use mathlib.Core.Path.{◌≡◌, sym, ◌∙◌}
use mathlib.Core.Bool.{true}
use mathlib.Core.List.{List}
use mathlib.Core.Logic.{⊎_elim}
use Prim.Native.Nat.{ℕ}
use Rattle.chip.specs.Chip.{is_known}
use Rattle.chip.proofs.Laws.Chip.{known_number}
use Rattle.state.specs.declared.State.{State}
use Rattle.script.specs.Record.{Record}
use Rattle.rules.specs.Plans.{PlanSteps}
use Rattle.rules.proofs.Laws.PlanStatus.{protected_or_not, status_frames_determined}
use Rattle.rules.proofs.Laws.WordsDetermined.{words_step_determined}
use Rattle.rules.proofs.Laws.PagesDetermined.{pages_step_determined}

-- of an unknown chip 01 names no program step
pub plan_steps_determined : (s : State) (array : List ℕ) (start : ℕ) (wanted : List ℕ) → is_known s.chip ≡ true → (plan other : List Record)
    → PlanSteps s array start wanted plan → PlanSteps s array start wanted other → plan ≡ other
plan_steps_determined s array start wanted known plan other p q =
    let needed = protected_or_not s array start wanted in
    let before : p.before ≡ q.before =
    ⊎_elim (λ t. status_frames_determined (p.step_1 t) (q.step_1 t)) (λ f. p.no_step_1 f ∙ sym (q.no_step_1 f)) needed in
    let program : p.program ≡ q.program =
    ⊎_elim (λ e. words_step_determined array start wanted (p.step_2 e) (q.step_2 e))
    (λ e. pages_step_determined array start wanted (p.step_3 e) (q.step_3 e)) (known_number s.chip known) in
    let after : p.after ≡ q.after =
    ⊎_elim (λ t. status_frames_determined (p.step_4 t) (q.step_4 t)) (λ f. p.no_step_4 f ∙ sym (q.no_step_4 f)) needed in
    cc
