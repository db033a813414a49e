-- A plan whose update is accepted, as one value: its records, and which step it takes between steps 1 and 4.
use Rattle.std.specs.Prelude.{◌≡◌, List, ℕ}
use Rattle.script.specs.Record.{Record}
use Rattle.state.specs.State.{data_of}
use Rattle.plan.specs.Plan.{program_step, plan_records}
use Rattle.plan.specs.declared.Plan.{Plan}

abbrev pub records_of : Plan → List Record
records_of plan = let u = plan.update in plan_records plan.state u.array.now u.start u.wanted.now

abbrev pub Programs : (List ℕ → ℕ → List ℕ → List Record) → Plan → Type 0
Programs records plan =
    let u = plan.update in records u.array.now u.start u.wanted.now ≡ program_step (data_of plan.state).word_plans u.array.now u.start u.wanted.now
