-- `run::run_script` meets its contract: refused, nothing changes; accepted, the records are run, and the survey has counted them.
use mathlib.Core.Path.{refl, sym, ap, ◌∙◌}
use native.Mathlib.Omega.{arith}
use Rattle.common.proofs.Laws.Refusals.{number_some}
use Rattle.script.specs.declared.survey.Surveyed.{Surveyed}
use Rattle.run.proofs.Laws.Accepted.{number_accepted, counts_surveyed}
use Rattle.run.proofs.Laws.Script.{script_refused, script_accepted}
use Rattle.run.proofs.run_script.Goals as goal

pub returns-in-Err : goal.returns-in-Err
returns-in-Err c =
    let told = rw c.in-Err.is at c.check_script.ensures in
    let some = number_some c.in-Err.refused.refusal in
    rw (c.number.ensures, told.number_is, told.offset_is) (script_refused _ _ _ _ (λ z. omega (arith, some, told.number_is, z)))

pub run_records-state-requires : goal.run_records-state-requires
run_records-state-requires c = let told = rw c.in-Ok.is at c.check_script.ensures in number_accepted _ _ _ _ (sym told.number_is)

pub returns : goal.returns
returns c =
    let told = rw c.in-Ok.is at c.check_script.ensures in
    let took = number_accepted _ _ _ _ (sym told.number_is) in
    let counted = sym (told.counts_are refl ∙ counts_surveyed _ _ _ _ took) in
    rw (ap (λ (s : Surveyed). s.frames) counted, ap (λ (s : Surveyed). s.microseconds) counted) at
    (script_accepted _ _ _ _ took c.run_records-state.ensures)
