-- `run::check_script` meets its contract: the chip's refusals, then the survey's, then the line's, which the survey tells.
use mathlib.Core.Path.{◌≡◌, refl, ap, ◌∙◌}
use mathlib.Core.Bool.{true}
use mathlib.Core.Logic.{⊎_elim}
use lib.ListN.{length}
use borrow.Author.Tests.{ne_eqb}
use Rattle.std.proofs.lemmas.Result.{err_from_is_err_and}
use Rattle.common.proofs.Laws.Booleans.{or_true}
use Rattle.state.proofs.Laws.Checked.{chip_sound, chip_sized}
use Rattle.script.specs.Survey.{in_struct}
use Rattle.script.proofs.Laws.Survey.{counts_in_struct}
use Rattle.frame.specs.Line.{on_line, is_not_long}
use Rattle.frame.proofs.Laws.Line.{of_long}
use Rattle.run.proofs.Laws.Accepted.{checked_by_chip, checked_by_survey, checked_line, checked_none}
use Rattle.run.proofs.check_script.Goals as goal

pub returns-in_err-check_chip : goal.returns-in_err-check_chip
returns-in_err-check_chip c =
    let p = err_from_is_err_and c.from_residual.result c.from_residual.ensures.1 in
    rw (p.1, p.2) (checked_by_chip _ _ _ _ c.in_err-check_chip.field-0.0 c.in_err-check_chip.ensures)

pub returns-in_err-counts : goal.returns-in_err-counts
returns-in_err-counts c =
    let told = c.in_ok-check_chip.ensures in
    let survey_is = rw c.in_err-counts.was at (ap in_struct c.counts_of.ensures ∙ counts_in_struct _) in
    let p = err_from_is_err_and c.from_residual-in_err-counts.result c.from_residual-in_err-counts.ensures.1 in
    rw (p.1, p.2) (checked_by_survey _ _ _ _ (chip_sound _ _ told) (chip_sized _ _ told) _ survey_is)

pub returns-then-output-counts : goal.returns-then-output-counts
returns-then-output-counts c =
    let told = c.in_ok-check_chip.ensures in
    let survey_is = rw c.in_ok-counts.was at (ap in_struct c.counts_of.ensures ∙ counts_in_struct _) in
    let n = c.in_ok-counts.counts.output in
    let a = c.args in
    let other : is_not_long n (on_line a.output.now a.driven.now) ≡ true =
    ⊎_elim (λ o. rw (ne_eqb (length a.output.now) n o) refl) (λ d. rw (ne_eqb (length a.driven.now) n d.1) (or_true _)) c.then-output-counts.either in
    rw c.into.ensures (checked_line _ _ _ _ (chip_sound _ _ told) (chip_sized _ _ told) c.in_ok-counts.counts survey_is other)

pub returns : goal.returns
returns c =
    let told = c.in_ok-check_chip.ensures in
    let survey_is = rw c.in_ok-counts.was at (ap in_struct c.counts_of.ensures ∙ counts_in_struct _) in
    let a = c.args in
    let same = of_long c.in_ok-counts.counts.output (on_line a.output.now a.driven.now) record { output_long = c.if-output-counts.false; driven_long = c.if-driven-counts.false } in
    checked_none _ _ _ _ (chip_sound _ _ told) (chip_sized _ _ told) c.in_ok-counts.counts survey_is same
