-- `book::count_read` meets its contract: a refusal, or how many scenes are read.
use mathlib.Core.Path.{sym, ◌∙◌}
use Rattle.common.proofs.Laws.Refusals.{number_some}
use Rattle.book.proofs.Laws.Refusals.{refusal_of_none}
use Rattle.book.proofs.Laws.Answers.{count_refused, count_told_lem}
use Rattle.book.proofs.count_read.Goals as goal

pub returns-in-Err : goal.returns-in-Err
returns-in-Err c =
    c.tell-in-Err.ensures
    ∙ rw c.number.ensures (sym (count_refused _ _ _ _ (number_some c.in-Err.refusal) (refusal_of_none _ _ _ ∙ sym c.in-Err.ensures.number)))

pub returns-in-Ok : goal.returns-in-Ok
returns-in-Ok c =
    c.tell.ensures
    ∙ rw (c.scenes_read.ensures, c.in-Ok.ensures.opened.0, c.in-Ok.ensures.opened.1)
    (sym (count_told_lem _ _ _ (refusal_of_none _ _ _ ∙ sym c.in-Ok.ensures.number)))
