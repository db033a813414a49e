-- `flags::is_read` meets its contract: a refusal, or what a search among the sector's records says.
use mathlib.Core.Path.{sym, ◌∙◌}
use Rattle.common.proofs.Laws.Refusals.{number_some}
use Rattle.common.proofs.Laws.Flags.{flag_is}
use Rattle.namechecks.proofs.Laws.Opened.{name_refusal_of}
use Rattle.flags.proofs.Laws.Answers.{name_refused, name_told_lem, name_found, name_inside}
use Rattle.flags.proofs.is_read.Goals as goal

pub returns-in-Err : goal.returns-in-Err
returns-in-Err c =
    c.tell.ensures ∙ rw c.number.ensures (sym (name_refused _ _ _ _ _ (number_some c.in-Err.refusal) (name_refusal_of _ _ _ _ ∙ sym c.in-Err.ensures)))

pub sector_at-requires : goal.sector_at-requires
sector_at-requires c = name_inside _ _ _ c.args.name.now (name_refusal_of _ _ _ _ ∙ sym c.in_default.ensures)

pub returns : goal.returns
returns c =
    c.tell-2.ensures
    ∙ rw (c.from.ensures, c.is_ok-found.ensures.value, flag_is _, name_found _ _ _ _ _ c.sector_at.ensures c.find.ensures)
    (sym (name_told_lem _ _ _ _ (name_refusal_of _ _ _ _ ∙ sym c.in_default.ensures)))
