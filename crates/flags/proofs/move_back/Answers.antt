-- `flags::move_back` meets its contract: a refusal, or the planner's answer for an erased book with the scenes marked that the records name.
use mathlib.Core.Path.{sym, ap, ◌∙◌}
use mathlib.Core.Bool.{false}
use lib.ListN.{length}
use Rattle.common.proofs.Laws.Refusals.{number_some}
use Rattle.names.specs.Records.{padded}
use Rattle.sectors.proofs.Laws.Images.{sector_long}
use Rattle.sectors.proofs.Laws.Back.{blank_bytes, back_is}
use Rattle.namechecks.proofs.Laws.Opened.{back_refusal_of, list_opened, names_fit}
use Rattle.flags.proofs.Laws.Answers.{returns_none, returns_planned}
use Rattle.flags.proofs.move_back.Goals as goal

pub returns-in-Err : goal.returns-in-Err
returns-in-Err c =
    rw (c.return_of.ensures, c.refuse_plan.ensures, c.number.ensures)
    (returns_none _ _ _ _ _ _ _ _ (number_some c.in-Err.refusal) (back_refusal_of _ _ _ _ _ ∙ sym c.in-Err.ensures.number))

pub sector_at-requires : goal.sector_at-requires
sector_at-requires c = names_fit _ _ _ _ _ _ (list_opened _ _ _ _ _ false (sym c.in-Ok.ensures.number))

pub mark_listed-unlisted-requires : goal.mark_listed-unlisted-requires
mark_listed-unlisted-requires c =
    let opened = list_opened _ _ _ _ _ false (sym c.in-Ok.ensures.number) in (
      ap length c.sector_at.ensures ∙ sector_long _ _ (names_fit _ _ _ _ _ _ opened),
      rw c.in-Ok.ensures.read opened.once,
      blank_bytes,
    )

pub returns : goal.returns
returns c =
    let used_is = rw (c.sector_at.ensures, c.in-Ok.ensures.read) at c.mark_listed-unlisted.ensures.0 in
    let laid = ap padded used_is ∙ sym (back_is _ _) in
    rw c.return_of-2.ensures
    (returns_planned _ _ _ _ _ _ _ _ _ _ (back_refusal_of _ _ _ _ _ ∙ sym c.in-Ok.ensures.number)
    (rw laid at c.plan_book.ensures) (rw (c.sector_at.ensures, c.in-Ok.ensures.read) at c.mark_listed-unlisted.ensures.1))
