-- `flags::move_there` meets its contract: a refusal, or the planner's answer for the sector with the records of the read scenes.
use mathlib.Core.Path.{◌≡◌, sym, ap, ◌∙◌}
use mathlib.Core.Bool.{true}
use native.Mathlib.Omega.{arith}
use lib.ListN.{length}
use mathlib.Core.List.{List}
use Prim.Native.Nat.{ℕ, ◌+◌, ◌≤◌}
use Rattle.common.proofs.Laws.Refusals.{number_some}
use Rattle.common.specs.Refusals.{first_of}
use Rattle.state.specs.declared.State.{State}
use Rattle.namechecks.specs.Refusals.{list_refusals}
use Rattle.namechecks.specs.Opened.{ListOpened}
use Rattle.sectors.proofs.Laws.Images.{sector_long}
use Rattle.namechecks.proofs.Laws.Opened.{list_opened, book_fits, names_fit}
use Rattle.flags.proofs.Laws.Answers.{move_own, move_told, short_enough, moves_refused, moves_planned}
use Rattle.flags.proofs.move_there.Goals as goal

module _ (s : State) (array : List ℕ) (book sector : ℕ) (list : List ℕ) (told : 0 ≡ first_of (list_refusals s array book sector list true)) where
  opened : ListOpened s array book sector list true
  opened = list_opened s array book sector list true (sym told)

  inside : book + 512 ≤ length array
  inside = omega (arith, book_fits s array book sector list true opened)

pub returns-in-Err : goal.returns-in-Err
returns-in-Err c =
    rw (c.refuse_plan.ensures, c.number.ensures)
    (moves_refused _ _ _ _ _ _ _ _ (number_some c.in-Err.refusal) (move_own _ _ _ _ _ _ (number_some c.in-Err.refusal) (sym c.in-Err.ensures.number)))

pub invariant_of-opened : goal.invariant_of-opened
invariant_of-opened c = record { inside = inside _ _ _ _ _ c.in-Ok.ensures.number }

pub sector_at-requires : goal.sector_at-requires
sector_at-requires c = names_fit _ _ _ _ _ _ (opened _ _ _ _ _ c.in-Ok.ensures.number)

pub lay_move-requires : goal.lay_move-requires
lay_move-requires c =
    (c.blank-wanted.ensures, ap length c.sector_at.ensures ∙ sector_long _ _ (names_fit _ _ _ _ _ _ (opened _ _ _ _ _ c.in-Ok.ensures.number)))

pub returns-in-Err-lay_move : goal.returns-in-Err-lay_move
returns-in-Err-lay_move c =
    rw (c.refuse_plan-in-Err-lay_move.ensures, c.number-in-Err-lay_move.ensures)
    (moves_refused _ _ _ _ _ _ _ _ (number_some c.in-Err-lay_move.refusal)
    (move_told _ _ _ _ _ (sym c.in-Ok.ensures.number) _ c.in-Ok.ensures.read _ c.in-Err-lay_move.ensures.number_is))

pub returns : goal.returns
returns c =
    let laid = c.in_default.ensures.laid (short_enough _ c.in_default.ensures.number_is) in
    moves_planned _ _ _ _ _ _ _ _ _
    (move_told _ _ _ _ _ (sym c.in-Ok.ensures.number) _ c.in-Ok.ensures.read _ c.in_default.ensures.number_is)
    (rw (laid, c.sector_at.ensures, c.in-Ok.ensures.read) at c.plan_update.ensures)
