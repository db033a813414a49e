-- `book::is_read` meets its contract: a refusal, or what the scene's bit says.
use mathlib.Core.Path.{◌≡◌, sym, ◌∙◌}
use mathlib.Core.List.{[], ◌∷◌}
use mathlib.Core.List.{List}
use Prim.Native.Nat.{ℕ}
use lib.Dec.{ltb}
use lib.ListN.{length}
use Rattle.common.proofs.Laws.Refusals.{number_some}
use Rattle.common.specs.Refusals.{first_of}
use Rattle.state.specs.declared.State.{State}
use native.Mathlib.Omega.{arith}
use Rattle.book.specs.Refusals.{book_refusals, book_refusal, Opened}
use Rattle.common.proofs.Laws.Flags.{flag_is}
use Rattle.book.proofs.Laws.Listed.{none_over}
use Rattle.book.proofs.Laws.Refusals.{refusal_of_one, opened_exactly}
use Rattle.book.proofs.Laws.Answers.{is_read_refused, is_read_told_lem}
use Rattle.book.proofs.is_read.Goals as goal

module _ (s : State) (array : List ℕ) (sector scene : ℕ) (none : 0 ≡ first_of (book_refusals s (length array) sector (ltb 4095 scene))) where
  clear : book_refusal s array sector (scene ∷ []) ≡ 0
  clear = refusal_of_one s array sector scene ∙ sym none

  open_at : Opened s array sector (scene ∷ [])
  open_at = (opened_exactly s array sector (scene ∷ [])).when clear

pub returns-in-Err : goal.returns-in-Err
returns-in-Err c =
    c.tell-in-Err.ensures
    ∙ rw c.number.ensures (sym (is_read_refused _ _ _ _ _ (number_some c.in-Err.refusal) (refusal_of_one _ _ _ _ ∙ sym c.in-Err.ensures.number)))

pub scene_read-requires : goal.scene_read-requires
scene_read-requires c = none_over _ (open_at _ _ _ _ c.in-Ok.ensures.number).scenes_kept 0 (omega arith)

pub returns-in-Ok : goal.returns-in-Ok
returns-in-Ok c =
    c.tell.ensures
    ∙ rw (c.from.ensures, c.scene_read.ensures, c.in-Ok.ensures.opened.0, c.in-Ok.ensures.opened.1, flag_is _)
    (sym (is_read_told_lem _ _ _ _ (clear _ _ _ _ c.in-Ok.ensures.number)))
