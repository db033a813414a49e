-- `book::mark` meets its contract: a refusal, or the planner's answer for the used bytes, copied out and marked.
use mathlib.Core.Path.{◌≡◌, refl, sym, ap, ◌∙◌}
use mathlib.Core.Bool.{Bool}
use mathlib.Core.List.{List}
use Prim.Native.Nat.{ℕ}
use lib.ListN.{length}
use Rattle.common.proofs.Laws.Refusals.{number_some}
use Rattle.common.specs.Refusals.{first_of}
use Rattle.state.specs.declared.State.{State}
use Rattle.book.specs.Book.{marked}
use Rattle.book.specs.Refusals.{has_over, book_refusals, book_refusal, Opened}
use Rattle.book.proofs.Laws.Refusals.{refusal_of, opened_exactly}
use Rattle.book.proofs.Laws.Answers.{marks_refused, marks_planned}
use Rattle.book.proofs.mark.Goals as goal

module _ (s : State) (array : List ℕ) (sector : ℕ) (scenes : List ℕ) {over : Bool} {number : ℕ} (over_is : over ≡ has_over scenes)
    (told : number ≡ first_of (book_refusals s (length array) sector over)) where
  number_is : book_refusal s array sector scenes ≡ number
  number_is = refusal_of s array sector scenes ∙ sym (rw over_is at told)

  -- no refusal holds
  open_at : number ≡ 0 → Opened s array sector scenes
  open_at e = (opened_exactly s array sector scenes).when (number_is ∙ e)

pub returns-in-Err : goal.returns-in-Err
returns-in-Err c =
    rw (c.refuse_plan.ensures, c.number.ensures)
    (marks_refused _ _ _ _ _ _ _ (number_some c.in-Err.refusal) (number_is _ _ _ _ c.has_over.ensures c.in-Err.ensures.number))

pub mark_scenes-requires : goal.mark_scenes-requires
mark_scenes-requires c = (open_at _ _ _ _ c.has_over.ensures c.in-Ok.ensures.number refl).scenes_kept

pub returns : goal.returns
returns c =
    marks_planned _ _ _ _ _ _ _ _ (number_is _ _ _ _ c.has_over.ensures c.in-Ok.ensures.number)
    (rw (c.mark_scenes.ensures ∙ ap (marked _) c.used_bytes-used.ensures, c.in-Ok.ensures.opened.0, c.in-Ok.ensures.opened.1) at c.plan_update.ensures)
