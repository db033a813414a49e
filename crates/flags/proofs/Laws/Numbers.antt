-- The numbers that the planning calls answer: the first of their own refusals and of the planner's 7, 8, 9 and 10 that holds.
-- Assumes nothing.
use mathlib.Core.Path.{◌≡◌, refl, sym, ◌∙◌}
use mathlib.Core.Bool.{Bool, true, false}
use mathlib.Core.List.{List, ◌++◌}
use Prim.Native.Nat.{ℕ, ◌<◌}
use native.Mathlib.Omega.{arith}
use lib.ListN.{length}
use Rattle.common.specs.Refusals.{records_too_long, first_of, Exactly}
use Rattle.common.proofs.Laws.Refusals.{Given, given_exactly}
use Rattle.state.specs.declared.State.{State}
use Rattle.state.specs.declared.Planned.{Planned}
use Rattle.promises.specs.Promises.{Fitting, fitting_refusals}
use Rattle.promises.proofs.Laws.Unless.{unless_number}
use Rattle.book.specs.Book.{is_read}
use Rattle.names.specs.Records.{names_of}
use Rattle.namelist.specs.Listed.{listed, names_in}
use Rattle.sectors.specs.Images.{sector_part, wanted_mark}
use Rattle.sectors.specs.Moves.{wanted_move, wanted_back}
use Rattle.sectors.proofs.Laws.Images.{sector_long}
use Rattle.sectors.proofs.Laws.Back.{back_long}
use Rattle.flags.specs.declared.Returned.{Returned}
use Rattle.namechecks.specs.Refusals.{mark_refusals, mark_refusal, move_refusals, move_refusal, list_refusals, back_refusal}
use Rattle.flags.specs.Answers.{NameMarks, BookMoves, planned_of, BookReturns}
use Rattle.namechecks.proofs.Laws.Opened.{mark_refusal_of, move_refusal_of, back_refusal_of, mark_opened, marked_inside, move_opened, list_opened, book_fits, names_fit}
use Rattle.flags.proofs.Laws.Answers.{mark_want_long, move_want_long}

-- ---- a marking

module _ (s : State) (wp : Bool) (array : List ℕ) (sector : ℕ) (name buffer after : List ℕ) (r : Planned)
    (marks : NameMarks s wp array sector name buffer after r) where
  abbrev mark_want : List ℕ
  mark_want = wanted_mark (sector_part array sector) name

  abbrev mark_rows : List (ℕ × Bool)
  mark_rows = mark_refusals s array sector name ++ fitting_refusals s wp array sector mark_want (length buffer)

  pub mark_fitting : mark_refusal s array sector name ≡ 0 → Fitting s array sector mark_want
  mark_fitting e =
      let o = mark_opened s array sector name e in
      let inside = marked_inside s array sector name o in
      let long = mark_want_long (sector_part array sector) name (sector_long array sector inside) o.roomy in
      record { sound = o.sound; sized = o.sized; short = omega (arith, long); fits = omega (arith, long, inside, o.sized) }

  pub mark_number : r.number ≡ first_of mark_rows
  mark_number =
      unless_number (mark_refusal s array sector name) s wp array sector mark_want buffer after r marks (mark_refusals s array sector name) refl
      (mark_refusal_of s array sector name) mark_fitting

  -- each number exactly when its own condition holds and no earlier one does
  pub mark_refused_exactly : (number : ℕ) → 0 < number → Exactly (r.number ≡ number) (Given number mark_rows)
  mark_refused_exactly number h =
      let given = given_exactly mark_rows number h in
      record { when = λ e. given.when (sym mark_number ∙ e); only_when = λ g. mark_number ∙ given.only_when g }

  -- 20 exactly when the records need more than 4,096 bytes, and the call has no earlier refusal
  pub mark_twenty_exactly : Exactly (r.number ≡ records_too_long) (Given records_too_long (mark_refusals s array sector name))
  mark_twenty_exactly =
      let all = mark_refused_exactly records_too_long (omega arith) in
      record { when = λ e. all.when e; only_when = λ g. all.only_when g }

-- ---- a move

module _ (s : State) (wp : Bool) (array : List ℕ) (book sector : ℕ) (list buffer after : List ℕ) (r : Planned)
    (moves : BookMoves s wp array book sector list buffer after r) where
  abbrev move_want : List ℕ
  move_want = wanted_move (sector_part array sector) (is_read array book) (names_in (listed list))

  abbrev move_rows : List (ℕ × Bool)
  move_rows = move_refusals s array book sector list ++ fitting_refusals s wp array sector move_want (length buffer)

  pub move_fitting : move_refusal s array book sector list ≡ 0 → Fitting s array sector move_want
  move_fitting e =
      let o = move_opened s array book sector list e in
      let inside = names_fit s array book sector list true o.opened in
      let long = move_want_long (sector_part array sector) array book list o.roomy in
      record { sound = o.opened.sound; sized = o.opened.sized; short = omega (arith, long); fits = omega (arith, long, inside, o.opened.sized) }

  pub move_number : r.number ≡ first_of move_rows
  move_number =
      unless_number (move_refusal s array book sector list) s wp array sector move_want buffer after r moves (move_refusals s array book sector list) refl
      (move_refusal_of s array book sector list) move_fitting

  pub move_refused_exactly : (number : ℕ) → 0 < number → Exactly (r.number ≡ number) (Given number move_rows)
  move_refused_exactly number h =
      let given = given_exactly move_rows number h in
      record { when = λ e. given.when (sym move_number ∙ e); only_when = λ g. move_number ∙ given.only_when g }

  pub move_twenty_exactly : Exactly (r.number ≡ records_too_long) (Given records_too_long (move_refusals s array book sector list))
  move_twenty_exactly =
      let all = move_refused_exactly records_too_long (omega arith) in
      record { when = λ e. all.when e; only_when = λ g. all.only_when g }

-- ---- the way back

module _ (s : State) (wp : Bool) (array : List ℕ) (sector book : ℕ) (list buffer after : List ℕ) (r : Returned)
    (returns : BookReturns s wp array sector book list buffer after r) where
  abbrev back_want : List ℕ
  back_want = wanted_back (names_of (sector_part array sector)) (names_in (listed list))

  abbrev back_rows : List (ℕ × Bool)
  back_rows = list_refusals s array book sector list false ++ fitting_refusals s wp array book back_want (length buffer)

  pub back_fitting : back_refusal s array sector book list ≡ 0 → Fitting s array book back_want
  back_fitting e =
      let o = list_opened s array book sector list false (sym (back_refusal_of s array sector book list) ∙ e) in
      let inside = book_fits s array book sector list false o in
      let long = back_long (names_in (listed list)) (names_of (sector_part array sector)) in
      record { sound = o.sound; sized = o.sized; short = omega (arith, long); fits = omega (arith, long, inside, o.sized) }

  pub back_number : r.number ≡ first_of back_rows
  back_number =
      unless_number (back_refusal s array sector book list) s wp array book back_want buffer after (planned_of r) returns.plan
      (list_refusals s array book sector list false) refl (back_refusal_of s array sector book list) back_fitting

  pub back_refused_exactly : (number : ℕ) → 0 < number → Exactly (r.number ≡ number) (Given number back_rows)
  back_refused_exactly number h =
      let given = given_exactly back_rows number h in
      record { when = λ e. given.when (sym back_number ∙ e); only_when = λ g. back_number ∙ given.only_when g }

  -- it never answers 20
  pub back_never_20 : r.number ≡ records_too_long → ⊥
  back_never_20 e = ((back_refused_exactly records_too_long (omega arith)).when e).1.1.1.1.1.1.1.1.1.1
