-- The number that a marking answers: the first of the book's own refusals and the planner's 7, 9 and 10 that holds. 6 and 8 never come.
-- Assumes nothing.
use mathlib.Core.Path.{◌≡◌, refl, sym, ap, ◌∙◌}
use mathlib.Core.Bool.{Bool, true, false}
use mathlib.Core.List.{List}
use mathlib.Core.Logic.{◌⊎◌, ⊎_elim}
use Prim.Native.Nat.{ℕ, ◌+◌, ◌*◌, ◌≤◌, ◌<◌}
use native.Mathlib.Omega.{arith}
use lib.ListN.{length, get_or}
use Rattle.common.specs.Bits.{Bytes, bit_at}
use Rattle.common.specs.Refusals.{wrong_region, wanted_rises, first_of, Exactly}
use Rattle.common.proofs.Laws.Bits.{bit_above}
use Rattle.common.proofs.Laws.Choice.{cases}
use Rattle.common.proofs.Laws.Lists.{split}
use Rattle.common.proofs.Laws.Refusals.{Given, given_exactly, clear, first_before, first_behind}
use Rattle.state.specs.declared.State.{State}
use Rattle.state.specs.declared.Planned.{Planned}
use Rattle.promises.specs.Promises.{is_active, room_enough, WantedRises, Fitting, later_refusals}
use Rattle.promises.proofs.Laws.Answered.{plan_answered}
use Rattle.promises.proofs.Laws.Unless.{unless_accepted}
use Rattle.book.specs.Book.{wanted_part, is_listed}
use Rattle.book.specs.Refusals.{has_over, book_refusals, book_refusal, mark_refusals, Opened}
use Rattle.book.specs.Answers.{Marks}
use Rattle.book.proofs.Laws.Refusals.{refusal_of, opened_exactly, book_inside}
use Rattle.book.proofs.Laws.Marking.{wanted_length, wanted_bytes, wanted_bit}

-- ---- what a book wants fits, and no bit of it rises

module _ (s : State) (array : List ℕ) (sector : ℕ) (scenes : List ℕ) (o : Opened s array sector scenes) where
  abbrev want : List ℕ
  want = wanted_part array sector scenes

  fits : sector + 512 ≤ length array
  fits = book_inside s array sector scenes o

  pub book_fitting : Fitting s array sector want
  book_fitting =
      let long = wanted_length array sector scenes fits in
      record { sound = o.sound; sized = o.sized; short = omega (arith, long); fits = omega (arith, long, fits, o.sized) }

  -- a bit is as the array has it or 0, and above a byte there is none
  pub nothing_rises : Bytes array → WantedRises array sector want → ⊥
  nothing_rises bytes w =
      let k = w.place in
      let inside : k < 512 = omega (arith, w.inside, wanted_length array sector scenes fits) in
      ⊎_elim
      (λ l. let e = sym w.wanted_1 ∙ wanted_bit array sector scenes fits k w.bit inside l in
      cases (is_listed (k * 8 + w.bit) scenes)
      (λ t. let z : ◌≡◌ {A = ℕ} 1 0 = rw t at e in omega arith)
      (λ f. let z : 1 ≡ bit_at (get_or array (sector + k) 0) w.bit = rw f at e in omega (arith, z, w.array_0)))
      (λ l. omega (arith, w.wanted_1, bit_above 8 (get_or want k 0) w.bit (wanted_bytes array sector scenes fits bytes k) l)) (split w.bit 8)

-- ---- the number

module _ (s : State) (wp : Bool) (array : List ℕ) (sector : ℕ) (scenes buffer after : List ℕ) (r : Planned) (bytes : Bytes array)
    (marks : Marks s wp array sector scenes buffer after r) where
  abbrev rows : List (ℕ × Bool)
  rows = mark_refusals s wp array sector scenes (length buffer)

  abbrev own : List (ℕ × Bool)
  own = book_refusals s (length array) sector (has_over scenes)

  abbrev later : List (ℕ × Bool)
  later = later_refusals s wp array sector (wanted_part array sector scenes) (length buffer)

  pub mark_number : r.number ≡ first_of rows
  mark_number =
      ⊎_elim
      (λ h. ap (λ (p : Planned). p.number) (marks.refused (book_refusal s array sector scenes) h refl).0
      ∙ sym (first_before own later (book_refusal s array sector scenes) h (sym (refusal_of s array sector scenes))))
      (λ h. let e : book_refusal s array sector scenes ≡ 0 = omega arith in
      let o = (opened_exactly s array sector scenes).when e in
      let want : List ℕ = wanted_part array sector scenes in
      (plan_answered s wp array sector want buffer after r (marks.planned e)
      ).later (wanted_bytes array sector scenes (book_inside s array sector scenes o) bytes) (book_fitting s array sector scenes o) (nothing_rises s array sector scenes o bytes)
      ∙ sym (first_behind own later (clear own refl (sym (refusal_of s array sector scenes) ∙ e))))
      (split 0 (book_refusal s array sector scenes))

  -- on a chip at rest, whose BPL is 0 or whose WP is high, in the room of its worst case: accepted
  pub mark_accepted : Opened s array sector scenes → is_active s ≡ false → (s.bpl ≡ false) ⊎ (wp ≡ true) → room_enough s ≤ length buffer → r.number ≡ 0
  mark_accepted o calm unlocked enough =
      unless_accepted (book_refusal s array sector scenes) s wp array sector (wanted_part array sector scenes) buffer after r marks
      ((opened_exactly s array sector scenes).only_when o) (wanted_bytes array sector scenes (book_inside s array sector scenes o) bytes)
      (book_fitting s array sector scenes o) (nothing_rises s array sector scenes o bytes) calm unlocked enough

  -- each number exactly when its own condition holds and no earlier one does
  pub mark_refused_exactly : (number : ℕ) → 0 < number → Exactly (r.number ≡ number) (Given number rows)
  mark_refused_exactly number h =
      let given = given_exactly rows number h in
      record { when = λ e. given.when (sym mark_number ∙ e); only_when = λ g. mark_number ∙ given.only_when g }

  -- so 6 and 8 never come
  pub mark_never_6 : r.number ≡ wrong_region → ⊥
  mark_never_6 e = ((mark_refused_exactly wrong_region (omega arith)).when e).1.1.1.1.1.1

  pub mark_never_8 : r.number ≡ wanted_rises → ⊥
  mark_never_8 e = ((mark_refused_exactly wanted_rises (omega arith)).when e).1.1.1.1.1.1
