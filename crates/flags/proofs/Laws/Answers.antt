-- What the calls about names answer: as a refusal and where there is none, and that two answers to one call are equal.
-- Assumes nothing.
use mathlib.Core.Path.{◌≡◌, refl, sym, ap, ap₂, ◌∙◌}
use mathlib.Core.Bool.{Bool, cond, true, false, not}
use mathlib.Core.List.{List, [], ◌∷◌, ◌++◌}
use Prim.Native.Nat.{ℕ, ◌+◌, ◌≤◌, ◌<◌}
use native.Mathlib.Omega.{arith}
use lib.Dec.{eqb, ltb}
use lib.ListN.{length, take, drop, length-append}
use lib.Seq.{take-append_seam}
use borrow.Author.Tests.{eqb-true, lt-ltb, le-ltb, ltb-false, ne_eqb, not-false}
use Rattle.common.specs.Bits.{bit}
use Rattle.common.specs.Refusals.{records_too_long, first_of, accepted}
use Rattle.common.proofs.Laws.Booleans.{and_off, not_i}
use Rattle.common.proofs.Laws.Choice.{cases}
use Rattle.common.proofs.Laws.Refusals.{Clear, clear, first_before, first_behind}
use Rattle.state.specs.declared.State.{State}
use Rattle.state.specs.declared.Told.{Told}
use Rattle.state.specs.declared.Planned.{Planned}
use Rattle.state.specs.State.{data_of}
use Rattle.state.specs.Answer.{refused_plan}
use Rattle.state.proofs.Laws.Told.{told_value, told_refused}
use Rattle.promises.specs.Promises.{Plans}
use Rattle.promises.proofs.Laws.Unless.{unless_refused, unless_planned, unless_state, unless_untouched, unless_determined}
use Rattle.book.specs.Book.{is_read}
use Rattle.book.specs.Refusals.{is_sector}
use Rattle.book.proofs.Laws.Refusals.{sector_fits}
use Rattle.names.specs.Records.{is_name, names_of, records_bytes}
use Rattle.names.specs.Search.{is_on, Searched}
use Rattle.std.specs.Prelude.{Result, Ok, Err}
use Rattle.std.specs.Result.{is_ok}
use Rattle.names.proofs.Laws.Front.{name_most}
use Rattle.names.proofs.Laws.Names.{names_split}
use Rattle.names.proofs.Laws.Padded.{padded_long}
use Rattle.names.proofs.Laws.Walk.{records_append, records_one, records_long}
use Rattle.namelist.specs.Listed.{listed, names_in}
use Rattle.flags.specs.declared.Returned.{Returned}
use Rattle.sectors.specs.Images.{sector_part, is_missing, wanted_names, wanted_mark}
use Rattle.sectors.specs.Moves.{are_too_long, moved_names, wanted_move, wanted_back, unlisted}
use Rattle.namechecks.specs.Refusals.{name_refusals, name_refusal, is_full, mark_refusal, list_refusals, move_refusal, back_refusal}
use Rattle.flags.specs.Answers.{is_name_read, name_told, NameMarks, BookMoves, planned_of, refused_return, returned_of, BookReturns}
use Rattle.sectors.proofs.Laws.Images.{wanted_first, wanted_second, mark_there, mark_appends}
use Rattle.sectors.proofs.Laws.There.{move_wants}
use Rattle.namechecks.proofs.Laws.Opened.{name_refusal_of, mark_refusal_of, move_refusal_of}

-- ---- a question

module _ (s : State) (array : List ℕ) (sector : ℕ) (name : List ℕ) where
  pub name_refused : (number : ℕ) → 0 < number → name_refusal s array sector name ≡ number
      → name_told s array sector name ≡ record { number = number; state = s; value = 0 }
  unfolding name_told
  name_refused number h e = rw e (told_refused number s (bit (is_name_read array sector name) 1) h)

  pub name_told_lem : name_refusal s array sector name ≡ 0
      → name_told s array sector name ≡ record { number = 0; state = s; value = bit (is_name_read array sector name) 1 }
  unfolding name_told
  name_told_lem e = told_value (name_refusal s array sector name) s (bit (is_name_read array sector name) 1) e

  pub name_state : (name_told s array sector name).state ≡ s
  unfolding name_told
  name_state = refl

  pub name_determined : (r₁ r₂ : Told) → r₁ ≡ name_told s array sector name → r₂ ≡ name_told s array sector name → r₁ ≡ r₂
  name_determined r₁ r₂ p q = p ∙ sym q

-- a record of the sector has the name,
pub is_read_is : (array : List ℕ) (sector : ℕ) (name : List ℕ) → is_name_read array sector name ≡ is_on name (names_of (sector_part array sector))
unfolding is_name_read
is_read_is array sector name = refl

-- as a search in it tells
pub name_found : (array : List ℕ) (sector : ℕ) (name image : List ℕ) (r : Result ℕ ℕ) → image ≡ sector_part array sector → Searched image name r
    → is_ok r ≡ is_name_read array sector name
name_found array sector name image r is searched =
    by r searched ∙ ap (λ (l : List ℕ). is_on name (names_of l)) is ∙ sym (is_read_is array sector name)
  where
    by : (r : Result ℕ ℕ) → Searched image name r → is_ok r ≡ is_on name (names_of image)
    by (Ok at) found = sym found.0
    by (Err end) none = sym none.0

-- ---- the refusals about one name, and behind them a marking's

module _ (s : State) (array : List ℕ) (sector : ℕ) (name : List ℕ) where
  abbrev name_rows : List (ℕ × Bool)
  name_rows = name_refusals s (length array) sector name

  abbrev full_row : List (ℕ × Bool)
  full_row = (records_too_long, is_full (names_of (sector_part array sector)) name) ∷ []

  pub mark_own : (number : ℕ) → 0 < number → name_refusal s array sector name ≡ number → mark_refusal s array sector name ≡ number
  mark_own number h e = mark_refusal_of s array sector name ∙ first_before name_rows full_row number h (sym (name_refusal_of s array sector name) ∙ e)

  module _ (none : name_refusal s array sector name ≡ 0) where
    name_clear : Clear name_rows
    name_clear = clear name_rows refl (sym (name_refusal_of s array sector name) ∙ none)

    pub name_inside : sector + 4096 ≤ length array
    name_inside =
        rw (eqb-true (length array) (data_of s).size (not-false (eqb (length array) (data_of s).size) name_clear.1.0))
        (sector_fits s sector (not-false (is_sector (data_of s).size sector) name_clear.1.1.0))

    pub name_short : length name ≤ 32
    name_short = name_most name (not-false (is_name name) name_clear.1.1.1.0)

    mark_behind : mark_refusal s array sector name ≡ first_of full_row
    mark_behind = mark_refusal_of s array sector name ∙ first_behind name_rows full_row name_clear

    -- a record has the name
    pub mark_none_there : is_on name (names_of (sector_part array sector)) ≡ true → mark_refusal s array sector name ≡ 0
    mark_none_there on = mark_behind ∙ rw on refl

    -- none has it
    module _ (off : is_on name (names_of (sector_part array sector)) ≡ false) where
      abbrev there : List (List ℕ)
      there = names_of (sector_part array sector)

      with_it : length (records_bytes true (there ++ (name ∷ []))) ≡ length (records_bytes true there) + (3 + length name)
      with_it =
          omega (
            arith,
            ap length (records_append true there (name ∷ [])),
            length-append (records_bytes true there) (records_bytes true (name ∷ [])),
            ap length (records_one true name),
          )

      pub mark_full : 4096 < length (records_bytes true there) + (3 + length name) → mark_refusal s array sector name ≡ records_too_long
      mark_full over = mark_behind ∙ rw (off, lt-ltb 4096 (length (records_bytes true (there ++ (name ∷ [])))) (omega (arith, over, with_it))) refl

      pub mark_none_roomy : length (records_bytes true there) + (3 + length name) ≤ 4096 → mark_refusal s array sector name ≡ 0
      mark_none_roomy fits = mark_behind ∙ rw (off, le-ltb 4096 (length (records_bytes true (there ++ (name ∷ [])))) (omega (arith, fits, with_it))) refl

-- ---- the sector that is wanted, as the code finds it

-- it is whole, where the records fit
pub names_want_long : (image front : List ℕ) (names : List (List ℕ)) → length front + length (records_bytes true names) ≤ 4096
    → length (wanted_names image front names) ≡ 4096
names_want_long image front names fits =
    cases (is_missing (records_bytes false names) (drop (length front) image))
    (λ t. ap length (wanted_first image front names t)
    ∙ padded_long (front ++ records_bytes false names) (omega (arith, fits, length-append front (records_bytes false names), records_long true false names)))
    (λ f. ap length (wanted_second image front names f)
    ∙ padded_long (front ++ records_bytes true names) (omega (arith, fits, length-append front (records_bytes true names))))

-- a name that has no record, and room for it
pub room_left : (names : List (List ℕ)) (name : List ℕ) → is_on name names ≡ false → is_full names name ≡ false
    → length (records_bytes true names) + length (records_bytes true (name ∷ [])) ≤ 4096
room_left names name absent roomy =
    let all : ℕ = length (records_bytes true (names ++ (name ∷ []))) in
    let fits : all ≤ 4096 = ltb-false 4096 all (and_off (not (is_on name names)) (ltb 4096 all) roomy (not_i (is_on name names) absent)) in
    omega (arith, fits, ap length (records_append true names (name ∷ [])), length-append (records_bytes true names) (records_bytes true (name ∷ [])))

pub mark_want_long : (image name : List ℕ) → length image ≡ 4096 → is_full (names_of image) name ≡ false → length (wanted_mark image name) ≡ 4096
mark_want_long image name long roomy =
    cases (is_on name (names_of image)) (λ t. ap length (mark_there image name t) ∙ long)
    (λ f. ap length (mark_appends image name f)
    ∙ names_want_long image (records_bytes true (names_of image)) (name ∷ []) (room_left (names_of image) name f roomy))

module _ (image : List ℕ) where
  -- the records lie in the sector, at its front
  pub records_inside : length (records_bytes true (names_of image)) ≤ length image
  records_inside = let s = names_split image in omega (arith, ap length s.is, length-append (records_bytes true (names_of image)) s.rest)

  pub records_front : take (length (records_bytes true (names_of image))) image ≡ records_bytes true (names_of image)
  records_front =
      let s = names_split image in
      ap (take (length (records_bytes true (names_of image)))) s.is ∙ take-append_seam (records_bytes true (names_of image)) s.rest

  module _ (name : List ℕ) where
    pub found_wanted : (at : ℕ) → Searched image name (Ok at) → image ≡ wanted_mark image name
    found_wanted at found = sym (mark_there image name found.0)

    -- behind the records
    module _ (end : ℕ) (none : Searched image name (Err end)) where
      pub appended_wanted : (after : List ℕ) → after ≡ wanted_names image (take end image) (name ∷ []) → after ≡ wanted_mark image name
      appended_wanted after is =
          is ∙ ap (λ (l : List ℕ). wanted_names image l (name ∷ [])) (ap (λ (k : ℕ). take k image) none.1 ∙ records_front)
          ∙ sym (mark_appends image name none.0)

      pub appended_long : end + (3 + length name) ≤ 4096 → length (wanted_mark image name) ≡ 4096
      appended_long fits =
          ap length (mark_appends image name none.0)
          ∙ names_want_long image (records_bytes true (names_of image)) (name ∷ []) (omega (arith, fits, none.1, ap length (records_one true name)))

-- ---- a marking

module _ (s : State) (wp : Bool) (array : List ℕ) (sector : ℕ) (name buffer : List ℕ) where
  abbrev mark_number : ℕ
  mark_number = mark_refusal s array sector name

  abbrev mark_want : List ℕ
  mark_want = wanted_mark (sector_part array sector) name

  pub name_marks_refused : (n : ℕ) → 0 < n → mark_number ≡ n → NameMarks s wp array sector name buffer buffer (refused_plan n s)
  name_marks_refused = unless_refused mark_number s wp array sector mark_want buffer

  pub name_marks_planned : (after : List ℕ) (r : Planned) → mark_number ≡ 0 → Plans s wp array sector mark_want buffer after r
      → NameMarks s wp array sector name buffer after r
  name_marks_planned = unless_planned mark_number s wp array sector mark_want buffer

  pub name_marks_state : (after : List ℕ) (r : Planned) → NameMarks s wp array sector name buffer after r → r.state ≡ s
  name_marks_state = unless_state mark_number s wp array sector mark_want buffer

  pub name_marks_untouched : (after : List ℕ) (r : Planned) → NameMarks s wp array sector name buffer after r → 0 < r.number
      → (r ≡ refused_plan r.number s) × (after ≡ buffer)
  name_marks_untouched = unless_untouched mark_number s wp array sector mark_want buffer

  pub name_marks_determined : (after₁ after₂ : List ℕ) (r₁ r₂ : Planned) → NameMarks s wp array sector name buffer after₁ r₁
      → NameMarks s wp array sector name buffer after₂ r₂ → (r₁ ≡ r₂) × (after₁ ≡ after₂)
  name_marks_determined = unless_determined mark_number s wp array sector mark_want buffer

-- ---- a move

module _ (s : State) (array : List ℕ) (book sector : ℕ) (list : List ℕ) where
  abbrev list_rows : List (ℕ × Bool)
  list_rows = list_refusals s array book sector list true

  abbrev long_row : List (ℕ × Bool)
  long_row = (records_too_long, are_too_long (moved_names array book list)) ∷ []

  pub move_own : (number : ℕ) → 0 < number → first_of list_rows ≡ number → move_refusal s array book sector list ≡ number
  move_own number h e = move_refusal_of s array book sector list ∙ first_before list_rows long_row number h e

  module _ (none : first_of list_rows ≡ 0) where
    move_behind : move_refusal s array book sector list ≡ first_of long_row
    move_behind = move_refusal_of s array book sector list ∙ first_behind list_rows long_row (clear list_rows refl none)

    -- as the laying of the records of the list tells
    pub move_told : (read : List ℕ) → read ≡ list → (number : ℕ) → number ≡ cond (are_too_long (moved_names array book read)) records_too_long 0
        → move_refusal s array book sector list ≡ number
    move_told read same number e = move_behind ∙ sym (rw same at e)

pub short_enough : (long : Bool) → 0 ≡ cond long records_too_long 0 → long ≡ false
short_enough true e = absurd (omega arith)
short_enough false e = refl

pub move_want_long : (image array : List ℕ) (book : ℕ) (list : List ℕ) → are_too_long (moved_names array book list) ≡ false
    → length (wanted_move image (is_read array book) (names_in (listed list))) ≡ 4096
move_want_long image array book list e =
    ap length (move_wants image (is_read array book) (names_in (listed list)))
    ∙ names_want_long image [] (moved_names array book list)
    (omega (arith, ltb-false 4096 (length (records_bytes true (moved_names array book list))) e))

module _ (s : State) (wp : Bool) (array : List ℕ) (book sector : ℕ) (list buffer : List ℕ) where
  abbrev move_number : ℕ
  move_number = move_refusal s array book sector list

  abbrev move_want : List ℕ
  move_want = wanted_move (sector_part array sector) (is_read array book) (names_in (listed list))

  pub moves_refused : (n : ℕ) → 0 < n → move_number ≡ n → BookMoves s wp array book sector list buffer buffer (refused_plan n s)
  moves_refused = unless_refused move_number s wp array sector move_want buffer

  pub moves_planned : (after : List ℕ) (r : Planned) → move_number ≡ 0 → Plans s wp array sector move_want buffer after r
      → BookMoves s wp array book sector list buffer after r
  moves_planned = unless_planned move_number s wp array sector move_want buffer

  pub moves_state : (after : List ℕ) (r : Planned) → BookMoves s wp array book sector list buffer after r → r.state ≡ s
  moves_state = unless_state move_number s wp array sector move_want buffer

  pub moves_untouched : (after : List ℕ) (r : Planned) → BookMoves s wp array book sector list buffer after r → 0 < r.number
      → (r ≡ refused_plan r.number s) × (after ≡ buffer)
  moves_untouched = unless_untouched move_number s wp array sector move_want buffer

  pub moves_determined : (after₁ after₂ : List ℕ) (r₁ r₂ : Planned) → BookMoves s wp array book sector list buffer after₁ r₁
      → BookMoves s wp array book sector list buffer after₂ r₂ → (r₁ ≡ r₂) × (after₁ ≡ after₂)
  moves_determined = unless_determined move_number s wp array sector move_want buffer

-- ---- the way back

-- an answer is its plan and its count
abbrev with_count : Planned → ℕ → Returned
with_count p n = record { number = p.number; state = p.state; length = p.length; frames = p.frames; microseconds = p.microseconds; unlisted = n }

module _ (s : State) (wp : Bool) (array : List ℕ) (sector book : ℕ) (list buffer : List ℕ) where
  abbrev back_number : ℕ
  back_number = back_refusal s array sector book list

  abbrev back_want : List ℕ
  back_want = wanted_back (names_of (sector_part array sector)) (names_in (listed list))

  abbrev back_count : ℕ
  back_count = unlisted (names_in (listed list)) (names_of (sector_part array sector))

  pub returns_refused : (n : ℕ) → 0 < n → back_number ≡ n → BookReturns s wp array sector book list buffer buffer (refused_return n s)
  returns_refused n h e = record {
    plan = unless_refused back_number s wp array book back_want buffer n h e;
    unlisted_is = rw (ne_eqb n 0 (λ z. omega arith)) refl;
  }

  pub returns_none : (n : ℕ) → 0 < n → back_number ≡ n → BookReturns s wp array sector book list buffer buffer (returned_of (refused_plan n s) 0)
  returns_none n h e = record {
    plan = unless_refused back_number s wp array book back_want buffer n h e;
    unlisted_is = let some = ne_eqb n 0 (λ z. omega arith) in rw some refl;
  }

  pub returns_planned : (after : List ℕ) (p : Planned) (n : ℕ) → back_number ≡ 0 → Plans s wp array book back_want buffer after p → n ≡ back_count
      → BookReturns s wp array sector book list buffer after (returned_of p n)
  returns_planned after p n none plans count = record {
    plan = unless_planned back_number s wp array book back_want buffer after p none plans;
    unlisted_is = ap (λ (k : ℕ). accepted p.number k 0) count;
  }

  module _ (after : List ℕ) (r : Returned) (answer : BookReturns s wp array sector book list buffer after r) where
    pub returns_state : r.state ≡ s
    returns_state = unless_state back_number s wp array book back_want buffer after (planned_of r) answer.plan

    pub returns_untouched : 0 < r.number → (r ≡ refused_return r.number s) × (after ≡ buffer)
    returns_untouched h =
        let u = unless_untouched back_number s wp array book back_want buffer after (planned_of r) answer.plan h in
        let none : r.unlisted ≡ 0 = answer.unlisted_is ∙ rw (ne_eqb r.number 0 (λ z. omega arith)) refl in
        (ap₂ with_count u.0 none, u.1)

  pub returns_determined : (after₁ after₂ : List ℕ) (r₁ r₂ : Returned) → BookReturns s wp array sector book list buffer after₁ r₁
      → BookReturns s wp array sector book list buffer after₂ r₂ → (r₁ ≡ r₂) × (after₁ ≡ after₂)
  returns_determined after₁ after₂ r₁ r₂ p q =
      let d = unless_determined back_number s wp array book back_want buffer after₁ after₂ (planned_of r₁) (planned_of r₂) p.plan q.plan in
      let same : r₁.number ≡ r₂.number = ap (λ (x : Planned). x.number) d.0 in
      let counts : r₁.unlisted ≡ r₂.unlisted = p.unlisted_is ∙ ap (λ (k : ℕ). accepted k back_count 0) same ∙ sym q.unlisted_is in
      (ap₂ with_count d.0 counts, d.1)
