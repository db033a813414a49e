-- The calls' own refusals, and what is so where there is none.
-- Assumes nothing.
use mathlib.Core.Path.{◌≡◌, refl, sym, ap, ◌∙◌}
use mathlib.Core.Bool.{Bool, true, false, not, ◌&&◌}
use mathlib.Core.List.{List, [], ◌∷◌}
use Prim.Native.Nat.{ℕ, ◌+◌, ◌≤◌}
use lib.Dec.{eqb}
use lib.ListN.{length}
use borrow.Author.Tests.{eqb-true, eqb-false, eq-eqb, ne_eqb, not-false}
use Rattle.common.specs.Refusals.{records_too_long, first_of, Exactly}
use Rattle.common.proofs.Laws.Booleans.{or_none_l, or_none_r, or_none_i}
use Rattle.common.proofs.Laws.Refusals.{clear, first_of_clear, first_behind}
use Rattle.state.specs.declared.State.{State}
use Rattle.state.specs.State.{data_of}
use Rattle.state.specs.Soundness.{is_sound}
use Rattle.book.specs.Book.{is_read}
use Rattle.book.specs.Refusals.{is_sector}
use Rattle.book.proofs.Laws.Refusals.{sector_fits}
use Rattle.names.specs.Records.{is_name}
use Rattle.namelist.specs.Listed.{listed, is_bad, names_in}
use Rattle.namelist.proofs.Laws.Listed.{good_exactly}
use Rattle.sectors.specs.Moves.{are_too_long, moved_names, is_past}
use Rattle.namechecks.specs.Refusals.{name_refusals, name_refusal, mark_refusals, mark_refusal, list_refusals, move_refusals, move_refusal, back_refusal}
use Rattle.namechecks.specs.Opened.{MarkOpened, ListOpened, MoveOpened}

-- ---- of each call, in order

module _ (s : State) (array : List ℕ) where
  pub name_refusal_of : (sector : ℕ) (name : List ℕ) → name_refusal s array sector name ≡ first_of (name_refusals s (length array) sector name)
  unfolding name_refusal
  name_refusal_of sector name = refl

  pub mark_refusal_of : (sector : ℕ) (name : List ℕ) → mark_refusal s array sector name ≡ first_of (mark_refusals s array sector name)
  unfolding mark_refusal
  mark_refusal_of sector name = refl

  pub move_refusal_of : (book sector : ℕ) (list : List ℕ) → move_refusal s array book sector list ≡ first_of (move_refusals s array book sector list)
  unfolding move_refusal
  move_refusal_of book sector list = refl

  pub back_refusal_of : (sector book : ℕ) (list : List ℕ) → back_refusal s array sector book list ≡ first_of (list_refusals s array book sector list false)
  unfolding back_refusal
  back_refusal_of sector book list = refl

-- ---- none of them holds

module _ (s : State) (array : List ℕ) (sector : ℕ) (name : List ℕ) where
  abbrev rows : List (ℕ × Bool)
  rows = mark_refusals s array sector name

  pub mark_opened : mark_refusal s array sector name ≡ 0 → MarkOpened s array sector name
  mark_opened e =
      let c = clear rows refl (sym (mark_refusal_of s array sector name) ∙ e) in
      record {
        sound = not-false (is_sound s) c.0;
        sized = eqb-true (length array) (data_of s).size (not-false (eqb (length array) (data_of s).size) c.1.0);
        a_sector = not-false (is_sector (data_of s).size sector) c.1.1.0;
        good = not-false (is_name name) c.1.1.1.0;
        roomy = c.1.1.1.1.0;
      }

  pub mark_opened_exactly : Exactly (mark_refusal s array sector name ≡ 0) (MarkOpened s array sector name)
  mark_opened_exactly = record {
    when = mark_opened;
    only_when = λ o.
        mark_refusal_of s array sector name
        ∙ first_of_clear rows
        (ap not o.sound, (ap not (eq-eqb (length array) (data_of s).size o.sized), (ap not o.a_sector, (ap not o.good, (o.roomy, tt)))));
  }

  pub marked_inside : MarkOpened s array sector name → sector + 4096 ≤ length array
  marked_inside o = rw o.sized (sector_fits s sector o.a_sector)

module _ (s : State) (array : List ℕ) (book sector : ℕ) (list : List ℕ) (moving : Bool) where
  abbrev list_rows : List (ℕ × Bool)
  list_rows = list_refusals s array book sector list moving

  abbrev past : Bool
  past = moving && is_past (is_read array book) (length (names_in (listed list)))

  pub list_opened : first_of list_rows ≡ 0 → ListOpened s array book sector list moving
  list_opened e =
      let c = clear list_rows refl e in
      record {
        sound = not-false (is_sound s) c.0;
        sized = eqb-true (length array) (data_of s).size (not-false (eqb (length array) (data_of s).size) c.1.0);
        a_book = not-false (is_sector (data_of s).size book) (or_none_r (not (is_sector (data_of s).size sector)) (not (is_sector (data_of s).size book)) c.1.1.0);
        a_sector = not-false (is_sector (data_of s).size sector) (or_none_l (not (is_sector (data_of s).size sector)) (not (is_sector (data_of s).size book)) c.1.1.0);
        apart = eqb-false book sector c.1.1.1.0;
        good = (good_exactly list).when (or_none_l (is_bad (listed list)) past c.1.1.1.1.0);
        none_past = or_none_r (is_bad (listed list)) past c.1.1.1.1.0;
        once = c.1.1.1.1.1.0;
      }

  pub list_open : ListOpened s array book sector list moving → first_of list_rows ≡ 0
  list_open o =
      first_of_clear list_rows (
        ap not o.sound,
        (
          ap not (eq-eqb (length array) (data_of s).size o.sized),
          (
            or_none_i (ap not o.a_sector) (ap not o.a_book),
            (ne_eqb book sector o.apart, (or_none_i ((good_exactly list).only_when o.good) o.none_past, (o.once, tt))),
          ),
        ),
      )

  module _ (o : ListOpened s array book sector list moving) where
    pub book_fits : book + 4096 ≤ length array
    book_fits = rw o.sized (sector_fits s book o.a_book)

    pub names_fit : sector + 4096 ≤ length array
    names_fit = rw o.sized (sector_fits s sector o.a_sector)

module _ (s : State) (array : List ℕ) (book sector : ℕ) (list : List ℕ) where
  pub move_opened : move_refusal s array book sector list ≡ 0 → MoveOpened s array book sector list
  move_opened e =
      let c = clear (move_refusals s array book sector list) refl (sym (move_refusal_of s array book sector list) ∙ e) in
      record {
        opened = list_opened s array book sector list true
            (first_of_clear (list_refusals s array book sector list true) (c.0, (c.1.0, (c.1.1.0, (c.1.1.1.0, (c.1.1.1.1.0, (c.1.1.1.1.1.0, tt)))))));
        roomy = c.1.1.1.1.1.1.0;
      }

  pub move_open : MoveOpened s array book sector list → move_refusal s array book sector list ≡ 0
  move_open o =
      move_refusal_of s array book sector list
      ∙ first_behind (list_refusals s array book sector list true) ((records_too_long, are_too_long (moved_names array book list)) ∷ [])
      (clear (list_refusals s array book sector list true) refl (list_open s array book sector list true o.opened))
      ∙ first_of_clear ((records_too_long, are_too_long (moved_names array book list)) ∷ []) (o.roomy, tt)
