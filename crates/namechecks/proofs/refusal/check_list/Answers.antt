-- `namechecks::refusal::check_list` meets its contract: the book's own refusals come first, and then those about the sector and the list.
use mathlib.Core.Path.{◌≡◌, sym, ap, ◌∙◌}
use mathlib.Core.Bool.{Bool, not, ◌&&◌, ◌||◌}
use mathlib.Core.List.{List, [], ◌∷◌}
use Prim.Native.Nat.{ℕ, ◌<◌}
use lib.Dec.{eqb}
use lib.ListN.{length}
use borrow.Author.Rules.{rules}
use Rattle.common.specs.Refusals.{wrong_region, wrong_names, name_twice, number_of, number_in, first_of}
use Rattle.common.proofs.Laws.Refusals.{number_some, first_before}
use Rattle.state.specs.declared.State.{State}
use Rattle.state.specs.State.{data_of}
use Rattle.book.specs.Book.{is_read}
use Rattle.book.specs.Refusals.{is_sector, book_refusals}
use Rattle.namelist.specs.Listed.{listed, is_bad, names_in}
use Rattle.namelist.specs.Twice.{is_twice}
use Rattle.namelist.proofs.Laws.Listed.{good_most}
use Rattle.sectors.specs.Moves.{is_past}
use Rattle.namechecks.specs.Refusals.{list_refusals}
use Rattle.namechecks.proofs.refusal.check_list.Goals as goal

-- ---- the clauses of the book, and those behind them

module _ (s : State) (array : List ℕ) (book sector : ℕ) where
  abbrev own : List (ℕ × Bool)
  own = book_refusals s (length array) book (not (is_sector (data_of s).size sector))

  own_is : (there : Bool) (number : ℕ) → there ≡ is_sector (data_of s).size sector → number ≡ first_of (book_refusals s (length array) book (not there)) → first_of own ≡ number
  own_is there number e f = sym (f ∙ ap (λ (t : Bool). first_of (book_refusals s (length array) book (not t))) e)

  -- the book's refusals come first
  of_book : (list : List ℕ) (moving : Bool) (number : ℕ) → 0 < number → first_of own ≡ number → number ≡ first_of (list_refusals s array book sector list moving)
  of_book list moving number h e =
      sym (first_before own (
      (wrong_region, eqb book sector)
      ∷ (wrong_names, is_bad (listed list) || (moving && is_past (is_read array book) (length (names_in (listed list)))))
      ∷ (name_twice, is_twice (names_in (listed list)))
      ∷ []) number h e)

pub returns-in_err-opened-clause-number : goal.returns-in_err-opened-clause-number
returns-in_err-opened-clause-number c =
    let a = c.args in
    let passed : number_in c.from_residual.result ≡ number_of c.in_err-opened.field-0.0 = search rules in
    passed
    ∙ of_book a.s a.array.now a.book a.sector a.list.now a.moving _ (number_some c.in_err-opened.field-0.0)
    (own_is a.s a.array.now a.book a.sector _ _ c.is_sector.ensures c.in_err-opened.ensures.number)

pub is_past-requires : goal.is_past-requires
is_past-requires c = rw c.count.ensures (good_most _ c.in_ok-names.names.good)
