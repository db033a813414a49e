-- Prints of names: made byte by byte, kept one by one, and a name on a list has its print among theirs.
-- Assumes nothing.
use mathlib.Core.Path.{◌≡◌, refl, sym, ap, ◌∙◌}
use mathlib.Core.Bool.{true, false, false≢true, true≢false}
use mathlib.Core.List.{List, [], ◌∷◌, ◌++◌}
use Prim.Native.Nat.{ℕ, ◌+◌, ◌*◌, ◌%◌, ◌≤◌, ◌<◌}
use native.Mathlib.Numerals.{add-one}
use lib.Dec.{eqb}
use lib.ListN.{length, get_or, take, drop, set, drop_of_length-le}
use lib.Seq.{drop-cons, take-suc-set}
use borrow.Author.Tests.{eq-eqb}
use Rattle.std.specs.List.{list_any}
use Rattle.common.proofs.Laws.Booleans.{or_imp, or_true}
use Rattle.common.proofs.Laws.Choice.{cases}
use Rattle.names.specs.Search.{same_bytes, is_on}
use Rattle.names.proofs.Laws.Search.{same_exactly, on_none, on_first}
use Rattle.namelist.specs.Twice.{print_from, print_of, prints_of}

-- ---- a print, from what is made of it at a place

pub print_start : (name : List ℕ) → print_from 0 name ≡ print_of name
unfolding print_of
print_start name = refl

module _ (name : List ℕ) (print i : ℕ) where
  pub print_turn : i < length name → print_from print (drop i name) ≡ print_from ((print * 251 + get_or name i 0) % 16777216) (drop (i + 1) name)
  unfolding print_from
  print_turn h = rw (add-one i, drop-cons name i 0 h) refl

  pub print_end : length name ≤ i → print_from print (drop i name) ≡ print
  unfolding print_from
  print_end h = rw (drop_of_length-le name h) refl

-- ---- the prints of names

pub prints_none : prints_of [] ≡ []
unfolding prints_of
prints_none = refl

pub prints_last : (ns : List (List ℕ)) (name : List ℕ) → prints_of (ns ++ (name ∷ [])) ≡ prints_of ns ++ (print_of name ∷ [])
unfolding prints_of
prints_last [] name = refl
prints_last (first ∷ others) name = ap (λ (l : List ℕ). print_of first ∷ l) (prints_last others name)

-- a further one is stored behind them
pub prints_stored : (ns : List (List ℕ)) (name prints : List ℕ) (n : ℕ) → n < length prints → take n prints ≡ prints_of ns
    → take (n + 1) (set prints n (print_of name)) ≡ prints_of (ns ++ (name ∷ []))
prints_stored ns name prints n h e =
    rw (add-one n) (take-suc-set prints n (print_of name) h ∙ ap (λ (l : List ℕ). l ++ (print_of name ∷ [])) e ∙ sym (prints_last ns name))

on_printed : (name : List ℕ) (ns : List (List ℕ)) → is_on name ns ≡ true → list_any (λ print. eqb print (print_of name)) (prints_of ns) ≡ true
unfolding prints_of
on_printed name [] e = absurd (false≢true (sym (on_none name) ∙ e))
on_printed name (first ∷ others) e =
    cases (same_bytes name first)
    (λ t. rw (eq-eqb (print_of first) (print_of name) (ap print_of (sym ((same_exactly name first).when t)))) refl)
    (λ f. rw (on_printed name others (or_imp (same_bytes name first) (is_on name others) (sym (on_first name first others) ∙ e) f))
    (or_true (eqb (print_of first) (print_of name))))

-- so a name whose print is none of theirs is none of them
pub print_new : (name : List ℕ) (ns : List (List ℕ)) → list_any (λ print. eqb print (print_of name)) (prints_of ns) ≡ false → is_on name ns ≡ false
print_new name ns f = cases (is_on name ns) (λ t. absurd (true≢false (sym (on_printed name ns t) ∙ f))) (λ g. g)
