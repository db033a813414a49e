-- The search for a name that stands twice, by turns: the names passed stand once each, and their prints are stored.
-- Assumes nothing.
use mathlib.Core.Path.{◌≡◌, refl, sym, ap, ◌∙◌}
use mathlib.Core.Bool.{true, false, ◌||◌}
use mathlib.Core.List.{List, [], ◌∷◌, ◌++◌, append_assoc, append-nil}
use Prim.Native.Nat.{ℕ, ◌+◌, ◌≤◌, ◌<◌}
use native.Mathlib.Omega.{arith}
use lib.Dec.{eqb}
use lib.ListN.{length, take, set, length-append}
use lib.Pointwise.{pointwise}
use lib.Seq.{take_at}
use Rattle.std.specs.List.{list_any}
use Rattle.std.proofs.lemmas.List.Recursion.{same_from_clauses}
use Rattle.common.proofs.Laws.Booleans.{or_none_i, or_true}
use Rattle.names.specs.Search.{is_on}
use Rattle.names.proofs.Laws.Search.{same_pointwise, on_none, on_first}
use Rattle.namelist.specs.Twice.{is_twice, print_of, prints_of}
use Rattle.namelist.proofs.Laws.Prints.{prints_none, prints_stored, print_new}
use Rattle.namelist.proofs.Laws.Twice.{twice_none, twice_more, twice_last}

-- as `any` of an iterator tells it
pub on_any : (name : List ℕ) (ns : List (List ℕ)) → list_any (pointwise eqb name) ns ≡ is_on name ns
on_any name =
    same_from_clauses (list_any (pointwise eqb name)) (is_on name) (λ first found. pointwise eqb name first || found) (sym (on_none name)) (λ _ _. refl)
    (λ first others. rw (same_pointwise name first) (on_first name first others))

pub record Comparing (ns left : List (List ℕ)) (prints : List ℕ) (count : ℕ) : Type 0 where
  pub passed : List (List ℕ)
  pub all_are : ns ≡ passed ++ left
  pub few : length ns ≤ 4096
  pub counted : count ≡ length passed
  pub prints_are : take count prints ≡ prints_of passed
  pub once : is_twice passed ≡ false

pub comparing_start : (ns left : List (List ℕ)) (prints : List ℕ) → left ≡ ns → length ns ≤ 4096 → Comparing ns left prints 0
comparing_start ns left prints e few = record {
  passed = [];
  all_are = sym e;
  few = few;
  counted = refl;
  prints_are = sym prints_none;
  once = twice_none;
}

module _ (ns left : List (List ℕ)) (prints : List ℕ) (count : ℕ) (c : Comparing ns left prints count) where
  pub comparing_most : count + length left ≤ 4096
  comparing_most = omega (arith, c.counted, c.few, ap length c.all_are, length-append c.passed left)

  module _ (name : List ℕ) (rest : List (List ℕ)) (left_is : left ≡ name ∷ rest) where
    -- there are prints enough
    pub comparing_room : count < 4096
    comparing_room = omega (arith, comparing_most, ap length left_is)

    next_are : ns ≡ (c.passed ++ (name ∷ [])) ++ rest
    next_are = c.all_are ∙ ap (λ (l : List (List ℕ)). c.passed ++ l) left_is ∙ sym (append_assoc c.passed (name ∷ []) rest)

    passed_are : is_on name (take count ns) ≡ is_on name c.passed
    passed_are = rw c.all_are (ap (is_on name) (take_at c.passed left count (sym c.counted)))

    -- it is one of those passed
    pub comparing_found : true ≡ is_on name (take count ns) → true ≡ is_twice ns
    comparing_found on =
        let last : is_twice (c.passed ++ (name ∷ [])) ≡ true = twice_last c.passed name ∙ rw (sym passed_are ∙ sym on) (or_true (is_twice c.passed)) in
        sym (ap is_twice next_are ∙ twice_more (c.passed ++ (name ∷ [])) rest last)

    -- it is none of them: by the prints, or by the names
    pub new_by_print : false ≡ list_any (λ print. eqb print (print_of name)) (take count prints) → is_on name c.passed ≡ false
    new_by_print f = print_new name c.passed (rw c.prints_are at (sym f))

    pub new_by_name : false ≡ is_on name (take count ns) → is_on name c.passed ≡ false
    new_by_name f = sym passed_are ∙ sym f

    pub comparing_turn : length prints ≡ 4096 → is_on name c.passed ≡ false → Comparing ns rest (set prints count (print_of name)) (count + 1)
    comparing_turn sized new = record {
      passed = c.passed ++ (name ∷ []);
      all_are = next_are;
      few = c.few;
      counted = omega (arith, c.counted, length-append c.passed (name ∷ []));
      prints_are = prints_stored c.passed name prints count (omega (arith, comparing_room, sized)) c.prints_are;
      once = twice_last c.passed name ∙ or_none_i c.once new;
    }

  pub comparing_end : left ≡ [] → false ≡ is_twice ns
  comparing_end e = sym (ap is_twice (c.all_are ∙ ap (λ (l : List (List ℕ)). c.passed ++ l) e ∙ append-nil c.passed) ∙ c.once)
