-- Reading a list: what is left is bad, after the names passed, exactly where the whole list is.
-- Assumes nothing.
use mathlib.Core.Path.{◌≡◌, refl, sym, ap, ◌∙◌}
use mathlib.Core.Bool.{Bool, true, false, cond}
use mathlib.Core.List.{List, [], ◌∷◌}
use Prim.Native.Nat.{ℕ, suc, ◌+◌, ◌≤◌, ◌<◌}
use native.Mathlib.Omega.{arith}
use lib.Dec.{leb, ltb}
use lib.ListN.{length, take, drop}
use borrow.Author.Tests.{leb-true, leb-false, lt-ltb, le-ltb}
use Rattle.names.specs.Records.{Front, none, item, front_body, is_name}
use Rattle.names.proofs.Laws.Front.{body_name, body_short, body_bad}
use Rattle.namelist.specs.Listed.{Listed, bad, names, before, listed_on, listed_all, few, listed, is_bad}
use Rattle.namelist.proofs.Laws.Listed.{all_none, all_first, listed_few}

-- a list with so many names before it is bad, or they are too many together
abbrev pub bad_after : ℕ → Listed → Bool
bad_after k bad = true
bad_after k (names ns) = ltb 4096 (k + length ns)

after_none : (l : Listed) → bad_after 0 l ≡ is_bad (few l)
after_none bad = refl
after_none (names ns) = let e : 0 + length ns ≡ length ns = omega arith in rw e (by (leb (length ns) 4096) refl)
  where
    by : (t : Bool) → leb (length ns) 4096 ≡ t → ltb 4096 (length ns) ≡ is_bad (cond t (names ns) bad)
    by true h = le-ltb 4096 (length ns) (leb-true (length ns) 4096 h)
    by false h = lt-ltb 4096 (length ns) (leb-false (length ns) 4096 h)

after_before : (k : ℕ) (name : List ℕ) (l : Listed) → bad_after k (before name l) ≡ bad_after (k + 1) l
after_before k name bad = refl
after_before k name (names ns) = let e : k + suc (length ns) ≡ k + 1 + length ns = omega arith in rw e refl

-- with 4,096 passed, one more is too many
after_full : (k : ℕ) (f : Front) (go : List ℕ → Listed) → k ≡ 4096 → bad_after k (listed_on f go) ≡ true
after_full k none go e = refl
after_full k (item name rest) go e = by (go rest)
  where
    by : (l : Listed) → bad_after k (before name l) ≡ true
    by bad = refl
    by (names ns) = lt-ltb 4096 (k + suc (length ns)) (omega arith)

-- ---- by turns

pub record Reading (list left : List ℕ) (count : ℕ) : Type 0 where
  pub at_most : count ≤ 4096
  pub left_is : bad_after count (listed_all left) ≡ is_bad (listed list)

pub reading_start : (list : List ℕ) → Reading list list 0
reading_start list = record { at_most = omega arith; left_is = after_none (listed_all list) ∙ sym (ap is_bad (listed_few list)) }

module _ (list left : List ℕ) (count : ℕ) (r : Reading list left count) where
  module _ (n x : ℕ) (rest : List ℕ) (left_is : left ≡ x ∷ rest) (same : n ≡ x) where
    left_first : bad_after count (listed_on (front_body n rest) listed_all) ≡ is_bad (listed list)
    left_first = rw same (sym (ap (bad_after count) (ap listed_all left_is ∙ all_first x rest)) ∙ r.left_is)

    pub reading_full : count ≡ 4096 → is_bad (listed list) ≡ true
    reading_full e = sym left_first ∙ after_full count (front_body n rest) listed_all e

    -- the name is cut short
    pub reading_cut : length rest < n → is_bad (listed list) ≡ true
    reading_cut short = sym (rw (body_short n rest short) at left_first)

    module _ (inside : n ≤ length rest) (name : List ℕ) (name_is : name ≡ take n rest) where
      pub reading_bad : is_name name ≡ false → is_bad (listed list) ≡ true
      reading_bad e = sym (rw (body_bad n rest inside (rw name_is at e)) at left_first)

      pub reading_turn : (count ≡ 4096 → ⊥) → is_name name ≡ true → (others : List ℕ) → others ≡ drop n rest → Reading list others (count + 1)
      reading_turn room e others others_are = record {
        at_most = omega (arith, r.at_most, room);
        left_is =
            ap (λ (l : List ℕ). bad_after (count + 1) (listed_all l)) others_are
            ∙ sym (after_before count (take n rest) (listed_all (drop n rest))) ∙ (rw (body_name n rest inside (rw name_is at e)) at left_first);
      }

  pub reading_end : length left ≡ 0 → is_bad (listed list) ≡ false
  reading_end e = sym r.left_is ∙ by left e
    where
      by : (l : List ℕ) → length l ≡ 0 → bad_after count (listed_all l) ≡ false
      by [] e = ap (bad_after count) all_none ∙ le-ltb 4096 (count + 0) (omega (arith, r.at_most))
      by (x ∷ l) e = absurd (omega arith)
