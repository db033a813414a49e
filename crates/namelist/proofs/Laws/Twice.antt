-- The laws of `is_twice`: one name more at the end, and no name stands twice exactly where names at two places differ.
-- Assumes nothing.
use mathlib.Core.Path.{◌≡◌, refl, sym, ap, ◌∙◌}
use mathlib.Core.Bool.{Bool, true, false, false≢true, true≢false, ◌||◌}
use mathlib.Core.List.{List, [], ◌∷◌, ◌++◌}
use Prim.Native.Nat.{ℕ, zero, suc, ◌<◌}
use native.Mathlib.Omega.{arith}
use lib.ListN.{length, get_or}
use Rattle.common.specs.Refusals.{Exactly}
use Rattle.common.proofs.Laws.Booleans.{or_imp, or_none_l, or_none_r, or_none_i, or_false, imp_or}
use Rattle.common.proofs.Laws.Choice.{cases}
use Rattle.names.specs.Search.{same_bytes, is_on}
use Rattle.names.proofs.Laws.Search.{same_sym, on_none, on_first, on_append, on_exactly}
use Rattle.namelist.specs.Twice.{is_twice}

pub twice_none : is_twice [] ≡ false
unfolding is_twice
twice_none = refl

pub twice_first : (name : List ℕ) (others : List (List ℕ)) → is_twice (name ∷ others) ≡ (is_on name others || is_twice others)
unfolding is_twice
twice_first name others = refl

-- ---- names behind others

-- a name that stands twice does so whatever comes behind
pub twice_more : (xs ys : List (List ℕ)) → is_twice xs ≡ true → is_twice (xs ++ ys) ≡ true
twice_more [] ys e = absurd (false≢true (sym twice_none ∙ e))
twice_more (x ∷ xs) ys e =
    rw (twice_first x (xs ++ ys), on_append x xs ys)
    (cases (is_on x xs)
    (λ t. rw t refl)
    (λ f. imp_or (is_on x xs || is_on x ys) (is_twice (xs ++ ys))
    (λ _. twice_more xs ys (or_imp (is_on x xs) (is_twice xs) (sym (twice_first x xs) ∙ e) f))))

swap_middle : (a b c d : Bool) → (a || b) || (c || d) ≡ (a || c) || (b || d)
swap_middle true b c d = refl
swap_middle false true true d = refl
swap_middle false true false d = refl
swap_middle false false c d = refl

-- one more: it is the second of its kind, or it is not
pub twice_last : (xs : List (List ℕ)) (name : List ℕ) → is_twice (xs ++ (name ∷ [])) ≡ (is_twice xs || is_on name xs)
twice_last [] name = rw (twice_first name [], on_none name, twice_none) refl
twice_last (x ∷ xs) name =
    let alone : is_on x (name ∷ []) ≡ same_bytes name x = on_first x name [] ∙ rw (on_none x) (or_false (same_bytes x name)) ∙ same_sym x name in
    rw (twice_first x (xs ++ (name ∷ [])), on_append x xs (name ∷ []), alone, twice_last xs name, twice_first x xs, on_first name x xs)
    (swap_middle (is_on x xs) (same_bytes name x) (is_twice xs) (is_on name xs))

-- ---- each stands once

abbrev pub Distinct : List (List ℕ) → Type 0
Distinct ns = (i j : ℕ) → i < length ns → j < length ns → get_or ns i [] ≡ get_or ns j [] → i ≡ j

-- the first is none of the others
not_again : (name : List ℕ) (others : List (List ℕ)) → is_on name others ≡ false → (i : ℕ) → i < length others → get_or others i [] ≡ name → ⊥
not_again name others f i h e = true≢false (sym ((on_exactly name others).only_when record { index = i; inside = h; there = e }) ∙ f)

once_distinct : (ns : List (List ℕ)) → is_twice ns ≡ false → Distinct ns
once_distinct [] once i j h l e = absurd (omega arith)
once_distinct (name ∷ others) once i j h l e =
    let neither : is_on name others || is_twice others ≡ false = sym (twice_first name others) ∙ once in
    at (or_none_l (is_on name others) (is_twice others) neither) (once_distinct others (or_none_r (is_on name others) (is_twice others) neither)) i j h l e
  where
    at : is_on name others ≡ false → Distinct others → Distinct (name ∷ others)
    at new behind zero zero h l e = refl
    at new behind zero (suc j) h l e = absurd (not_again name others new j (omega arith) (sym e))
    at new behind (suc i) zero h l e = absurd (not_again name others new i (omega arith) e)
    at new behind (suc i) (suc j) h l e = ap suc (behind i j (omega arith) (omega arith) e)

distinct_once : (ns : List (List ℕ)) → Distinct ns → is_twice ns ≡ false
distinct_once [] d = twice_none
distinct_once (name ∷ others) d =
    twice_first name others
    ∙ or_none_i first (distinct_once others (λ i j h l e. let s : suc i ≡ suc j = d (suc i) (suc j) (omega arith) (omega arith) e in omega arith))
  where
    first : is_on name others ≡ false
    first =
        cases (is_on name others)
        (λ t. let s = (on_exactly name others).when t in
        let clash : 0 ≡ suc s.index = d 0 (suc s.index) (omega arith) (omega (arith, s.inside)) (sym s.there) in
        absurd (omega arith))
        (λ f. f)

pub twice_exactly : (ns : List (List ℕ)) → Exactly (is_twice ns ≡ false) (Distinct ns)
twice_exactly ns = record { when = once_distinct ns; only_when = distinct_once ns }
