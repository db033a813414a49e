-- The laws of `position_in`: a name's position is that of its first place, and where it has none, how many names there are.
-- Assumes nothing.
use mathlib.Core.Path.{◌≡◌, refl, sym, ◌∙◌}
use mathlib.Core.Bool.{true, false, cond, false≢true}
use mathlib.Core.List.{List, [], ◌∷◌}
use Prim.Native.Nat.{ℕ, suc, ◌+◌, ◌≤◌, ◌<◌}
use native.Mathlib.Omega.{arith}
use lib.Dec.{eqb, ltb, leb-suc-suc}
use lib.ListN.{length, get_or}
use lib.Pointwise.{pointwise}
use borrow.Author.Tests.{lt-ltb, ltb-true}
use Rattle.std.specs.Prelude.{Some, None}
use Rattle.std.specs.List.{position_or_len}
use Rattle.std.proofs.lemmas.List.Recursion.{is_position_or_len}
use Rattle.common.proofs.Laws.Booleans.{or_imp}
use Rattle.common.proofs.Laws.Choice.{cases}
use Rattle.names.specs.Search.{same_bytes, is_on}
use Rattle.names.proofs.Laws.Search.{same_pointwise, same_exactly, on_none, on_first}
use Rattle.namelist.specs.Listed.{position_in, found_in}

pub position_none : (name : List ℕ) → position_in name [] ≡ 0
unfolding position_in
position_none name = refl

module _ (name first : List ℕ) (others : List (List ℕ)) where
  pub position_first : same_bytes name first ≡ true → position_in name (first ∷ others) ≡ 0
  unfolding position_in
  position_first e = rw e refl

  pub position_later : same_bytes name first ≡ false → position_in name (first ∷ others) ≡ suc (position_in name others)
  unfolding position_in
  position_later e = rw e refl

position_turn : (name first : List ℕ) (others : List (List ℕ)) → position_in name (first ∷ others) ≡ cond (pointwise eqb name first) 0 (1 + position_in name others)
unfolding position_in
position_turn name first others = let e : 1 + position_in name others ≡ suc (position_in name others) = omega arith in rw (e, same_pointwise name first) refl

-- a name is one of them exactly where its position is one of theirs
pub on_position : (name : List ℕ) (ns : List (List ℕ)) → ltb (position_in name ns) (length ns) ≡ is_on name ns
on_position name [] = rw (position_none name, on_none name) refl
on_position name (first ∷ others) =
    cases (same_bytes name first)
    (λ t. rw (position_first name first others t, on_first name first others, t) (lt-ltb 0 (suc (length others)) (omega arith)))
    (λ f. rw (position_later name first others f, on_first name first others, f)
    (leb-suc-suc (suc (position_in name others)) (length others) ∙ on_position name others))

pub position_at : (name : List ℕ) (ns : List (List ℕ)) → is_on name ns ≡ true → get_or ns (position_in name ns) [] ≡ name
position_at name [] e = absurd (false≢true (sym (on_none name) ∙ e))
position_at name (first ∷ others) e =
    cases (same_bytes name first)
    (λ t. rw (position_first name first others t) (sym ((same_exactly name first).when t)))
    (λ f. rw (position_later name first others f)
    (position_at name others (or_imp (same_bytes name first) (is_on name others) (sym (on_first name first others) ∙ e) f)))

pub position_most : (name : List ℕ) (ns : List (List ℕ)) → position_in name ns ≤ length ns
position_most name [] = omega (arith, position_none name)
position_most name (first ∷ others) =
    cases (same_bytes name first)
    (λ t. omega (arith, position_first name first others t))
    (λ f. omega (arith, position_later name first others f, position_most name others))

-- as `position` of an iterator tells it
pub found_position : (name : List ℕ) (ns : List (List ℕ))
    → (let at = position_or_len (pointwise eqb name) ns in cond (ltb at (length ns)) (Some at) None) ≡ found_in name ns
found_position name ns =
    rw (sym (is_position_or_len (position_in name) (pointwise eqb name) (position_none name) (position_turn name) ns), on_position name ns) refl

-- one that is found has its place, and it is on the list; else it is not
pub record Found (name : List ℕ) (ns : List (List ℕ)) (k : ℕ) : Type 0 where
  pub on : is_on name ns ≡ true
  pub position : k ≡ position_in name ns
  pub inside : k < length ns

pub found_some : (name : List ℕ) (ns : List (List ℕ)) (k : ℕ) → Some k ≡ found_in name ns → Found name ns k
found_some name ns k e =
    cases (is_on name ns)
    (λ t. let same : k ≡ position_in name ns = cc (rw t at e) in
    record { on = t; position = same; inside = omega (arith, same, ltb-true (position_in name ns) (length ns) (on_position name ns ∙ t)) })
    (λ f. cc (rw f at e))

pub found_none : (name : List ℕ) (ns : List (List ℕ)) → None ≡ found_in name ns → is_on name ns ≡ false
found_none name ns e = cases (is_on name ns) (λ t. cc (rw t at e)) (λ f. f)
