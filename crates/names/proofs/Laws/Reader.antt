-- What the reader of a record finds: the laws of `all_name`, `is_name` and `front` by the tests of the code.
-- Assumes nothing.
use mathlib.Core.Path.{◌≡◌, refl, sym, ap, ◌∙◌}
use mathlib.Core.Bool.{Bool, true, false, cond, ◌&&◌, ◌||◌, and-false, and-true}
use mathlib.Core.List.{List, [], ◌∷◌}
use Prim.Native.Nat.{ℕ, ◌+◌, ◌-◌, ◌≤◌, ◌<◌}
use native.Mathlib.Omega.{arith}
use lib.Dec.{eqb, ltb}
use lib.ListN.{length, get_or, take, drop, length-drop}
use borrow.Author.Tests.{ltb-true, ltb-false, le-leb, lt-leb, eq-eqb, ne_eqb}
use Rattle.common.proofs.Laws.Booleans.{or_none_l, or_none_r, or_imp}
use Rattle.common.proofs.Laws.Choice.{cases}
use Rattle.std.specs.Prelude.{None}
use Rattle.std.specs.Bool.{then_some}
use Rattle.std.specs.List.{slice_range}
use Rattle.std.proofs.lemmas.List.{take_all}
use Rattle.names.specs.Records.{is_name_byte, all_name, is_name, none, item, front_body, front, front_length}
use Rattle.names.proofs.Laws.Front.{body_short}

-- ---- the bytes of a name

-- two a turn
all_two : (bytes : List ℕ) → 2 ≤ length bytes
    → all_name bytes ≡ (is_name_byte (get_or bytes 0 0) && (is_name_byte (get_or bytes 1 0) && all_name (take (length bytes - 2) (drop 2 bytes))))
unfolding all_name
all_two [] h = absurd (omega arith)
all_two (x ∷ []) h = absurd (omega arith)
all_two (x ∷ y ∷ rest) h = rw (take_all (length (x ∷ y ∷ rest) - 2) rest (omega arith)) refl

module _ (bytes : List ℕ) (h : 2 ≤ length bytes) where
  pub all_first_bad : false ≡ is_name_byte (get_or bytes 0 0) → false ≡ all_name bytes
  all_first_bad first = rw (all_two bytes h, sym first) refl

  module _ (first : true ≡ is_name_byte (get_or bytes 0 0)) where
    pub all_second_bad : false ≡ is_name_byte (get_or bytes 1 0) → false ≡ all_name bytes
    all_second_bad second = rw (all_two bytes h, sym first, sym second) refl

    pub all_both : true ≡ is_name_byte (get_or bytes 1 0) → all_name (take (length bytes - 2) (drop 2 bytes)) ≡ all_name bytes
    all_both second = rw (all_two bytes h, sym first, sym second) refl

-- and then one, or none
pub all_one : (bytes : List ℕ) → length bytes ≡ 1 → all_name bytes ≡ is_name_byte (get_or bytes 0 0)
unfolding all_name
all_one [] h = absurd (omega arith)
all_one (x ∷ []) h = and-true (is_name_byte x)
all_one (x ∷ y ∷ rest) h = absurd (omega arith)

pub all_none : (bytes : List ℕ) → length bytes ≡ 0 → all_name bytes ≡ true
unfolding all_name
all_none [] h = refl
all_none (x ∷ bytes) h = absurd (omega arith)

-- ---- a name

module _ (bytes : List ℕ) where
  pub name_sized : ltb (length bytes) 1 || ltb 32 (length bytes) ≡ false → is_name bytes ≡ all_name bytes
  unfolding is_name
  name_sized h =
      let least : 1 ≤ length bytes = ltb-false (length bytes) 1 (or_none_l (ltb (length bytes) 1) (ltb 32 (length bytes)) h) in
      let most : length bytes ≤ 32 = ltb-false 32 (length bytes) (or_none_r (ltb (length bytes) 1) (ltb 32 (length bytes)) h) in
      rw (le-leb 1 (length bytes) least, le-leb (length bytes) 32 most) refl

  pub name_not_sized : ltb (length bytes) 1 || ltb 32 (length bytes) ≡ true → is_name bytes ≡ false
  unfolding is_name
  name_not_sized h =
      cases (ltb (length bytes) 1) (λ empty. rw (lt-leb 1 (length bytes) (ltb-true (length bytes) 1 empty)) refl)
      (λ some. let over = ltb-true 32 (length bytes) (or_imp (ltb (length bytes) 1) (ltb 32 (length bytes)) h some) in
      rw (le-leb 1 (length bytes) (ltb-false (length bytes) 1 some), lt-leb (length bytes) 32 over) refl)

-- ---- a record, from its front

-- behind a length: the name, or none
body_length : (n : ℕ) (rest : List ℕ) → n ≤ length rest → front_length (front_body n rest) ≡ then_some (is_name (take n rest)) (3 + length (take n rest))
unfolding front_body
body_length n rest h = rw (le-leb n (length rest) h) (by (is_name (take n rest)))
  where
    by : (t : Bool) → front_length (cond t (item (take n rest) (drop n rest)) none) ≡ then_some t (3 + length (take n rest))
    by true = refl
    by false = refl

front_short : (bytes : List ℕ) → length bytes < 3 → front bytes ≡ none
unfolding front
front_short [] h = refl
front_short (a ∷ []) h = refl
front_short (a ∷ b ∷ []) h = refl
front_short (a ∷ b ∷ n ∷ rest) h = absurd (omega arith)

pub front_unmarked : (bytes : List ℕ) → (get_or bytes 0 0 ≡ 0x4e → ⊥) → front bytes ≡ none
unfolding front
front_unmarked [] h = refl
front_unmarked (a ∷ []) h = refl
front_unmarked (a ∷ b ∷ []) h = refl
front_unmarked (a ∷ b ∷ n ∷ rest) h = rw (ne_eqb a 0x4e h) refl

front_half_marked : (bytes : List ℕ) → (get_or bytes 1 0 ≡ 0x52 → ⊥) → front bytes ≡ none
unfolding front
front_half_marked [] h = refl
front_half_marked (a ∷ []) h = refl
front_half_marked (a ∷ b ∷ []) h = refl
front_half_marked (a ∷ b ∷ n ∷ rest) h = rw (ne_eqb b 0x52 h, and-false (eqb a 0x4e)) refl

front_marked : (bytes : List ℕ) → 3 ≤ length bytes → get_or bytes 0 0 ≡ 0x4e → get_or bytes 1 0 ≡ 0x52
    → front bytes ≡ front_body (get_or bytes 2 0) (drop 3 bytes)
unfolding front
front_marked [] h first second = absurd (omega arith)
front_marked (a ∷ []) h first second = absurd (omega arith)
front_marked (a ∷ b ∷ []) h first second = absurd (omega arith)
front_marked (a ∷ b ∷ n ∷ rest) h first second = rw (eq-eqb a 0x4e first, eq-eqb b 0x52 second) refl

-- ---- and from a place on

module _ (bytes : List ℕ) (at : ℕ) where
  -- as a slice gives it
  abbrev part : List ℕ
  part = take (length bytes - at) (drop at bytes)

  part_is : part ≡ drop at bytes
  part_is = take_all (length bytes - at) (drop at bytes) (omega (arith, length-drop at bytes))

  none_read : front part ≡ none → None ≡ front_length (front (drop at bytes))
  none_read e = sym (ap front_length (ap front (sym part_is) ∙ e))

  pub reads_short : length part < 3 → None ≡ front_length (front (drop at bytes))
  reads_short h = none_read (front_short part h)

  pub reads_unmarked : (get_or part 0 0 ≡ 0x4e → ⊥) → None ≡ front_length (front (drop at bytes))
  reads_unmarked h = none_read (front_unmarked part h)

  pub reads_half_marked : (get_or part 1 0 ≡ 0x52 → ⊥) → None ≡ front_length (front (drop at bytes))
  reads_half_marked h = none_read (front_half_marked part h)

  -- marked, and then what stands behind the length
  module _ (there : 3 ≤ length part) (first : get_or part 0 0 ≡ 0x4e) (second : get_or part 1 0 ≡ 0x52) (n : ℕ) (n_is : n ≡ get_or part 2 0) where
    abbrev rest : List ℕ
    rest = take (length part - 3) (drop 3 part)

    body_read : front_length (front_body n rest) ≡ front_length (front (drop at bytes))
    body_read =
        ap front_length (rw (n_is, take_all (length part - 3) (drop 3 part) (omega (arith, length-drop 3 part))) (sym (front_marked part there first second)) ∙ ap front part_is)

    pub reads_cut : length rest < n → None ≡ front_length (front (drop at bytes))
    reads_cut h = sym (ap front_length (body_short n rest h)) ∙ body_read

    pub reads_name : (name : List ℕ) → name ≡ slice_range rest 0 n → n ≤ length rest
        → then_some (is_name name) (3 + length name) ≡ front_length (front (drop at bytes))
    reads_name name e inside = let whole : n - 0 ≡ n = omega arith in rw (e, whole) (sym (body_length n rest inside)) ∙ body_read
