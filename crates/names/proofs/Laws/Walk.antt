-- A walk over the records of some bytes, one a turn.
-- Assumes nothing.
use mathlib.Core.Path.{◌≡◌, refl, sym, ap, ◌∙◌}
use mathlib.Core.Bool.{Bool, true, false}
use mathlib.Core.List.{List, [], ◌∷◌, ◌++◌, append_assoc, append-nil}
use mathlib.Core.Logic.{⊎_elim}
use Prim.Native.Nat.{ℕ, zero, suc, ◌+◌, ◌-◌, ◌≤◌}
use native.Mathlib.Omega.{arith}
use lib.ListN.{length, get_or, take, drop, length-append, length-drop}
use lib.Seq.{take-append_seam, take_at, drop-drop}
use Rattle.std.specs.Prelude.{Some, None}
use Rattle.common.proofs.Laws.Lists.{split, get_d_front, get_d_behind}
use Rattle.names.specs.Records.{is_name, front, front_length, names_of, record_bytes, records_bytes}
use Rattle.names.proofs.Laws.Front.{front_item, item_long, none_exactly, found}
use Rattle.names.proofs.Laws.Names.{names_none, names_item}

-- ---- the bytes of records

pub records_none : (m : Bool) → records_bytes m [] ≡ []
unfolding records_bytes
records_none m = refl

pub records_first : (m : Bool) (name : List ℕ) (names : List (List ℕ)) → records_bytes m (name ∷ names) ≡ record_bytes m name ++ records_bytes m names
unfolding records_bytes
records_first m name names = refl

pub records_one : (m : Bool) (name : List ℕ) → records_bytes m (name ∷ []) ≡ record_bytes m name
unfolding records_bytes
records_one m name = append-nil (record_bytes m name)

pub records_append : (m : Bool) (xs ys : List (List ℕ)) → records_bytes m (xs ++ ys) ≡ records_bytes m xs ++ records_bytes m ys
unfolding records_bytes
records_append m [] ys = refl
records_append m (x ∷ xs) ys =
    ap (λ (l : List ℕ). record_bytes m x ++ l) (records_append m xs ys) ∙ sym (append_assoc (record_bytes m x) (records_bytes m xs) (records_bytes m ys))

-- with marks or without they are as long
pub records_long : (m n : Bool) (names : List (List ℕ)) → length (records_bytes m names) ≡ length (records_bytes n names)
unfolding records_bytes
records_long m n [] = refl
records_long m n (name ∷ names) =
    omega (arith, length-append (record_bytes m name) (records_bytes m names), length-append (record_bytes n name) (records_bytes n names), records_long m n names)

-- and they differ in the marks alone
record_agrees : (name : List ℕ) (k : ℕ) → (get_or (record_bytes false name) k 0 ≡ 0xff → ⊥) → get_or (record_bytes true name) k 0 ≡ get_or (record_bytes false name) k 0
record_agrees name zero used = absurd (used refl)
record_agrees name (suc zero) used = absurd (used refl)
record_agrees name (suc (suc k)) used = refl

pub records_agree : (names : List (List ℕ)) (k : ℕ) → (get_or (records_bytes false names) k 0 ≡ 0xff → ⊥)
    → get_or (records_bytes true names) k 0 ≡ get_or (records_bytes false names) k 0
unfolding records_bytes
records_agree [] k used = refl
records_agree (name ∷ names) k used =
    ⊎_elim
    (λ h. let with_mark = get_d_front (record_bytes true name) (records_bytes true names) k (omega arith) in
    let without = get_d_front (record_bytes false name) (records_bytes false names) k (omega arith) in
    with_mark ∙ record_agrees name k (λ e. used (without ∙ e)) ∙ sym without)
    (λ h. let with_mark = get_d_behind (record_bytes true name) (records_bytes true names) k (omega arith) in
    let without = get_d_behind (record_bytes false name) (records_bytes false names) k (omega arith) in
    with_mark ∙ records_agree names (k - length (record_bytes false name)) (λ e. used (without ∙ e)) ∙ sym without)
    (split k (3 + length name))

-- ---- the walk

-- these are passed: the names are they and those from the place on
pub record Passed (bytes : List ℕ) (at : ℕ) (done : List (List ℕ)) : Type 0 where
  pub inside : at ≤ length bytes
  pub at_is : at ≡ length (records_bytes true done)
  pub names_are : names_of bytes ≡ done ++ names_of (drop at bytes)

pub passed_start : (bytes : List ℕ) → Passed bytes 0 []
passed_start bytes = record { inside = omega arith; at_is = ap length (sym (records_none true)); names_are = refl }

-- one record more
pub record Step (bytes : List ℕ) (at n : ℕ) (done : List (List ℕ)) : Type 0 where
  pub name : List ℕ
  pub good : is_name name ≡ true
  pub size : n ≡ 3 + length name
  pub fits : at + n ≤ length bytes
  pub name_is : take (at + n - (at + 3)) (drop (at + 3) bytes) ≡ name
  pub record_is : take (3 + length name) (drop at bytes) ≡ record_bytes true name
  pub next_is : names_of (drop at bytes) ≡ name ∷ names_of (drop (at + n) bytes)
  pub passed : Passed bytes (at + n) (done ++ (name ∷ []))

pub passed_turn : (bytes : List ℕ) (at n : ℕ) (done : List (List ℕ)) → Passed bytes at done → Some n ≡ front_length (front (drop at bytes))
    → Step bytes at n done
passed_turn bytes at n done p some =
    let f = found (drop at bytes) n some in
    let i = front_item (drop at bytes) f.is in
    let l = item_long (drop at bytes) f.is in
    let next : drop (at + n) bytes ≡ f.rest = sym (drop-drop n at bytes) ∙ ap (λ (k : ℕ). drop k (drop at bytes)) f.size ∙ sym l.rest_is in
    let name_there : drop (at + 3) bytes ≡ f.name ++ f.rest = sym (drop-drop 3 at bytes) ∙ ap (drop 3) i.is in
    let count : at + n - (at + 3) ≡ length f.name = omega (arith, f.size) in
    let onward : names_of (drop at bytes) ≡ f.name ∷ names_of (drop (at + n) bytes) = names_item (drop at bytes) f.is ∙ ap (λ (l : List ℕ). f.name ∷ names_of l) (sym next) in
    record {
      name = f.name;
      good = i.good;
      size = f.size;
      fits = omega (arith, f.size, l.in_all, length-drop at bytes, p.inside);
      name_is = rw (count, name_there) (take-append_seam f.name f.rest);
      record_is = ap (take (3 + length f.name)) i.is ∙ take_at (record_bytes true f.name) f.rest (3 + length f.name) (omega arith);
      next_is = onward;
      passed = record {
        inside = omega (arith, f.size, l.in_all, length-drop at bytes, p.inside);
        at_is = omega (arith, f.size, p.at_is, ap length (records_append true done (f.name ∷ [])), length-append (records_bytes true done) (records_bytes true (f.name ∷ [])), ap length (records_one true f.name));
        names_are = p.names_are ∙ ap (λ (l : List (List ℕ)). done ++ l) onward ∙ sym (append_assoc done (f.name ∷ []) (names_of (drop (at + n) bytes)));
      };
    }

-- no record more
pub passed_end : (bytes : List ℕ) (at : ℕ) (done : List (List ℕ)) → Passed bytes at done → None ≡ front_length (front (drop at bytes)) → names_of bytes ≡ done
passed_end bytes at done p none_left =
    p.names_are ∙ ap (λ (l : List (List ℕ)). done ++ l) (names_none (drop at bytes) ((none_exactly (drop at bytes)).when (sym none_left))) ∙ append-nil done
