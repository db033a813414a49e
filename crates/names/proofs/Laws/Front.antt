-- The laws of `front`: a whole good record is read whatever is behind it, and nothing else is.
-- Assumes nothing.
use mathlib.Core.Path.{◌≡◌, refl, sym, ap, ◌∙◌}
use mathlib.Core.Bool.{true, false, cond, ◌&&◌}
use mathlib.Core.List.{List, [], ◌∷◌, ◌++◌}
use Prim.Native.Nat.{ℕ, zero, suc, ◌+◌, ◌≤◌, ◌<◌}
use native.Mathlib.Omega.{arith}
use lib.Dec.{eqb, leb}
use lib.ListN.{length, get_or, take, drop, length-append, take-append-drop}
use lib.Seq.{take-append_seam, drop-append_seam, length-take-le, drop_at}
use borrow.Author.Tests.{eqb-true, leb-true, le-leb, lt-leb}
use Rattle.std.specs.Prelude.{Some, None}
use Rattle.common.specs.Refusals.{Exactly}
use Rattle.common.proofs.Laws.Booleans.{and_l, and_r, and_i}
use Rattle.common.proofs.Laws.Choice.{cond_elim}
use Rattle.names.specs.Records.{is_name_byte, is_name, all_name, Front, none, item, front_body, front, front_length, record_bytes}

-- ---- a name's length

module _ (name : List ℕ) (good : is_name name ≡ true) where
  pub name_least : 1 ≤ length name
  unfolding is_name
  name_least = leb-true 1 (length name) (and_l (leb 1 (length name)) (leb (length name) 32 && all_name name) good)

  pub name_most : length name ≤ 32
  unfolding is_name
  name_most =
      leb-true (length name) 32 (and_l (leb (length name) 32) (all_name name) (and_r (leb 1 (length name)) (leb (length name) 32 && all_name name) good))

  pub name_all : all_name name ≡ true
  unfolding is_name
  name_all = and_r (leb (length name) 32) (all_name name) (and_r (leb 1 (length name)) (leb (length name) 32 && all_name name) good)

-- made of such
pub name_made : (name : List ℕ) → 1 ≤ length name → length name ≤ 32 → all_name name ≡ true → is_name name ≡ true
unfolding is_name
name_made name least most all = and_i (le-leb 1 (length name) least) (and_i (le-leb (length name) 32 most) all)

-- each byte of it
pub all_exactly : (name : List ℕ) → Exactly (all_name name ≡ true) ((i : ℕ) → i < length name → is_name_byte (get_or name i 0) ≡ true)
unfolding all_name
all_exactly [] = record { when = λ e i h. absurd (omega arith); only_when = λ all. refl }
all_exactly (x ∷ xs) =
    let others = all_exactly xs in
    record {
      when = λ e. at (and_l (is_name_byte x) (all_name xs) e) (others.when (and_r (is_name_byte x) (all_name xs) e));
      only_when = λ all. and_i (all 0 (omega arith)) (others.only_when (λ i h. all (suc i) (omega arith)));
    }
  where
    at : is_name_byte x ≡ true → ((i : ℕ) → i < length xs → is_name_byte (get_or xs i 0) ≡ true) → (i : ℕ) → i < length (x ∷ xs) → is_name_byte (get_or (x ∷ xs) i 0) ≡ true
    at first behind zero h = first
    at first behind (suc i) h = behind i (omega arith)

-- ---- a record that stands there is read

pub front_record : (name rest : List ℕ) → is_name name ≡ true → front (record_bytes true name ++ rest) ≡ item name rest
unfolding front front_body
front_record name rest good =
    rw (take-append_seam name rest, drop-append_seam name rest, good, le-leb (length name) (length (name ++ rest)) (omega (arith, length-append name rest))) refl

-- a record whose length and name stand is read if its mark is whole, and else there is none
pub front_torn : (a b : ℕ) (name rest : List ℕ) → is_name name ≡ true
    → front (a ∷ b ∷ length name ∷ (name ++ rest)) ≡ cond (eqb a 0x4e && eqb b 0x52) (item name rest) none
unfolding front front_body
front_torn a b name rest good =
    rw (take-append_seam name rest, drop-append_seam name rest, good, le-leb (length name) (length (name ++ rest)) (omega (arith, length-append name rest))) refl

-- no bytes are none
pub front_nil : front [] ≡ none
unfolding front
front_nil = refl

-- an erased mark is none
pub front_erased : (second : ℕ) (rest : List ℕ) → front (0xff ∷ second ∷ rest) ≡ none
unfolding front
front_erased second [] = refl
front_erased second (n ∷ rest) = refl

-- ---- what is read stands there

pub record Item (bytes name rest : List ℕ) : Type 0 where
  pub good : is_name name ≡ true
  pub is : bytes ≡ record_bytes true name ++ rest

-- what is known of whatever stands there
abbrev Seen : List ℕ → Front → Type 0
Seen bytes none = Unit {0}
Seen bytes (item name rest) = Item bytes name rest

body_seen : (n : ℕ) (rest : List ℕ) → Seen (0x4e ∷ 0x52 ∷ n ∷ rest) (front_body n rest)
unfolding front_body
body_seen n rest =
    cond_elim (Seen (0x4e ∷ 0x52 ∷ n ∷ rest)) (leb n (length rest) && is_name (take n rest))
    (λ t. let long : length (take n rest) ≡ n = length-take-le n rest (leb-true n (length rest) (and_l (leb n (length rest)) (is_name (take n rest)) t)) in
    record {
      good = and_r (leb n (length rest)) (is_name (take n rest)) t;
      is = rw (long, take-append-drop n rest) refl;
    })
    (λ _. tt)

front_seen : (bytes : List ℕ) → Seen bytes (front bytes)
unfolding front
front_seen [] = tt
front_seen (a ∷ []) = tt
front_seen (a ∷ b ∷ []) = tt
front_seen (a ∷ b ∷ n ∷ rest) =
    cond_elim (Seen (a ∷ b ∷ n ∷ rest)) (eqb a 0x4e && eqb b 0x52)
    (λ t.
    let first : a ≡ 0x4e = eqb-true a 0x4e (and_l (eqb a 0x4e) (eqb b 0x52) t) in
    let second : b ≡ 0x52 = eqb-true b 0x52 (and_r (eqb a 0x4e) (eqb b 0x52) t) in
    rw (first, second) (body_seen n rest))
    (λ _. tt)

pub front_item : (bytes : List ℕ) {name rest : List ℕ} → front bytes ≡ item name rest → Item bytes name rest
front_item bytes e = rw e at (front_seen bytes)

-- "a whole good record": exactly then
pub front_exactly : (bytes name rest : List ℕ) → Exactly (front bytes ≡ item name rest) (Item bytes name rest)
front_exactly bytes name rest = record {
  when = front_item bytes;
  only_when = λ i. ap front i.is ∙ front_record name rest i.good;
}

-- ---- behind a length

pub record Body (n : ℕ) (bytes name rest : List ℕ) : Type 0 where
  pub good : is_name name ≡ true
  pub long : n ≡ length name
  pub is : bytes ≡ name ++ rest

-- it is what stands behind a record's mark and length
pub body_exactly : (n : ℕ) (bytes name rest : List ℕ) → Exactly (front_body n bytes ≡ item name rest) (Body n bytes name rest)
unfolding front
body_exactly n bytes name rest =
    let marked = front_exactly (0x4e ∷ 0x52 ∷ n ∷ bytes) name rest in
    record {
      when = λ e. let i = marked.when e in record { good = i.good; long = cc i.is; is = cc i.is };
      only_when = λ b. marked.only_when record { good = b.good; is = rw (b.long, b.is) refl };
    }

module _ (n : ℕ) (bytes : List ℕ) where
  pub body_name : n ≤ length bytes → is_name (take n bytes) ≡ true → front_body n bytes ≡ item (take n bytes) (drop n bytes)
  unfolding front_body
  body_name h good = rw (le-leb n (length bytes) h, good) refl

  pub body_short : length bytes < n → front_body n bytes ≡ none
  unfolding front_body
  body_short h = rw (lt-leb n (length bytes) h) refl

  pub body_bad : n ≤ length bytes → is_name (take n bytes) ≡ false → front_body n bytes ≡ none
  unfolding front_body
  body_bad h bad = rw (le-leb n (length bytes) h, bad) refl

-- ---- lengths

pub record Long (bytes name rest : List ℕ) : Type 0 where
  pub in_all : length bytes ≡ 3 + length name + length rest
  pub least : 1 ≤ length name
  pub rest_is : rest ≡ drop (3 + length name) bytes

pub item_long : (bytes : List ℕ) {name rest : List ℕ} → front bytes ≡ item name rest → Long bytes name rest
item_long bytes {name} {rest} e =
    let i = front_item bytes e in
    let headed : length (record_bytes true name) ≡ 3 + length name = omega arith in
    record {
      in_all = omega (arith, ap length i.is, length-append name rest);
      least = name_least name i.good;
      rest_is = rw i.is (sym (drop_at (record_bytes true name) rest (3 + length name) headed));
    }

-- the reader has no length exactly where there is none
pub none_exactly : (bytes : List ℕ) → Exactly (front_length (front bytes) ≡ None) (front bytes ≡ none)
none_exactly bytes = record { when = by (front bytes); only_when = λ e. rw e refl }
  where
    by : (f : Front) → front_length f ≡ None → f ≡ none
    by none h = refl
    by (item name rest) h = cc h

-- and else a record's
pub record Found (bytes : List ℕ) (n : ℕ) : Type 0 where
  pub name : List ℕ
  pub rest : List ℕ
  pub is : front bytes ≡ item name rest
  pub size : n ≡ 3 + length name

pub found : (bytes : List ℕ) (n : ℕ) → Some n ≡ front_length (front bytes) → Found bytes n
found bytes n h = by (front bytes) refl h
  where
    by : (f : Front) → front bytes ≡ f → Some n ≡ front_length f → Found bytes n
    by none e h = cc h
    by (item name rest) e h = record { name = name; rest = rest; is = e; size = cc h }
