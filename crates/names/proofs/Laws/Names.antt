-- The laws of `names_of`: one record after another, read back from their bytes, and nothing else.
-- Assumes nothing.
use mathlib.Core.Path.{◌≡◌, refl, sym, ap, ◌∙◌}
use mathlib.Core.Bool.{true}
use mathlib.Core.List.{List, [], ◌∷◌, ◌++◌, append_assoc, append-nil}
use Prim.Native.Nat.{ℕ, zero, suc, ◌-◌, ◌≤◌, ◌<◌}
use native.Mathlib.Nat.{le_refl}
use native.Mathlib.Omega.{arith}
use lib.ListN.{length, take, drop}
use lib.Seq.{take-length, take_at}
use Rattle.std.specs.Prelude.{Some}
use Rattle.common.proofs.Laws.Turns.{turns_same, by_length}
use Rattle.names.specs.Records.{Front, none, item, front, names_on, names_within, front_length, names_of, record_bytes, records_bytes, AllNames}
use Rattle.names.proofs.Laws.Front.{front_record, front_item, item_long, found}

-- what is behind a record is shorter
pub rest_shorter : (bytes : List ℕ) {name rest : List ℕ} → front bytes ≡ item name rest → length rest < length bytes
rest_shorter bytes e = omega (arith, (item_long bytes e).in_all)

within_on : (n m : ℕ) (bytes : List ℕ) (f : Front) → front bytes ≡ f
    → ((rest : List ℕ) → length rest < length bytes → names_within n rest ≡ names_within m rest)
    → names_on f (names_within n) ≡ names_on f (names_within m)
within_on n m bytes none e go = refl
within_on n m bytes (item name rest) e go = ap (λ (l : List (List ℕ)). name ∷ l) (go rest (rest_shorter bytes e))

within_end : (n : ℕ) → names_within n [] ≡ []
unfolding names_within front
within_end zero = refl
within_end (suc n) = refl

-- where the bytes are at most as many as the turns, more turns read the same
within_same : (n m : ℕ) (bytes : List ℕ) → length bytes ≤ n → length bytes ≤ m → names_within n bytes ≡ names_within m bytes
unfolding names_within
within_same = turns_same names_within (λ n. within_end n ∙ sym (within_end 0)) (λ n m bytes go. within_on n m bytes (front bytes) refl go)

-- ---- one record after another

pub names_none : (bytes : List ℕ) → front bytes ≡ none → names_of bytes ≡ []
unfolding names_of names_within
names_none [] e = refl
names_none (x ∷ bytes) e = rw e refl

pub names_item : (bytes : List ℕ) {name rest : List ℕ} → front bytes ≡ item name rest → names_of bytes ≡ name ∷ names_of rest
unfolding names_of names_within
names_item [] {name} {rest} e = absurd (omega (arith, rest_shorter [] e))
names_item (x ∷ bytes) {name} {rest} e =
    rw e (ap (λ (l : List (List ℕ)). name ∷ l) (within_same (length bytes) (length rest) rest (omega (arith, rest_shorter (x ∷ bytes) e)) (le_refl (length rest))))

-- the first record, by its length, and the names behind it
pub record Next (bytes : List ℕ) (n : ℕ) : Type 0 where
  pub headed : 3 ≤ n
  pub inside : n ≤ length bytes
  pub names_are : names_of bytes ≡ take (n - 3) (drop 3 (take n bytes)) ∷ names_of (drop n bytes)

pub names_next : (bytes : List ℕ) (n : ℕ) → Some n ≡ front_length (front bytes) → Next bytes n
names_next bytes n some =
    let f = found bytes n some in
    let i = front_item bytes f.is in
    let l = item_long bytes f.is in
    let count : n - 3 ≡ length f.name = omega (arith, f.size) in
    let record_is : take n bytes ≡ record_bytes true f.name = ap (take n) i.is ∙ take_at (record_bytes true f.name) f.rest n (omega (arith, f.size)) in
    let first : take (n - 3) (drop 3 (take n bytes)) ≡ f.name = rw (count, record_is) (take-length f.name) in
    let behind : f.rest ≡ drop n bytes = l.rest_is ∙ ap (λ (k : ℕ). drop k bytes) (sym f.size) in
    record {
      headed = omega (arith, f.size);
      inside = omega (arith, f.size, l.in_all);
      names_are = rw first (names_item bytes f.is ∙ ap (λ (l : List ℕ). f.name ∷ names_of l) behind);
    }

-- they are no more than the bytes
pub names_few : (image : List ℕ) → length (names_of image) ≤ length image
names_few = by_length (λ image. length (names_of image) ≤ length image) (λ image behind. on image (front image) refl behind)
  where
    on : (image : List ℕ) (f : Front) → front image ≡ f → ((rest : List ℕ) → length rest < length image → length (names_of rest) ≤ length rest) → length (names_of image) ≤ length image
    on image none e behind = rw (names_none image e) (omega arith)
    on image (item name rest) e behind = rw (names_item image e) (omega (arith, behind rest (rest_shorter image e), rest_shorter image e))

-- ---- their bytes are read back

pub names_append : (names : List (List ℕ)) (rest : List ℕ) → AllNames names → names_of (records_bytes true names ++ rest) ≡ names ++ names_of rest
unfolding records_bytes
names_append [] rest a = refl
names_append (name ∷ names) rest a =
    ap names_of (append_assoc (record_bytes true name) (records_bytes true names) rest)
    ∙ names_item (record_bytes true name ++ (records_bytes true names ++ rest)) (front_record name (records_bytes true names ++ rest) a.0)
    ∙ ap (λ (l : List (List ℕ)). name ∷ l) (names_append names rest a.1)

-- ---- what is read are their bytes

-- an image is the records of its names, then bytes at whose front is none
pub record Split (image : List ℕ) (names : List (List ℕ)) : Type 0 where
  pub good : AllNames names
  pub rest : List ℕ
  pub is : image ≡ records_bytes true names ++ rest
  pub ends : front rest ≡ none

split_none : (image : List ℕ) → front image ≡ none → Split image []
unfolding records_bytes
split_none image e = record { good = tt; rest = image; is = refl; ends = e }

split_item : (image : List ℕ) {name rest : List ℕ} {names : List (List ℕ)} → front image ≡ item name rest → Split rest names → Split image (name ∷ names)
unfolding records_bytes
split_item image {name} {rest} {names} e s =
    let i = front_item image e in
    record {
      good = (i.good, s.good);
      rest = s.rest;
      is = i.is ∙ ap (λ (l : List ℕ). record_bytes true name ++ l) s.is ∙ sym (append_assoc (record_bytes true name) (records_bytes true names) s.rest);
      ends = s.ends;
    }

split_on : (image : List ℕ) (f : Front) → front image ≡ f → ((rest : List ℕ) → length rest < length image → Split rest (names_of rest))
    → Split image (names_of image)
split_on image none e behind = rw (names_none image e) (split_none image e)
split_on image (item name rest) e behind = rw (names_item image e) (split_item image e (behind rest (rest_shorter image e)))

pub names_split : (image : List ℕ) → Split image (names_of image)
names_split = by_length (λ image. Split image (names_of image)) (λ image behind. split_on image (front image) refl behind)

-- and that fixes them
pub names_determined : (image : List ℕ) (names : List (List ℕ)) → Split image names → names ≡ names_of image
names_determined image names s =
    sym (ap names_of s.is ∙ names_append names s.rest s.good ∙ ap (λ (l : List (List ℕ)). names ++ l) (names_none s.rest s.ends) ∙ append-nil names)
