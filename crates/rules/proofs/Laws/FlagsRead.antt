-- Flags by name: the names that are read from a sector and from a list are those that stand there by their places, and no others.
-- Assumes nothing.
use mathlib.Core.Path.{◌≡◌, refl, sym, ap, ◌∙◌}
use mathlib.Core.Bool.{true, false, true≢false}
use mathlib.Core.List.{List, [], ◌∷◌, ◌++◌, append_assoc}
use Prim.Native.Nat.{ℕ, suc, ◌+◌, ◌-◌, ◌≤◌, ◌<◌}
use native.Mathlib.Numerals.{add-one}
use native.Mathlib.Omega.{arith}
use lib.Dec.{leb}
use lib.ListN.{length, get_or, take, drop, length-append, length-drop, take-append-drop}
use lib.Seq.{drop-cons, drop-drop, drop-length, take_at, drop_at, take-append_seam}
use borrow.Author.Tests.{leb-true, le-leb}
use Rattle.common.specs.Refusals.{Exactly}
use Rattle.common.proofs.Laws.Booleans.{and_l, and_r, and_i}
use Rattle.common.proofs.Laws.Choice.{cases}
use Rattle.names.specs.Records.{is_name, AllNames, front, none, names_of, record_bytes, records_bytes}
use Rattle.names.specs.Search.{is_on}
use Rattle.names.proofs.Laws.Front.{name_least, name_most, name_all, name_made, all_exactly}
use Rattle.names.proofs.Laws.Names.{names_split}
use Rattle.names.proofs.Laws.Search.{on_exactly}
use Rattle.names.proofs.Laws.Walk.{records_none, records_first}
use Rattle.namelist.specs.Listed.{listed, names_in, entries_bytes, Listing}
use Rattle.namelist.proofs.Laws.Listed.{entries_none, entries_first, listing_names}
use Rattle.sectors.specs.Images.{sector_part}
use Rattle.sectors.proofs.Laws.Images.{sector_sliced}
use Rattle.rules.specs.FlagsWanted.{sector_bytes, GoodName, Member, NameAt, NamesAre, ListedNames, GoodList, records_length}
use Rattle.rules.proofs.Laws.Salvage.{good_record, good_found}

-- ---- a sector, a name, one of some

pub sector_part_lem : (array : List ℕ) (sector : ℕ) → sector_bytes array sector ≡ sector_part array sector
sector_part_lem array sector =
    let long : 4096 ≡ sector + 4096 - sector = omega arith in ap (λ (n : ℕ). take n (drop sector array)) long ∙ sector_sliced array sector

pub means_name : (name : List ℕ) → Exactly (is_name name ≡ true) (GoodName name)
means_name name = record {
  when = λ good. record {
    least = name_least name good;
    most = name_most name good;
    bytes = λ i h.
        let test = (all_exactly name).when (name_all name good) i h in (
          leb-true 0x20 (get_or name i 0) (and_l (leb 0x20 (get_or name i 0)) (leb (get_or name i 0) 0x7e) test),
          leb-true (get_or name i 0) 0x7e (and_r (leb 0x20 (get_or name i 0)) (leb (get_or name i 0) 0x7e) test),
        );
  };
  only_when = λ g. name_made name g.least g.most ((all_exactly name).only_when
      (λ i h. and_i (le-leb 0x20 (get_or name i 0) (g.bytes i h).0) (le-leb (get_or name i 0) 0x7e (g.bytes i h).1)));
}

pub means_member : (name : List ℕ) (names : List (List ℕ)) → Exactly (is_on name names ≡ true) (Member name names)
means_member name names = record {
  when = λ e. let s = (on_exactly name names).when e in record { index = s.index; inside = s.inside; there = s.there };
  only_when = λ m. (on_exactly name names).only_when record { index = m.index; inside = m.inside; there = m.there };
}

pub means_no_member : (name : List ℕ) (names : List (List ℕ)) → Exactly (is_on name names ≡ false) (Member name names → ⊥)
means_no_member name names = record {
  when = λ f m. true≢false (sym ((means_member name names).only_when m) ∙ f);
  only_when = λ never. cases (is_on name names) (λ t. absurd (never ((means_member name names).when t))) (λ f. f);
}

-- ---- the records of a sector

-- what stands from a place on
names_from : (bytes : List ℕ) (at : ℕ) (names : List (List ℕ)) (rest : List ℕ) → AllNames names → drop at bytes ≡ records_bytes true names ++ rest
    → front rest ≡ none → NamesAre bytes at names
names_from bytes at [] rest good is ends =
    λ n g. good_found bytes at n g (ap front (is ∙ ap (λ (l : List ℕ). l ++ rest) (records_none true)) ∙ ends)
names_from bytes at (name ∷ names) rest good is ends =
    let behind : List ℕ = records_bytes true names ++ rest in
    let opened : drop at bytes ≡ record_bytes true name ++ behind =
    is ∙ ap (λ (l : List ℕ). l ++ rest) (records_first true name names) ∙ append_assoc (record_bytes true name) (records_bytes true names) rest in (
      good_record bytes at name good.0 (ap (take (3 + length name)) opened ∙ take_at (record_bytes true name) behind (3 + length name) (omega arith)),
      (
        ap (take (length name)) (sym (drop-drop 3 at bytes) ∙ ap (drop 3) opened) ∙ take-append_seam name behind,
        names_from bytes (at + (3 + length name)) names rest good.1
            (sym (drop-drop (3 + length name) at bytes) ∙ ap (drop (3 + length name)) opened ∙ drop_at (record_bytes true name) behind (3 + length name) (omega arith)) ends,
      ),
    )

pub names_are : (bytes : List ℕ) → NamesAre bytes 0 (names_of bytes)
names_are bytes = let s = names_split bytes in names_from bytes 0 (names_of bytes) s.rest s.good s.is s.ends

-- of a sector of the array
pub sector_names_are : (array : List ℕ) (sector : ℕ) → NamesAre (sector_bytes array sector) 0 (names_of (sector_part array sector))
sector_names_are array sector = rw (← sector_part_lem array sector) (names_are (sector_bytes array sector))

-- names of one length at one place
same_name : (bytes : List ℕ) (at : ℕ) (name name₂ : List ℕ) → length name ≡ length name₂ → NameAt bytes at name → NameAt bytes at name₂ → name ≡ name₂
same_name bytes at name name₂ long is is₂ = sym is ∙ ap (λ (n : ℕ). take n (drop at bytes)) long ∙ is₂

cons_same : {x y : List ℕ} {xs ys : List (List ℕ)} → x ≡ y → xs ≡ ys → x ∷ xs ≡ y ∷ ys
cons_same p q = cc

pub names_only : (bytes : List ℕ) (at : ℕ) (names names₂ : List (List ℕ)) → NamesAre bytes at names → NamesAre bytes at names₂ → names ≡ names₂
names_only bytes at [] [] p q = refl
names_only bytes at [] (name₂ ∷ names₂) p q = absurd (p (3 + length name₂) q.0)
names_only bytes at (name ∷ names) [] p q = absurd (q (3 + length name) p.0)
names_only bytes at (name ∷ names) (name₂ ∷ names₂) p q =
    let long : length name ≡ length name₂ = omega (arith, p.0.length_is, q.0.length_is) in
    let there : at + (3 + length name₂) ≡ at + (3 + length name) = omega arith in
    cons_same (same_name bytes (at + 3) name name₂ long p.1.0 q.1.0)
    (names_only bytes (at + (3 + length name)) names names₂ p.1.1 (rw there at q.1.1))

-- so they are those that the calls read
pub sector_names_only : (array : List ℕ) (sector : ℕ) (names : List (List ℕ)) → NamesAre (sector_bytes array sector) 0 names
    → names ≡ names_of (sector_part array sector)
sector_names_only array sector names p =
    names_only (sector_bytes array sector) 0 names (names_of (sector_part array sector)) p (sector_names_are array sector)

-- ---- the list

-- what stands from a place on
listed_from : (list : List ℕ) (at : ℕ) (names : List (List ℕ)) → AllNames names → at ≤ length list → drop at list ≡ entries_bytes names → ListedNames list at names
listed_from list at [] good inside is = omega (arith, inside, ap length (is ∙ entries_none), length-drop at list)
listed_from list at (name ∷ names) good inside is =
    let rest : List ℕ = entries_bytes names in
    let opened : drop at list ≡ length name ∷ (name ++ rest) = is ∙ entries_first name names in
    let fits : at + (1 + length name) ≤ length list = omega (arith, inside, ap length opened, length-append name rest, length-drop at list) in
    let split : get_or list at 0 ∷ drop (suc at) list ≡ length name ∷ (name ++ rest) = sym (drop-cons list at 0 (omega (arith, fits))) ∙ opened in
    let long : get_or list at 0 ≡ length name = cc split in (
      (means_name name).when good.0,
      (
        fits,
        (
          long,
          (
            ap (take (length name)) (sym (drop-drop 1 at list) ∙ ap (drop 1) opened) ∙ take-append_seam name rest,
            listed_from list (at + (1 + length name)) names good.1 fits
                (sym (drop-drop (1 + length name) at list) ∙ ap (drop (1 + length name)) opened ∙ drop_at (length name ∷ name) rest (1 + length name) (omega arith)),
          ),
        ),
      ),
    )

listed_good : (list : List ℕ) (at : ℕ) (names : List (List ℕ)) → ListedNames list at names → AllNames names
listed_good list at [] l = tt
listed_good list at (name ∷ names) l = ((means_name name).only_when l.0, listed_good list (at + (1 + length name)) names l.1.1.1.1)

listed_is : (list : List ℕ) (at : ℕ) (names : List (List ℕ)) → ListedNames list at names → drop at list ≡ entries_bytes names
listed_is list at [] l = ap (λ (k : ℕ). drop k list) l ∙ drop-length list ∙ sym entries_none
listed_is list at (name ∷ names) l =
    let inside : at < length list = omega (arith, l.1.0) in
    let next : at + 1 + length name ≡ at + (1 + length name) = omega arith in
    let body : drop (at + 1) list ≡ name ++ entries_bytes names =
    sym (take-append-drop (length name) (drop (at + 1) list))
    ∙ ap (λ (l : List ℕ). l ++ drop (length name) (drop (at + 1) list)) l.1.1.1.0
    ∙ ap (λ (l : List ℕ). name ++ l) (drop-drop (length name) (at + 1) list ∙ ap (λ (k : ℕ). drop k list) next
    ∙ listed_is list (at + (1 + length name)) names l.1.1.1.1) in
    drop-cons list at 0 inside ∙ ap (λ (x : ℕ). x ∷ drop (suc at) list) l.1.1.0
    ∙ ap (λ (l : List ℕ). length name ∷ l) (ap (λ (k : ℕ). drop k list) (sym (add-one at)) ∙ body) ∙ sym (entries_first name names)

pub list_exactly : (list : List ℕ) (names : List (List ℕ)) → Exactly (GoodList list names) (Listing list names)
list_exactly list names = record {
  when = λ g. record { good = listed_good list 0 names g.listed; at_most = g.at_most; is = listed_is list 0 names g.listed };
  only_when = λ l. record { listed = listed_from list 0 names l.good (omega arith) l.is; at_most = l.at_most };
}

-- its names are those that the calls read
pub list_names : (list : List ℕ) (names : List (List ℕ)) → GoodList list names → names ≡ names_in (listed list)
list_names list names g = sym (listing_names list names ((list_exactly list names).when g))

pub list_only : (list : List ℕ) (names names₂ : List (List ℕ)) → GoodList list names → GoodList list names₂ → names ≡ names₂
list_only list names names₂ g g₂ = list_names list names g ∙ sym (list_names list names₂ g₂)

-- ---- how long records are

pub records_measure : (names : List (List ℕ)) → length (records_bytes true names) ≡ records_length names
records_measure [] = ap length (records_none true)
records_measure (name ∷ names) =
    omega (arith, ap length (records_first true name names), length-append (record_bytes true name) (records_bytes true names), records_measure names)
