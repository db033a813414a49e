-- A sector of the array, and what of it is missing: the laws of `sector_part`, `is_missing` and `wanted_names`.
-- Assumes nothing.
use mathlib.Core.Path.{◌≡◌, refl, sym, ap, ◌∙◌}
use mathlib.Core.Bool.{Bool, true, false, false≢true, true≢false, not, ◌&&◌, ◌||◌}
use mathlib.Core.List.{List, [], ◌∷◌, ◌++◌}
use Prim.Native.Nat.{ℕ, zero, suc, ◌+◌, ◌-◌, ◌≤◌, ◌<◌}
use native.Mathlib.Omega.{arith}
use lib.Dec.{eqb}
use lib.ListN.{length, get_or, take, drop, length-append}
use lib.Seq.{get_or-append-add}
use borrow.Author.Tests.{ne_eqb, eqb-true, eqb-false, not-true}
use Rattle.std.specs.List.{list_any, zip}
use Rattle.common.specs.Bits.{Bytes}
use Rattle.common.specs.Buffer.{written, Put}
use Rattle.common.specs.Refusals.{Exactly}
use Rattle.common.proofs.Laws.Booleans.{and_l, and_r, and_i, or_none_l, or_none_r, or_none_i, or_imp, not_i}
use Rattle.common.proofs.Laws.Choice.{cases}
use Rattle.common.proofs.Laws.Parts.{part_length, part_at, part_bytes, part_is}
use Rattle.names.specs.Records.{names_of, records_bytes, padded}
use Rattle.names.specs.Search.{is_on}
use Rattle.names.proofs.Laws.Padded.{padded_long, padded_front, padded_laid}
use Rattle.sectors.specs.Images.{sector_part, first_image, second_image, is_missing, wanted_names, wanted_mark}

-- ---- a sector

module _ (array : List ℕ) (sector : ℕ) (fits : sector + 4096 ≤ length array) where
  pub sector_long : length (sector_part array sector) ≡ 4096
  unfolding sector_part
  sector_long = part_length array sector 4096 fits

  pub sector_at : (k : ℕ) → k < 4096 → get_or (sector_part array sector) k 0 ≡ get_or array (sector + k) 0
  unfolding sector_part
  sector_at = part_at array sector 4096 fits

  pub sector_bytes_lem : Bytes array → Bytes (sector_part array sector)
  unfolding sector_part
  sector_bytes_lem = part_bytes array sector 4096 fits

  pub sector_is : (part : List ℕ) → length part ≡ 4096 → ((k : ℕ) → k < 4096 → get_or array (sector + k) 0 ≡ get_or part k 0) → sector_part array sector ≡ part
  unfolding sector_part
  sector_is = part_is array sector 4096 fits

-- as a slice
pub sector_sliced : (array : List ℕ) (sector : ℕ) → take (sector + 4096 - sector) (drop sector array) ≡ sector_part array sector
unfolding sector_part
sector_sliced array sector = let long : sector + 4096 - sector ≡ 4096 = omega arith in ap (λ (n : ℕ). take n (drop sector array)) long

-- ---- what is missing

-- at one place
abbrev pub lacks : ℕ → ℕ → Bool
lacks w x = not (eqb w 0xff) && not (eqb w x)

lacks_not : (w x : ℕ) → lacks w x ≡ false → (w ≡ 0xff → ⊥) → x ≡ w
lacks_not w x e used = cases (eqb w x) (λ t. sym (eqb-true w x t)) (λ f. absurd (true≢false (sym (and_i (not_i (eqb w 0xff) (ne_eqb w 0xff used)) (not_i (eqb w x) f)) ∙ e)))

not_lacks : (w x : ℕ) → ((w ≡ 0xff → ⊥) → x ≡ w) → lacks w x ≡ false
not_lacks w x same =
    cases (lacks w x)
    (λ t. let used : w ≡ 0xff → ⊥ = eqb-false w 0xff (not-true (eqb w 0xff) (and_l (not (eqb w 0xff)) (not (eqb w x)) t)) in
    absurd (eqb-false w x (not-true (eqb w x) (and_r (not (eqb w 0xff)) (not (eqb w x)) t)) (sym (same used))))
    (λ f. f)

-- each used byte stands
abbrev pub Stands : List ℕ → List ℕ → Type 0
Stands wanted there = (k : ℕ) → k < length wanted → (get_or wanted k 0 ≡ 0xff → ⊥) → get_or there k 0 ≡ get_or wanted k 0

stands_of : (wanted there : List ℕ) → length wanted ≤ length there → is_missing wanted there ≡ false → Stands wanted there
unfolding is_missing
stands_of [] there fits e k h = absurd (omega arith)
stands_of (w ∷ wanted) [] fits e k h = absurd (omega arith)
stands_of (w ∷ wanted) (x ∷ there) fits e zero h = lacks_not w x (or_none_l (lacks w x) (is_missing wanted there) e)
stands_of (w ∷ wanted) (x ∷ there) fits e (suc k) h = stands_of wanted there (omega arith) (or_none_r (lacks w x) (is_missing wanted there) e) k (omega arith)

missing_not : (wanted there : List ℕ) → Stands wanted there → is_missing wanted there ≡ false
unfolding is_missing
missing_not [] there s = refl
missing_not (w ∷ wanted) [] s = refl
missing_not (w ∷ wanted) (x ∷ there) s =
    or_none_i (not_lacks w x (s 0 (omega arith))) (missing_not wanted there (λ k h. s (suc k) (omega arith)))

pub stands_exactly : (wanted there : List ℕ) → length wanted ≤ length there → Exactly (is_missing wanted there ≡ false) (Stands wanted there)
stands_exactly wanted there fits = record { when = stands_of wanted there fits; only_when = missing_not wanted there }

-- "any such byte is missing": at some place
pub record Missing (wanted there : List ℕ) : Type 0 where
  pub place : ℕ
  pub inside : place < length wanted
  pub used : get_or wanted place 0 ≡ 0xff → ⊥
  pub differs : get_or there place 0 ≡ get_or wanted place 0 → ⊥

some_missing : (wanted there : List ℕ) → is_missing wanted there ≡ true → Missing wanted there
unfolding is_missing
some_missing [] there e = absurd (false≢true e)
some_missing (w ∷ wanted) [] e = absurd (false≢true e)
some_missing (w ∷ wanted) (x ∷ there) e =
    cases (lacks w x)
    (λ t. record {
      place = 0;
      inside = omega arith;
      used = eqb-false w 0xff (not-true (eqb w 0xff) (and_l (not (eqb w 0xff)) (not (eqb w x)) t));
      differs = λ z. eqb-false w x (not-true (eqb w x) (and_r (not (eqb w 0xff)) (not (eqb w x)) t)) (sym z);
    })
    (λ f. let m = some_missing wanted there (or_imp (lacks w x) (is_missing wanted there) e f) in
    record { place = suc m.place; inside = omega (arith, m.inside); used = m.used; differs = m.differs })

pub missing_exactly : (wanted there : List ℕ) → length wanted ≤ length there → Exactly (is_missing wanted there ≡ true) (Missing wanted there)
missing_exactly wanted there fits = record {
  when = some_missing wanted there;
  only_when = λ m.
      cases (is_missing wanted there) (λ t. t) (λ f. absurd (m.differs (stands_of wanted there fits f m.place m.inside m.used)));
}

-- as a search among the places of both
pub missing_any : (wanted there : List ℕ) → is_missing wanted there ≡ list_any (λ p. lacks p.0 p.1) (zip wanted there)
unfolding is_missing
missing_any [] there = refl
missing_any (w ∷ wanted) [] = refl
missing_any (w ∷ wanted) (x ∷ there) = ap (λ (t : Bool). lacks w x || t) (missing_any wanted there)

-- ---- which of the two

module _ (image front : List ℕ) (names : List (List ℕ)) where
  pub wanted_first : is_missing (records_bytes false names) (drop (length front) image) ≡ true → wanted_names image front names ≡ first_image front names
  unfolding wanted_names
  wanted_first e = rw e refl

  pub wanted_second : is_missing (records_bytes false names) (drop (length front) image) ≡ false → wanted_names image front names ≡ second_image front names
  unfolding wanted_names
  wanted_second e = rw e refl

-- ---- records laid into a sector, as the code lays them

-- behind a front, over what stood there
pub laid_over : (front old new before after : List ℕ) (at next : ℕ) → at ≡ length front → before ≡ padded (front ++ old) → length old ≤ length new
    → length front + length new ≤ 4096 → Put at new before after next → after ≡ padded (front ++ new)
laid_over front old new before after at next at_is is shorter fits p =
    p.stored ∙ ap (λ (k : ℕ). written k new before) at_is ∙ ap (written (length front) new) is ∙ padded_laid front old new shorter fits

-- the bytes between two lengths
laid_part : (front new : List ℕ) → length front + length new ≤ 4096
    → take (length front + length new - length front) (drop (length front) (padded (front ++ new))) ≡ new
laid_part front new fits =
    let here : length front + length new - length front ≡ length new = omega arith in
    ap (λ (n : ℕ). take n (drop (length front) (padded (front ++ new)))) here
    ∙ part_is (padded (front ++ new)) (length front) (length new) (omega (arith, padded_long (front ++ new) (omega (arith, length-append front new)))) new refl
    (λ k h. padded_front (front ++ new) (length front + k) (omega (arith, length-append front new)) ∙ get_or-append-add front new k 0)

-- and compared with what is there
pub laid_missing : (front new sector image : List ℕ) (end behind : ℕ) → end ≡ length front → behind ≡ end + length new → sector ≡ padded (front ++ new)
    → length front + length new ≤ 4096 → is_missing (take (behind - end) (drop end sector)) (drop end image) ≡ is_missing new (drop (length front) image)
laid_missing front new sector image end behind end_is behind_is is fits =
    rw (behind_is, is, end_is) (ap (λ (l : List ℕ). is_missing l (drop (length front) image)) (laid_part front new fits))

-- ---- a name

module _ (image name : List ℕ) where
  pub mark_there : is_on name (names_of image) ≡ true → wanted_mark image name ≡ image
  unfolding wanted_mark
  mark_there e = rw e refl

  pub mark_appends : is_on name (names_of image) ≡ false → wanted_mark image name ≡ wanted_names image (records_bytes true (names_of image)) (name ∷ [])
  unfolding wanted_mark
  mark_appends e = rw e refl
