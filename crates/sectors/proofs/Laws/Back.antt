-- From names back to a book: the laws of `listed_scenes`, `unlisted` and `wanted_back`.
-- Assumes nothing.
use mathlib.Core.Path.{◌≡◌, refl, sym, ap, ◌∙◌}
use mathlib.Core.Bool.{true, false, cond}
use mathlib.Core.List.{List, [], ◌∷◌}
use mathlib.Core.Logic.{⊎_elim}
use Prim.Native.Nat.{ℕ, zero, suc, ◌+◌, ◌*◌, ◌/◌, ◌%◌, ◌≤◌, ◌<◌}
use native.Mathlib.Omega.{arith}
use lib.ListN.{length, get_or, replicate, length-replicate, get_or-replicate}
use borrow.Author.Tests.{eq-eqb, ne_eqb}
use Rattle.common.specs.Bits.{Bytes, bit_at}
use Rattle.common.proofs.Laws.Bits.{bit_not, bit_above, bytes_within}
use Rattle.common.proofs.Laws.Booleans.{or_none_i, or_true}
use Rattle.common.proofs.Laws.Choice.{cases}
use Rattle.common.proofs.Laws.Lists.{split}
use Rattle.names.specs.Records.{is_name, AllNames, padded}
use Rattle.names.specs.Search.{same_bytes, is_on}
use Rattle.names.proofs.Laws.Front.{name_least}
use Rattle.names.proofs.Laws.Padded.{padded_long, padded_front, padded_behind}
use Rattle.names.proofs.Laws.Search.{same_refl, differ_exactly, on_none, on_first}
use Rattle.book.specs.Book.{marked, is_listed}
use Rattle.book.proofs.Laws.Listed.{listed_none, listed_first}
use Rattle.book.proofs.Laws.Marked.{length_marked, marked_bytes, marked_bit}
use Rattle.sectors.specs.Moves.{listed_scenes, wanted_back, unlisted}

-- ---- the scenes whose names are among the records

pub scenes_none : (scene : ℕ) (records : List (List ℕ)) → listed_scenes scene [] records ≡ []
unfolding listed_scenes
scenes_none scene records = refl

module _ (scene : ℕ) (name : List ℕ) (names records : List (List ℕ)) where
  pub scenes_first : is_on name records ≡ true → listed_scenes scene (name ∷ names) records ≡ scene ∷ listed_scenes (suc scene) names records
  unfolding listed_scenes
  scenes_first e = rw e refl

  pub scenes_later : is_on name records ≡ false → listed_scenes scene (name ∷ names) records ≡ listed_scenes (suc scene) names records
  unfolding listed_scenes
  scenes_later e = rw e refl

-- no name is empty
pub some_name : (name : List ℕ) → is_name name ≡ true → same_bytes [] name ≡ false
some_name name good = (differ_exactly [] name).only_when (λ e. omega (arith, name_least name good, ap length e))

pub nothing_on : (names : List (List ℕ)) → AllNames names → is_on [] names ≡ false
nothing_on [] good = on_none []
nothing_on (name ∷ names) good = on_first [] name names ∙ or_none_i (some_name name good.0) (nothing_on names good.1)

-- all are from the first name's on
scenes_below : (first : ℕ) (ns records : List (List ℕ)) (s : ℕ) → s < first → is_listed s (listed_scenes first ns records) ≡ false
scenes_below first [] records s h = ap (is_listed s) (scenes_none first records) ∙ listed_none s
scenes_below first (name ∷ ns) records s h =
    let others = scenes_below (suc first) ns records s (omega arith) in
    cases (is_on name records)
    (λ t. ap (is_listed s) (scenes_first first name ns records t) ∙ listed_first s first (listed_scenes (suc first) ns records)
    ∙ or_none_i (ne_eqb first s (λ e. omega arith)) others)
    (λ f. ap (is_listed s) (scenes_later first name ns records f) ∙ others)

scenes_from : (first : ℕ) (ns records : List (List ℕ)) → AllNames records → (s : ℕ)
    → is_listed (first + s) (listed_scenes first ns records) ≡ is_on (get_or ns s []) records
scenes_from first [] records good s = ap (is_listed (first + s)) (scenes_none first records) ∙ listed_none (first + s) ∙ sym (nothing_on records good)
scenes_from first (name ∷ ns) records good zero =
    let here : first + 0 ≡ first = omega arith in
    rw here
    (cases (is_on name records)
    (λ t. ap (is_listed first) (scenes_first first name ns records t) ∙ listed_first first first (listed_scenes (suc first) ns records)
    ∙ rw (eq-eqb first first refl) (sym t))
    (λ f. ap (is_listed first) (scenes_later first name ns records f) ∙ scenes_below (suc first) ns records first (omega arith) ∙ sym f))
scenes_from first (name ∷ ns) records good (suc s) =
    let there : first + suc s ≡ suc first + s = omega arith in
    let others = scenes_from (suc first) ns records good s in
    rw there
    (cases (is_on name records)
    (λ t. ap (is_listed (suc first + s)) (scenes_first first name ns records t) ∙ listed_first (suc first + s) first (listed_scenes (suc first) ns records)
    ∙ rw (ne_eqb first (suc first + s) (λ e. omega arith)) others)
    (λ f. ap (is_listed (suc first + s)) (scenes_later first name ns records f) ∙ others))

-- a scene is one of them exactly if its name is among the records
pub scenes_listed : (ns records : List (List ℕ)) → AllNames records → (s : ℕ) → is_listed s (listed_scenes 0 ns records) ≡ is_on (get_or ns s []) records
scenes_listed ns records good s = let here : s ≡ 0 + s = omega arith in ap (λ (k : ℕ). is_listed k (listed_scenes 0 ns records)) here ∙ scenes_from 0 ns records good s

-- ---- how many records have a name that is not on the list

pub unlisted_end : (ns : List (List ℕ)) → unlisted ns [] ≡ 0
unfolding unlisted
unlisted_end ns = refl

module _ (ns : List (List ℕ)) (r : List ℕ) (records : List (List ℕ)) where
  pub unlisted_on : is_on r ns ≡ true → unlisted ns (r ∷ records) ≡ unlisted ns records
  unfolding unlisted
  unlisted_on e = rw e (omega arith)

  pub unlisted_off : is_on r ns ≡ false → unlisted ns (r ∷ records) ≡ 1 + unlisted ns records
  unfolding unlisted
  unlisted_off e = rw e refl

pub unlisted_none : (ns records : List (List ℕ)) → ((r : List ℕ) → is_on r records ≡ true → is_on r ns ≡ true) → unlisted ns records ≡ 0
unlisted_none ns [] all = unlisted_end ns
unlisted_none ns (r ∷ records) all =
    unlisted_on ns r records (all r (on_first r r records ∙ rw (same_refl r) refl))
    ∙ unlisted_none ns records (λ n e. all n (on_first n r records ∙ rw e (or_true (same_bytes n r))))

-- ---- the book that is wanted

full_bit : (b : ℕ) → b < 8 → bit_at 0xff b ≡ 1
full_bit b l = bit_not 0 b (omega arith) l ∙ omega (arith, bit_above 0 0 b (omega arith) (omega arith))

-- an erased book
blank_long : length {A = ℕ} (replicate 512 0xff) ≡ 512
blank_long = length-replicate {A = ℕ} 512 0xff

pub blank_bytes : Bytes (replicate 512 0xff)
blank_bytes = bytes_within (replicate 512 0xff) (λ k h. omega (arith, get_or-replicate {A = ℕ} 512 k 0xff 0 (omega (arith, h, blank_long))))

module _ (ns records : List (List ℕ)) where
  -- with the scenes marked
  abbrev pub back_book : List ℕ
  back_book = marked (listed_scenes 0 ns records) (replicate 512 0xff)

  pub back_book_long : length back_book ≡ 512
  back_book_long = length_marked (listed_scenes 0 ns records) (replicate 512 0xff) ∙ blank_long

  pub back_book_bytes : Bytes back_book
  back_book_bytes = marked_bytes (listed_scenes 0 ns records) (replicate 512 0xff) blank_bytes

  -- a scene is read exactly if its name is among the records
  pub back_flag : AllNames records → (k b : ℕ) → k < 512 → b < 8 → bit_at (get_or back_book k 0) b ≡ cond (is_on (get_or ns (k * 8 + b) []) records) 0 1
  back_flag good k b h l =
      marked_bit (listed_scenes 0 ns records) (replicate 512 0xff) k b (omega (arith, h, blank_long)) l
      ∙ rw (scenes_listed ns records good (k * 8 + b), get_or-replicate {A = ℕ} 512 k 0xff 0 h, full_bit b l) refl

  -- in a whole sector
  pub back_is : wanted_back records ns ≡ padded back_book
  unfolding wanted_back
  back_is = refl

  pub back_long : length (wanted_back records ns) ≡ 4096
  unfolding wanted_back
  back_long = padded_long back_book (omega (arith, back_book_long))

  pub back_front : (k : ℕ) → k < 512 → get_or (wanted_back records ns) k 0 ≡ get_or back_book k 0
  unfolding wanted_back
  back_front k h = padded_front back_book k (omega (arith, h, back_book_long))

  pub back_behind : (k : ℕ) → 512 ≤ k → k < 4096 → get_or (wanted_back records ns) k 0 ≡ 0xff
  unfolding wanted_back
  back_behind k h l = padded_behind back_book k (omega (arith, h, back_book_long)) l

  pub back_bytes : Bytes (wanted_back records ns)
  back_bytes =
      bytes_within (wanted_back records ns)
      (λ k h. ⊎_elim (λ l. omega (arith, back_front k l, back_book_bytes k)) (λ l. omega (arith, back_behind k l (omega (arith, h, back_long)))) (split k 512))

  -- by the scene
  pub back_bit : AllNames records → (scene : ℕ) → scene < 4096
      → bit_at (get_or (wanted_back records ns) (scene / 8) 0) (scene % 8) ≡ cond (is_on (get_or ns scene []) records) 0 1
  back_bit good scene h =
      let is : scene / 8 * 8 + scene % 8 ≡ scene = omega arith in
      ap (λ (x : ℕ). bit_at x (scene % 8)) (back_front (scene / 8) (omega arith)) ∙ back_flag good (scene / 8) (scene % 8) (omega arith) (omega arith)
      ∙ ap (λ (k : ℕ). cond (is_on (get_or ns k []) records) 0 1) is
