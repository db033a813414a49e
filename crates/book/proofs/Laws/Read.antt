-- What the bytes of a book say: a scene by its byte and bit, the used bytes, and how many scenes are read.
-- Assumes nothing.
use mathlib.Core.Path.{◌≡◌, refl, sym, ap, ◌∙◌}
use mathlib.Core.List.{List}
use Prim.Native.Nat.{ℕ, suc, zero, ◌+◌, ◌-◌, ◌*◌, ◌/◌, ◌%◌, ◌^◌, ◌≤◌, ◌<◌}
use native.Mathlib.Nat.{zero-add}
use native.Mathlib.Numerals.{add-one}
use native.Mathlib.Omega.{arith}
use lib.Dec.{eqb}
use lib.ListN.{length, get_or, take, drop}
use lib.Seq.{ext_get_or, take-length}
use Rattle.std.proofs.Common.{w8, sum_by}
use Rattle.std.proofs.lemmas.List.Sums.{sum_by_more}
use Rattle.std.specs.Int.{count_zeros}
use Rattle.common.specs.Bits.{Bytes, bit_at}
use Rattle.common.specs.Lists.{mapi, on_run, count_below}
use Rattle.common.proofs.Laws.Bits.{bit_is, count_zeros as zeros_counted}
use Rattle.common.proofs.Laws.Lists.{length_mapi, get_d_mapi}
use Rattle.common.proofs.Laws.Parts.{part_length, part_at, part_bytes}
use Rattle.common.proofs.Laws.Places.{count_none, count_cong, count_add}
use borrow.Author.Tests.{le-leb, lt-ltb}
use Rattle.book.specs.Book.{is_read, count_read, used_part}

-- ---- a scene

-- by its byte and its bit
pub read_is : (array : List ℕ) (sector scene : ℕ) → is_read array sector scene ≡ eqb (bit_at (get_or array (sector + scene / 8) 0) (scene % 8)) 0
unfolding is_read
read_is array sector scene = refl

-- the scene of a byte and a bit
pub read_at : (array : List ℕ) (sector k b : ℕ) → b < 8 → is_read array sector (k * 8 + b) ≡ eqb (bit_at (get_or array (sector + k) 0) b) 0
read_at array sector k b l =
    let byte : (k * 8 + b) / 8 ≡ k = omega arith in
    let digit : (k * 8 + b) % 8 ≡ b = omega arith in
    rw (read_is array sector (k * 8 + b), byte, digit) refl

-- in two arrays that agree on its byte
pub read_by_byte : (now before : List ℕ) (sector scene : ℕ) → get_or now (sector + scene / 8) 0 ≡ get_or before (sector + scene / 8) 0
    → is_read now sector scene ≡ is_read before sector scene
read_by_byte now before sector scene e =
    read_is now sector scene ∙ ap (λ (x : ℕ). eqb (bit_at x (scene % 8)) 0) e ∙ sym (read_is before sector scene)

-- as a shift tells it
pub read_shifted : (array : List ℕ) (sector scene : ℕ) → eqb (get_or array (sector + scene / 8) 0 / 2 ^ (scene % 8) % 2) 0 ≡ is_read array sector scene
read_shifted array sector scene = rw (read_is array sector scene, bit_is (get_or array (sector + scene / 8) 0) (scene % 8)) refl

-- ---- the used bytes

module _ (array : List ℕ) (sector : ℕ) (fits : sector + 512 ≤ length array) where
  pub used_length_lem : length (used_part array sector) ≡ 512
  unfolding used_part
  used_length_lem = part_length array sector 512 fits

  pub used_at : (k : ℕ) → k < 512 → get_or (used_part array sector) k 0 ≡ get_or array (sector + k) 0
  unfolding used_part
  used_at = part_at array sector 512 fits

  pub used_bytes : Bytes array → Bytes (used_part array sector)
  unfolding used_part
  used_bytes = part_bytes array sector 512 fits

  -- a copy of them over any 512 bytes
  pub used_copied : (old : List ℕ) → length old ≡ 512 → mapi (on_run 0 512 (λ k x. get_or array (sector + (k - 0)) 0)) old ≡ used_part array sector
  used_copied old long =
      let copied = length_mapi (on_run 0 512 (λ k x. get_or array (sector + (k - 0)) 0)) old ∙ long in
      ext_get_or 0 (mapi (on_run 0 512 (λ k x. get_or array (sector + (k - 0)) 0)) old) (used_part array sector) (copied ∙ sym used_length_lem)
      (λ k h. let l : k < 512 = omega (arith, copied) in
      let here : k - 0 ≡ k = omega arith in
      get_d_mapi (on_run 0 512 (λ k x. get_or array (sector + (k - 0)) 0)) old k 0 (omega (arith, long))
      ∙ rw (le-leb 0 k (omega arith), lt-ltb k 512 l, here) (sym (used_at k l)))

-- as a slice of the array
pub used_sliced : (array : List ℕ) (sector : ℕ) → take (sector + 512 - sector) (drop sector array) ≡ used_part array sector
unfolding used_part
used_sliced array sector = let long : sector + 512 - sector ≡ 512 = omega arith in rw long refl

-- ---- how many are read

pub count_start : (array : List ℕ) (sector : ℕ) → count_below (is_read array sector) 0 ≡ 0
count_start array sector = count_none (is_read array sector) 0 (λ i h. absurd (omega arith))

-- with byte i of a book, the scenes of one byte more
pub count_byte : (array : List ℕ) (sector i : ℕ) → get_or array (sector + i) 0 < 256
    → count_below (is_read array sector) ((i + 1) * 8) ≡ count_below (is_read array sector) (i * 8) + count_zeros w8 (get_or array (sector + i) 0)
count_byte array sector i h =
    let next : (i + 1) * 8 ≡ i * 8 + 8 = omega arith in
    ap (count_below (is_read array sector)) next ∙ count_add (is_read array sector) (i * 8) 8
    ∙ ap (λ (n : ℕ). count_below (is_read array sector) (i * 8) + n)
    (count_cong (λ b. is_read array sector (i * 8 + b)) (λ b. eqb (bit_at (get_or array (sector + i) 0) b) 0) 8 (λ b l. read_at array sector i b l)
    ∙ zeros_counted 8 (get_or array (sector + i) 0) h)

zeros_below : (bytes : List ℕ) → Bytes bytes → (i : ℕ) → i ≤ length bytes → sum_by (count_zeros w8) (take i bytes) ≡ count_below (is_read bytes 0) (i * 8)
zeros_below bytes small zero h = sym (count_start bytes 0)
zeros_below bytes small (suc i) h =
    rw (← add-one i) (sum_by_more (count_zeros w8) bytes i 0 (omega arith))
    ∙ ap (λ (n : ℕ). n + count_zeros w8 (get_or bytes i 0)) (zeros_below bytes small i (omega arith))
    ∙ sym (rw (zero-add i, add-one i) at (count_byte bytes 0 i (rw (zero-add i) (small i))))

-- all zeros of some bytes
pub zeros_counted_lem : (bytes : List ℕ) → Bytes bytes → sum_by (count_zeros w8) bytes ≡ count_below (is_read bytes 0) (length bytes * 8)
zeros_counted_lem bytes small = ap (sum_by (count_zeros w8)) (sym (take-length bytes)) ∙ zeros_below bytes small (length bytes) (omega arith)

pub count_is : (array : List ℕ) (sector : ℕ) → count_read array sector ≡ count_below (is_read array sector) 4096
unfolding count_read
count_is array sector = refl

-- of the used bytes
pub count_sliced : (array : List ℕ) (sector : ℕ) → sector + 512 ≤ length array
    → count_below (is_read (used_part array sector) 0) (length (used_part array sector) * 8) ≡ count_read array sector
count_sliced array sector fits =
    let all : length (used_part array sector) * 8 ≡ 4096 = omega (arith, used_length_lem array sector fits) in
    ap (count_below (is_read (used_part array sector) 0)) all
    ∙ count_cong (is_read (used_part array sector) 0) (is_read array sector) 4096
    (λ k l. read_is (used_part array sector) 0 k
    ∙ ap (λ (x : ℕ). eqb (bit_at x (k % 8)) 0) (ap (λ (i : ℕ). get_or (used_part array sector) i 0) (zero-add (k / 8)) ∙ used_at array sector fits (k / 8) (omega arith)) ∙ sym (read_is array sector k))
    ∙ sym (count_is array sector)
