-- Step 3 as the code goes (ours): the part of a page found by looking at its bytes, and what is counted on the way.
use Rattle.std.specs.Prelude.{◌≡◌, Bool, true, false, List, ℕ, zero, suc, ◌+◌, ◌-◌, ◌≤◌, ◌<◌, ltb, length}
use Rattle.common.specs.Bits.{bit}
use Rattle.std.specs.declared.ops.Range.{Range}
use Rattle.pages.specs.Pages.{before_first, part_length}

-- how many of n pages have a changing byte, and how many bytes of them are sent
unfoldable pub page_count : (ℕ → Bool) → ℕ → ℕ → ℕ
page_count d zero page = 0
page_count d (suc n) page = bit (ltb 0 (part_length d page)) 1 + page_count d n (page + 256)

unfoldable pub byte_count : (ℕ → Bool) → ℕ → ℕ → ℕ
byte_count d zero page = 0
byte_count d (suc n) page = part_length d page + byte_count d n (page + 256)

-- of the addresses from one on and below another: the first that changes, the end where none does
pub record First (d : ℕ → Bool) (from to r : ℕ) : Type 0 where
  pub low : from ≤ r
  pub high : r ≤ to
  pub before : (address : ℕ) → from ≤ address → address < r → d address ≡ false
  pub here : r < to → d r ≡ true

-- and the one behind the last that changes, the start where none does
pub record Behind (d : ℕ → Bool) (from to r : ℕ) : Type 0 where
  pub low : from ≤ r
  pub high : r ≤ to
  pub after : (address : ℕ) → r ≤ address → address < to → d address ≡ false
  pub here : from < r → d (r - 1) ≡ true

-- a part of the region, of a page at most
pub record PartIn (start : ℕ) (wanted : List ℕ) (part : Range ℕ) : Type 0 where
  pub low : start ≤ part.start
  pub forth : part.start ≤ part.end
  pub high : part.end ≤ start + length wanted
  pub short : part.end ≤ part.start + 256

-- the part of a page that step 3 sends
pub record PagePart (d : ℕ → Bool) (start : ℕ) (wanted : List ℕ) (page : ℕ) (part : Range ℕ) : Type 0 where
  pub inside : PartIn start wanted part
  pub long : part.end - part.start ≡ part_length d page
  pub first : part.start < part.end → part.start ≡ page + before_first d 256 page
