-- The region of an update: what is wanted at each address, and which bytes change (01, "Scripts and plans").
use Rattle.std.specs.Prelude.{◌≡◌, Bool, false, cond, not, ◌&&◌, ◌||◌, List, ℕ, zero, suc, ◌+◌, ◌-◌, ◌≤◌, ◌<◌, eqb, length, get_or}
use Rattle.std.specs.Int.Bits.{bit_and}
use Rattle.common.specs.Bits.{bit_at}
use Rattle.common.specs.Limits.{longest_wanted}
use Rattle.common.specs.Lists.{within}

-- a region as it is accepted (refusals 2 and 6): at most 4,096 bytes, within the array of a chip
pub record Inside (array : List ℕ) (start : ℕ) (wanted : List ℕ) : Type 0 where
  pub short : length wanted ≤ longest_wanted
  pub fits : start + length wanted ≤ length array
  pub small : length array ≤ 1048576

-- the byte that an address is to have: "as wanted, a byte outside the region as FF"
unfoldable pub wanted_at : ℕ → List ℕ → ℕ → ℕ
wanted_at start wanted address = cond (within start (length wanted) address) (get_or wanted (address - start) 0) 0xff

-- "a byte that changes": a byte of the region that is not yet as wanted
unfoldable pub changes : List ℕ → ℕ → List ℕ → ℕ → Bool
changes array start wanted address = within start (length wanted) address && not (eqb (get_or array address 0) (wanted_at start wanted address))

-- "a wanted 1 where the array has 0" (refusal 8), at an address: ANDing would lose it
unfoldable pub rises : List ℕ → ℕ → List ℕ → ℕ → Bool
rises array start wanted address =
    not (eqb (bit_and (get_or array address 0) (wanted_at start wanted address)) (wanted_at start wanted address))

-- one of n addresses from a on passes the test
unfoldable pub any_of : (ℕ → Bool) → ℕ → ℕ → Bool
any_of test zero a = false
any_of test (suc n) a = test a || any_of test n (suc a)

-- "a wanted 1 where the array has 0": at one of the region's addresses
unfoldable pub wants_rise : List ℕ → ℕ → List ℕ → Bool
wants_rise array start wanted = any_of (rises array start wanted) (length wanted) start

-- ---- the same in words, by place in the region

-- every byte of the region is as wanted
abbrev pub NothingChanges : List ℕ → ℕ → List ℕ → Type 0
NothingChanges array start wanted = (i : ℕ) → i < length wanted → get_or array (start + i) 0 ≡ get_or wanted i 0

-- "a wanted 1 where the array has 0"
pub record WantedRises (array : List ℕ) (start : ℕ) (wanted : List ℕ) : Type 0 where
  pub place : ℕ
  pub bit : ℕ
  pub inside : place < length wanted
  pub wanted_1 : bit_at (get_or wanted place 0) bit ≡ 1
  pub array_0 : bit_at (get_or array (start + place) 0) bit ≡ 0
