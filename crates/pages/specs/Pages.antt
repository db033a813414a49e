-- Step 3 of a plan (01, "Scripts and plans"): pages. By address: `w` the wanted byte, `d` whether it changes.
use Rattle.std.specs.Prelude.{Bool, cond, List, [], ◌∷◌, ◌++◌, ℕ, zero, suc, ◌+◌, ◌-◌, ◌*◌, ◌/◌, ltb, length}
use Rattle.common.specs.Lists.{tab}
use Rattle.script.specs.Record.{Record, frame, wait}
use Rattle.region.specs.Region.{wanted_at, changes}
use Rattle.common.specs.Numbers.{address_bytes}

-- of n addresses from a on: how many come before the first that changes
unfoldable pub before_first : (ℕ → Bool) → ℕ → ℕ → ℕ
before_first d zero a = 0
before_first d (suc n) a = cond (d a) 0 (suc (before_first d n (suc a)))

-- how many there are up to the last that changes, that one with them; 0 where none changes
unfoldable pub through_last : (ℕ → Bool) → ℕ → ℕ → ℕ
through_last d zero a = 0
through_last d (suc n) a = cond (ltb 0 (through_last d n (suc a))) (suc (through_last d n (suc a))) (cond (d a) 1 0)

-- "from its first changing byte to its last": how many bytes of the page at an address that is; 0 where none changes
unfoldable pub part_length : (ℕ → Bool) → ℕ → ℕ
part_length d page = through_last d 256 page - before_first d 256 page

-- "06; 02 from [an address], with the wanted bytes; wait 1,500", for so many bytes; nothing where there are none
unfoldable pub part_records : (ℕ → ℕ) → ℕ → ℕ → List Record
part_records w address zero = []
part_records w address (suc n) =
    frame (0x06 ∷ [])
    ∷ frame (0x02 ∷ (address_bytes address ++ tab (suc n) (λ i. w (address + i))))
    ∷ wait 1500
    ∷ []

-- "for each page with a changing byte, rising": n pages from the one at an address on
unfoldable pub pages_step : (ℕ → ℕ) → (ℕ → Bool) → ℕ → ℕ → List Record
pages_step w d zero page = []
pages_step w d (suc n) page = part_records w (page + before_first d 256 page) (part_length d page) ++ pages_step w d n (page + 256)

-- how many pages hold a byte of n from an address on: from the page of the first to that of the last
abbrev pub pages_in : ℕ → ℕ → ℕ
pages_in start n = (start + n + 255) / 256 - start / 256

-- step 3 of an update
abbrev pub step_three : List ℕ → ℕ → List ℕ → List Record
step_three array start wanted = pages_step (wanted_at start wanted) (changes array start wanted) (pages_in start (length wanted)) (start / 256 * 256)
