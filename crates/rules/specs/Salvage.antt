-- Salvage a sick name sector (02, A9), sentence by sentence, of what its call answers. A place is an index into the sector.
use Rattle.std.specs.Prelude.{◌≡◌, List, [], ◌∷◌, ◌++◌, ◌⊎◌, ℕ, ◌+◌, ◌-◌, ◌≤◌, ◌<◌, ltb, length, get_or, take, drop, replicate}
use Rattle.common.specs.Bits.{Bytes, bit}
use Rattle.common.specs.Lists.{within, Each}
use Rattle.common.specs.Numbers.{two_bytes}
use Rattle.names.specs.Records.{names_of, Begins}
use Rattle.salvage.specs.declared.Salvaged.{Salvaged}
use Rattle.salvage.specs.Pieces.{Stretch, dropped_bytes}
use Rattle.salvage.specs.Answers.{Salvages}
use Rattle.rules.specs.Numbered.{◌when◌, Numbered}

-- ---- a record

-- "the mark 4E 52, a length of 1 to 32, and the scene's name in bytes 20 to 7E" (02, A7), whole: the n bytes from a place on are one
pub record GoodRecord (sector : List ℕ) (at n : ℕ) : Type 0 where
  pub whole : at + n ≤ length sector
  pub first : get_or sector at 0 ≡ 0x4e
  pub second : get_or sector (at + 1) 0 ≡ 0x52
  pub length_is : 3 + get_or sector (at + 2) 0 ≡ n
  pub least : 1 ≤ get_or sector (at + 2) 0
  pub most : get_or sector (at + 2) 0 ≤ 32
  pub name : (i : ℕ) → 3 ≤ i → i < n → (0x20 ≤ get_or sector (at + i) 0) × (get_or sector (at + i) 0 ≤ 0x7e)

-- ---- stretches of a sector

-- how many of them hold the place k
unfoldable pub holders : ℕ → List Stretch → ℕ
holders k [] = 0
holders k (s ∷ stretches) = bit (within s.start s.count k) 1 + holders k stretches

-- the next one, if there is one, begins at a place or behind it
abbrev pub BeginsFrom : ℕ → List Stretch → Type 0
BeginsFrom at [] = Unit {0}
BeginsFrom at (s ∷ stretches) = at ≤ s.start

-- each lies behind the one before it, with so many places between them at least
abbrev pub Rising : ℕ → List Stretch → Type 0
Rising between [] = Unit {0}
Rising between (s ∷ stretches) = BeginsFrom (s.start + s.count + between) stretches × Rising between stretches

-- their bytes, one stretch after another
unfoldable pub bytes_of : List ℕ → List Stretch → List ℕ
bytes_of sector [] = []
bytes_of sector (s ∷ stretches) = take s.count (drop s.start sector) ++ bytes_of sector stretches

-- "start and length in two bytes each, high first"
abbrev pub Listed : List ℕ → List Stretch → Type 0
Listed list [] = list ≡ []
Listed list (s ∷ stretches) =
    (4 ≤ length list)
    × ((two_bytes (get_or list 0 0) (get_or list 1 0) ≡ s.start) × ((two_bytes (get_or list 2 0) (get_or list 3 0) ≡ s.count) × Listed (drop 4 list) stretches))

-- ---- a sector, salvaged

-- what is kept of it, so many bytes and FF, and the list
pub record SectorSalvaged (sector kept : List ℕ) (size : ℕ) (list : List ℕ) : Type 0 where
  pub records : List Stretch
  pub stretches : List Stretch
  -- how many bytes stand before the final erased stretch
  pub used : ℕ
  -- "keep each whole good record, and step bytewise over anything else to the next one"
  pub good : Each (λ s. GoodRecord sector s.start s.count) records
  pub none_missed : Each (λ s. (k n : ℕ) → s.start ≤ k → k < s.start + s.count → GoodRecord sector k n → ⊥) stretches
  -- "Write these from the front of a lent 4,096-byte buffer, FF after them": in the old order
  pub in_order : Rising 0 records
  pub size_is : size ≡ length (bytes_of sector records)
  pub written : kept ≡ bytes_of sector records ++ replicate (4096 - size) 0xff
  -- "a rising list .. of dropped stretches, none touching the next"
  pub rising : Rising 1 stretches
  pub none_empty : Each (λ s. 0 < s.count) stretches
  pub listed : Listed list stretches
  -- "Kept and dropped and the final erased stretch cover the sector once each", and no place outside it;
  pub covered : (k : ℕ) → holders k records + holders k stretches + bit (within used (4096 - used) k) 1 ≡ bit (ltb k 4096) 1
  -- "all trailing FF are that stretch."
  pub inside : used ≤ 4096
  pub trailing : (k : ℕ) → used ≤ k → k < 4096 → get_or sector k 0 ≡ 0xff
  pub no_more : (k : ℕ) → k + 1 ≡ used → get_or sector k 0 ≡ 0xff → ⊥

-- ---- what the call answers

pub record SalvageCall (sector kept dropped kept_after dropped_after : List ℕ) (r : Salvaged) : Type 0 where
  -- "Refusals: 2 if either sector slice isn't 4,096, then 10 if the list doesn't fit."
  pub numbers : Numbered r.number
      (2 when ((length sector ≡ 4096 → ⊥) ⊎ (length kept ≡ 4096 → ⊥)) ∷ 10 when (length dropped < length (dropped_bytes sector)) ∷ [])
  pub refusal_keeps : 0 < r.number
      → (r ≡ record { number = r.number; length = 0; kept = 0 }) × ((kept_after ≡ kept) × (dropped_after ≡ dropped))
  pub salvaged : r.number ≡ 0 → SectorSalvaged sector kept_after r.kept (take r.length dropped_after)
  -- "its length reported"
  pub length_is : r.number ≡ 0 → r.length ≡ length (dropped_bytes sector)
  -- "the rest of its buffer is untouched"
  pub rest_untouched : r.number ≡ 0 → (length dropped_after ≡ length dropped) × (drop r.length dropped_after ≡ drop r.length dropped)
  -- there are 820 stretches at most, so 3,280 bytes are never too few
  pub room_enough_lem : 3280 ≤ length dropped → r.number ≡ 10 → ⊥
  -- where nothing is dropped the sector comes back as it is
  pub unhurt : r.number ≡ 0 → r.length ≡ 0 → kept_after ≡ sector
  -- "A damaged mark cost a player everything behind it": every name that a reader found is found again, before any other
  pub names_kept : r.number ≡ 0 → Begins (names_of sector) (names_of kept_after)

pub record SalvageRules : Type 0 where
  -- what is said of a salvaged sector fixes each byte of what is kept and of the list
  pub only : (sector kept kept₂ list list₂ : List ℕ) (size size₂ : ℕ) → length sector ≡ 4096 → Bytes list → Bytes list₂
      → SectorSalvaged sector kept size list → SectorSalvaged sector kept₂ size₂ list₂ → (kept ≡ kept₂) × ((size ≡ size₂) × (list ≡ list₂))
  pub call : (sector kept dropped kept_after dropped_after : List ℕ) (r : Salvaged) → Salvages sector kept dropped kept_after dropped_after r
      → SalvageCall sector kept dropped kept_after dropped_after r
  -- salvaged again, a sector comes back as it is, and nothing is dropped
  pub again : (sector kept dropped kept_after dropped_after : List ℕ) (r : Salvaged) → Salvages sector kept dropped kept_after dropped_after r → r.number ≡ 0
      → (kept₂ dropped₂ kept_after₂ dropped_after₂ : List ℕ) (r₂ : Salvaged) → Salvages kept_after kept₂ dropped₂ kept_after₂ dropped_after₂ r₂
      → r₂.number ≡ 0 → (kept_after₂ ≡ kept_after) × (r₂.length ≡ 0)
