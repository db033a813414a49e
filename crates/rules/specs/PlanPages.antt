-- Step 3 of a plan (01, "Scripts and plans"), read off its records.
use Rattle.std.specs.Prelude.{◌≡◌, List, [], ◌∷◌, ℕ, suc, ◌+◌, ◌-◌, ◌/◌, ◌≤◌, ◌<◌, length}
use Rattle.common.specs.Lists.{Each}
use Rattle.script.specs.Record.{Record, frame, wait}
use Rattle.rules.specs.Sent.{Changing, InThreeBytes, Sent, sent, HeldBy, SentAsWanted}

-- "06; 02 .. with the wanted bytes; wait 1,500": what records say, the pages' parts in their order
pub data PagesSaid : List Record → List Sent → Type 0 where
  sends : {address high middle low : ℕ} {bytes : List ℕ} {rs : List Record} {parts : List Sent} → InThreeBytes address high middle low → PagesSaid rs parts
      → PagesSaid (frame (0x06 ∷ []) ∷ frame (0x02 ∷ high ∷ middle ∷ low ∷ bytes) ∷ wait 1500 ∷ rs) (sent address bytes ∷ parts)
  ends : PagesSaid [] []

-- "rising": the pages' numbers, from one on
abbrev pub PagesRise : ℕ → List Sent → Type 0
PagesRise from [] = Unit {0}
PagesRise from (x ∷ xs) = (from ≤ x.address / 256) × PagesRise (suc (x.address / 256)) xs

-- the address of a part's last byte
abbrev pub last_of : Sent → ℕ
last_of x = x.address + length x.bytes - 1

-- "from its first changing byte to its last": these are of one page and both change
pub record FirstToLast (array : List ℕ) (start : ℕ) (wanted : List ℕ) (x : Sent) : Type 0 where
  pub some : 0 < length x.bytes
  pub one_page : x.address / 256 ≡ last_of x / 256
  pub first : Changing array start wanted x.address
  pub last : Changing array start wanted (last_of x)

-- "05PA: for each page with a changing byte, rising: 06; 02 from its first changing byte to its last, with the wanted bytes; wait 1,500"
pub record PagesStep (array : List ℕ) (start : ℕ) (wanted : List ℕ) (rs : List Record) : Type 0 where
  pub parts : List Sent
  pub one_after_another : PagesSaid rs parts
  pub rising : PagesRise 0 parts
  pub from_first_to_last : Each (FirstToLast array start wanted) parts
  -- none missing
  pub all_changes : (address : ℕ) → Changing array start wanted address → HeldBy parts address
  pub as_wanted : Each (SentAsWanted start wanted) parts
