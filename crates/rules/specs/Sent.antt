-- A plan and the bytes of its region (01, "Scripts and plans"): which of them change, what is wanted of each, and what a frame sends.
use Rattle.std.specs.Prelude.{◌≡◌, List, [], ◌∷◌, ◌⊎◌, ℕ, ◌+◌, ◌-◌, ◌*◌, ◌≤◌, ◌<◌, length, get_or}

-- "a byte that changes": one of the region that is not yet as wanted
pub record Changing (array : List ℕ) (start : ℕ) (wanted : List ℕ) (address : ℕ) : Type 0 where
  pub from : start ≤ address
  pub below : address < start + length wanted
  pub differs : get_or array address 0 ≡ get_or wanted (address - start) 0 → ⊥

-- "as wanted, a byte outside the region as FF"
pub record AsWanted (start : ℕ) (wanted : List ℕ) (address byte : ℕ) : Type 0 where
  pub inside : start ≤ address → address < start + length wanted → byte ≡ get_or wanted (address - start) 0
  pub before : address < start → byte ≡ 0xff
  pub behind : start + length wanted ≤ address → byte ≡ 0xff

-- "Addresses have three bytes, high byte first"
pub record InThreeBytes (address high middle low : ℕ) : Type 0 where
  pub high_first : address ≡ high * 65536 + middle * 256 + low
  pub high_byte : high < 256
  pub middle_byte : middle < 256
  pub low_byte : low < 256

-- what a frame sends: its bytes, from an address on
pub record Sent : Type 0 where
  pub address : ℕ
  pub bytes : List ℕ

abbrev pub sent : ℕ → List ℕ → Sent
sent address bytes = record { address = address; bytes = bytes }

-- a byte for this address is among them
abbrev pub Covers : Sent → ℕ → Type 0
Covers x address = (x.address ≤ address) × (address < x.address + length x.bytes)

-- one of these has a byte for it
abbrev pub HeldBy : List Sent → ℕ → Type 0
HeldBy [] address = ⊥
HeldBy (x ∷ xs) address = Covers x address ⊎ HeldBy xs address

-- each of its bytes as wanted
abbrev pub SentAsWanted : ℕ → List ℕ → Sent → Type 0
SentAsWanted start wanted x = (i : ℕ) → i < length x.bytes → AsWanted start wanted (x.address + i) (get_or x.bytes i 0)
