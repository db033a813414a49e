-- What is protected (01, "State"; 000, Table 2; 004, Table 3), of every state of the chip at the level, whatever its other fields are.
use Rattle.std.specs.Prelude.{◌≡◌, Bool, true, false, not, ◌||◌, List, [], ◌∷◌, ℕ, ◌/◌, ◌%◌, ◌<◌, leb, eqb}
use Rattle.common.specs.Lists.{Each}
use Rattle.state.specs.declared.State.{State}
use Rattle.state.specs.Protection.{first_protected}
use Rattle.rules.specs.Chips.{bytes_of}

-- how much is protected, in the document's words
pub data Extent : Type 0 where
  nothing : Extent
  from : ℕ → Extent
  everything : Extent

-- whether an address is
abbrev pub is_in : Extent → ℕ → Bool
is_in nothing address = false
is_in (from first) address = leb first address
is_in everything address = true

-- "The first protected address is the size where nothing is protected."
abbrev pub first_in : ℕ → Extent → ℕ
first_in size nothing = size
first_in size (from first) = first
first_in size everything = 0

-- a chip, the levels BP2 BP1 BP0 that are meant, and what they protect
pub record LevelRow : Type 0 where
  pub chip : ℕ
  pub levels : ℕ → Bool
  pub extent : Extent

abbrev row : ℕ → (ℕ → Bool) → Extent → LevelRow
row chip levels extent = record { chip = chip; levels = levels; extent = extent }

abbrev is : ℕ → ℕ → Bool
is level bp = eqb bp level

-- "BP0 or BP1 is 1"
abbrev bp0_or1 : ℕ → Bool
bp0_or1 bp = eqb (bp % 2) 1 || eqb (bp / 2 % 2) 1

abbrev pub level_table : List LevelRow
level_table =
    row 8 (is 0b000) nothing  -- "008A by BP 000 nothing,
    ∷ row 8 (is 0b001) (from 0xf0000)  -- 001 from F0000,
    ∷ row 8 (is 0b010) (from 0xe0000)  -- 010 from E0000,
    ∷ row 8 (is 0b011) (from 0xc0000)  -- 011 from C0000,
    ∷ row 8 (is 0b100) (from 0x80000)  -- 100 from 80000,
    ∷ row 8 (leb 0b101) everything  -- 101 to 111 everything."
    ∷ row 5 bp0_or1 everything  -- "05PA: everything if BP0 or BP1 is 1,
    ∷ row 5 (λ bp. not (bp0_or1 bp)) nothing  -- else nothing; BP2 and TB don't matter."
    ∷ []

pub record LevelHolds (r : LevelRow) (s : State) : Type 0 where
  -- an address of the chip is protected from the first protected one up
  pub protected : (address : ℕ) → address < bytes_of s.chip → leb (first_protected s) address ≡ is_in r.extent address
  -- "The first protected address is the size where nothing is protected."
  pub first : first_protected s ≡ first_in (bytes_of s.chip) r.extent

-- BP0 to BP2 are three bits
pub record Protection (s : State) (three : s.bp < 8) : Type 0 where
  pub each_row : Each (λ r. s.chip ≡ r.chip → r.levels s.bp ≡ true → LevelHolds r s) level_table
