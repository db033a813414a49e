-- Soundness is neither too strict nor too lax: for each clause two states that it alone tells apart, and sound states that calls reach.
use Rattle.std.specs.Prelude.{◌≡◌, Bool, true, false, ◌&&◌, not, List, [], ◌∷◌, ◌++◌, ℕ, zero, suc}
use Rattle.state.specs.declared.State.{State}
use Rattle.state.specs.State.{with_left, with_wel, with_armed, with_power_down, with_aai, with_bits, with_pending}
use Rattle.state.specs.Soundness.{all_of, register_clauses, aai_clauses, pending_clauses, is_sound}
use Rattle.state.specs.Power.{at_rest}

-- of a list of clauses, the one at a place fails, and no other
abbrev pub only_fails : ℕ → List Bool → Bool
only_fails place [] = false
only_fails zero (b ∷ bs) = not b && all_of bs
only_fails (suc place) (b ∷ bs) = b && only_fails place bs

abbrev pub all_clauses : State → List Bool
all_clauses s = register_clauses s ++ aai_clauses s ++ pending_clauses s

-- a clause, by its place in "A state is sound when", and two states that differ in it
pub record Row : Type 0 where
  pub clause : ℕ
  pub keeps : State
  pub breaks : State

abbrev row : ℕ → State → State → Row
row clause keeps breaks = record { clause = clause; keeps = keeps; breaks = breaks }

pub record RowHolds (r : Row) : Type 0 where
  pub sound : is_sound r.keeps ≡ true
  pub unsound : is_sound r.breaks ≡ false
  pub alone : only_fails r.clause (all_clauses r.breaks) ≡ true

-- unprotected chips at rest, in a write cycle, in AAI, and in a status write's cycle
abbrev big : State
big = at_rest 8 0 false false

abbrev small : State
small = at_rest 5 0 false false

abbrev busy : State → ℕ → State
busy s n = with_left (with_wel s true) n

abbrev in_aai : ℕ → ℕ → State
in_aai left next = with_aai (busy big left) true next

abbrev writing : State → ℕ → ℕ → State
writing s left bits = with_pending (busy s left) true bits

abbrev pub rows : List Row
rows =
    row 0 small (at_rest 6 0 false false)  -- chip number 8 or 5
    ∷ row 1 (with_bits big 7 false false) (with_bits big 8 false false)  -- BP has three bits
    ∷ row 2 (busy big 8000000) (busy big 8000001)  -- left at most 8,000,000 (008A)
    ∷ row 2 (busy small 1000000) (busy small 1000001)  -- or 1,000,000 (05PA)
    ∷ row 3 (busy big 7) (with_wel (busy big 7) false)  -- BUSY, and then WEL is 1
    ∷ row 4 (busy big 7) (with_armed (busy big 7) true)  -- and not armed
    ∷ row 5 (busy small 7) (with_power_down (busy small 7) true)  -- nor power-down
    ∷ row 6 (with_armed (with_wel small true) true) (with_power_down (with_armed (with_wel small true) true) true)  -- armed and power-down
    ∷ row 7 (with_armed (with_wel small true) true) (with_armed small true)  -- on the 05PA armed needs WEL 1
    ∷ row 8 big (with_bits big 0 true false)  -- no TB on the 008A
    ∷ row 9 big (with_power_down big true)  -- no power-down on the 008A
    ∷ row 10 (with_wel small true) (with_aai (with_wel small true) true 2)  -- no AAI on the 05PA
    ∷ row 11 big (with_aai big false 2)  -- without AAI next is 0
    ∷ row 12 (in_aai 0 2) (with_wel (in_aai 0 2) false)  -- with AAI: WEL 1
    ∷ row 13 (in_aai 0 2) (with_armed (in_aai 0 2) true)  -- not armed
    ∷ row 14 (in_aai 7 2) (in_aai 8 2)  -- left at most 7
    ∷ row 15 (in_aai 0 2) (in_aai 0 3)  -- next even
    ∷ row 16 (in_aai 0 2) (in_aai 0 0)  -- at least 2
    ∷ row 17 (in_aai 7 0x10_0000) (in_aai 7 0x10_0002)  -- at most the first protected address
    ∷ row 18 (in_aai 0 0x0f_fffe) (in_aai 0 0x10_0000)  -- and below it when left is 0
    ∷ row 19 (writing small 1 0x1c) (writing small 0 0x1c)  -- pending: busy
    ∷ row 19 (writing small 1000000 0) (with_pending small true 0)  -- for any time left
    ∷ row 20 (writing small 7 0) (writing big 7 0)  -- only on the 05PA
    ∷ row 21 (writing small 7 0x1c) (with_pending (busy small 7) false 0x1c)  -- without it there are no bits
    ∷ row 22 (writing small 7 0xbc) (writing small 7 0xbd)  -- and never bit 0,
    ∷ row 22 (writing small 7 0xbc) (writing small 7 0xbe)  -- 1
    ∷ row 22 (writing small 7 0xbc) (writing small 7 0xfc)  -- or 6
    ∷ []

-- sound states that calls reach
abbrev pub reached : List State
reached =
    with_armed (at_rest 8 7 false false) true  -- 50 on a new 008A: armed with WEL 0
    ∷ with_power_down (with_wel small true) true  -- 06, then B9 on the 05PA: power-down with WEL 1
    ∷ in_aai 0 2  -- AAI that waits for its next word
    ∷ in_aai 7 0x10_0000  -- the last word of the array being programmed
    ∷ writing small 5000 0x1c  -- 06, then 01 1C on the 05PA
    ∷ writing (at_rest 5 7 true false) 5000 0  -- 06, then 01 00 on a protected one
    ∷ []
