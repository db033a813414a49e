-- "A state is sound when" (01, "State"; 02, A4): clause by clause as a test, and in words.
use Rattle.std.specs.Prelude.{◌≡◌, Bool, true, false, ◌&&◌, ◌||◌, not, List, [], ◌∷◌, ℕ, ◌%◌, ◌≤◌, ◌<◌, leb, ltb, eqb}
use Rattle.common.specs.Refusals.{state_not_sound, wrong_array}
use Rattle.state.specs.declared.State.{State}
use Rattle.chip.specs.Chip.{is_known}
use Rattle.state.specs.State.{data_of}
use Rattle.state.specs.Protection.{first_protected}
use Rattle.state.specs.Status.{writable_bits}

-- all hold, joined from the left
abbrev pub all_from : Bool → List Bool → Bool
all_from a [] = a
all_from a (b ∷ bs) = all_from (a && b) bs

abbrev pub all_of : List Bool → Bool
all_of bs = all_from true bs

abbrev pub implies : Bool → Bool → Bool
implies a b = not a || b

-- "BUSY is left above 0"
abbrev pub is_busy : State → Bool
is_busy s = ltb 0 s.left

abbrev pub register_clauses : State → List Bool
register_clauses s =
    is_known s.chip  -- "chip number 8 or 5"
    ∷ leb s.bp 7  -- three bits (ours)
    ∷ leb s.left (data_of s).chip_time  -- "left at most 8,000,000 or 1,000,000"
    ∷ implies (is_busy s) s.wel  -- "BUSY .., and then WEL is 1
    ∷ implies (is_busy s) (not s.armed)  -- and neither armed
    ∷ implies (is_busy s) (not s.power_down)  -- nor power-down holds"
    ∷ implies s.armed (not s.power_down)  -- "armed and power-down never hold together"
    ∷ implies s.armed ((data_of s).ewsr || s.wel)  -- "on the 05PA armed needs WEL 1"
    ∷ implies s.tb (data_of s).top_bottom  -- "no TB
    ∷ implies s.power_down (data_of s).sleeps  -- or power-down on the 008A"
    ∷ implies s.aai (data_of s).aai  -- "no AAI on the 05PA"
    ∷ []

abbrev pub aai_clauses : State → List Bool
aai_clauses s =
    (s.aai || eqb s.next 0)  -- "Without AAI the next address is 0."
    ∷ implies s.aai s.wel  -- "With AAI: WEL 1,
    ∷ implies s.aai (not s.armed)  -- not armed,
    ∷ implies s.aai (leb s.left 7)  -- left at most 7,
    ∷ implies s.aai (eqb (s.next % 2) 0)  -- next even,
    ∷ implies s.aai (leb 2 s.next)  -- at least 2,
    ∷ implies s.aai (leb s.next (first_protected s))  -- at most the first protected address
    ∷ implies s.aai (is_busy s || ltb s.next (first_protected s))  -- and below it when left is 0."
    ∷ []

-- "Pending bits join the state and its soundness, and it is then busy."
abbrev pub pending_clauses : State → List Bool
pending_clauses s =
    implies s.pending (is_busy s)  -- no tighter bound on left than any cycle's (ours)
    ∷ implies s.pending (ltb 0 (data_of s).status_time)  -- only where a status write takes time
    ∷ (s.pending || eqb s.pending_bits 0)  -- without it there are no bits (ours)
    ∷ eqb s.pending_bits (writable_bits s.pending_bits)  -- nor any that can't be written (ours)
    ∷ []

unfoldable pub is_sound : State → Bool
is_sound s = all_of (register_clauses s) && all_of (aai_clauses s) && all_of (pending_clauses s)

-- the first refusals of every call that is lent an array, by the array's length
abbrev pub first_refusals : State → ℕ → List (ℕ × Bool)
first_refusals s size =
    (state_not_sound, not (is_sound s))  -- "state not sound, or chip number unknown"
    ∷ (wrong_array, not (eqb size (data_of s).size))  -- "array length isn't the chip's size"
    ∷ []

-- ---- the same in words

pub record Busy (s : State) : Type 0 where
  pub enabled : s.wel ≡ true
  pub disarmed : s.armed ≡ false
  pub awake : s.power_down ≡ false

pub record Running (s : State) : Type 0 where
  pub enabled : s.wel ≡ true
  pub disarmed : s.armed ≡ false
  pub left_le_7 : s.left ≤ 7
  pub next_even : s.next % 2 ≡ 0
  pub next_ge_2 : 2 ≤ s.next
  pub next_le_first : s.next ≤ first_protected s
  pub next_lt_first : s.left ≡ 0 → s.next < first_protected s

pub record Writing (s : State) : Type 0 where
  pub busy : 0 < s.left
  pub takes_time : 0 < (data_of s).status_time

pub record Sound (s : State) : Type 0 where
  pub chip_known : is_known s.chip ≡ true
  pub bp_le_7 : s.bp ≤ 7
  pub left_le_chip_time : s.left ≤ (data_of s).chip_time
  pub while_busy : 0 < s.left → Busy s
  pub armed_awake : s.armed ≡ true → s.power_down ≡ false
  pub armed_enabled : (data_of s).ewsr ≡ false → s.armed ≡ true → s.wel ≡ true
  pub tb_had : s.tb ≡ true → (data_of s).top_bottom ≡ true
  pub power_down_had : s.power_down ≡ true → (data_of s).sleeps ≡ true
  pub aai_had : s.aai ≡ true → (data_of s).aai ≡ true
  pub next_0_without_aai : s.aai ≡ false → s.next ≡ 0
  pub in_aai_lem : s.aai ≡ true → Running s
  pub while_pending : s.pending ≡ true → Writing s
  pub bits_0_without_pending : s.pending ≡ false → s.pending_bits ≡ 0
  pub bits_writable : s.pending_bits ≡ writable_bits s.pending_bits
