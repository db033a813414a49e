-- Nothing turns unread by itself (02, A14). A scene's bit is 1 while it is unread, and 0 once it is read.
use Rattle.std.specs.Prelude.{◌≡◌, Bool, true, false, ◌&&◌, List, [], ◌∷◌, ℕ, ◌≤◌, eqb, length, get_or}
use Rattle.common.specs.Bits.{bit_at}
use Rattle.common.specs.Lists.{Each}
use Rattle.state.specs.Protection.{first_protected}
use Rattle.script.specs.Record.{Record, frame, wait}
use Rattle.effect.specs.declared.Effect.{Effect}
use Rattle.effect.specs.declared.Effect.TheVariants.{Keep, Fill, Program, Round}
use Rattle.frame.specs.Device.{Device}
use Rattle.frame.specs.Ran.{effect_at}
use Rattle.run.specs.Run.{step}

-- at every record of a run, with the chip as it stands before it
abbrev pub Throughout : (Record → Device → Type 0) → Bool → List Record → Device → Type 0
Throughout P wp [] d = Unit {0}
Throughout P wp (r ∷ rs) d = P r d × Throughout P wp rs (step wp r d)

-- ---- "no erase frame is taken during the run"

abbrev pub is_erase : Effect → Bool
is_erase Keep = false
is_erase (Fill a n) = true
is_erase (Program a n i) = false
is_erase (Round a n) = false

-- the record is an erase frame, and the chip as it stands takes it
abbrev pub is_erase_taken : Bool → Record → Device → Bool
is_erase_taken wp (frame f) d = is_erase (effect_at d.state wp f)
is_erase_taken wp (wait n) d = false

abbrev pub NoEraseTaken : Bool → List Record → Device → Type 0
NoEraseTaken wp rs d = Throughout (λ r e. is_erase_taken wp r e ≡ false) wp rs d

-- ---- "a byte is protected before every record of the run": the one at address k

abbrev pub AlwaysProtected : ℕ → Bool → List Record → Device → Type 0
AlwaysProtected k wp rs d = Throughout (λ r e. first_protected e.state ≤ k) wp rs d

-- ---- "no 06 frame in it": none that is the one byte 06; a longer one is ignored, and may be in it

abbrev pub is_write_enable : Record → Bool
is_write_enable (frame f) = eqb (length f) 1 && eqb (get_or f 0 0) 0x06
is_write_enable (wait n) = false

abbrev pub NoWriteEnable : List Record → Type 0
NoWriteEnable rs = Each (λ r. is_write_enable r ≡ false) rs

-- ---- of records run at a level of WP, and the chip before and after

pub record NothingTurnsUnread (wp : Bool) (records : List Record) (before after : Device) : Type 0 where
  -- "If no erase frame is taken during the run, no bit of the array goes from 0 to 1.
  pub no_bit_rises : NoEraseTaken wp records before → (k b : ℕ) → bit_at (get_or before.array k 0) b ≡ 0 → bit_at (get_or after.array k 0) b ≡ 0
  -- If a byte is protected before every record of the run, it has the same value after.
  pub protected_stays : (k : ℕ) → AlwaysProtected k wp records before → get_or after.array k 0 ≡ get_or before.array k 0
  -- And with WEL 0 at the start and no 06 frame in it, the whole array is the same."
  pub disabled_stays : before.state.wel ≡ false → NoWriteEnable records → after.array ≡ before.array
