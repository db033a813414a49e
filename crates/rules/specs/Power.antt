-- A new chip, and power-up (01, "State"; making a chip of an unknown number: "Refusal numbers").
use Rattle.std.specs.Prelude.{◌≡◌, true, false, ◌⊎◌, ℕ}
use Rattle.common.specs.Refusals.{Exactly}
use Rattle.state.specs.declared.State.{State}
use Rattle.state.specs.Soundness.{is_sound}
use Rattle.state.specs.Power.{new_chip, power_up}
use Rattle.rules.specs.Status.{level_in, is_set}

-- "New 008A: BP 111, the rest 0."
abbrev pub new_008a : State
new_008a = record {
  chip = 8;
  bp = 0b111;
  tb = false;
  bpl = false;
  wel = false;
  aai = false;
  armed = false;
  power_down = false;
  pending = false;
  pending_bits = 0;
  left = 0;
  next = 0;
}

-- "New 05PA: all 0"
abbrev pub new_05pa : State
new_05pa = record {
  chip = 5;
  bp = 0b000;
  tb = false;
  bpl = false;
  wel = false;
  aai = false;
  armed = false;
  power_down = false;
  pending = false;
  pending_bits = 0;
  left = 0;
  next = 0;
}

-- "the 05PA keeps BP, TB and BPL (note 2), the rest 0"
abbrev pub kept_05pa : State → State
kept_05pa s = record {
  chip = 5;
  bp = s.bp;
  tb = s.tb;
  bpl = s.bpl;
  wel = false;
  aai = false;
  armed = false;
  power_down = false;
  pending = false;
  pending_bits = 0;
  left = 0;
  next = 0;
}

-- the F25L05PA with the bits of a byte that was written, "the rest 0"
abbrev pub written_05pa : ℕ → State
written_05pa byte = record {
  chip = 5;
  bp = level_in byte;
  tb = is_set byte 5;
  bpl = is_set byte 7;
  wel = false;
  aai = false;
  armed = false;
  power_down = false;
  pending = false;
  pending_bits = 0;
  left = 0;
  next = 0;
}

pub record NewChips : Type 0 where
  -- "New 008A: BP 111, the rest 0."
  pub new_008a_lem : new_chip 8 ≡ record { number = 0; state = new_008a }
  -- "New 05PA: all 0 (004 note 3)."
  pub new_05pa_lem : new_chip 5 ≡ record { number = 0; state = new_05pa }
  -- "making a chip of an unknown number gets no state and returns a new 05PA with refusal 1"
  pub unknown_number : (number : ℕ) → (number ≡ 8 → ⊥) → (number ≡ 5 → ⊥) → new_chip number ≡ record { number = 1; state = new_05pa }
  -- so the numbers are "8 or 5", and no other
  pub known_number : (number : ℕ) → Exactly ((new_chip number).number ≡ 0) ((number ≡ 8) ⊎ (number ≡ 5))

pub record PowerUp (s : State) (sound : is_sound s ≡ true) : Type 0 where
  -- "Power-up gives the 008A its new state;
  pub up_008a : s.chip ≡ 8 → power_up s ≡ record { number = 0; state = new_008a }
  -- the 05PA keeps BP, TB and BPL (note 2), the rest 0."; "Power-up with bits pending keeps the old." (02, A4)
  pub up_05pa : s.chip ≡ 5 → power_up s ≡ record { number = 0; state = kept_05pa s }
