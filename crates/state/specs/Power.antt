-- A new chip, and power-up (01, "State").
use Rattle.std.specs.Prelude.{Bool, false, cond, not, [], ◌∷◌, ℕ}
use Rattle.common.specs.Refusals.{state_not_sound, first_of}
use Rattle.state.specs.declared.State.{State}
use Rattle.state.specs.declared.Answer.{Answer}
use Rattle.chip.specs.Chip.{chip_of, is_known}
use Rattle.state.specs.State.{data_of}
use Rattle.state.specs.Answer.{granted, refused, answered}
use Rattle.state.specs.Soundness.{is_sound}

-- nothing going on: only the protection bits
abbrev pub at_rest : ℕ → ℕ → Bool → Bool → State
at_rest chip bp tb bpl = record {
  chip = chip;
  bp = bp;
  tb = tb;
  bpl = bpl;
  wel = false;
  aai = false;
  armed = false;
  power_down = false;
  pending = false;
  pending_bits = 0;
  left = 0;
  next = 0;
}

-- "New 008A: BP 111, the rest 0. New 05PA: all 0"
unfoldable pub new_state : ℕ → State
new_state number = at_rest number (chip_of number).new_level false false

-- "making a chip of an unknown number gets no state and returns a new 05PA with refusal 1"
unfoldable pub new_chip : ℕ → Answer
new_chip number = cond (is_known number) (granted (new_state number)) (refused state_not_sound (new_state 5))

-- "Power-up gives the 008A its new state; the 05PA keeps BP, TB and BPL, the rest 0."; "Power-up with bits pending keeps the old." (02, A4)
unfoldable pub powered_up : State → State
powered_up s = cond (data_of s).keeps (at_rest s.chip s.bp s.tb s.bpl) (new_state s.chip)

-- the refusals of a call that takes a state and nothing else
unfoldable pub state_refusal : State → ℕ
state_refusal s = first_of ((state_not_sound, not (is_sound s)) ∷ [])

unfoldable pub power_up : State → Answer
power_up s = answered (state_refusal s) s (powered_up s)
