-- What power-up leaves, and that a new chip and a chip powered up are sound.
-- Assumes nothing.
use mathlib.Core.Path.{◌≡◌, refl, sym}
use mathlib.Core.Bool.{Bool, true, false, false≢true}
use Prim.Native.Nat.{ℕ, ◌≤◌}
use native.Mathlib.Omega.{arith}
use Rattle.common.specs.Refusals.{state_not_sound}
use Rattle.common.proofs.Laws.Choice.{cond_elim}
use Rattle.state.specs.declared.State.{State}
use Rattle.state.specs.declared.Answer.{Answer}
use Rattle.chip.specs.Chip.{is_known, chip_of}
use Rattle.state.specs.State.{data_of}
use Rattle.state.specs.Soundness.{is_sound, Sound}
use Rattle.state.specs.Answer.{granted, refused}
use Rattle.state.specs.Power.{at_rest, new_state, new_chip, powered_up, power_up}
use Rattle.chip.proofs.Laws.Chip.{regular, known_5}
use Rattle.state.proofs.Laws.Answer.{answer_sound, answer_unsound}
use Rattle.state.proofs.Laws.Soundness.{of_sound}

-- a chip with nothing going on
at_rest_sound : (chip bp : ℕ) (tb bpl : Bool) → is_known chip ≡ true → bp ≤ 7 → (tb ≡ true → (chip_of chip).top_bottom ≡ true) → Sound (at_rest chip bp tb bpl)
at_rest_sound chip bp tb bpl k l t = record {
  chip_known = k;
  bp_le_7 = l;
  left_le_chip_time = omega arith;
  while_busy = λ h. absurd (omega arith);
  armed_awake = λ e. refl;
  armed_enabled = λ _ e. absurd (false≢true e);
  tb_had = t;
  power_down_had = λ e. absurd (false≢true e);
  aai_had = λ e. absurd (false≢true e);
  next_0_without_aai = λ _. refl;
  in_aai_lem = λ e. absurd (false≢true e);
  while_pending = λ e. absurd (false≢true e);
  bits_0_without_pending = λ _. refl;
  bits_writable = refl;
}

new_state_sound : (chip : ℕ) → is_known chip ≡ true → Sound (new_state chip)
unfolding new_state
new_state_sound chip k = at_rest_sound chip (chip_of chip).new_level false false k (regular chip).new_level_le_7 (λ e. absurd (false≢true e))

-- "New 008A: BP 111, the rest 0. New 05PA: all 0"
pub new_chip_known : (number : ℕ) → is_known number ≡ true → new_chip number ≡ granted (at_rest number (chip_of number).new_level false false)
unfolding new_chip new_state
new_chip_known number k = rw k refl

-- "making a chip of an unknown number gets no state and returns a new 05PA with refusal 1"
pub new_chip_unknown : (number : ℕ) → is_known number ≡ false → new_chip number ≡ refused state_not_sound (at_rest 5 (chip_of 5).new_level false false)
unfolding new_chip new_state
new_chip_unknown number k = rw k refl

-- new: also with refusal 1
pub new_sound : (number : ℕ) → is_sound (new_chip number).state ≡ true
unfolding new_chip
new_sound number =
    cond_elim (λ (a : Answer). is_sound a.state ≡ true) (is_known number)
    (λ k. of_sound (new_state number) (new_state_sound number k))
    (λ _. of_sound (new_state 5) (new_state_sound 5 known_5))

pub powered_up_sound : (s : State) → Sound s → Sound (powered_up s)
unfolding powered_up
powered_up_sound s h =
    cond_elim Sound (data_of s).keeps
    (λ _. at_rest_sound s.chip s.bp s.tb s.bpl h.chip_known h.bp_le_7 h.tb_had)
    (λ _. new_state_sound s.chip h.chip_known)

-- ---- power-up

-- a chip that keeps its bits without power
pub powered_up_keeps : (s : State) → (data_of s).keeps ≡ true → powered_up s ≡ at_rest s.chip s.bp s.tb s.bpl
unfolding powered_up
powered_up_keeps s k = rw k refl

-- and one that loses them
pub powered_up_new : (s : State) → (data_of s).keeps ≡ false → powered_up s ≡ at_rest s.chip (data_of s).new_level false false
unfolding powered_up new_state
powered_up_new s k = rw k refl

pub power_up_granted : (s : State) → Sound s → power_up s ≡ granted (powered_up s)
unfolding power_up
power_up_granted s h = sym (answer_sound s (powered_up s) (of_sound s h))

pub power_up_refused : (s : State) → is_sound s ≡ false → power_up s ≡ refused state_not_sound s
unfolding power_up
power_up_refused s e = sym (answer_unsound s (powered_up s) e)
