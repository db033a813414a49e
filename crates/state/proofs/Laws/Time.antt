-- Time keeps a sound state sound.
-- Assumes nothing.
use mathlib.Core.Path.{◌≡◌, refl, sym, ◌∙◌}
use mathlib.Core.Bool.{true, false, false≢true, true≢false}
use Prim.Native.Nat.{ℕ, ◌-◌, ◌<◌}
use native.Mathlib.Omega.{arith}
use lib.Dec.{ltb, eqb}
use borrow.Author.Tests.{ltb-true, eqb-false}
use Rattle.common.proofs.Laws.Booleans.{and_l}
use Rattle.common.proofs.Laws.Choice.{cond_elim}
use Rattle.chip.proofs.Laws.Chip.{regular}
use Rattle.state.specs.declared.State.{State}
use Rattle.state.specs.State.{data_of, with_left, with_wel, with_aai}
use Rattle.state.specs.Protection.{first_protected}
use Rattle.state.specs.Status.{has}
use Rattle.state.specs.Soundness.{Sound}
use Rattle.state.specs.Time.{status_written, cycle_ended, time_passed}

module _ (s : State) (h : Sound s) (b : 0 < s.left) where
  -- the cycle goes on
  goes_on : (n : ℕ) → n < s.left → Sound (with_left s (s.left - n))
  unfolding first_protected
  goes_on n l = record {
    chip_known = h.chip_known;
    bp_le_7 = h.bp_le_7;
    left_le_chip_time = omega (arith, h.left_le_chip_time);
    while_busy = λ _. let k = h.while_busy b in record { enabled = k.enabled; disarmed = k.disarmed; awake = k.awake };
    armed_awake = h.armed_awake;
    armed_enabled = h.armed_enabled;
    tb_had = h.tb_had;
    power_down_had = h.power_down_had;
    aai_had = h.aai_had;
    next_0_without_aai = h.next_0_without_aai;
    in_aai_lem = λ a. let r = h.in_aai_lem a in record {
      enabled = r.enabled;
      disarmed = r.disarmed;
      left_le_7 = omega (arith, r.left_le_7);
      next_even = r.next_even;
      next_ge_2 = r.next_ge_2;
      next_le_first = r.next_le_first;
      next_lt_first = λ z. absurd (omega arith);
    };
    while_pending = λ p. record { busy = omega arith; takes_time = (h.while_pending p).takes_time };
    bits_0_without_pending = h.bits_0_without_pending;
    bits_writable = h.bits_writable;
  }

  -- it ends in AAI, which waits for its next word
  waits : s.pending ≡ false → s.aai ≡ true → s.next < first_protected s → Sound (with_left s 0)
  unfolding first_protected
  waits o a l = record {
    chip_known = h.chip_known;
    bp_le_7 = h.bp_le_7;
    left_le_chip_time = omega arith;
    while_busy = λ z. absurd (omega arith);
    armed_awake = h.armed_awake;
    armed_enabled = h.armed_enabled;
    tb_had = h.tb_had;
    power_down_had = h.power_down_had;
    aai_had = h.aai_had;
    next_0_without_aai = h.next_0_without_aai;
    in_aai_lem = λ _. let r = h.in_aai_lem a in record {
      enabled = r.enabled;
      disarmed = r.disarmed;
      left_le_7 = omega arith;
      next_even = r.next_even;
      next_ge_2 = r.next_ge_2;
      next_le_first = r.next_le_first;
      next_lt_first = λ _. l;
    };
    while_pending = λ p. absurd (true≢false (sym p ∙ o));
    bits_0_without_pending = h.bits_0_without_pending;
    bits_writable = h.bits_writable;
  }

  -- it ends, and WEL falls
  ends : s.pending ≡ false → (t : State) → t ≡ with_wel (with_aai (with_left s 0) false 0) false → Sound t
  ends o t e = rw e record {
    chip_known = h.chip_known;
    bp_le_7 = h.bp_le_7;
    left_le_chip_time = omega arith;
    while_busy = λ z. absurd (omega arith);
    armed_awake = h.armed_awake;
    armed_enabled = λ _ a. absurd (true≢false (sym a ∙ (h.while_busy b).disarmed));
    tb_had = h.tb_had;
    power_down_had = h.power_down_had;
    aai_had = λ a. absurd (false≢true a);
    next_0_without_aai = λ _. refl;
    in_aai_lem = λ a. absurd (false≢true a);
    while_pending = λ p. absurd (true≢false (sym p ∙ o));
    bits_0_without_pending = h.bits_0_without_pending;
    bits_writable = h.bits_writable;
  }

  -- without AAI there is no next address to clear
  no_aai : s.aai ≡ false → with_wel (with_left s 0) false ≡ with_wel (with_aai (with_left s 0) false 0) false
  no_aai a = rw (a, h.next_0_without_aai a) refl

  -- it was a status write's: the new bits are there, and WEL falls
  written : s.pending ≡ true → Sound (status_written s)
  written p = record {
    chip_known = h.chip_known;
    bp_le_7 = omega arith;
    left_le_chip_time = omega arith;
    while_busy = λ z. absurd (omega arith);
    armed_awake = h.armed_awake;
    armed_enabled = λ _ a. absurd (true≢false (sym a ∙ (h.while_busy b).disarmed));
    tb_had = λ e. and_l (data_of s).top_bottom (has s.pending_bits 32) e;
    power_down_had = h.power_down_had;
    aai_had = h.aai_had;
    next_0_without_aai = h.next_0_without_aai;
    in_aai_lem = λ a. absurd (false≢true (sym ((regular s.chip).timed (h.while_pending p).takes_time).no_aai ∙ h.aai_had a));
    while_pending = λ e. absurd (false≢true e);
    bits_0_without_pending = λ _. refl;
    bits_writable = refl;
  }

  ended_sound : Sound (cycle_ended s)
  unfolding cycle_ended
  ended_sound =
      cond_elim Sound s.pending written
      (λ o. cond_elim Sound s.aai
      (λ a. cond_elim Sound (ltb s.next (first_protected s)) (λ l. waits o a (ltb-true s.next (first_protected s) l)) (λ _. ends o _ refl))
      (λ a. ends o _ (no_aai a)))

pub time_passed_sound : (s : State) (n : ℕ) → Sound s → Sound (time_passed s n)
unfolding time_passed
time_passed_sound s n h =
    cond_elim Sound (ltb n s.left)
    (λ l. let g = ltb-true n s.left l in goes_on s h (omega arith) n g)
    (λ _. cond_elim Sound (eqb s.left 0) (λ _. h) (λ z. let k = eqb-false s.left 0 z in ended_sound s h (omega arith)))
