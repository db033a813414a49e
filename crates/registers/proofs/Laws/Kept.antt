-- Every frame keeps a sound state sound: what fits a state keeps it so.
-- Assumes nothing.
use mathlib.Core.Path.{◌≡◌, refl, sym, ◌∙◌}
use mathlib.Core.Bool.{Bool, true, false, false≢true, true≢false}
use mathlib.Core.List.{List}
use Prim.Native.Nat.{ℕ, ◌+◌, ◌≤◌, ◌<◌}
use native.Mathlib.Omega.{arith}
use lib.Dec.{eqb}
use borrow.Author.Tests.{eqb-false}
use Rattle.common.proofs.Laws.Booleans.{and_l}
use Rattle.common.proofs.Laws.Choice.{cond_elim}
use Rattle.state.specs.declared.State.{State}
use Rattle.chip.specs.Chip.{is_known}
use Rattle.state.specs.State.{data_of, with_left, with_power_down, with_aai, with_pending}
use Rattle.state.specs.Soundness.{Sound}
use Rattle.state.specs.Status.{has, writable_bits}
use Rattle.chip.proofs.Laws.Chip.{regular}
use Rattle.state.proofs.Laws.Protection.{first_by}
use Rattle.state.proofs.Laws.Soundness.{still_not_pending}
use Rattle.state.proofs.Laws.Status.{writable_again}
use Rattle.command.specs.declared.Command.{Command}
use Rattle.command.specs.declared.Command.TheVariants.{
  Ignored,
  ReadStatus,
  ReadArray,
  ReadJedec,
  ReadSignature,
  ReadIdentity,
  WriteEnable,
  WriteDisable,
  Arm,
  WriteStatus,
  Erase,
  ProgramByte,
  ProgramPage,
  ProgramWord,
  Sleep,
}
use Rattle.command.specs.Command.{command_of}
use Rattle.registers.specs.Registers.{disarm, state_after}
use Rattle.command.specs.Fits.{Resting, Open, Words, Fits}
use Rattle.command.proofs.Laws.Fits.{fits}

module _ (s : State) (h : Sound s) where
  -- a frame that clears armed, and wakes the chip or not
  quiet : (d : Bool) → (d ≡ true → s.power_down ≡ true) → (s.power_down ≡ false → d ≡ false) → Sound (with_power_down (disarm s) d)
  quiet d up off = record {
    chip_known = h.chip_known;
    bp_le_7 = h.bp_le_7;
    left_le_chip_time = h.left_le_chip_time;
    while_busy = λ l. let b = h.while_busy l in record { enabled = b.enabled; disarmed = refl; awake = off b.awake };
    armed_awake = λ e. absurd (false≢true e);
    armed_enabled = λ _ e. absurd (false≢true e);
    tb_had = h.tb_had;
    power_down_had = λ e. h.power_down_had (up e);
    aai_had = h.aai_had;
    next_0_without_aai = h.next_0_without_aai;
    in_aai_lem = λ a. let r = h.in_aai_lem a in record {
      enabled = r.enabled;
      disarmed = refl;
      left_le_7 = r.left_le_7;
      next_even = r.next_even;
      next_ge_2 = r.next_ge_2;
      next_le_first = rw (first_by (with_power_down (disarm s) d) s refl refl) r.next_le_first;
      next_lt_first = λ z. rw (first_by (with_power_down (disarm s) d) s refl refl) (r.next_lt_first z);
    };
    while_pending = λ p. let w = h.while_pending p in record { busy = w.busy; takes_time = w.takes_time };
    bits_0_without_pending = h.bits_0_without_pending;
    bits_writable = h.bits_writable;
  }

  same : Sound (disarm s)
  same = quiet s.power_down (λ e. e) (λ e. e)

  -- an erase or a program begins
  begun : (t : ℕ) → Resting s → s.wel ≡ true → t ≤ (data_of s).chip_time → Sound (with_left (disarm s) t)
  begun t r w g = record {
    chip_known = h.chip_known;
    bp_le_7 = h.bp_le_7;
    left_le_chip_time = g;
    while_busy = λ _. record { enabled = w; disarmed = refl; awake = r.awake };
    armed_awake = λ e. absurd (false≢true e);
    armed_enabled = λ _ e. absurd (false≢true e);
    tb_had = h.tb_had;
    power_down_had = h.power_down_had;
    aai_had = h.aai_had;
    next_0_without_aai = h.next_0_without_aai;
    in_aai_lem = λ a. absurd (true≢false (sym a ∙ r.single));
    while_pending = λ p. absurd (true≢false (sym p ∙ still_not_pending s h r.still));
    bits_0_without_pending = h.bits_0_without_pending;
    bits_writable = h.bits_writable;
  }

  -- a status write begins: armed, a chip without 50 has WEL 1
  status_begun_lem : (byte t : ℕ) → Resting s → s.armed ≡ true → t ≡ (data_of s).status_time → 0 < t
      → Sound (with_pending (with_left (disarm s) t) true (writable_bits byte))
  status_begun_lem byte t r a e some =
      let timed = (regular s.chip).timed (omega (arith, e)) in
      record {
        chip_known = h.chip_known;
        bp_le_7 = h.bp_le_7;
        left_le_chip_time = omega (arith, e, (regular s.chip).status_le_sector_time, (regular s.chip).sector_le_chip_time);
        while_busy = λ _. record { enabled = h.armed_enabled timed.no_ewsr a; disarmed = refl; awake = r.awake };
        armed_awake = λ e. absurd (false≢true e);
        armed_enabled = λ _ e. absurd (false≢true e);
        tb_had = h.tb_had;
        power_down_had = h.power_down_had;
        aai_had = h.aai_had;
        next_0_without_aai = h.next_0_without_aai;
        in_aai_lem = λ a. absurd (true≢false (sym a ∙ r.single));
        while_pending = λ _. record { busy = some; takes_time = omega (arith, e) };
        bits_0_without_pending = λ e. absurd (true≢false e);
        bits_writable = writable_again byte;
      }

  word_begun_lem : (a : ℕ) → Words s a → Open s (a + 2) → Sound (with_aai (with_left (disarm s) 7) true (a + 2))
  word_begun_lem a w o = record {
    chip_known = h.chip_known;
    bp_le_7 = h.bp_le_7;
    left_le_chip_time = omega (arith, (regular s.chip).sector_le_chip_time);
    while_busy = λ _. record { enabled = o.enabled; disarmed = refl; awake = w.awake };
    armed_awake = λ e. absurd (false≢true e);
    armed_enabled = λ _ e. absurd (false≢true e);
    tb_had = h.tb_had;
    power_down_had = h.power_down_had;
    aai_had = λ _. w.aai_had;
    next_0_without_aai = λ e. absurd (true≢false e);
    in_aai_lem = λ _. record {
      enabled = o.enabled;
      disarmed = refl;
      left_le_7 = omega arith;
      next_even = omega (arith, w.even);
      next_ge_2 = omega arith;
      next_le_first = rw (first_by (with_aai (with_left (disarm s) 7) true (a + 2)) s refl refl) o.free;
      next_lt_first = λ z. absurd (omega arith);
    };
    while_pending = λ p. absurd (true≢false (sym p ∙ still_not_pending s h w.still));
    bits_0_without_pending = h.bits_0_without_pending;
    bits_writable = h.bits_writable;
  }

-- a state at rest: what is left to show
resting : (t : State) → t.pending ≡ false → t.pending_bits ≡ 0 → is_known t.chip ≡ true → t.bp ≤ 7 → t.left ≡ 0 → t.aai ≡ false → t.next ≡ 0
    → (t.armed ≡ true → t.power_down ≡ false)
    → ((data_of t).ewsr ≡ false → t.armed ≡ true → t.wel ≡ true)
    → (t.tb ≡ true → (data_of t).top_bottom ≡ true)
    → (t.power_down ≡ true → (data_of t).sleeps ≡ true)
    → Sound t
resting t o y n l z a x p w b d = record {
  chip_known = n;
  bp_le_7 = l;
  left_le_chip_time = omega (arith, z);
  while_busy = λ k. absurd (omega (arith, z));
  armed_awake = p;
  armed_enabled = w;
  tb_had = b;
  power_down_had = d;
  aai_had = λ e. absurd (true≢false (sym e ∙ a));
  next_0_without_aai = λ _. x;
  in_aai_lem = λ e. absurd (true≢false (sym e ∙ a));
  while_pending = λ e. absurd (true≢false (sym e ∙ o));
  bits_0_without_pending = λ _. y;
  bits_writable = rw y refl;
}

-- nothing is pending at rest
module _ (s : State) (h : Sound s) (still : s.left ≡ 0) where
  none : s.pending ≡ false
  none = still_not_pending s h still

  no_bits : s.pending_bits ≡ 0
  no_bits = h.bits_0_without_pending none

pub state_after_sound : (s : State) (c : Command) → Sound s → Fits s c → Sound (state_after s c)
unfolding state_after
state_after_sound s Ignored h k = same s h
state_after_sound s ReadStatus h k = same s h
state_after_sound s (ReadArray a i) h k = same s h
state_after_sound s ReadJedec h k = same s h
state_after_sound s ReadSignature h k = quiet s h false (λ e. absurd (false≢true e)) (λ _. refl)
state_after_sound s (ReadIdentity b) h k = same s h
state_after_sound s WriteEnable h k =
    resting _ (none s h k.still) (no_bits s h k.still) h.chip_known h.bp_le_7 k.still k.single (h.next_0_without_aai k.single) (λ _. k.awake) (λ _ _. refl) h.tb_had h.power_down_had
state_after_sound s WriteDisable h k =
    resting _ (none s h k) (no_bits s h k) h.chip_known h.bp_le_7 k refl refl (λ e. absurd (false≢true e)) (λ _ e. absurd (false≢true e)) h.tb_had h.power_down_had
state_after_sound s Arm h k =
    resting _ (none s h k.0.still) (no_bits s h k.0.still) h.chip_known h.bp_le_7 k.0.still k.0.single (h.next_0_without_aai k.0.single) (λ _. k.0.awake)
    (λ w _. absurd (true≢false (sym k.1 ∙ w))) h.tb_had h.power_down_had
state_after_sound s (WriteStatus b t) h k =
    cond_elim Sound (eqb t 0)
    (λ _. resting _ (none s h k.0.still) (no_bits s h k.0.still) h.chip_known (omega arith) k.0.still k.0.single (h.next_0_without_aai k.0.single)
    (λ e. absurd (false≢true e)) (λ _ e. absurd (false≢true e)) (λ e. and_l (data_of s).top_bottom (has b 32) e) h.power_down_had)
    (λ z. let some = eqb-false t 0 z in status_begun_lem s h b t k.0 k.1.0 k.1.1 (omega arith))
state_after_sound s (Erase a n t) h k = begun s h t k.0 k.1.0.enabled k.1.1
state_after_sound s (ProgramByte a) h k = begun s h 7 k.0 k.1.enabled (omega (arith, (regular s.chip).sector_le_chip_time))
state_after_sound s (ProgramPage a n) h k = begun s h 1500 k.0 k.1.enabled (omega (arith, (regular s.chip).sector_le_chip_time))
state_after_sound s (ProgramWord a i) h k = word_begun_lem s h a k.0 k.1
state_after_sound s Sleep h k =
    resting _ (none s h k.0.still) (no_bits s h k.0.still) h.chip_known h.bp_le_7 k.0.still k.0.single (h.next_0_without_aai k.0.single) (λ e. absurd (false≢true e)) (λ _ e. absurd (false≢true e))
    h.tb_had (λ _. k.1)

-- every frame
pub command_sound : (s : State) (wp : Bool) (f : List ℕ) → Sound s → Sound (state_after s (command_of s wp f))
command_sound s wp f h = state_after_sound s (command_of s wp f) h (fits s wp f h)
