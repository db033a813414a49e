-- An interrupted frame: its mask, from the test to the words and back; and what power-up finds is the frame's own registers, at once or when its time has passed.
-- Assumes nothing.
use mathlib.Core.Path.{◌≡◌, refl, sym, ap}
use mathlib.Core.Bool.{true, false, ◌&&◌, false≢true}
use mathlib.Core.List.{List}
use mathlib.Core.Logic.{inl, inr, ⊎_elim}
use Prim.Native.Nat.{ℕ, ◌<◌}
use native.Mathlib.Omega.{arith}
use lib.Dec.{eqb}
use lib.ListN.{length, get_or}
use borrow.Author.Tests.{eqb-true, eq-eqb, ltb-true}
use Rattle.common.proofs.Laws.Booleans.{and_l, and_r, and_i, or_true, or_imp, implies_elim, implies_i}
use Rattle.common.proofs.Laws.Choice.{cases}
use Rattle.state.specs.declared.State.{State}
use Rattle.state.specs.Soundness.{implies, Sound}
use Rattle.state.specs.Time.{time_passed}
use Rattle.state.proofs.Laws.Passed.{time_ends_cycle}
use Rattle.state.proofs.Laws.Time.{time_passed_sound}
use Rattle.command.specs.declared.Command.{Command}
use Rattle.command.specs.declared.Command.TheVariants.{
  Ignored,
  ReadStatus,
  ReadArray,
  ReadJedec,
  ReadSignature,
  ReadIdentity,
  WriteEnable,
  WriteDisable,
  Arm,
  WriteStatus,
  Erase,
  ProgramByte,
  ProgramPage,
  ProgramWord,
  Sleep,
}
use Rattle.registers.specs.Registers.{state_after}
use Rattle.registers.proofs.Laws.After.{after_status_begun}
use Rattle.effect.specs.declared.Effect.TheVariants.{Keep}
use Rattle.frame.specs.Effect.{effect_of}
use Rattle.frame.specs.Cut.{status_time, is_status_cycle, mask_bytes, is_old_or_new, takes_mask, Masked, state_cut}

-- ---- the mask

module _ (c : Command) (mask : List ℕ) where
  pub masked_of : takes_mask c mask ≡ true → Masked c mask
  masked_of e =
      let byte : ℕ = get_or mask 0 0 in
      let told = and_r (eqb (length mask) (mask_bytes c)) (implies (is_status_cycle c) (is_old_or_new byte)) e in
      record {
        bytes = eqb-true _ _ (and_l (eqb (length mask) (mask_bytes c)) (implies (is_status_cycle c) (is_old_or_new byte)) e);
        old_or_new = λ timed. let either = implies_elim (is_status_cycle c) (is_old_or_new byte) told timed in
            cases (eqb byte 0x00) (λ t. inl (eqb-true byte 0x00 t)) (λ t. inr (eqb-true byte 0xff (or_imp (eqb byte 0x00) (eqb byte 0xff) either t)));
      }

  pub of_masked : Masked c mask → takes_mask c mask ≡ true
  of_masked m =
      let byte : ℕ = get_or mask 0 0 in
      and_i (eq-eqb _ _ m.bytes)
      (implies_i (is_status_cycle c) (is_old_or_new byte)
      (λ timed. ⊎_elim (λ e. rw (eq-eqb byte 0x00 e) refl) (λ e. rw (eq-eqb byte 0xff e) (or_true (eqb byte 0x00))) (m.old_or_new timed)))

-- ---- a status write's cycle

-- it leaves the array alone
pub cycle_keeps : (c : Command) → is_status_cycle c ≡ true → effect_of c ≡ Keep
cycle_keeps Ignored e = refl
cycle_keeps ReadStatus e = refl
cycle_keeps (ReadArray a i) e = refl
cycle_keeps ReadJedec e = refl
cycle_keeps ReadSignature e = refl
cycle_keeps (ReadIdentity b) e = refl
cycle_keeps WriteEnable e = refl
cycle_keeps WriteDisable e = refl
cycle_keeps Arm e = refl
cycle_keeps (WriteStatus b t) e = refl
cycle_keeps (Erase a n t) e = absurd (false≢true e)
cycle_keeps (ProgramByte a) e = absurd (false≢true e)
cycle_keeps (ProgramPage a n) e = absurd (false≢true e)
cycle_keeps (ProgramWord a i) e = absurd (false≢true e)
cycle_keeps Sleep e = refl

-- it has all its time left when the frame ends
pub cycle_left : (s : State) (c : Command) → 0 < status_time c → (state_after s c).left ≡ status_time c
cycle_left s Ignored h = absurd (omega arith)
cycle_left s ReadStatus h = absurd (omega arith)
cycle_left s (ReadArray a i) h = absurd (omega arith)
cycle_left s ReadJedec h = absurd (omega arith)
cycle_left s ReadSignature h = absurd (omega arith)
cycle_left s (ReadIdentity b) h = absurd (omega arith)
cycle_left s WriteEnable h = absurd (omega arith)
cycle_left s WriteDisable h = absurd (omega arith)
cycle_left s Arm h = absurd (omega arith)
cycle_left s (WriteStatus b t) h = ap (λ (x : State). x.left) (after_status_begun s b t h)
cycle_left s (Erase a n t) h = absurd (omega arith)
cycle_left s (ProgramByte a) h = absurd (omega arith)
cycle_left s (ProgramPage a n) h = absurd (omega arith)
cycle_left s (ProgramWord a i) h = absurd (omega arith)
cycle_left s Sleep h = absurd (omega arith)

-- ---- the registers that power-up finds

module _ (s : State) (c : Command) (mask : List ℕ) where
  -- a status write that came to its end: its time has passed
  pub cut_new : is_status_cycle c ≡ true → get_or mask 0 0 ≡ 0xff → state_cut s c mask ≡ time_passed (state_after s c) (status_time c)
  cut_new timed new =
      let some = ltb-true 0 (status_time c) timed in
      let left = cycle_left s c some in
      rw (timed, eq-eqb (get_or mask 0 0) 0xff new) (sym (time_ends_cycle (state_after s c) (status_time c) (omega (arith, left)) (omega (arith, left))))

  -- one that did not
  pub cut_old : get_or mask 0 0 ≡ 0x00 → state_cut s c mask ≡ state_after s c
  cut_old old = cases (is_status_cycle c) (λ t. rw (t, old) refl) (λ t. rw t refl)

  -- and any other frame
  pub cut_of_other : is_status_cycle c ≡ false → state_cut s c mask ≡ state_after s c
  cut_of_other other = rw other refl

  -- what holds of the frame's registers, and however much time passes, holds of those that power-up finds
  pub cut_by_time : (P : State → Type 0) → P (state_after s c) → ((n : ℕ) → P (time_passed (state_after s c) n)) → P (state_cut s c mask)
  cut_by_time P now later =
      cases (is_status_cycle c && eqb (get_or mask 0 0) 0xff)
      (λ e. rw (cut_new (and_l (is_status_cycle c) (eqb (get_or mask 0 0) 0xff) e) (eqb-true (get_or mask 0 0) 0xff (and_r (is_status_cycle c) (eqb (get_or mask 0 0) 0xff) e)))
      (later (status_time c)))
      (λ e. rw e now)

  pub cut_state_sound : Sound (state_after s c) → Sound (state_cut s c mask)
  cut_state_sound h = cut_by_time Sound h (λ n. time_passed_sound (state_after s c) n h)
