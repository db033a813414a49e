-- What the state is when time has passed, case by case: `time-…` of `time_passed`, `pass-time-…` of the call.
-- Assumes nothing.
use mathlib.Core.Path.{◌≡◌, refl, sym}
use mathlib.Core.Bool.{true, false}
use Prim.Native.Nat.{ℕ, ◌-◌, ◌≤◌, ◌<◌}
use native.Mathlib.Omega.{arith}
use lib.Dec.{ltb, eqb}
use borrow.Author.Tests.{lt-ltb, le-ltb, eq-eqb, ne_eqb}
use Rattle.common.specs.Refusals.{state_not_sound}
use Rattle.common.proofs.Laws.Choice.{cond_elim}
use Rattle.state.specs.declared.State.{State}
use Rattle.state.specs.declared.Answer.{Answer}
use Rattle.state.specs.State.{with_left, with_wel, with_aai}
use Rattle.state.specs.Answer.{granted, refused}
use Rattle.state.specs.Protection.{first_protected}
use Rattle.state.specs.Soundness.{is_sound, Sound}
use Rattle.state.specs.Power.{state_refusal}
use Rattle.state.specs.Time.{status_written, cycle_ended, time_passed, pass_time}
use Rattle.state.proofs.Laws.Answer.{answer_sound, answer_unsound}
use Rattle.state.proofs.Laws.Soundness.{sound_of, of_sound}
use Rattle.state.proofs.Laws.Time.{time_passed_sound}

module _ (s : State) (n : ℕ) where
  -- the cycle goes on
  pub time_goes_on : n < s.left → time_passed s n ≡ with_left s (s.left - n)
  unfolding time_passed
  time_goes_on h = rw (lt-ltb n s.left h) refl

  -- nothing is going on
  pub time_idle : s.left ≡ 0 → time_passed s n ≡ s
  unfolding time_passed
  time_idle z = rw (le-ltb n s.left (omega arith), eq-eqb s.left 0 z) refl

  module _ (busy : 0 < s.left) (over : s.left ≤ n) where
    pub time_ends_cycle : time_passed s n ≡ cycle_ended s
    unfolding time_passed
    time_ends_cycle = rw (le-ltb n s.left over, ne_eqb s.left 0 (λ z. absurd (omega arith))) refl

    -- a status write's cycle ends: its bits are there, and WEL falls
    pub time_ends_written : s.pending ≡ true → time_passed s n ≡ status_written s
    unfolding cycle_ended
    time_ends_written p = rw (time_ends_cycle, p) refl

    -- any other
    module _ (other : s.pending ≡ false) where
      -- ends: WEL falls
      pub time_ends : s.aai ≡ false → time_passed s n ≡ with_wel (with_left s 0) false
      unfolding cycle_ended
      time_ends a = rw (time_ends_cycle, other, a) refl

      -- in AAI it waits for the next word, below the first protected address
      pub time_ends_in_aai : s.aai ≡ true → s.next < first_protected s → time_passed s n ≡ with_left s 0
      unfolding cycle_ended
      time_ends_in_aai a h = rw (time_ends_cycle, lt-ltb s.next (first_protected s) h, other, a) refl

      -- and there AAI ends too
      pub time_ends_aai : s.aai ≡ true → first_protected s ≤ s.next → time_passed s n ≡ with_wel (with_aai (with_left s 0) false 0) false
      unfolding cycle_ended
      time_ends_aai a h = rw (time_ends_cycle, le-ltb s.next (first_protected s) h, other, a) refl

  -- ---- which chip it is never changes

  abbrev Same : State → Type 0
  Same t = t.chip ≡ s.chip

  pub time_passed_chip : (time_passed s n).chip ≡ s.chip
  unfolding time_passed cycle_ended
  time_passed_chip =
      cond_elim Same (ltb n s.left) (λ _. refl)
      (λ _. cond_elim Same (eqb s.left 0) (λ _. refl)
      (λ _. cond_elim Same s.pending (λ _. refl)
      (λ _. cond_elim Same s.aai (λ _. cond_elim Same (ltb s.next (first_protected s)) (λ _. refl) (λ _. refl)) (λ _. refl))))

  -- ---- the call

  pub pass_time_granted : Sound s → pass_time s n ≡ granted (time_passed s n)
  unfolding pass_time
  pass_time_granted h = sym (answer_sound s (time_passed s n) (of_sound s h))

  pub pass_time_refused : is_sound s ≡ false → pass_time s n ≡ refused state_not_sound s
  unfolding pass_time
  pass_time_refused e = sym (answer_unsound s (time_passed s n) e)

  -- "Every call returns a sound state from a sound one."
  pub pass_time_sound : is_sound s ≡ true → is_sound (pass_time s n).state ≡ true
  unfolding pass_time
  pass_time_sound h =
      cond_elim (λ (a : Answer). is_sound a.state ≡ true) (eqb (state_refusal s) 0)
      (λ _. of_sound (time_passed s n) (time_passed_sound s n (sound_of s h))) (λ _. h)
