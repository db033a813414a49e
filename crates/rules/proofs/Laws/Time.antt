-- Time, case by case: while BUSY lasts, when it ends, and where it is 0.
-- Assumes nothing.
use mathlib.Core.Path.{◌≡◌, refl, ap, ◌∙◌}
use mathlib.Core.Bool.{true}
use mathlib.Core.Logic.{⊎_elim}
use Prim.Native.Nat.{ℕ, ◌-◌, ◌≤◌, ◌<◌}
use native.Mathlib.Omega.{arith}
use lib.Dec.{ltb}
use borrow.Author.Tests.{ltb-true, ltb-false}
use Rattle.common.proofs.Laws.Choice.{cases}
use Rattle.common.proofs.Laws.Lists.{split}
use Rattle.state.specs.declared.State.{State}
use Rattle.state.specs.declared.Answer.{Answer}
use Rattle.state.specs.Protection.{first_protected}
use Rattle.state.specs.Soundness.{is_sound}
use Rattle.state.specs.Time.{status_written, time_passed, pass_time}
use Rattle.state.proofs.Laws.Soundness.{sound_of, aai_not_pending}
use Rattle.state.proofs.Laws.Passed.{time_goes_on, time_idle, time_ends_written, time_ends, time_ends_in_aai, time_ends_aai, pass_time_granted}
use Rattle.chip.proofs.Laws.Chip.{chip_of_5}
use Rattle.rules.specs.Soundness.{SoundState}
use Rattle.rules.specs.Power.{written_05pa}
use Rattle.rules.specs.Time.{Time}
use Rattle.rules.proofs.Laws.Soundness.{soundness}
use Rattle.rules.proofs.Laws.StatusByte.{level_of, tb_of, bpl_of}

-- a status write has come to its end: every field of the F25L05PA
pub written_is : (s : State) → SoundState s → s.pending ≡ true → status_written s ≡ written_05pa s.pending_bits
written_is s w p =
    let small = w.pending_05pa p in
    let busy = w.pending_busy p in
    let single = w.no_aai small in
    rw (
      small,
      chip_of_5,
      single,
      w.busy_not_armed busy,
      w.busy_not_power_down busy,
      w.without_aai single,
      level_of s.pending_bits,
      tb_of s.pending_bits,
      bpl_of s.pending_bits,
    ) refl

module _ (s : State) (n : ℕ) (sound : is_sound s ≡ true) where
  answered : pass_time s n ≡ record { number = 0; state = time_passed s n }
  answered = pass_time_granted s n (sound_of s sound)

  state : (pass_time s n).state ≡ time_passed s n
  state = ap (λ (a : Answer). a.state) answered

  -- when the cycle ends, left is 0 in every case
  ended : 0 < s.left → s.left ≤ n → (time_passed s n).left ≡ 0
  ended busy over =
      cases s.pending (λ p. ap (λ (t : State). t.left) (time_ends_written s n busy over p))
      (λ o. cases s.aai
      (λ a. cases (ltb s.next (first_protected s))
      (λ t. ap (λ (t : State). t.left) (time_ends_in_aai s n busy over o a (ltb-true s.next (first_protected s) t)))
      (λ t. ap (λ (t : State). t.left) (time_ends_aai s n busy over o a (ltb-false s.next (first_protected s) t))))
      (λ a. ap (λ (t : State). t.left) (time_ends s n busy over o a)))

  left : (time_passed s n).left ≡ s.left - n
  left =
      ⊎_elim (λ h. ap (λ (t : State). t.left) (time_goes_on s n h))
      (λ over. ⊎_elim (λ busy. ended busy over ∙ omega arith) (λ none. let z : s.left ≡ 0 = omega arith in ap (λ (t : State). t.left) (time_idle s n z) ∙ omega arith) (split 0 s.left))
      (split n s.left)

  pub time : Time s n sound
  time = record {
    left_falls = ap (λ (t : State). t.left) state ∙ left;
    wel_falls = λ busy over a o. state ∙ time_ends s n busy over o a;
    aai_waits = λ busy over a h. state ∙ time_ends_in_aai s n busy over (aai_not_pending s (sound_of s sound) a) a h;
    aai_ends = λ busy over a h. state ∙ time_ends_aai s n busy over (aai_not_pending s (sound_of s sound) a) a (omega arith);
    status_ends = λ busy over p. state ∙ time_ends_written s n busy over p ∙ written_is s ((soundness s).sound_when.when sound) p;
    busy_still = λ h. state ∙ time_goes_on s n h;
    not_busy = λ z. state ∙ time_idle s n z;
    accepted = ap (λ (a : Answer). a.number) answered;
  }
