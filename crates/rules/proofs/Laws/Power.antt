-- A new chip and a chip powered up, with every field written out.
-- Assumes nothing.
use mathlib.Core.Path.{◌≡◌, refl, ap, ◌∙◌}
use mathlib.Core.Bool.{true, false}
use mathlib.Core.Logic.{⊎_elim}
use Prim.Native.Nat.{ℕ}
use native.Mathlib.Omega.{arith}
use Rattle.common.proofs.Laws.Choice.{cases}
use Rattle.chip.specs.Chip.{is_known}
use Rattle.chip.proofs.Laws.Chip.{known_8, known_5, chip_of_8, chip_of_5, known_number}
use Rattle.state.specs.declared.State.{State}
use Rattle.state.specs.declared.Answer.{Answer}
use Rattle.state.specs.Soundness.{is_sound}
use Rattle.state.specs.Power.{new_chip, powered_up, power_up}
use Rattle.state.proofs.Laws.Soundness.{sound_of}
use Rattle.state.proofs.Laws.Power.{new_chip_known, new_chip_unknown, powered_up_keeps, powered_up_new, power_up_granted}
use Rattle.rules.specs.Power.{new_008a, new_05pa, NewChips, PowerUp}

-- ---- a new chip

unknown : (number : ℕ) → (number ≡ 8 → ⊥) → (number ≡ 5 → ⊥) → is_known number ≡ false
unknown number big small = cases (is_known number) (λ k. absurd (⊎_elim big small (known_number number k))) (λ k. k)

new_big : new_chip 8 ≡ record { number = 0; state = new_008a }
new_big = new_chip_known 8 known_8 ∙ rw chip_of_8 refl

new_small : new_chip 5 ≡ record { number = 0; state = new_05pa }
new_small = new_chip_known 5 known_5 ∙ rw chip_of_5 refl

new_none : (number : ℕ) → is_known number ≡ false → new_chip number ≡ record { number = 1; state = new_05pa }
new_none number k = new_chip_unknown number k ∙ rw chip_of_5 refl

numbered : {a b : Answer} → a ≡ b → a.number ≡ b.number
numbered e = ap (λ (a : Answer). a.number) e

pub new_chips : NewChips
new_chips = record {
  new_008a_lem = new_big;
  new_05pa_lem = new_small;
  unknown_number = λ number big small. new_none number (unknown number big small);
  known_number = λ number. record {
    when = λ e. cases (is_known number) (λ k. known_number number k) (λ k. absurd (omega (arith, e, numbered (new_none number k))));
    only_when = λ known. ⊎_elim (λ e. rw e (numbered new_big)) (λ e. rw e (numbered new_small)) known;
  };
}

-- ---- power-up

module _ (s : State) (sound : is_sound s ≡ true) where
  answered : {t : State} → powered_up s ≡ t → power_up s ≡ record { number = 0; state = t }
  answered e = power_up_granted s (sound_of s sound) ∙ rw e refl

  pub power_up_lem : PowerUp s sound
  power_up_lem = record {
    up_008a = λ e. answered (powered_up_new s (rw (e, chip_of_8) refl) ∙ rw (e, chip_of_8) refl);
    up_05pa = λ e. answered (powered_up_keeps s (rw (e, chip_of_5) refl) ∙ rw e refl);
  }
