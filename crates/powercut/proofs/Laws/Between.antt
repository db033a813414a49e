-- A byte on its way from what it was to what it is to be: programming and a cut keep it so, and each of its bits is the one's or the other's.
-- Assumes nothing.
use mathlib.Core.Path.{◌≡◌, refl, sym, ap, ◌∙◌}
use mathlib.Core.Logic.{◌⊎◌, inl, inr}
use Prim.Native.Nat.{ℕ, zero, suc, ◌<◌, min}
use native.Mathlib.Nat.{lt_of_le_of_lt}
use native.Mathlib.Omega.{arith}
use lib.Bits.{bit_and, and_self, and_le_l, and_le_r}
use Rattle.effect.specs.Cut.{mixed}
use Rattle.common.specs.Bits.{bit_at}
use Rattle.common.proofs.Laws.Bits.{bit_lt, bit_and_lem, and_assoc, NoRise, no_rise_refl, no_rise_trans, no_rise_and, no_rise_part, and_again}
use Rattle.effect.proofs.Laws.Cut.{mixed_same, mixed_and}
use Rattle.effect.proofs.Laws.Rise.{mixed_no_rise}

-- from `old`, with `want` programmed into it: it has no bit that `old` has not, and lacks none that both have
pub record Between (old want now : ℕ) : Type 0 where
  pub under : NoRise old now
  pub over : bit_and now want ≡ bit_and old want

pub between_start : (old want : ℕ) → Between old want old
between_start old want = record { under = no_rise_refl old; over = refl }

module _ {old want now : ℕ} (h : Between old want now) where
  -- each bit is the old one or the wanted one
  pub between_bit : (b : ℕ) → (bit_at now b ≡ bit_at old b) ⊎ (bit_at now b ≡ bit_at want b)
  between_bit b =
      digit (bit_at old b) (bit_at want b) (bit_at now b) (bit_lt old b) (bit_lt want b) (bit_lt now b)
      (sym (bit_and_lem now old b) ∙ ap (λ (x : ℕ). bit_at x b) h.under)
      (sym (bit_and_lem now want b) ∙ ap (λ (x : ℕ). bit_at x b) h.over ∙ bit_and_lem old want b)
    where
      digit : (o w n : ℕ) → o < 2 → w < 2 → n < 2 → min n o ≡ n → min n w ≡ min o w → (n ≡ o) ⊎ (n ≡ w)
      digit o zero zero ho hw hn p q = inr refl
      digit o zero (suc n) ho hw hn p q = inl (omega arith)
      digit o (suc w) n ho hw hn p q = inl (omega arith)

  pub between_lt : old < 256 → now < 256
  between_lt l = omega (arith, and_le_r now old, h.under)

  pub between_programmed : Between old want (bit_and now want)
  between_programmed = record { under = no_rise_part old now want h.under; over = and_again now want ∙ h.over }

  -- programming cut short
  pub between_mixed : (mask : ℕ) → mask < 256 → old < 256 → Between old want (mixed mask now (bit_and now want))
  between_mixed mask hm ho =
      let new : ℕ = bit_and now want in
      record {
        under = no_rise_trans old now (mixed mask now new) h.under (mixed_no_rise mask now new (no_rise_and now want));
        over = mixed_and mask now new want ∙ ap (mixed mask new) (and_again now want)
            ∙ mixed_same mask new hm (lt_of_le_of_lt (and_le_l now want) (between_lt ho)) ∙ h.over;
      }

  -- where nothing is to fall, nothing has
  pub between_same : bit_and old want ≡ old → now ≡ old
  between_same e =
      let f : bit_and now want ≡ old = h.over ∙ e in
      sym h.under ∙ ap (bit_and now) (sym f) ∙ sym (and_assoc now now want) ∙ ap (λ (x : ℕ). bit_and x want) (and_self now) ∙ f
