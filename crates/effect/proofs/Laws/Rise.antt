-- Programming turns no 0 into a 1, whole or cut.
-- Assumes nothing.
use mathlib.Core.List.{List}
use Prim.Native.Nat.{ℕ, ◌-◌, ◌%◌}
use lib.Dec.{leb}
use Rattle.common.proofs.Laws.Bits.{NoRise, no_rise_refl, no_rise_and, no_rise_part, no_rise_or}
use Rattle.common.proofs.Laws.Choice.{cond_elim}
use Rattle.effect.specs.declared.Effect.{Effect}
use Rattle.effect.specs.declared.Effect.TheVariants.{Keep, Fill, Program, Round}
use Rattle.effect.specs.Effect.{page_effect, touches, struck, changed}
use Rattle.effect.specs.Cut.{mixed, cut}

-- the effect is no erase
abbrev pub NoErase : Effect → Type 0
NoErase Keep = Unit {0}
NoErase (Fill a n) = ⊥
NoErase (Program a n i) = Unit {0}
NoErase (Round a n) = Unit {0}

pub page_no_erase : (a n : ℕ) → NoErase (page_effect a n)
unfolding page_effect
page_no_erase a n = cond_elim NoErase (leb n (256 - a % 256)) (λ _. tt) (λ _. tt)

pub mixed_no_rise : (mask old new : ℕ) → NoRise old new → NoRise old (mixed mask old new)
unfolding mixed
mixed_no_rise mask old new h = no_rise_or old _ _ (no_rise_part old new mask h) (no_rise_and old _)

struck_no_rise : (e : Effect) (f : List ℕ) (k x : ℕ) → NoErase e → NoRise x (struck e f k x)
unfolding struck
struck_no_rise Keep f k x p = no_rise_refl x
struck_no_rise (Fill a n) f k x p = absurd p
struck_no_rise (Program a n i) f k x p = no_rise_and x _
struck_no_rise (Round a n) f k x p = no_rise_and x _

module _ (e : Effect) (f : List ℕ) (k x : ℕ) (p : NoErase e) where
  pub changed_no_rise : NoRise x (changed e f k x)
  unfolding changed
  changed_no_rise = cond_elim (NoRise x) (touches e k) (λ _. struck_no_rise e f k x p) (λ _. no_rise_refl x)

  pub cut_no_rise : (mask : List ℕ) → NoRise x (cut e f mask k x)
  unfolding cut
  cut_no_rise mask =
      cond_elim (NoRise x) (touches e k) (λ _. mixed_no_rise _ x (struck e f k x) (struck_no_rise e f k x p)) (λ _. no_rise_refl x)
