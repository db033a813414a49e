-- Both slices of a line have so many bytes, or not: in the pages' words and in the calls'.
-- Assumes nothing.
use mathlib.Core.Path.{◌≡◌, sym, ◌∙◌}
use mathlib.Core.Bool.{true, true≢false}
use Prim.Native.Nat.{ℕ}
use Rattle.common.specs.Refusals.{Exactly}
use Rattle.common.proofs.Laws.Choice.{cases}
use Rattle.frame.specs.Line.{Line, is_not_long, Long}
use Rattle.frame.proofs.Laws.Line.{long_of, of_long}
use Rattle.rules.specs.Conditions.{BothLong}

pub long_of_both : {line : Line} {n : ℕ} → BothLong line n → Long n line
long_of_both both = record { output_long = both.0; driven_long = both.1 }

-- the test of refusal 4
pub means_not_long : (line : Line) (n : ℕ) → Exactly (is_not_long n line ≡ true) (BothLong line n → ⊥)
means_not_long line n = record {
  when = λ t both. true≢false (sym t ∙ of_long n line (long_of_both both));
  only_when = λ other.
      cases (is_not_long n line) (λ t. t) (λ t. let long = long_of n line t in absurd (other (long.output_long, long.driven_long)));
}
