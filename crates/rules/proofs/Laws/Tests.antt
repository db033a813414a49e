-- Tests and what they mean: of two numbers, and joined by `not`, `&&` and `||`.
-- Assumes nothing.
use mathlib.Core.Path.{◌≡◌, refl, sym, ◌∙◌}
use mathlib.Core.Bool.{Bool, true, false, true≢false, ◌&&◌, ◌||◌, not}
use mathlib.Core.Logic.{◌⊎◌, inl, inr, ⊎_elim}
use Prim.Native.Nat.{ℕ, ◌<◌}
use lib.Dec.{ltb, eqb}
use borrow.Author.Tests.{eqb-true, eq-eqb, ltb-true, lt-ltb, not-true}
use Rattle.common.proofs.Laws.Booleans.{and_l, and_r, and_i, not_i, or_imp, imp_or}
use Rattle.common.proofs.Laws.Choice.{cases}
use Rattle.common.specs.Refusals.{Exactly}

-- what cannot hold does not
pub off : (b : Bool) → (b ≡ true → ⊥) → b ≡ false
off b never = cases b (λ t. absurd (never t)) (λ t. t)

pub means_equal : (m n : ℕ) → Exactly (eqb m n ≡ true) (m ≡ n)
means_equal m n = record { when = eqb-true m n; only_when = eq-eqb m n }

pub means_less : (m n : ℕ) → Exactly (ltb m n ≡ true) (m < n)
means_less m n = record { when = ltb-true m n; only_when = lt-ltb m n }

pub means_not : {A : Type 0} (b : Bool) → Exactly (b ≡ true) A → Exactly (not b ≡ true) (A → ⊥)
means_not b m = record {
  when = λ e a. true≢false (sym (m.only_when a) ∙ not-true b e);
  only_when = λ never. not_i b (off b (λ t. never (m.when t)));
}

pub means_and : {A B : Type 0} (a b : Bool) → Exactly (a ≡ true) A → Exactly (b ≡ true) B → Exactly (a && b ≡ true) (A × B)
means_and a b m n = record {
  when = λ e. (m.when (and_l a b e), n.when (and_r a b e));
  only_when = λ w. and_i (m.only_when w.0) (n.only_when w.1);
}

pub means_or : {A B : Type 0} (a b : Bool) → Exactly (a ≡ true) A → Exactly (b ≡ true) B → Exactly (a || b ≡ true) (A ⊎ B)
means_or a b m n = record {
  when = λ e. cases a (λ t. inl (m.when t)) (λ t. inr (n.when (or_imp a b e t)));
  only_when = ⊎_elim (λ w. rw (m.only_when w) refl) (λ w. imp_or a b (λ _. n.only_when w));
}
