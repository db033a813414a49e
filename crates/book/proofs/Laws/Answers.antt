-- What the book's calls answer: as a refusal and where there is none, and that two answers to one call are equal.
-- Assumes nothing.
use mathlib.Core.Path.{◌≡◌, refl, sym, ◌∙◌}
use mathlib.Core.Bool.{Bool}
use mathlib.Core.List.{List, [], ◌∷◌}
use Prim.Native.Nat.{ℕ, ◌<◌}
use Rattle.common.specs.Bits.{bit}
use Rattle.state.specs.declared.State.{State}
use Rattle.state.specs.declared.Told.{Told}
use Rattle.state.specs.declared.Planned.{Planned}
use Rattle.state.specs.Answer.{refused_plan}
use Rattle.state.proofs.Laws.Told.{told_value, told_refused}
use Rattle.promises.specs.Promises.{Plans}
use Rattle.promises.proofs.Laws.Unless.{unless_refused, unless_planned, unless_state, unless_untouched, unless_determined}
use Rattle.book.specs.Book.{is_read, count_read, wanted_part}
use Rattle.book.specs.Refusals.{book_refusal}
use Rattle.book.specs.Answers.{is_read_told, count_told, Marks}

-- ---- the questions

module _ (s : State) (array : List ℕ) (sector : ℕ) where
  module _ (scene : ℕ) where
    pub is_read_refused : (number : ℕ) → 0 < number → book_refusal s array sector (scene ∷ []) ≡ number
        → is_read_told s array sector scene ≡ record { number = number; state = s; value = 0 }
    unfolding is_read_told
    is_read_refused number h e = rw e (told_refused number s (bit (is_read array sector scene) 1) h)

    pub is_read_told_lem : book_refusal s array sector (scene ∷ []) ≡ 0
        → is_read_told s array sector scene ≡ record { number = 0; state = s; value = bit (is_read array sector scene) 1 }
    unfolding is_read_told
    is_read_told_lem e = told_value (book_refusal s array sector (scene ∷ [])) s (bit (is_read array sector scene) 1) e

    pub is_read_state : (is_read_told s array sector scene).state ≡ s
    unfolding is_read_told
    is_read_state = refl

    pub is_read_determined : (r₁ r₂ : Told) → r₁ ≡ is_read_told s array sector scene → r₂ ≡ is_read_told s array sector scene → r₁ ≡ r₂
    is_read_determined r₁ r₂ p q = p ∙ sym q

  pub count_refused : (number : ℕ) → 0 < number → book_refusal s array sector [] ≡ number
      → count_told s array sector ≡ record { number = number; state = s; value = 0 }
  unfolding count_told
  count_refused number h e = rw e (told_refused number s (count_read array sector) h)

  pub count_told_lem : book_refusal s array sector [] ≡ 0 → count_told s array sector ≡ record { number = 0; state = s; value = count_read array sector }
  unfolding count_told
  count_told_lem e = told_value (book_refusal s array sector []) s (count_read array sector) e

  pub count_state : (count_told s array sector).state ≡ s
  unfolding count_told
  count_state = refl

  pub count_determined : (r₁ r₂ : Told) → r₁ ≡ count_told s array sector → r₂ ≡ count_told s array sector → r₁ ≡ r₂
  count_determined r₁ r₂ p q = p ∙ sym q

-- ---- a marking

module _ (s : State) (wp : Bool) (array : List ℕ) (sector : ℕ) (scenes buffer : List ℕ) where
  abbrev number : ℕ
  number = book_refusal s array sector scenes

  abbrev want : List ℕ
  want = wanted_part array sector scenes

  pub marks_refused : (n : ℕ) → 0 < n → number ≡ n → Marks s wp array sector scenes buffer buffer (refused_plan n s)
  marks_refused = unless_refused number s wp array sector want buffer

  pub marks_planned : (after : List ℕ) (r : Planned) → number ≡ 0 → Plans s wp array sector want buffer after r
      → Marks s wp array sector scenes buffer after r
  marks_planned = unless_planned number s wp array sector want buffer

  pub marks_state : (after : List ℕ) (r : Planned) → Marks s wp array sector scenes buffer after r → r.state ≡ s
  marks_state = unless_state number s wp array sector want buffer

  pub marks_untouched : (after : List ℕ) (r : Planned) → Marks s wp array sector scenes buffer after r → 0 < r.number
      → (r ≡ refused_plan r.number s) × (after ≡ buffer)
  marks_untouched = unless_untouched number s wp array sector want buffer

  pub marks_determined : (after₁ after₂ : List ℕ) (r₁ r₂ : Planned) → Marks s wp array sector scenes buffer after₁ r₁
      → Marks s wp array sector scenes buffer after₂ r₂ → (r₁ ≡ r₂) × (after₁ ≡ after₂)
  marks_determined = unless_determined number s wp array sector want buffer
