-- Step 2 read off its records: the changing words one after another, neighbours in one run.
-- Assumes nothing.
use mathlib.Core.Path.{◌≡◌, sym, ap, ◌∙◌}
use mathlib.Core.Bool.{Bool, true, false, cond}
use mathlib.Core.List.{List, [], ◌∷◌}
use mathlib.Core.Logic.{⊎_elim, ◌⊎◌, inl, inr}
use Prim.Native.Nat.{ℕ, zero, suc, ◌+◌, ◌*◌, ◌/◌, ◌%◌, ◌≤◌, ◌<◌}
use native.Mathlib.Omega.{arith}
use lib.ListN.{length}
use Rattle.common.specs.Lists.{Each}
use Rattle.common.proofs.Laws.Booleans.{or_imp, imp_or}
use Rattle.common.proofs.Laws.Choice.{cases, cond_elim}
use Rattle.common.proofs.Laws.Lists.{split}
use Rattle.region.specs.Region.{Inside, wanted_at, changes}
use Rattle.words.specs.Words.{word_bytes, word_changes, words_in, step_two}
use Rattle.words.specs.Walk.{words}
use Rattle.words.proofs.Laws.Runs.{words_are_runs}
use Rattle.words.proofs.Laws.Words.{words_ended, words_closed, word_begins, word_goes_on, word_ends, word_skipped}
use Rattle.rules.specs.Sent.{Changing, Sent, sent, HeldBy, SentAsWanted}
use Rattle.rules.specs.PlanWords.{WordsSaid, begins, goes_on, closes, ends, WordsStep}
use Rattle.rules.proofs.Laws.Sent.{changing_of, of_changing, wanted_as_wanted, in_three_bytes}

module _ (array : List ℕ) (start : ℕ) (wanted : List ℕ) (inside : Inside array start wanted) where
  abbrev w : ℕ → ℕ
  w = wanted_at start wanted

  abbrev d : ℕ → Bool
  d = changes array start wanted

  abbrev words_of : ℕ → ℕ → List Sent
  words_of zero a = []
  words_of (suc n) a = cond (word_changes d a) (sent a (word_bytes w a) ∷ words_of n (a + 2)) (words_of n (a + 2))

  -- a word that changes holds a changing byte
  word_holds : (a : ℕ) → word_changes d a ≡ true → Changing array start wanted a ⊎ Changing array start wanted (a + 1)
  word_holds a t = cases (d a) (λ e. inl (changing_of array start wanted a e)) (λ e. inr (changing_of array start wanted (a + 1) (or_imp (d a) (d (a + 1)) t e)))

  word_small : (a : ℕ) → word_changes d a ≡ true → a < 16777216
  word_small a t = ⊎_elim (λ c. omega (arith, c.below, inside.fits, inside.small)) (λ c. omega (arith, c.below, inside.fits, inside.small)) (word_holds a t)

  -- ---- what the records say, outside a run and inside

  record Said (n a : ℕ) : Type 0 where
    outside : (from : ℕ) → from ≤ a → WordsSaid false from (words w d false n a) (words_of n a)
    inside_run : WordsSaid true a (words w d true n a) (words_of n a)

  said : (n a : ℕ) → Said n a
  said zero a = record { outside = λ from h. rw (words_ended w d a) ends; inside_run = rw (words_closed w d a) (closes ends) }
  said (suc n) a =
      let i = said n (a + 2) in
      cases (word_changes d a)
      (λ t. record {
        outside = λ from h. rw (word_begins w d a n t, t) (begins h (in_three_bytes a (word_small a t)) i.inside_run);
        inside_run = rw (word_goes_on w d a n t, t) (goes_on i.inside_run);
      })
      (λ t. record {
        outside = λ from h. rw (word_skipped w d a n t, t) (i.outside from (omega arith));
        inside_run = rw (word_ends w d a n t, t) (closes (i.outside (a + 2) (omega arith)));
      })

  -- ---- each word

  each_word : (P : Sent → Type 0) → ((a : ℕ) → a % 2 ≡ 0 → word_changes d a ≡ true → P (sent a (word_bytes w a))) → (n a : ℕ) → a % 2 ≡ 0
      → Each P (words_of n a)
  each_word P h zero a even = tt
  each_word P h (suc n) a even =
      let rest = each_word P h n (a + 2) (omega arith) in cond_elim (Each P) (word_changes d a) (λ t. (h a even t, rest)) (λ _. rest)

  word_as_wanted : (a : ℕ) → SentAsWanted start wanted (sent a (word_bytes w a))
  word_as_wanted a zero h = let e : a + 0 ≡ a = omega arith in rw e (wanted_as_wanted start wanted a)
  word_as_wanted a (suc zero) h = wanted_as_wanted start wanted (a + 1)
  word_as_wanted a (suc (suc i)) h = absurd (omega arith)

  -- ---- all of them

  held : (n a k : ℕ) → a ≤ k → k < a + 2 * n → d k ≡ true → HeldBy (words_of n a) k
  held zero a k h l e = absurd (omega arith)
  held (suc n) a k h l e =
      ⊎_elim
      (λ (here : k < a + 2).
      let t : word_changes d a ≡ true =
      imp_or (d a) (d (a + 1))
      (λ f. ⊎_elim (λ q. let z : k ≡ a = omega arith in absurd (mathlib.Core.Bool.true≢false (sym e ∙ ap d z ∙ f)))
      (λ q. let z : k ≡ a + 1 = omega arith in sym (ap d z) ∙ e) (split k (a + 1))) in
      rw t (inl (h, omega arith)))
      (λ (there : a + 2 ≤ k). let rest = held n (a + 2) k there (omega arith) e in cond_elim (λ (xs : List Sent). HeldBy xs k) (word_changes d a) (λ _. inr rest) (λ _. rest))
      (split k (a + 2))

  pub words_step : WordsStep array start wanted (step_two array start wanted)
  words_step =
      let n : ℕ = words_in start (length wanted) in
      let a : ℕ = start / 2 * 2 in
      let even : a % 2 ≡ 0 = omega arith in
      record {
        words = words_of n a;
        in_runs = rw (← words_are_runs w d n a) ((said n a).outside 0 (omega arith));
        aligned = each_word (λ (x : Sent). x.address % 2 ≡ 0) (λ a even _. even) n a even;
        holding_a_change = each_word (λ (x : Sent). Changing array start wanted x.address ⊎ Changing array start wanted (x.address + 1)) (λ a _ t. word_holds a t) n a even;
        all_changes = λ k c. held n a k (omega (arith, c.from)) (omega (arith, c.below)) (of_changing array start wanted k c);
        as_wanted = each_word (SentAsWanted start wanted) (λ a _ _. word_as_wanted a) n a even;
      }
