-- Step 2 word by word is step 2 in runs of neighbours.
-- Assumes nothing.
use mathlib.Core.Path.{◌≡◌, refl, sym}
use mathlib.Core.Bool.{Bool, true, false, cond}
use mathlib.Core.List.{List, [], ◌∷◌, ◌++◌, append_assoc}
use Prim.Native.Nat.{ℕ, zero, suc, ◌+◌, ◌≤◌}
use native.Mathlib.Omega.{arith}
use lib.Dec.{eqb}
use borrow.Author.Tests.{eq-eqb, ne_eqb}
use Rattle.common.proofs.Laws.Choice.{cases}
use Rattle.script.specs.Record.{Record, frame}
use Rattle.words.specs.Words.{word_changes, changing_words, Run, run, joined, runs_of, further_records, run_records, runs_records, words_step}
use Rattle.words.specs.Walk.{word_records, words}

-- the runs begin at an address or behind it
abbrev From : ℕ → List Run → Type 0
From address [] = Unit {0}
From address (run first further ∷ runs) = address ≤ first

from_less : (a b : ℕ) (runs : List Run) → a ≤ b → From b runs → From a runs
from_less a b [] h f = tt
from_less a b (run first further ∷ runs) h f = omega arith

joined_from : (address : ℕ) (runs : List Run) → From address (joined address runs)
unfolding joined
joined_from address [] = omega arith
joined_from address (run first further ∷ runs) =
    cases (eqb first (address + 2)) (λ e. rw e (omega arith)) (λ e. rw e (omega arith))

runs_from : (d : ℕ → Bool) (n address : ℕ) → From address (runs_of (changing_words d n address))
unfolding changing_words runs_of
runs_from d zero address = tt
runs_from d (suc n) address =
    cases (word_changes d address)
    (λ e. rw e (joined_from address (runs_of (changing_words d n (address + 2)))))
    (λ e. rw e (from_less address (address + 2) (runs_of (changing_words d n (address + 2))) (omega arith) (runs_from d n (address + 2))))

module _ (w : ℕ → ℕ) where
  -- what follows a word of a run: the run goes on where the next one begins at its neighbour, else it is closed
  abbrev going_on : ℕ → List Run → List Record
  going_on next [] = frame (0x04 ∷ []) ∷ []
  going_on next (run first further ∷ runs) =
      cond (eqb first next) (further_records w (first ∷ further) ++ (frame (0x04 ∷ []) ∷ runs_records w runs))
      (frame (0x04 ∷ []) ∷ runs_records w (run first further ∷ runs))

  -- no neighbour: closed
  closed : (address : ℕ) (runs : List Run) → From (address + 2) runs → going_on address runs ≡ frame (0x04 ∷ []) ∷ runs_records w runs
  unfolding runs_records
  closed address [] f = refl
  closed address (run first further ∷ runs) f = rw (ne_eqb first address (λ e. omega arith)) refl

  -- a word outside a run begins one, and a word inside goes on with it
  begins : (address : ℕ) (runs : List Run) → word_records w false true address ++ going_on (address + 2) runs ≡ runs_records w (joined address runs)
  unfolding word_records joined runs_records run_records further_records
  begins address [] = refl
  begins address (run first further ∷ runs) =
      cases (eqb first (address + 2)) (λ e. rw (e, append_assoc) refl) (λ e. rw e refl)

  goes_on : (address : ℕ) (runs : List Run) → word_records w true true address ++ going_on (address + 2) runs ≡ going_on address (joined address runs)
  unfolding word_records joined runs_records run_records further_records
  goes_on address [] = rw (eq-eqb address address refl) refl
  goes_on address (run first further ∷ runs) =
      cases (eqb first (address + 2)) (λ e. rw (e, eq-eqb address address refl) refl) (λ e. rw (e, eq-eqb address address refl) refl)

  record Same (d : ℕ → Bool) (n address : ℕ) : Type 0 where
    outside : words w d false n address ≡ runs_records w (runs_of (changing_words d n address))
    inside : words w d true n address ≡ going_on address (runs_of (changing_words d n address))

  same : (d : ℕ → Bool) (n address : ℕ) → Same d n address
  unfolding words word_records changing_words runs_of runs_records
  same d zero address = record { outside = refl; inside = refl }
  same d (suc n) address =
      let i = same d n (address + 2) in
      let rs : List Run = runs_of (changing_words d n (address + 2)) in
      cases (word_changes d address)
      (λ e. record {
        outside = rw (e, i.inside) (begins address rs);
        inside = rw (e, i.inside) (goes_on address rs);
      })
      (λ e. record {
        outside = rw e i.outside;
        inside = rw (e, i.outside) (sym (closed address rs (runs_from d n (address + 2))));
      })

pub words_are_runs : (w : ℕ → ℕ) (d : ℕ → Bool) (n address : ℕ) → words w d false n address ≡ words_step w d n address
unfolding words_step
words_are_runs w d n address = (same w d n address).outside
