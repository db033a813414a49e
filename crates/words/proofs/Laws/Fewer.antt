-- Where fewer bytes change, step 2 is no longer.
-- Assumes nothing.
use mathlib.Core.Path.{◌≡◌, refl}
use mathlib.Core.Bool.{Bool, true, false, not, ◌&&◌, false≢true}
use Prim.Native.Nat.{ℕ, zero, suc, ◌+◌, ◌≤◌}
use native.Mathlib.Omega.{arith}
use Rattle.common.specs.Bits.{bit}
use Rattle.common.proofs.Laws.Booleans.{or_imp}
use Rattle.common.proofs.Laws.Choice.{cases}
use Rattle.script.specs.Record.{script_length}
use Rattle.words.specs.Words.{word_changes, words_step}
use Rattle.words.specs.Walk.{word_count, run_count}
use Rattle.words.proofs.Laws.Words.{words_step_counts}

-- of some addresses, fewer change now
module _ (now before : ℕ → Bool) (fewer : (k : ℕ) → now k ≡ true → before k ≡ true) where
  word_fewer : (a : ℕ) → word_changes now a ≡ true → word_changes before a ≡ true
  word_fewer a e =
      cases (now a) (λ h. rw (fewer a h) refl)
      (λ h. cases (before a) (λ b. rw b refl) (λ b. rw b (fewer (a + 1) (or_imp (now a) (now (a + 1)) e h))))

  -- one word, outside a run or inside: a run that falls apart costs no more than the word that was in its middle
  word_turn : (c b r q : Bool) → (c ≡ true → b ≡ true)
      → bit c 1 + bit (c && not r) 1 + bit (b && not c) 1 ≤ bit b 1 + bit (b && not q) 1 + bit (q && not r) 1
  word_turn true true true true h = omega arith
  word_turn true true true false h = omega arith
  word_turn true true false true h = omega arith
  word_turn true true false false h = omega arith
  word_turn true false r q h = absurd (false≢true (h refl))
  word_turn false true r true h = omega arith
  word_turn false true r false h = omega arith
  word_turn false false r q h = omega arith

  words_fewer : (n a : ℕ) (r q : Bool)
      → word_count now n a + run_count now r n a ≤ word_count before n a + run_count before q n a + bit (q && not r) 1
  unfolding word_count run_count
  words_fewer zero a r q = omega arith
  words_fewer (suc n) a r q =
      omega (
        arith,
        words_fewer n (a + 2) (word_changes now a) (word_changes before a),
        word_turn (word_changes now a) (word_changes before a) r q (word_fewer a),
      )

  pub words_no_longer : (w v : ℕ → ℕ) (n a : ℕ) → script_length (words_step w now n a) ≤ script_length (words_step v before n a)
  words_no_longer w v n a = omega (arith, words_fewer n a false false, words_step_counts w now n a, words_step_counts v before n a)
