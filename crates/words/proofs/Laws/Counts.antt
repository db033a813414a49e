-- How many words change and how many runs begin: at most so many; and just how many where all of them change, and where every second one does.
-- Assumes nothing.
use mathlib.Core.Path.{◌≡◌, refl}
use mathlib.Core.Bool.{Bool, true, false, cond, not, ◌&&◌}
use Prim.Native.Nat.{ℕ, zero, suc, ◌+◌, ◌*◌, ◌%◌, ◌≤◌, ◌<◌}
use native.Mathlib.Omega.{arith}
use Rattle.common.specs.Bits.{bit}
use Rattle.common.proofs.Laws.Flags.{bit_le}
use Rattle.words.specs.Words.{word_changes}
use Rattle.words.specs.Walk.{word_count, run_count}

-- ---- at most

-- at most all words change, and between two runs stands a word that does not
begun_le : (changes running : Bool) → bit (changes && not running) 1 + bit running 1 ≤ 1
begun_le true true = omega arith
begun_le true false = omega arith
begun_le false true = omega arith
begun_le false false = omega arith

pub counts_le : (d : ℕ → Bool) (running : Bool) (n address : ℕ) → word_count d n address + run_count d running n address + bit running 1 ≤ n + 1
unfolding word_count run_count
counts_le d running zero address = omega (arith, begun_le true running)
counts_le d running (suc n) address =
    omega (arith, counts_le d (word_changes d address) n (address + 2), begun_le (word_changes d address) running)

pub words_le : (d : ℕ → Bool) (n address : ℕ) → word_count d n address ≤ n
unfolding word_count
words_le d zero address = omega arith
words_le d (suc n) address = omega (arith, bit_le (word_changes d address) 1, words_le d n (address + 2))

-- a run begins with a word that changes
begins_changing : (changes running : Bool) → bit (changes && not running) 1 ≤ bit changes 1
begins_changing true running = bit_le (not running) 1
begins_changing false running = omega arith

pub runs_le_words : (d : ℕ → Bool) (running : Bool) (n address : ℕ) → run_count d running n address ≤ word_count d n address
unfolding run_count word_count
runs_le_words d running zero address = omega arith
runs_le_words d running (suc n) address =
    omega (arith, begins_changing (word_changes d address) running, runs_le_words d (word_changes d address) n (address + 2))

-- ---- just how many

-- so many words, and so many runs of them
pub record Counted (d : ℕ → Bool) (running : Bool) (n address words runs : ℕ) : Type 0 where
  pub words_are : word_count d n address ≡ words
  pub runs_are : run_count d running n address ≡ runs

module _ (d : ℕ → Bool) where
  counted_none : (running : Bool) (address : ℕ) → Counted d running 0 address 0 0
  unfolding word_count run_count
  counted_none running address = record { words_are = refl; runs_are = refl }

  -- one word more in front: it changes, and begins a run unless one goes on; or it does not
  one_changes : (running : Bool) (n address : ℕ) {words runs : ℕ} → word_changes d address ≡ true → Counted d true n (address + 2) words runs
      → Counted d running (suc n) address (suc words) (cond running runs (suc runs))
  unfolding word_count run_count
  one_changes true n address e c = record { words_are = rw e (omega (arith, c)); runs_are = rw e (omega (arith, c)) }
  one_changes false n address e c = record { words_are = rw e (omega (arith, c)); runs_are = rw e (omega (arith, c)) }

  one_stays : (running : Bool) (n address : ℕ) {words runs : ℕ} → word_changes d address ≡ false → Counted d false n (address + 2) words runs
      → Counted d running (suc n) address words runs
  unfolding word_count run_count
  one_stays running n address e c = record { words_are = rw e (omega (arith, c)); runs_are = rw e (omega (arith, c)) }

  -- all words change: one run
  all_go_on : (n address : ℕ) → ((a : ℕ) → address ≤ a → a + 1 < address + 2 * n → word_changes d a ≡ true) → Counted d true n address n 0
  all_go_on zero address all = counted_none true address
  all_go_on (suc n) address all =
      one_changes true n address (all address (omega arith) (omega arith)) (all_go_on n (address + 2) (λ a h l. all a (omega arith) (omega arith)))

  pub one_run : (n address : ℕ) → ((a : ℕ) → address ≤ a → a + 1 < address + 2 * suc n → word_changes d a ≡ true) → Counted d false (suc n) address (suc n) 1
  one_run n address all =
      one_changes false n address (all address (omega arith) (omega arith)) (all_go_on n (address + 2) (λ a h l. all a (omega arith) (omega arith)))

  -- every second word changes, from the first on and to the last: each is a run
  pub single_words : (n address : ℕ) → address % 4 ≡ 0
      → ((a : ℕ) → address ≤ a → a ≤ address + 4 * n → a % 4 ≡ 0 → word_changes d a ≡ true)
      → ((a : ℕ) → address ≤ a → a ≤ address + 4 * n → a % 4 ≡ 2 → word_changes d a ≡ false)
      → Counted d false (2 * n + 1) address (suc n) (suc n)
  single_words zero address whole these others = one_changes false 0 address (these address (omega arith) (omega arith) whole) (counted_none true (address + 2))
  single_words (suc n) address whole these others =
      let rest = single_words n (address + 2 + 2) (omega arith) (λ a h l. these a (omega arith) (omega arith)) (λ a h l. others a (omega arith) (omega arith)) in
      let e : 2 * suc n + 1 ≡ suc (suc (2 * n + 1)) = omega arith in
      rw e
      (one_changes false (suc (2 * n + 1)) address (these address (omega arith) (omega arith) whole)
      (one_stays true (2 * n + 1) (address + 2) (others (address + 2) (omega arith) (omega arith) (omega arith)) rest))
