-- A loop over the words of a region: what is counted and what is left to count, and what is left to write.
-- Assumes nothing.
use mathlib.Core.Path.{◌≡◌, refl}
use mathlib.Core.Bool.{Bool, false, not, ◌&&◌}
use mathlib.Core.List.{◌++◌}
use Prim.Native.Nat.{ℕ, suc, ◌+◌, ◌-◌, ◌*◌, ◌/◌, ◌≤◌, ◌<◌}
use native.Mathlib.Omega.{arith}
use mir.Val.{bool_byte}
use Rattle.common.specs.Limits.{longest_wanted}
use Rattle.script.specs.Record.{encode}
use Rattle.script.proofs.Laws.Records.{encode_append}
use Rattle.common.proofs.Laws.Flags.{flag_is}
use Rattle.words.specs.Words.{word_changes, words_step, words_in}
use Rattle.words.specs.Walk.{word_records, words, word_count, run_count}
use Rattle.words.proofs.Laws.Runs.{words_are_runs}
use Rattle.words.proofs.Laws.Counts.{counts_le}

module _ (last word : ℕ) where
  one_more : word < last → last - word ≡ suc (last - (word + 1))
  one_more h = omega arith

  none_left : last ≤ word → last - word ≡ 0
  none_left h = omega arith

-- a word's neighbour
neighbour : (word : ℕ) → word * 2 + 2 ≡ (word + 1) * 2
neighbour word = omega arith

-- what has been counted before a word, and what is left to count from it on
pub record Counting (d : ℕ → Bool) (last word words runs : ℕ) (running : Bool) (all_words all_runs : ℕ) : Type 0 where
  pub words_left : words + word_count d (last - word) (word * 2) ≡ all_words
  pub runs_left : runs + run_count d running (last - word) (word * 2) ≡ all_runs
  pub few : all_words + all_runs ≤ 2050

pub counting_start : (d : ℕ → Bool) (start n last : ℕ) → n ≤ longest_wanted → last - start / 2 ≡ words_in start n
    → Counting d last (start / 2) 0 0 false (word_count d (words_in start n) (start / 2 * 2)) (run_count d false (words_in start n) (start / 2 * 2))
counting_start d start n last h e =
    record {
      words_left = rw e (omega arith);
      runs_left = rw e (omega arith);
      few = omega (arith, counts_le d false (words_in start n) (start / 2 * 2));
    }

module _ {d : ℕ → Bool} {last word words runs : ℕ} {running : Bool} {all_words all_runs : ℕ} (c : Counting d last word words runs running all_words all_runs) where
  pub counting_turn : word < last → {changes : Bool} → changes ≡ word_changes d (word * 2)
      → Counting d last (word + 1) (words + bool_byte changes) (runs + bool_byte (changes && not running)) changes all_words all_runs
  unfolding word_count run_count
  counting_turn h {changes} e =
      let m = one_more last word h in
      record {
        words_left = rw (e, flag_is (word_changes d (word * 2)), ← neighbour word) (omega (arith, rw m at c.words_left));
        runs_left = rw (e, flag_is (word_changes d (word * 2) && not running), ← neighbour word) (omega (arith, rw m at c.runs_left));
        few = c.few;
      }

  pub counting_end : last ≤ word → (words ≡ all_words) × (runs ≡ all_runs)
  unfolding word_count run_count
  counting_end h =
      let z = none_left last word h in
      (omega (arith, rw z at c.words_left), omega (arith, rw z at c.runs_left))

-- what is left to write
module _ (w : ℕ → ℕ) (d : ℕ → Bool) where
  pub words_start : (start n last : ℕ) → last - start / 2 ≡ words_in start n
      → encode (words_step w d (words_in start n) (start / 2 * 2)) ≡ encode (words w d false (last - start / 2) (start / 2 * 2))
  words_start start n last e = rw (e, words_are_runs w d (words_in start n) (start / 2 * 2)) refl

  pub words_turn : (running : Bool) (last word : ℕ) → word < last → {changes : Bool} → changes ≡ word_changes d (word * 2)
      → encode (words w d running (last - word) (word * 2))
      ≡ encode (word_records w running changes (word * 2)) ++ encode (words w d changes (last - (word + 1)) ((word + 1) * 2))
  unfolding words
  words_turn running last word h {changes} e =
      rw (one_more last word h, e, ← neighbour word)
      (encode_append (word_records w running (word_changes d (word * 2)) (word * 2)) (words w d (word_changes d (word * 2)) (last - (word + 1)) (word * 2 + 2)))

  pub words_end : (running : Bool) (last : ℕ) → encode (words w d running (last - last) (last * 2)) ≡ encode (word_records w running false (last * 2))
  unfolding words
  words_end running last = let none : last - last ≡ 0 = omega arith in rw none refl
