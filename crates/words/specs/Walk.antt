-- Step 2 word by word, as the code goes (ours; `words_are_runs` says that it is step 2), and what is counted on the way.
use Rattle.std.specs.Prelude.{Bool, true, false, not, ◌&&◌, List, [], ◌∷◌, ◌++◌, ℕ, zero, suc, ◌+◌}
use Rattle.script.specs.Record.{Record, frame, wait}
use Rattle.common.specs.Bits.{bit}
use Rattle.common.specs.Numbers.{address_bytes}
use Rattle.words.specs.Words.{word_bytes, word_changes}

-- what a word adds: by whether a run goes on, and whether the word changes
unfoldable pub word_records : (ℕ → ℕ) → Bool → Bool → ℕ → List Record
word_records w false true address =
    frame (0x06 ∷ []) ∷ frame (0xad ∷ (address_bytes address ++ word_bytes w address)) ∷ wait 7 ∷ []
word_records w true true address = frame (0xad ∷ word_bytes w address) ∷ wait 7 ∷ []
word_records w true false address = frame (0x04 ∷ []) ∷ []
word_records w false false address = []

-- n words from an even address on; behind the last a run that goes on is closed
unfoldable pub words : (ℕ → ℕ) → (ℕ → Bool) → Bool → ℕ → ℕ → List Record
words w d running zero address = word_records w running false address
words w d running (suc n) address =
    word_records w running (word_changes d address) address ++ words w d (word_changes d address) n (address + 2)

-- how many of the words change, and how many runs begin with one of them
unfoldable pub word_count : (ℕ → Bool) → ℕ → ℕ → ℕ
word_count d zero address = 0
word_count d (suc n) address = bit (word_changes d address) 1 + word_count d n (address + 2)

unfoldable pub run_count : (ℕ → Bool) → Bool → ℕ → ℕ → ℕ
run_count d running zero address = 0
run_count d running (suc n) address = bit (word_changes d address && not running) 1 + run_count d (word_changes d address) n (address + 2)
