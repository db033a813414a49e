-- Step 2 of a plan (01, "Scripts and plans"): words, in runs of neighbours. By address: `w` the wanted byte, `d` whether it changes.
use Rattle.std.specs.Prelude.{Bool, cond, ◌||◌, List, [], ◌∷◌, ◌++◌, ℕ, zero, suc, ◌+◌, ◌-◌, ◌*◌, ◌/◌, eqb, length}
use Rattle.script.specs.Record.{Record, frame, wait}
use Rattle.region.specs.Region.{wanted_at, changes}
use Rattle.common.specs.Numbers.{address_bytes}

-- the word at an even address, and whether it holds a changing byte
abbrev pub word_bytes : (ℕ → ℕ) → ℕ → List ℕ
word_bytes w address = w address ∷ w (address + 1) ∷ []

abbrev pub word_changes : (ℕ → Bool) → ℕ → Bool
word_changes d address = d address || d (address + 1)

-- "the aligned words holding a changing byte", rising: their addresses, of n words from an even address on
unfoldable pub changing_words : (ℕ → Bool) → ℕ → ℕ → List ℕ
changing_words d zero address = []
changing_words d (suc n) address =
    cond (word_changes d address) (address ∷ changing_words d n (address + 2)) (changing_words d n (address + 2))

-- a run: the address of its first word, and those of the further ones
pub data Run : Type 0 where
  run : ℕ → List ℕ → Run

-- a word before some runs: it goes to the first run where that begins at its neighbour, else it is a run by itself
unfoldable pub joined : ℕ → List Run → List Run
joined address [] = run address [] ∷ []
joined address (run first further ∷ runs) =
    cond (eqb first (address + 2)) (run address (first ∷ further) ∷ runs) (run address [] ∷ run first further ∷ runs)

-- words at rising addresses, "in runs of neighbours"
unfoldable pub runs_of : List ℕ → List Run
runs_of [] = []
runs_of (address ∷ addresses) = joined address (runs_of addresses)

-- "for each further word AD and wait 7"
unfoldable pub further_records : (ℕ → ℕ) → List ℕ → List Record
further_records w [] = []
further_records w (address ∷ addresses) = frame (0xad ∷ word_bytes w address) ∷ wait 7 ∷ further_records w addresses

-- "Each run: 06; AD with its even address and first word; wait 7; .. 04."
unfoldable pub run_records : (ℕ → ℕ) → Run → List Record
run_records w (run first further) =
    frame (0x06 ∷ [])
    ∷ frame (0xad ∷ (address_bytes first ++ word_bytes w first))
    ∷ wait 7
    ∷ (further_records w further ++ (frame (0x04 ∷ []) ∷ []))

unfoldable pub runs_records : (ℕ → ℕ) → List Run → List Record
runs_records w [] = []
runs_records w (r ∷ runs) = run_records w r ++ runs_records w runs

-- n words from an even address on
unfoldable pub words_step : (ℕ → ℕ) → (ℕ → Bool) → ℕ → ℕ → List Record
words_step w d n address = runs_records w (runs_of (changing_words d n address))

-- how many aligned words hold a byte of n from an address on: from the word of the first to that of the last
abbrev pub words_in : ℕ → ℕ → ℕ
words_in start n = (start + n + 1) / 2 - start / 2

-- step 2 of an update
abbrev pub step_two : List ℕ → ℕ → List ℕ → List Record
step_two array start wanted = words_step (wanted_at start wanted) (changes array start wanted) (words_in start (length wanted)) (start / 2 * 2)
