-- The laws of step 2, word by word: what it counts, how long it can be, that its records fit, and that it is nothing exactly where nothing changes.
-- Assumes nothing.
use mathlib.Core.Path.{◌≡◌, refl, ap, ◌∙◌}
use mathlib.Core.Bool.{Bool, true, false, not, ◌&&◌}
use mathlib.Core.List.{List, [], ◌∷◌, ◌++◌, append-nil}
use mathlib.Core.Logic.{⊎_elim}
use Prim.Native.Nat.{ℕ, zero, suc, ◌+◌, ◌*◌, ◌/◌, ◌≤◌, ◌<◌}
use native.Mathlib.Omega.{arith}
use lib.ListN.{length}
use Rattle.common.proofs.Laws.Choice.{cases}
use Rattle.common.proofs.Laws.Booleans.{or_none_l, or_none_r}
use Rattle.common.proofs.Laws.Lists.{split}
use Rattle.script.specs.Record.{Record, frame, wait, AllFit}
use Rattle.script.proofs.Laws.Records.{all_fit_append}
use Rattle.script.proofs.Laws.Measure.{Counts, counts_none, counts_frame, counts_wait, counts_as, measure_is}
use Rattle.common.specs.Bits.{bit}
use Rattle.common.specs.Numbers.{address_bytes}
use Rattle.script.specs.Measure.{measure_of, AtMost}
use Rattle.words.specs.Words.{word_bytes, word_changes, words_step}
use Rattle.words.specs.Walk.{word_records, words, word_count, run_count}
use Rattle.words.proofs.Laws.Runs.{words_are_runs}
use Rattle.words.proofs.Laws.Counts.{counts_le, words_le, runs_le_words, Counted}

-- ---- one word

module _ (w : ℕ → ℕ) where
  -- the frame that closes a run is counted with the word that begins it
  word_counts : (running changes : Bool) (address l f : ℕ) {rs : List Record} {m : ℕ} → Counts rs (l + bit changes 5) (f + bit changes 1) m
      → Counts (word_records w running changes address ++ rs) (13 * (bit changes 1 + bit (changes && not running) 1) + l + bit running 5)
      (bit changes 1 + 2 * bit (changes && not running) 1 + f + bit running 1) (7 * bit changes 1 + m)
  unfolding word_records
  word_counts false true address l f c = counts_as (counts_frame (counts_frame (counts_wait c 7) _) _) (omega arith) (omega arith) refl
  word_counts true true address l f c = counts_as (counts_frame (counts_wait c 7) _) (omega arith) (omega arith) refl
  word_counts true false address l f c = counts_as (counts_frame c _) (omega arith) (omega arith) (omega arith)
  word_counts false false address l f c = counts_as c (omega arith) (omega arith) (omega arith)

  word_fits : (running changes : Bool) (address : ℕ) → AllFit (word_records w running changes address)
  unfolding word_records
  word_fits false true address = ((omega arith, omega arith), ((omega arith, omega arith), (omega arith, tt)))
  word_fits true true address = ((omega arith, omega arith), (omega arith, tt))
  word_fits true false address = ((omega arith, omega arith), tt)
  word_fits false false address = tt

-- ---- all words

-- what comes at a word, by whether a run goes on and whether the word changes; and behind the last
module _ (w : ℕ → ℕ) (d : ℕ → Bool) (address : ℕ) where
  pub words_ended : words w d false 0 address ≡ []
  unfolding words word_records
  words_ended = refl

  pub words_closed : words w d true 0 address ≡ frame (0x04 ∷ []) ∷ []
  unfolding words word_records
  words_closed = refl

  module _ (n : ℕ) where
    pub word_begins : word_changes d address ≡ true
        → words w d false (suc n) address
        ≡ frame (0x06 ∷ []) ∷ frame (0xad ∷ (address_bytes address ++ word_bytes w address)) ∷ wait 7 ∷ words w d true n (address + 2)
    unfolding words word_records
    word_begins e = rw e refl

    pub word_goes_on : word_changes d address ≡ true
        → words w d true (suc n) address ≡ frame (0xad ∷ word_bytes w address) ∷ wait 7 ∷ words w d true n (address + 2)
    unfolding words word_records
    word_goes_on e = rw e refl

    pub word_ends : word_changes d address ≡ false → words w d true (suc n) address ≡ frame (0x04 ∷ []) ∷ words w d false n (address + 2)
    unfolding words word_records
    word_ends e = rw e refl

    pub word_skipped : word_changes d address ≡ false → words w d false (suc n) address ≡ words w d false n (address + 2)
    unfolding words word_records
    word_skipped e = rw e refl

module _ (w : ℕ → ℕ) (d : ℕ → Bool) where
  words_counts : (running : Bool) (n address : ℕ)
      → Counts (words w d running n address) (13 * (word_count d n address + run_count d running n address) + bit running 5)
      (word_count d n address + 2 * run_count d running n address + bit running 1) (7 * word_count d n address)
  unfolding words word_count run_count
  words_counts running zero address = rw (append-nil (word_records w running false address)) at (word_counts w running false address 0 0 counts_none)
  words_counts running (suc n) address =
      let c : Bool = word_changes d address in
      counts_as (word_counts w running c address (13 * (word_count d n (address + 2) + run_count d c n (address + 2))) (word_count d n (address + 2) + 2 * run_count d c n (address + 2)) (words_counts c n (address + 2)))
      (omega arith) (omega arith) (omega arith)

  words_fit : (running : Bool) (n address : ℕ) → AllFit (words w d running n address)
  unfolding words
  words_fit running zero address = word_fits w running false address
  words_fit running (suc n) address =
      all_fit_append (word_records w running (word_changes d address) address) (words w d (word_changes d address) n (address + 2))
      (word_fits w running (word_changes d address) address) (words_fit (word_changes d address) n (address + 2))

  -- nothing changes
  words_none : (n address : ℕ) → ((k : ℕ) → d k ≡ false) → words w d false n address ≡ []
  unfolding words word_records
  words_none zero address h = refl
  words_none (suc n) address h = rw (h address, h (address + 1)) (words_none n (address + 2) h)

  -- and where there are no records, no byte of the words changes
  words_unchanged : (n address : ℕ) → words w d false n address ≡ [] → (k : ℕ) → address ≤ k → k < address + 2 * n → d k ≡ false
  unfolding words word_records
  words_unchanged zero address e k h l = absurd (omega arith)
  words_unchanged (suc n) address e k h l =
      cases (word_changes d address)
      (λ c. let some = rw c at (ap length e) in absurd (omega arith))
      (λ c. let rest = words_unchanged n (address + 2) (rw c at e) k in
      ⊎_elim (λ p. ⊎_elim (λ q. let z : k ≡ address = omega arith in rw z (or_none_l (d address) (d (address + 1)) c))
      (λ q. let z : k ≡ address + 1 = omega arith in rw z (or_none_r (d address) (d (address + 1)) c)) (split k (address + 1)))
      (λ p. rest p (omega arith)) (split k (address + 2)))

-- ---- step 2

module _ (w : ℕ → ℕ) (d : ℕ → Bool) (n address : ℕ) where
  pub words_step_counts : Counts (words_step w d n address) (13 * (word_count d n address + run_count d false n address))
      (word_count d n address + 2 * run_count d false n address) (7 * word_count d n address)
  words_step_counts = rw (← words_are_runs w d n address) (counts_as (words_counts w d false n address) (omega arith) (omega arith) refl)

  pub words_step_measure : measure_of (words_step w d n address) ≡ record {
    length = 13 * (word_count d n address + run_count d false n address);
    frames = word_count d n address + 2 * run_count d false n address;
    microseconds = 7 * word_count d n address;
  }
  words_step_measure = measure_is words_step_counts

  pub words_step_counted : {words runs : ℕ} → Counted d false n address words runs
      → measure_of (words_step w d n address) ≡ record { length = 13 * (words + runs); frames = words + 2 * runs; microseconds = 7 * words }
  words_step_counted c = words_step_measure ∙ rw (c.words_are, c.runs_are) refl

  pub words_step_most : AtMost (measure_of (words_step w d n address)) record { length = 13 * (n + 1); frames = 3 * (n + 1) / 2; microseconds = 7 * n }
  words_step_most =
      let both = counts_le d false n address in
      let runs = runs_le_words d false n address in
      let words = words_le d n address in
      rw words_step_measure record { frames = omega arith; microseconds = omega arith; bytes = omega arith }

  -- more frames are less time: a word that begins a run has more of them, and leaves room for fewer words
  pub words_step_frames_or_time : 7 * (measure_of (words_step w d n address)).frames + (measure_of (words_step w d n address)).microseconds ≤ 14 * (n + 1)
  words_step_frames_or_time = let both = counts_le d false n address in rw words_step_measure (omega arith)

  pub words_step_fits : AllFit (words_step w d n address)
  words_step_fits = rw (← words_are_runs w d n address) (words_fit w d false n address)

  pub words_step_none : ((k : ℕ) → d k ≡ false) → words_step w d n address ≡ []
  words_step_none h = rw (← words_are_runs w d n address) (words_none w d n address h)

  pub words_step_unchanged : words_step w d n address ≡ [] → (k : ℕ) → address ≤ k → k < address + 2 * n → d k ≡ false
  words_step_unchanged e = words_unchanged w d n address (words_are_runs w d n address ∙ e)
