-- The steps of a plan: where step 1 is needed, what steps 1 and 4 add, and what step 2 or 3 is by the chip, how long, and where it is nothing.
-- Assumes nothing.
use mathlib.Core.Path.{◌≡◌, refl, sym, ◌∙◌}
use mathlib.Core.Bool.{Bool, true, false, cond, not, ◌&&◌}
use mathlib.Core.List.{List, [], ◌∷◌, ◌++◌, append-nil}
use Prim.Native.Nat.{ℕ, ◌+◌, ◌-◌, ◌*◌, ◌/◌, ◌≤◌, ◌<◌}
use native.Mathlib.Omega.{arith}
use lib.Dec.{leb, ltb, eqb}
use lib.ListN.{length, get_or, take, drop, length-drop}
use lib.Pointwise.{pointwise}
use lib.Seq.{length-take-le}
use borrow.Author.Tests.{leb-false, le-leb, lt-leb, lt-ltb, ltb-false}
use Rattle.common.specs.Bits.{bit}
use Rattle.common.proofs.Laws.Booleans.{and_off, and_true}
use Rattle.common.proofs.Laws.Choice.{cases, cond_elim}
use Rattle.common.proofs.Laws.Places.{within_bounds}
use Rattle.common.specs.Limits.{longest_script, longest_wanted}
use Rattle.script.specs.Record.{Record, frame, wait, AllFit, script_length}
use Rattle.script.proofs.Laws.Measure.{Counts, counts_none, counts_frame, counts_wait, counts_append, counts_as, measure_is, measured}
use Rattle.chip.proofs.Laws.Chip.{regular}
use Rattle.state.specs.declared.State.{State}
use Rattle.state.specs.State.{data_of}
use Rattle.state.specs.Protection.{first_protected}
use Rattle.region.specs.Region.{wanted_at, changes, any_of}
use Rattle.script.specs.Measure.{measure_of, AtMost}
use Rattle.script.specs.declared.measure.Measure.{Measure}
use Rattle.region.proofs.Laws.Region.{change_in_region, any_false, any_none, any_skip, changes_at, slice_at, differ_pair}
use Rattle.words.specs.Words.{words_in, step_two}
use Rattle.words.proofs.Laws.Words.{words_step_fits, words_step_most, words_step_frames_or_time, words_step_none, words_step_unchanged}
use Rattle.words.proofs.Laws.Fewer.{words_no_longer}
use Rattle.pages.specs.Pages.{pages_in, step_three}
use Rattle.pages.proofs.Laws.Pages.{pages_step_fits, pages_step_none, pages_step_unchanged}
use Rattle.pages.proofs.Laws.Region.{pages_step_most}
use Rattle.pages.proofs.Laws.Fewer.{pages_no_longer}
use Rattle.plan.specs.Plan.{is_protected_change, step_one_needed, status_byte, settle, status_records, status_step, program_step, wait_bytes, with_waits, with_status_steps}

-- whether step 1 is needed for the i-th byte of the region
pub protected_at : (first : ℕ) (array : List ℕ) (start : ℕ) (wanted : List ℕ) (i : ℕ) → i < length wanted
    → is_protected_change first array start wanted (start + i) ≡ (not (eqb (get_or array (start + i) 0) (get_or wanted i 0)) && leb first (start + i))
protected_at first array start wanted i h = rw (changes_at array start wanted i h) refl

-- step 1 is needed where the protected part of the region, from an address on, is not yet as wanted
module _ (first : ℕ) (array : List ℕ) (start : ℕ) (wanted : List ℕ) (fits : start + length wanted ≤ length array)
    (from : ℕ) (low : start ≤ from) (high : from ≤ start + length wanted) (some : from < start + length wanted → first ≤ from)
    (before : (k : ℕ) → start ≤ k → k < from → k < first) where
  abbrev old : List ℕ
  old = take (start + length wanted - from) (drop from array)

  abbrev new : List ℕ
  new = take (length wanted - (from - start)) (drop (from - start) wanted)

  long : length new ≡ length wanted - (from - start)
  long = length-take-le (length wanted - (from - start)) (drop (from - start) wanted) (omega (arith, length-drop (from - start) wanted))

  part_protected : (i : ℕ) → i < length new → is_protected_change first array start wanted (from + i) ≡ not (eqb (get_or old i 0) (get_or new i 0))
  part_protected i l =
      let here : i < length wanted - (from - start) = omega (arith, long) in
      let place : start + (from - start + i) ≡ from + i = omega arith in
      let changed : changes array start wanted (from + i) ≡ not (eqb (get_or array (from + i) 0) (get_or wanted (from - start + i) 0)) =
      rw place at (changes_at array start wanted (from - start + i) (omega arith)) in
      rw (
        slice_at array from (start + length wanted - from) i (omega arith),
        slice_at wanted (from - start) (length wanted - (from - start)) i here,
        le-leb first (from + i) (omega arith),
      ) (and_true _ ∙ changed)

  pub part_differs : not (pointwise eqb old new) ≡ any_of (is_protected_change first array start wanted) (length wanted) start
  part_differs =
      let test : ℕ → Bool = is_protected_change first array start wanted in
      let here : start + (from - start) ≡ from = omega arith in
      let all : from - start + length new ≡ length wanted = omega (arith, long) in
      let same : length old ≡ length new =
      length-take-le (start + length wanted - from) (drop from array) (omega (arith, length-drop from array)) ∙ omega (arith, long) in
      differ_pair test old new from same part_protected
      ∙ sym (rw (here, all) at (any_skip test (from - start) (length new) start (λ k h l. rw (lt-leb first k (before k h (omega arith))) (cases (changes array start wanted k) (λ t. rw t refl) (λ f. rw f refl)))))

module _ (s : State) (array : List ℕ) (start : ℕ) (wanted : List ℕ) where
  -- not needed: what changes is free
  pub not_needed_free : step_one_needed s array start wanted ≡ false → (k : ℕ) → changes array start wanted k ≡ true → k < first_protected s
  unfolding step_one_needed
  not_needed_free e k c =
      let b = within_bounds start (length wanted) k (change_in_region array start wanted k c) in
      leb-false (first_protected s) k
      (and_off (changes array start wanted k) _ (any_false (is_protected_change (first_protected s) array start wanted) (length wanted) start k e b.0 b.1) c)

  pub free_not_needed : ((k : ℕ) → changes array start wanted k ≡ true → k < first_protected s) → step_one_needed s array start wanted ≡ false
  unfolding step_one_needed
  free_not_needed free =
      any_none (is_protected_change (first_protected s) array start wanted) (length wanted) start
      (λ k h l. cases (changes array start wanted k) (λ c. rw c (lt-leb (first_protected s) k (free k c))) (λ c. rw c refl))

-- ---- steps 1 and 4

-- the byte of 01, digit by digit
pub status_byte_digits : (bp : ℕ) (tb bpl : Bool) → status_byte bp tb bpl ≡ bp * 4 + bit tb 1 * 32 + bit bpl 1 * 128
unfolding status_byte
status_byte_digits bp true true = refl
status_byte_digits bp true false = refl
status_byte_digits bp false true = refl
status_byte_digits bp false false = refl

-- the wait behind a status write that takes time
module _ (time : ℕ) where
  settle_counts : Counts (settle time) (wait_bytes time) 0 time
  settle_counts =
      cases (ltb 0 time) (λ t. rw t (counts_as (counts_wait counts_none time) (omega arith) (omega arith) (omega arith)))
      (λ t. let none = ltb-false 0 time t in rw t (counts_as counts_none refl refl (omega arith)))

  pub settle_none : time ≡ 0 → settle time ≡ []
  settle_none z = rw z refl

  pub settle_some : 0 < time → settle time ≡ wait time ∷ []
  settle_some some = rw (lt-ltb 0 time some) refl

  pub wait_bytes_le : wait_bytes time ≤ 6
  wait_bytes_le = cond_elim (λ (n : ℕ). n ≤ 6) (ltb 0 time) (λ _. omega arith) (λ _. omega arith)

  settle_fits : time ≤ 90000 → AllFit (settle time)
  settle_fits low = cond_elim AllFit (ltb 0 time) (λ _. (omega arith, tt)) (λ _. tt)

module _ (s : State) (bp : ℕ) where
  pub status_records_lem : status_records s bp
      ≡ frame (cond (data_of s).ewsr 0x50 0x06 ∷ []) ∷ frame (0x01 ∷ status_byte bp s.tb s.bpl ∷ []) ∷ settle (data_of s).status_time
  unfolding status_records
  status_records_lem = refl

  status_counts : Counts (status_records s bp) (11 + wait_bytes (data_of s).status_time) 2 (data_of s).status_time
  unfolding status_records
  status_counts = counts_as (counts_frame (counts_frame (settle_counts (data_of s).status_time) _) _) (omega arith) (omega arith) (omega arith)

  pub status_fits : (needed : Bool) → AllFit (status_step needed s bp)
  unfolding status_records
  status_fits true = ((omega arith, omega arith), ((omega arith, omega arith), settle_fits (data_of s).status_time (regular s.chip).status_le_sector_time))
  status_fits false = tt

-- what stands between them, and the whole
pub measure_status : (needed : Bool) (s : State) (bp : ℕ) (rs : List Record)
    → measure_of (status_step needed s 0 ++ (rs ++ status_step needed s bp)) ≡ with_status_steps (data_of s).status_time needed (measure_of rs)
unfolding with_status_steps
measure_status false s bp rs = rw (append-nil rs) refl
measure_status true s bp rs =
    measure_is (counts_as (counts_append (status_counts s 0) (counts_append (measured rs) (status_counts s bp))) (omega arith) (omega arith) (omega arith))

-- they add nothing, or 22 bytes, 4 frames and two waits
module _ (time : ℕ) (m : Measure) where
  abbrev with_both : Measure
  with_both = with_waits time (record { length = m.length + 22; frames = m.frames + 4; microseconds = m.microseconds })

  pub with_status_needed : with_status_steps time true m ≡ with_both
  unfolding with_status_steps
  with_status_needed = refl

  pub with_status_none : with_status_steps time false m ≡ m
  unfolding with_status_steps
  with_status_none = refl

  pub with_status_most : (needed : Bool) → AtMost (with_status_steps time needed m) with_both
  unfolding with_status_steps
  with_status_most true = record { frames = omega arith; microseconds = omega arith; bytes = omega arith }
  with_status_most false = record { frames = omega arith; microseconds = omega arith; bytes = omega arith }

-- ---- steps 2 and 3

-- 4,096 bytes lie in 2,049 words and in 17 pages at most
module _ (array : List ℕ) (start : ℕ) (wanted : List ℕ) (short : length wanted ≤ longest_wanted) where
  pub step_two_most : AtMost (measure_of (step_two array start wanted)) record { length = 26650; frames = 3075; microseconds = 14343 }
  step_two_most =
      let m = words_step_most (wanted_at start wanted) (changes array start wanted) (words_in start (length wanted)) (start / 2 * 2) in
      let n : words_in start (length wanted) ≤ 2049 = omega arith in
      record { frames = omega arith; microseconds = omega arith; bytes = omega arith }

  pub step_two_frames_or_time : 7 * (measure_of (step_two array start wanted)).frames + (measure_of (step_two array start wanted)).microseconds ≤ 28700
  step_two_frames_or_time =
      let n : words_in start (length wanted) ≤ 2049 = omega arith in
      omega (arith, words_step_frames_or_time (wanted_at start wanted) (changes array start wanted) (words_in start (length wanted)) (start / 2 * 2))

  pub step_three_most : AtMost (measure_of (step_three array start wanted)) record { length = 4419; frames = 34; microseconds = 25500 }
  step_three_most =
      let m = pages_step_most (changes array start wanted) start (length wanted) (change_in_region array start wanted) (wanted_at start wanted) (pages_in start (length wanted)) (start / 256 * 256) in
      let n : pages_in start (length wanted) ≤ 17 = omega arith in
      record { frames = omega arith; microseconds = omega arith; bytes = omega arith }

module _ (words : Bool) (array : List ℕ) (start : ℕ) (wanted : List ℕ) where
  pub program_words : words ≡ true → program_step words array start wanted ≡ step_two array start wanted
  unfolding program_step
  program_words e = rw e refl

  pub program_pages : words ≡ false → program_step words array start wanted ≡ step_three array start wanted
  unfolding program_step
  program_pages e = rw e refl

  pub program_fits : AllFit (program_step words array start wanted)
  unfolding program_step
  program_fits = cond_elim AllFit words (λ _. words_step_fits _ _ _ _) (λ _. pages_step_fits _ _ _ _)

  -- so that the code's sums fit
  pub program_small : length wanted ≤ longest_wanted
      → ((measure_of (program_step words array start wanted)).length ≤ longest_script) × ((measure_of (program_step words array start wanted)).frames ≤ longest_script)
      × ((measure_of (program_step words array start wanted)).microseconds ≤ longest_script)
  unfolding program_step
  program_small h =
      cond_elim (λ (rs : List Record). ((measure_of rs).length ≤ longest_script) × ((measure_of rs).frames ≤ longest_script) × ((measure_of rs).microseconds ≤ longest_script)) words
      (λ _. let m = step_two_most array start wanted h in (omega arith, omega arith, omega arith))
      (λ _. let m = step_three_most array start wanted h in (omega arith, omega arith, omega arith))

  pub program_none : ((k : ℕ) → changes array start wanted k ≡ false) → program_step words array start wanted ≡ []
  unfolding program_step
  program_none h = cond_elim (λ (rs : List Record). rs ≡ []) words (λ _. words_step_none _ _ _ _ h) (λ _. pages_step_none _ _ _ _ h)

  pub program_unchanged : program_step words array start wanted ≡ [] → (k : ℕ) → start ≤ k → k < start + length wanted → changes array start wanted k ≡ false
  unfolding program_step
  program_unchanged =
      cond_elim (λ (rs : List Record). rs ≡ [] → (k : ℕ) → start ≤ k → k < start + length wanted → changes array start wanted k ≡ false) words
      (λ _ e k h l. words_step_unchanged _ _ (words_in start (length wanted)) (start / 2 * 2) e k (omega arith) (omega arith))
      (λ _ e k h l. pages_step_unchanged _ _ (pages_in start (length wanted)) (start / 256 * 256) e k (omega arith) (omega arith))

-- where fewer bytes change it is no longer
module _ (now before : List ℕ) (start : ℕ) (wanted : List ℕ) (fewer : (k : ℕ) → changes now start wanted k ≡ true → changes before start wanted k ≡ true) where
  pub program_no_longer : (words : Bool) → script_length (program_step words now start wanted) ≤ script_length (program_step words before start wanted)
  unfolding program_step
  program_no_longer true = words_no_longer (changes now start wanted) (changes before start wanted) fewer (wanted_at start wanted) (wanted_at start wanted) (words_in start (length wanted)) (start / 2 * 2)
  program_no_longer false = pages_no_longer (changes now start wanted) (changes before start wanted) fewer (wanted_at start wanted) (wanted_at start wanted) (pages_in start (length wanted)) (start / 256 * 256)
