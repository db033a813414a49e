-- The laws of step 3: what it counts, how long it can be, that its records fit, and that it is nothing exactly where nothing changes.
-- Assumes nothing.
use mathlib.Core.Path.{◌≡◌, refl, sym, ap, ◌∙◌}
use mathlib.Core.Bool.{Bool, true, false, true≢false}
use mathlib.Core.List.{List, [], ◌∷◌, ◌++◌}
use mathlib.Core.Logic.{⊎_elim}
use Prim.Native.Nat.{ℕ, zero, suc, ◌+◌, ◌-◌, ◌*◌, ◌≤◌, ◌<◌}
use native.Mathlib.Omega.{arith}
use lib.Dec.{ltb}
use lib.ListN.{length}
use borrow.Author.Tests.{lt-ltb}
use Rattle.common.proofs.Laws.Lists.{split, length_tab}
use Rattle.script.specs.Record.{Record, frame, wait, AllFit}
use Rattle.script.proofs.Laws.Records.{all_fit_append}
use Rattle.script.proofs.Laws.Measure.{Counts, counts_none, counts_frame, counts_wait, counts_append, counts_as, measure_is}
use Rattle.common.specs.Bits.{bit}
use Rattle.common.specs.Lists.{tab}
use Rattle.common.specs.Numbers.{address_bytes}
use Rattle.script.specs.Measure.{measure_of}
use Rattle.common.proofs.Laws.Flags.{bit_le}
use Rattle.pages.specs.Pages.{before_first, through_last, part_length, part_records, pages_step}
use Rattle.pages.specs.Parts.{page_count, byte_count}
use Rattle.pages.proofs.Laws.Spans.{first_le, first_false, first_true, last_le, last_true, last_false, last_none}

-- ---- the part of a page

module _ (d : ℕ → Bool) (page : ℕ) where
  -- it lies within the page, begins with a byte that changes and ends with one, and none behind it does
  pub part_within : before_first d 256 page + part_length d page ≤ 256
  unfolding part_length
  part_within = omega (arith, first_le d 256 page, last_le d 256 page)

  pub part_first : 0 < part_length d page → d (page + before_first d 256 page) ≡ true
  part_first h = first_true d 256 page (omega (arith, part_within))

  pub part_last : 0 < part_length d page → d (page + before_first d 256 page + part_length d page - 1) ≡ true
  unfolding part_length
  part_last h =
      let y : page + before_first d 256 page + (through_last d 256 page - before_first d 256 page) - 1 ≡ page + through_last d 256 page - 1 = omega arith in
      ap d y ∙ last_true d 256 page (omega arith)

  pub part_behind : (k : ℕ) → page + before_first d 256 page + part_length d page ≤ k → k < page + 256 → d k ≡ false
  unfolding part_length
  part_behind k h l = last_false d 256 page k (omega arith) l

  -- so a byte of the page that changes is in it
  pub part_holds : (k : ℕ) → page ≤ k → k < page + 256 → d k ≡ true
      → (page + before_first d 256 page ≤ k) × (k < page + before_first d 256 page + part_length d page)
  part_holds k h l e = (
    ⊎_elim (λ i. absurd (true≢false (sym e ∙ first_false d 256 page k h i))) (λ i. i) (split k (page + before_first d 256 page)),
    ⊎_elim (λ i. i) (λ i. absurd (true≢false (sym e ∙ part_behind k i l))) (split k (page + before_first d 256 page + part_length d page)),
  )

module _ (w : ℕ → ℕ) (address : ℕ) where
  pub part_records_none : part_records w address 0 ≡ []
  unfolding part_records
  part_records_none = refl

  pub part_records_some : (n : ℕ)
      → part_records w address (suc n) ≡ frame (0x06 ∷ []) ∷ frame (0x02 ∷ (address_bytes address ++ tab (suc n) (λ i. w (address + i)))) ∷ wait 1500 ∷ []
  unfolding part_records
  part_records_some n = refl

  part_counts : (n : ℕ) → Counts (part_records w address n) (19 * bit (ltb 0 n) 1 + n) (2 * bit (ltb 0 n) 1) (1500 * bit (ltb 0 n) 1)
  unfolding part_records
  part_counts zero = counts_none
  part_counts (suc n) =
      rw (lt-ltb 0 (suc n) (omega arith))
      (counts_as (counts_frame (counts_frame (counts_wait counts_none 1500) _) _) (omega (arith, length_tab n (λ (k : ℕ). w (address + suc k)))) refl refl)

  part_fits : (n : ℕ) → n ≤ 256 → AllFit (part_records w address n)
  unfolding part_records
  part_fits zero h = tt
  part_fits (suc n) h =
      let long = length_tab n (λ (k : ℕ). w (address + suc k)) in
      ((omega arith, omega arith), ((omega arith, omega arith), (omega arith, tt)))

-- no records: no bytes
part_none : (w : ℕ → ℕ) (address n : ℕ) (rs : List Record) → part_records w address n ++ rs ≡ [] → n ≡ 0
unfolding part_records
part_none w address zero rs e = refl
part_none w address (suc n) rs e = let some = ap length e in absurd (omega arith)

behind_none : (w : ℕ → ℕ) (address n : ℕ) (rs : List Record) → n ≡ 0 → part_records w address n ++ rs ≡ [] → rs ≡ []
unfolding part_records
behind_none w address n rs z e = rw z at e

part_unchanged : (d : ℕ → Bool) (page : ℕ) → part_length d page ≡ 0 → (k : ℕ) → page ≤ k → k < page + 256 → d k ≡ false
unfolding part_length
part_unchanged d page none k h l =
    let m = last_le d 256 page in
    ⊎_elim
    (λ p. absurd (true≢false (sym (last_true d 256 page p) ∙ first_false d 256 page (page + through_last d 256 page - 1) (omega arith) (omega arith))))
    (λ p. last_false d 256 page k (omega arith) l) (split 0 (through_last d 256 page))

-- ---- step 3

module _ (w : ℕ → ℕ) (d : ℕ → Bool) (page : ℕ) where
  pub pages_step_end : pages_step w d 0 page ≡ []
  unfolding pages_step
  pages_step_end = refl

  pub pages_step_turn : (n : ℕ)
      → pages_step w d (suc n) page ≡ part_records w (page + before_first d 256 page) (part_length d page) ++ pages_step w d n (page + 256)
  unfolding pages_step
  pages_step_turn n = refl

pub pages_le : (d : ℕ → Bool) (n page : ℕ) → page_count d n page ≤ n
unfolding page_count
pages_le d zero page = omega arith
pages_le d (suc n) page = omega (arith, pages_le d n (page + 256), bit_le (ltb 0 (part_length d page)) 1)

pub bytes_le : (d : ℕ → Bool) (n page : ℕ) → byte_count d n page ≤ 256 * n
unfolding byte_count
bytes_le d zero page = omega arith
bytes_le d (suc n) page = omega (arith, bytes_le d n (page + 256), part_within d page)

module _ (w : ℕ → ℕ) (d : ℕ → Bool) where
  abbrev part : ℕ → List Record
  part page = part_records w (page + before_first d 256 page) (part_length d page)

  pub pages_counts : (n page : ℕ)
      → Counts (pages_step w d n page) (19 * page_count d n page + byte_count d n page) (2 * page_count d n page) (1500 * page_count d n page)
  unfolding pages_step page_count byte_count
  pages_counts zero page = counts_none
  pages_counts (suc n) page =
      counts_as (counts_append (part_counts w (page + before_first d 256 page) (part_length d page)) (pages_counts n (page + 256)))
      (omega arith) (omega arith) (omega arith)

  pub pages_step_measure : (n page : ℕ) → measure_of (pages_step w d n page) ≡ record {
    length = 19 * page_count d n page + byte_count d n page;
    frames = 2 * page_count d n page;
    microseconds = 1500 * page_count d n page;
  }
  pages_step_measure n page = measure_is (pages_counts n page)

  pub pages_step_fits : (n page : ℕ) → AllFit (pages_step w d n page)
  unfolding pages_step
  pages_step_fits zero page = tt
  pages_step_fits (suc n) page =
      all_fit_append (part page) (pages_step w d n (page + 256)) (part_fits w (page + before_first d 256 page) (part_length d page) (omega (arith, part_within d page)))
      (pages_step_fits n (page + 256))

  -- nothing changes
  pub pages_step_none : (n page : ℕ) → ((k : ℕ) → d k ≡ false) → pages_step w d n page ≡ []
  unfolding pages_step part_length part_records
  pages_step_none zero page h = refl
  pages_step_none (suc n) page h =
      let z : through_last d 256 page - before_first d 256 page ≡ 0 = omega (arith, last_none d 256 page (λ k i j. h k)) in
      rw z (pages_step_none n (page + 256) h)

  -- and where there are no records, no byte of the pages changes
  pub pages_step_unchanged : (n page : ℕ) → pages_step w d n page ≡ [] → (k : ℕ) → page ≤ k → k < page + 256 * n → d k ≡ false
  unfolding pages_step
  pages_step_unchanged zero page e k h l = absurd (omega arith)
  pages_step_unchanged (suc n) page e k h l =
      let none : part_length d page ≡ 0 = part_none w (page + before_first d 256 page) (part_length d page) (pages_step w d n (page + 256)) e in
      let rest = pages_step_unchanged n (page + 256) (behind_none w (page + before_first d 256 page) (part_length d page) (pages_step w d n (page + 256)) none e) k in
      ⊎_elim (λ p. part_unchanged d page none k h p) (λ p. rest p (omega arith)) (split k (page + 256))
