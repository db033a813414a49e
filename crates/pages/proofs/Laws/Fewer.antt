-- Where fewer bytes change, step 3 is no longer.
-- Assumes nothing.
use mathlib.Core.Path.{◌≡◌, sym, ◌∙◌}
use mathlib.Core.Bool.{Bool, true, false, true≢false}
use mathlib.Core.Logic.{⊎_elim}
use Prim.Native.Nat.{ℕ, zero, suc, ◌+◌, ◌-◌, ◌≤◌}
use native.Mathlib.Omega.{arith}
use lib.Dec.{ltb}
use borrow.Author.Tests.{lt-ltb}
use Rattle.common.specs.Bits.{bit}
use Rattle.common.proofs.Laws.Lists.{split}
use Rattle.script.specs.Record.{script_length}
use Rattle.pages.specs.Pages.{before_first, through_last, part_length, pages_step}
use Rattle.pages.specs.Parts.{page_count, byte_count}
use Rattle.pages.proofs.Laws.Spans.{first_false, first_true, last_le, last_false, last_true}
use Rattle.pages.proofs.Laws.Pages.{pages_counts}

-- a page with nothing to send costs nothing
some_fewer : (m n : ℕ) → m ≤ n → bit (ltb 0 m) 1 ≤ bit (ltb 0 n) 1
some_fewer zero n h = omega arith
some_fewer (suc m) zero h = absurd (omega arith)
some_fewer (suc m) (suc n) h = rw (lt-ltb 0 (suc m) (omega arith), lt-ltb 0 (suc n) (omega arith)) (omega arith)

-- of some addresses, fewer change now
module _ (now before : ℕ → Bool) (fewer : (k : ℕ) → now k ≡ true → before k ≡ true) where
  never : (k : ℕ) → now k ≡ true → before k ≡ false → ⊥
  never k p q = true≢false (sym (fewer k p) ∙ q)

  -- the first that changes comes no earlier, and the last no later
  part_fewer : (page : ℕ) → part_length now page ≤ part_length before page
  unfolding part_length
  part_fewer page =
      let f : ℕ = before_first now 256 page in
      let l : ℕ = through_last now 256 page in
      let f₀ : ℕ = before_first before 256 page in
      let l₀ : ℕ = through_last before 256 page in
      let top = last_le now 256 page in
      ⊎_elim
      (λ h. ⊎_elim (λ i. absurd (never (page + f) (first_true now 256 page (omega arith)) (first_false before 256 page (page + f) (omega arith) (omega arith))))
      (λ i. ⊎_elim (λ j. absurd (never (page + l - 1) (last_true now 256 page (omega arith)) (last_false before 256 page (page + l - 1) (omega arith) (omega arith))))
      (λ j. omega arith) (split l₀ l)) (split f f₀))
      (λ h. omega arith) (split f l)

  pages_fewer : (n page : ℕ) → page_count now n page ≤ page_count before n page
  unfolding page_count
  pages_fewer zero page = omega arith
  pages_fewer (suc n) page = omega (arith, pages_fewer n (page + 256), some_fewer (part_length now page) (part_length before page) (part_fewer page))

  bytes_fewer : (n page : ℕ) → byte_count now n page ≤ byte_count before n page
  unfolding byte_count
  bytes_fewer zero page = omega arith
  bytes_fewer (suc n) page = omega (arith, bytes_fewer n (page + 256), part_fewer page)

  pub pages_no_longer : (w v : ℕ → ℕ) (n page : ℕ) → script_length (pages_step w now n page) ≤ script_length (pages_step v before n page)
  pages_no_longer w v n page =
      omega (arith, pages_fewer n page, bytes_fewer n page, pages_counts w now n page, pages_counts v before n page)
