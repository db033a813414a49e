-- The protection table: one test computed over its rows and the eight levels, and a lemma that turns it into each row's facts.
-- Assumes nothing.
use mathlib.Core.Path.{◌≡◌, refl, ◌∙◌}
use mathlib.Core.Bool.{Bool, true, cond, ◌&&◌, ◌||◌, not}
use mathlib.Core.List.{List, [], ◌∷◌}
use mathlib.Core.Logic.{⊎_elim}
use Prim.Native.Nat.{ℕ, zero, suc, ◌%◌, ◌<◌}
use native.Mathlib.Omega.{arith}
use lib.Dec.{leb, eqb}
use lib.ListN.{get_or}
use borrow.Author.Tests.{eqb-true, le-leb, lt-leb}
use Rattle.common.specs.Lists.{Each}
use Rattle.common.proofs.Laws.Booleans.{and_l, and_r, or_imp, implies_elim}
use Rattle.common.proofs.Laws.Choice.{cases}
use Rattle.common.proofs.Laws.Lists.{split}
use Rattle.chip.proofs.Laws.Chip.{chip_of_8, chip_of_5}
use Rattle.state.specs.declared.State.{State}
use Rattle.state.specs.Protection.{first_protected_by_level, first_protected}
use Rattle.state.proofs.Laws.Protection.{first_graded, first_whole}
use Rattle.rules.specs.Chips.{by_chip, bytes_of}
use Rattle.rules.specs.Protection.{Extent, nothing, from, everything, is_in, first_in, LevelRow, level_table, LevelHolds, Protection}

-- the first protected address on a chip of the table, by level
abbrev first_at : ℕ → ℕ → ℕ
first_at chip bp = by_chip chip (get_or first_protected_by_level bp 0) (cond (eqb (bp % 4) 0) 0x10000 0)

-- ---- the test

-- at every number below n
abbrev below : (ℕ → Bool) → ℕ → Bool
below test zero = true
below test (suc n) = below test n && test n

right_at : LevelRow → ℕ → Bool
right_at r bp = not (r.levels bp) || eqb (first_at r.chip bp) (first_in (bytes_of r.chip) r.extent)

right : List LevelRow → Bool
right [] = true
right (r ∷ rs) = (eqb r.chip 8 || eqb r.chip 5) && below (right_at r) 8 && right rs

computed : right level_table ≡ true
unfolding right right_at
computed = refl

-- ---- what it tells

below_all : (test : ℕ → Bool) (n : ℕ) → below test n ≡ true → (k : ℕ) → k < n → test k ≡ true
below_all test zero e k h = absurd (omega arith)
below_all test (suc n) e k h =
    ⊎_elim (λ l. below_all test n (and_l (below test n) (test n) e) k l) (λ g. let last : k ≡ n = omega arith in rw last (and_r (below test n) (test n) e)) (split k n)

-- from the first protected address up is what the words mean
first_up : (extent : Extent) (size address : ℕ) → address < size → leb (first_in size extent) address ≡ is_in extent address
first_up nothing size address h = lt-leb size address h
first_up (from first) size address h = refl
first_up everything size address h = le-leb 0 address (omega arith)

module _ (s : State) (three : s.bp < 8) where
  first_at_lem : (chip : ℕ) → eqb chip 8 || eqb chip 5 ≡ true → s.chip ≡ chip → first_protected s ≡ first_at chip s.bp
  first_at_lem chip known same =
      cases (eqb chip 8) (λ t. let is : s.chip ≡ 8 = same ∙ eqb-true chip 8 t in first_graded s (rw (is, chip_of_8) refl) ∙ rw t refl)
      (λ t. let is : s.chip ≡ 5 = same ∙ eqb-true chip 5 (or_imp (eqb chip 8) (eqb chip 5) known t) in
      first_whole s (rw (is, chip_of_5) refl) ∙ rw (t, is, chip_of_5) refl)

  abbrev Holds : LevelRow → Type 0
  Holds r = s.chip ≡ r.chip → r.levels s.bp ≡ true → LevelHolds r s

  holds : (r : LevelRow) → eqb r.chip 8 || eqb r.chip 5 ≡ true → below (right_at r) 8 ≡ true → Holds r
  unfolding right_at
  holds r known e same level =
      let wanted : ℕ = first_in (bytes_of r.chip) r.extent in
      let here : first_at r.chip s.bp ≡ wanted =
      eqb-true (first_at r.chip s.bp) wanted (implies_elim (r.levels s.bp) (eqb (first_at r.chip s.bp) wanted) (below_all (right_at r) 8 e s.bp three) level) in
      let first : first_protected s ≡ first_in (bytes_of s.chip) r.extent = first_at_lem r.chip known same ∙ here ∙ rw same refl in
      record { protected = λ address h. rw first (first_up r.extent (bytes_of s.chip) address h); first = first }

  all_hold : (rs : List LevelRow) → right rs ≡ true → Each Holds rs
  unfolding right
  all_hold [] e = tt
  all_hold (r ∷ rs) e =
      let known = eqb r.chip 8 || eqb r.chip 5 in
      let two = and_l (known && below (right_at r) 8) (right rs) e in
      (holds r (and_l known (below (right_at r) 8) two) (and_r known (below (right_at r) 8) two), all_hold rs (and_r (known && below (right_at r) 8) (right rs) e))

  pub protection : Protection s three
  protection = record { each_row = all_hold level_table computed }
