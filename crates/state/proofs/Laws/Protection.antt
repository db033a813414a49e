-- The first protected address: at most the size, and whole blocks, so that a page, a word, a sector or a block is wholly protected or wholly not.
-- The F25L008A's table of them is a rule: each level protects double what the one below does.
-- Assumes nothing.
use mathlib.Core.Path.{◌≡◌, refl, sym, ◌∙◌}
use mathlib.Core.Bool.{true, false, cond}
use mathlib.Core.Logic.{⊎_elim}
use Prim.Native.Nat.{ℕ, zero, suc, ◌+◌, ◌-◌, ◌*◌, ◌%◌, ◌^◌, ◌≤◌, ◌<◌}
use native.Mathlib.Omega.{arith}
use native.Mathlib.Nat.{le_trans, mod-eq_of_lt}
use native.Mathlib.Numerals.{add-one, unary_clauses}
use lib.Dec.{eqb}
use lib.ListN.{get_or, get_or-eq_default}
use lib.Pow.{pow_mono, pow_pos}
use Rattle.common.proofs.Laws.Choice.{cond_elim}
use Rattle.common.proofs.Laws.Lists.{split, get_d_tab}
use Rattle.state.specs.declared.State.{State}
use Rattle.state.specs.State.{data_of}
use Rattle.state.specs.Protection.{first_protected_by_level, first_protected}
use Rattle.chip.proofs.Laws.Chip.{regular}

-- ---- the table as a rule: 000 protects nothing, 001 the upper 65,536 bytes, each further level double the one below, none more than everything

-- every level above 000, the table's seven computed once; the difference is 0 where a level would protect more than everything, as it is past the table
level_rule : (k : ℕ) → get_or first_protected_by_level (suc k) 0 ≡ 1048576 - 65536 * 2 ^ k
level_rule k =
    ⊎_elim (λ l. get_d_tab 7 (λ n. 1048576 - 65536 * 2 ^ n) k 0 l)
    (λ g. get_or-eq_default first_protected_by_level 0 {n = suc k} (omega arith) ∙ omega (arith, pow_mono {i = 5} {j = k} (omega arith))) (split k 7)

-- the formula
pub level_first : (level : ℕ) → 0 < level → get_or first_protected_by_level level 0 ≡ 1048576 - 65536 * 2 ^ (level - 1)
level_first zero some = absurd (omega arith)
level_first (suc k) some = simp unary_clauses (level_rule k)

-- what is protected at 001 to 101 is no more than everything, so the difference does not wrap
pub level_part : (level : ℕ) → level ≤ 5 → 65536 * 2 ^ (level - 1) ≤ 1048576
level_part level top = omega (arith, pow_mono {i = level - 1} {j = 4} (omega arith))

-- and fits in 32 bits, so a block shifted to the left loses none
pub level_shift : (level : ℕ) → level ≤ 5 → (65536 * 2 ^ (level - 1)) % 2 ^ 32 ≡ 65536 * 2 ^ (level - 1)
level_shift level top = mod-eq_of_lt (omega (arith, level_part level top))

-- above 101 everything is protected
pub level_all : (level : ℕ) → 5 < level → get_or first_protected_by_level level 0 ≡ 0
level_all zero h = absurd (omega arith)
level_all (suc k) h = level_rule k ∙ omega (arith, pow_mono {i = 5} {j = k} (omega arith))

-- above 000 something is
pub level_some : (level : ℕ) → 0 < level → get_or first_protected_by_level level 0 < 1048576
level_some zero some = absurd (omega arith)
level_some (suc k) some = omega (arith, level_rule k, pow_pos k)

-- what a level protects is double what the one below does, from 001 up to 101
pub level_doubles : (level : ℕ) → 0 < level → level < 5
    → 1048576 - get_or first_protected_by_level (level + 1) 0 ≡ 2 * (1048576 - get_or first_protected_by_level level 0)
level_doubles zero some top = absurd (omega arith)
level_doubles (suc k) some top =
    rw (add-one (suc k)) (omega (arith, level_rule k, level_rule (suc k), pow_mono {i = suc k} {j = 4} (omega arith)))

-- ---- at most the size, and whole blocks

pub record Border (size n : ℕ) : Type 0 where
  pub in_size : n ≤ size
  pub blocks : n % 65536 ≡ 0

level_border : (level : ℕ) → Border 1048576 (get_or first_protected_by_level level 0)
level_border zero = record { in_size = omega arith; blocks = refl }
level_border (suc k) = rw (level_rule k) record { in_size = omega arith; blocks = omega arith }

pub first_border : (s : State) → Border (data_of s).size (first_protected s)
unfolding first_protected
first_border s =
    cond_elim (Border (data_of s).size) (data_of s).graded
    (λ g. rw ((regular s.chip).graded_size g) (level_border s.bp))
    (λ _. cond_elim (Border (data_of s).size) (eqb (s.bp % 4) 0)
    (λ _. record { in_size = omega arith; blocks = (regular s.chip).whole_blocks })
    (λ _. record { in_size = omega arith; blocks = refl }))

pub first_le : (s : State) → first_protected s ≤ 1048576
first_le s = le_trans (first_border s).in_size (regular s.chip).size_le_mebibyte

-- it goes by the chip and the level alone
pub first_by : (x y : State) → x.chip ≡ y.chip → x.bp ≡ y.bp → first_protected x ≡ first_protected y
unfolding first_protected
first_by x y e f = rw (e, f) refl

-- with BP 000 nothing is protected
pub open_at_0 : (s : State) → s.bp ≡ 0 → first_protected s ≡ (data_of s).size
unfolding first_protected
open_at_0 s e =
    rw e
    (cond_elim (λ (n : ℕ). n ≡ (data_of s).size) (data_of s).graded (λ g. sym ((regular s.chip).graded_size g)) (λ _. refl))

-- ---- by what its chip says: the level's own, or all or nothing

pub first_graded : (s : State) → (data_of s).graded ≡ true → first_protected s ≡ get_or first_protected_by_level s.bp 0
unfolding first_protected
first_graded s g = rw g refl

pub first_whole : (s : State) → (data_of s).graded ≡ false → first_protected s ≡ cond (eqb (s.bp % 4) 0) (data_of s).size 0
unfolding first_protected
first_whole s g = rw g refl
