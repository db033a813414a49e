-- What every chip has in common: all that a proof may ask of a chip, of its data and of its instructions' kinds.
-- A further chip is one more line of `models_regular`.
-- Assumes nothing.
use mathlib.Core.Path.{◌≡◌, refl, sym, ap, ◌∙◌}
use mathlib.Core.Bool.{Bool, true, false, ◌&&◌, ◌||◌, not, false≢true, true≢false}
use mathlib.Core.List.{List, [], ◌∷◌}
use mathlib.Core.Logic.{◌⊎◌, inl, inr, ⊎_elim}
use Prim.Native.Nat.{ℕ, ◌%◌, ◌≤◌, ◌<◌}
use native.Mathlib.Omega.{arith}
use lib.Dec.{eqb}
use borrow.Author.Tests.{eqb-true, not-true}
use Rattle.common.specs.Lists.{Each}
use Rattle.common.proofs.Laws.Booleans.{and_l, and_r, or_none_i, implies_elim}
use Rattle.common.proofs.Laws.Choice.{cond_elim, cases}
use Rattle.common.proofs.Laws.Lists.{split}
use Rattle.common.proofs.Laws.Pairs.{◌▹◌}
use Rattle.chip.specs.declared.Chip.{Chip}
use Rattle.chip.specs.declared.kinds.Kind.{Kind}
use Rattle.chip.specs.declared.kinds.Kind.TheVariants.{Unknown, PageProgram, AaiProgram, Ewsr, Wrsr, Wren, Wrdi, DeepPowerDown}
use Rattle.chip.specs.Instructions.{instructions_008a, instructions_05pa, kind_in}
use Rattle.chip.specs.Chip.{f25l008a, f25l05pa, Model, model_008a, model_05pa, models, model_in, is_known, chip_of, instructions_of, kind_of}

-- a chip whose status write takes time
pub record Timed (chip : Chip) : Type 0 where
  pub keeps_bits : chip.keeps ≡ true
  pub no_aai : chip.aai ≡ false
  pub no_ewsr : chip.ewsr ≡ false
  pub by_pages : chip.word_plans ≡ false
  pub has_tb : chip.top_bottom ≡ true

pub record Regular (chip : Chip) (kind : ℕ → Kind) : Type 0 where
  -- ---- the array
  pub size_positive : 0 < chip.size
  pub size_le_mebibyte : chip.size ≤ 1048576
  pub whole_blocks : chip.size % 65536 ≡ 0
  -- the levels' table is that of one size
  pub graded_size : chip.graded ≡ true → chip.size ≡ 1048576
  pub new_level_le_7 : chip.new_level ≤ 7
  -- ---- the signature comes from byte 4 on, at the latest
  pub preamble_le_4 : chip.preamble ≤ 4
  -- ---- nothing takes longer than a chip erase
  pub block_le_chip_time : chip.block_time ≤ chip.chip_time
  pub sector_le_chip_time : 90000 ≤ chip.chip_time
  pub status_le_sector_time : chip.status_time ≤ 90000
  pub timed : 0 < chip.status_time → Timed chip
  -- ---- AAI and power-down: no chip has both
  pub aai_without_power_down : chip.aai ≡ true → chip.sleeps ≡ true → ⊥
  -- ---- only a chip that says so has these kinds
  pub aai_program_needs_aai : (op : ℕ) → kind op ≡ AaiProgram → chip.aai ≡ true
  pub ewsr_needs_ewsr : (op : ℕ) → kind op ≡ Ewsr → chip.ewsr ≡ true
  pub power_down_needs_sleeps : (op : ℕ) → kind op ≡ DeepPowerDown → chip.sleeps ≡ true
  -- ---- WREN stands at 06 and nowhere else
  pub wren_only_06 : (op : ℕ) → kind op ≡ Wren → op ≡ 0x06
  -- ---- the opcodes that plans send
  pub wren_is_06 : kind 0x06 ≡ Wren
  pub wrdi_is_04 : kind 0x04 ≡ Wrdi
  pub wrsr_is_01 : kind 0x01 ≡ Wrsr
  pub ewsr_is_50 : chip.ewsr ≡ true → kind 0x50 ≡ Ewsr
  pub aai_program_is_ad : chip.word_plans ≡ true → kind 0xad ≡ AaiProgram
  pub page_program_is_02 : chip.word_plans ≡ false → kind 0x02 ≡ PageProgram

-- ---- which opcodes have a kind

-- every instruction whose kind passes a test has an opcode that passes another, and the unknown kind passes none: computed over a chip's instructions
abbrev pub is_confined : (Kind → Bool) → (ℕ → Bool) → List (ℕ × Kind) → Bool
is_confined test allowed [] = not (test Unknown)
is_confined test allowed (i ∷ is) = (not (test i.1) || allowed i.0) && is_confined test allowed is

pub kind_confined : (test : Kind → Bool) (allowed : ℕ → Bool) (is : List (ℕ × Kind)) → is_confined test allowed is ≡ true → (op : ℕ) → test (kind_in is op) ≡ true → allowed op ≡ true
kind_confined test allowed [] all op = λ e. absurd (true≢false (sym e ∙ not-true (test Unknown) all))
kind_confined test allowed (i ∷ is) all op =
    let here = and_l (not (test i.1) || allowed i.0) (is_confined test allowed is) all in
    cond_elim (λ (found : Kind). test found ≡ true → allowed op ≡ true) (eqb op i.0)
    (λ t e. ap allowed (eqb-true op i.0 t) ∙ implies_elim (test i.1) (allowed i.0) here e)
    (λ _. kind_confined test allowed is (and_r (not (test i.1) || allowed i.0) (is_confined test allowed is) all) op)

-- the tests for one kind
abbrev is_aai_program : Kind → Bool
is_aai_program AaiProgram = true
is_aai_program other = false

abbrev is_ewsr : Kind → Bool
is_ewsr Ewsr = true
is_ewsr other = false

abbrev is_power_down : Kind → Bool
is_power_down DeepPowerDown = true
is_power_down other = false

abbrev is_wren : Kind → Bool
is_wren Wren = true
is_wren other = false

-- a kind that no instruction has
lacked : (is : List (ℕ × Kind)) (test : Kind → Bool) → is_confined test (λ op. false) is ≡ true → (op : ℕ) → test (kind_in is op) ≡ true → ⊥
lacked is test none op e = false≢true (kind_confined test (λ op. false) is none op e)

-- and one that a single opcode has
single : (is : List (ℕ × Kind)) (test : Kind → Bool) (only : ℕ) → is_confined test (λ op. eqb op only) is ≡ true → (op : ℕ) → test (kind_in is op) ≡ true → op ≡ only
single is test only one op e = eqb-true op only (kind_confined test (λ op. eqb op only) is one op e)

-- ---- each model

abbrev RegularModel : Model → Type 0
RegularModel m = Regular m.chip (kind_in m.instructions)

regular_008a : RegularModel model_008a
regular_008a = record {
  size_positive = omega arith;
  size_le_mebibyte = omega arith;
  whole_blocks = refl;
  graded_size = λ _. refl;
  new_level_le_7 = omega arith;
  preamble_le_4 = omega arith;
  block_le_chip_time = omega arith;
  sector_le_chip_time = omega arith;
  status_le_sector_time = omega arith;
  timed = λ h. absurd (omega arith);
  aai_without_power_down = λ _ e. false≢true e;
  aai_program_needs_aai = λ _ _. refl;
  ewsr_needs_ewsr = λ _ _. refl;
  power_down_needs_sleeps = λ op e. absurd (lacked instructions_008a is_power_down refl op (ap is_power_down e));
  wren_only_06 = λ op e. single instructions_008a is_wren 0x06 refl op (ap is_wren e);
  wren_is_06 = refl;
  wrdi_is_04 = refl;
  wrsr_is_01 = refl;
  ewsr_is_50 = λ _. refl;
  aai_program_is_ad = λ _. refl;
  page_program_is_02 = λ e. absurd (true≢false e);
}

regular_05pa : RegularModel model_05pa
regular_05pa = record {
  size_positive = omega arith;
  size_le_mebibyte = omega arith;
  whole_blocks = refl;
  graded_size = λ e. absurd (false≢true e);
  new_level_le_7 = omega arith;
  preamble_le_4 = omega arith;
  block_le_chip_time = omega arith;
  sector_le_chip_time = omega arith;
  status_le_sector_time = omega arith;
  timed = λ _. record { keeps_bits = refl; no_aai = refl; no_ewsr = refl; by_pages = refl; has_tb = refl };
  aai_without_power_down = λ e _. false≢true e;
  aai_program_needs_aai = λ op e. absurd (lacked instructions_05pa is_aai_program refl op (ap is_aai_program e));
  ewsr_needs_ewsr = λ op e. absurd (lacked instructions_05pa is_ewsr refl op (ap is_ewsr e));
  power_down_needs_sleeps = λ _ _. refl;
  wren_only_06 = λ op e. single instructions_05pa is_wren 0x06 refl op (ap is_wren e);
  wren_is_06 = refl;
  wrdi_is_04 = refl;
  wrsr_is_01 = refl;
  ewsr_is_50 = λ e. absurd (false≢true e);
  aai_program_is_ad = λ e. absurd (false≢true e);
  page_program_is_02 = λ _. refl;
}

models_regular : Each RegularModel models
models_regular = regular_008a ▹ regular_05pa ▹ tt

-- ---- the chip of any number

-- what holds of each model and of the one that stands in holds of the one found
model_in_lem : (P : Model → Type 0) (ms : List Model) (other : Model) → Each P ms → P other → (number : ℕ) → P (model_in ms other number)
model_in_lem P [] other each stands number = stands
model_in_lem P (m ∷ ms) other each stands number =
    cond_elim P (eqb number m.number) (λ _. each.0) (λ _. model_in_lem P ms other each.1 stands number)

pub regular : (number : ℕ) → Regular (chip_of number) (kind_of number)
unfolding chip_of kind_of
regular number = model_in_lem RegularModel models model_05pa models_regular regular_05pa number

-- the chip that stands in for an unknown one
pub known_5 : is_known 5 ≡ true
unfolding is_known
known_5 = refl

pub chip_of_5 : chip_of 5 ≡ f25l05pa
unfolding chip_of
chip_of_5 = refl

-- ---- the two numbers

pub known_8 : is_known 8 ≡ true
unfolding is_known
known_8 = refl

pub chip_of_8 : chip_of 8 ≡ f25l008a
unfolding chip_of
chip_of_8 = refl

-- and no other
pub known_number : (number : ℕ) → is_known number ≡ true → (number ≡ 8) ⊎ (number ≡ 5)
unfolding is_known
known_number number k =
    cases (eqb number 8) (λ e. inl (eqb-true number 8 e))
    (λ e. cases (eqb number 5) (λ e. inr (eqb-true number 5 e)) (λ f. absurd (false≢true (sym (or_none_i e (or_none_i f refl)) ∙ k))))

-- an opcode's kind is that of its row among the chip's instructions
pub kind_of_is : (number op : ℕ) → kind_of number op ≡ kind_in (instructions_of number) op
unfolding kind_of
kind_of_is number op = refl

-- ---- a status write takes time, or is done at once

module _ (number : ℕ) where
  pub timed_or_at_once : Timed (chip_of number) ⊎ ((chip_of number).status_time ≡ 0)
  timed_or_at_once = ⊎_elim (λ some. inl ((regular number).timed some)) (λ none. inr (omega arith)) (split 0 (chip_of number).status_time)

  -- at once where plans go by words,
  pub words_at_once : (chip_of number).word_plans ≡ true → (chip_of number).status_time ≡ 0
  words_at_once w = ⊎_elim (λ t. absurd (true≢false (sym w ∙ t.by_pages))) (λ z. z) timed_or_at_once

  -- and where 50 arms it
  pub ewsr_at_once : (chip_of number).ewsr ≡ true → (chip_of number).status_time ≡ 0
  ewsr_at_once e = ⊎_elim (λ t. absurd (true≢false (sym e ∙ t.no_ewsr))) (λ z. z) timed_or_at_once
