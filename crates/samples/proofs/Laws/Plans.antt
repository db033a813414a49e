-- Four plans, record by record: one byte FF, wanted FE, on either chip, unprotected and protected. For every array of the chip's size with that byte.
-- Assumes nothing.
use mathlib.Core.Path.{◌≡◌, refl}
use mathlib.Core.Bool.{Bool, true, false}
use mathlib.Core.List.{List, [], ◌∷◌, ◌++◌}
use Prim.Native.Nat.{ℕ, ◌+◌, ◌-◌}
use native.Mathlib.Omega.{arith}
use lib.ListN.{get_or}
use Rattle.chip.specs.Chip.{chip_of}
use Rattle.state.specs.Protection.{first_protected}
use Rattle.state.specs.Power.{at_rest}
use Rattle.script.specs.Record.{Record, frame, wait}
use Rattle.region.specs.Region.{wanted_at, changes, any_of}
use Rattle.common.specs.Lists.{within}
use Rattle.region.proofs.Laws.Region.{changes_before, changes_behind}
use Rattle.words.specs.Words.{changing_words, joined, runs_of, further_records, run_records, runs_records, words_step}
use Rattle.pages.specs.Pages.{before_first, through_last, part_length, part_records, pages_step}
use Rattle.pages.proofs.Laws.Spans.{first_is, last_is}
use Rattle.plan.specs.Plan.{step_one_needed, status_byte, status_records, program_step, plan_records}

-- what is wanted
abbrev pub fe : List ℕ
fe = 0xfe ∷ []

-- ---- the F25L008A, at 012345

abbrev pub word_plan : List Record
word_plan = frame (0x06 ∷ []) ∷ frame (0xad ∷ 0x01 ∷ 0x23 ∷ 0x44 ∷ 0xff ∷ 0xfe ∷ []) ∷ wait 7 ∷ frame (0x04 ∷ []) ∷ []

module _ (array : List ℕ) (byte : get_or array 0x12345 0 ≡ 0xff) where
  pub words_open : plan_records (at_rest 8 0 false false) array 0x12345 fe ≡ word_plan
  unfolding plan_records step_one_needed chip_of first_protected any_of changes wanted_at within program_step words_step changing_words joined runs_of further_records run_records runs_records
  words_open = rw byte refl

  pub words_protected : plan_records (at_rest 8 7 false false) array 0x12345 fe
      ≡ frame (0x50 ∷ []) ∷ frame (0x01 ∷ 0x00 ∷ []) ∷ (word_plan ++ (frame (0x50 ∷ []) ∷ frame (0x01 ∷ 0x1c ∷ []) ∷ []))
  unfolding plan_records step_one_needed chip_of first_protected any_of changes wanted_at within program_step words_step changing_words joined runs_of further_records run_records runs_records status_records status_byte
  words_protected = rw byte refl

-- ---- the F25L05PA, at 1234

abbrev pub page_plan : List Record
page_plan = frame (0x06 ∷ []) ∷ frame (0x02 ∷ 0x00 ∷ 0x12 ∷ 0x34 ∷ 0xfe ∷ []) ∷ wait 1500 ∷ []

module _ (array : List ℕ) (byte : get_or array 0x1234 0 ≡ 0xff) where
  abbrev d : ℕ → Bool
  d = changes array 0x1234 fe

  here : d 0x1234 ≡ true
  unfolding changes wanted_at within
  here = rw byte refl

  first : 0x1200 + before_first d 256 0x1200 ≡ 0x1234
  first = first_is d 256 0x1200 0x1234 (omega arith) (omega arith) here (λ k h l. changes_before array 0x1234 fe k l)

  last : 0x1200 + through_last d 256 0x1200 ≡ 0x1235
  last = last_is d 256 0x1200 0x1235 (omega arith) (omega arith) here (λ k h l. changes_behind array 0x1234 fe k h)

  page : pages_step (wanted_at 0x1234 fe) d 1 0x1200 ≡ page_plan
  unfolding pages_step part_length part_records wanted_at within
  page =
      let one : through_last d 256 0x1200 - before_first d 256 0x1200 ≡ 1 = omega (arith, first, last) in
      rw (first, one) refl

  pub page_open : plan_records (at_rest 5 0 false false) array 0x1234 fe ≡ page_plan
  unfolding plan_records step_one_needed chip_of first_protected any_of program_step
  page_open = rw (here, page) refl

  pub page_protected : plan_records (at_rest 5 1 false false) array 0x1234 fe
      ≡ frame (0x06 ∷ []) ∷ frame (0x01 ∷ 0x00 ∷ []) ∷ wait 5000 ∷ (page_plan ++ (frame (0x06 ∷ []) ∷ frame (0x01 ∷ 0x04 ∷ []) ∷ wait 5000 ∷ []))
  unfolding plan_records step_one_needed chip_of first_protected any_of program_step status_records status_byte
  page_protected = rw (here, page) refl
