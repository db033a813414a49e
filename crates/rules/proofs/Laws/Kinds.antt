-- Which opcodes have a kind that passes a test, on either chip: computed over its instructions, both ways.
-- Assumes nothing.
use mathlib.Core.Path.{◌≡◌, sym, ap, ◌∙◌}
use mathlib.Core.Bool.{Bool, true, false, ◌&&◌, true≢false}
use mathlib.Core.List.{List}
use mathlib.Core.Logic.{⊎_elim}
use Prim.Native.Nat.{ℕ}
use Rattle.common.proofs.Laws.Choice.{cases}
use Rattle.common.proofs.Laws.Booleans.{and_l, and_r}
use Rattle.chip.specs.declared.kinds.Kind.{Kind}
use Rattle.chip.specs.declared.kinds.Kind.TheVariants.{SectorErase, BlockErase, ChipErase, Wrsr}
use Rattle.chip.specs.Instructions.{instructions_008a, instructions_05pa, kind_in}
use Rattle.chip.specs.Chip.{is_known, kind_of}
use Rattle.chip.proofs.Laws.Chip.{known_number, is_confined, kind_confined}
use Rattle.rules.specs.Chips.{by_chip}
use Rattle.rules.specs.Frames.{is_among}
use Rattle.rules.proofs.Laws.Chips.{kind_by_chip}
use Rattle.rules.proofs.Laws.Tests.{off}
use Rattle.rules.proofs.Laws.Among.{each, among}

-- the tests for one kind
abbrev pub is_sector_erase : Kind → Bool
is_sector_erase SectorErase = true
is_sector_erase other = false

abbrev pub is_block_erase : Kind → Bool
is_block_erase BlockErase = true
is_block_erase other = false

abbrev pub is_chip_erase : Kind → Bool
is_chip_erase ChipErase = true
is_chip_erase other = false

abbrev pub is_status_write : Kind → Bool
is_status_write Wrsr = true
is_status_write other = false

-- each of some opcodes has such a kind, and no other has
abbrev pub is_exact : (Kind → Bool) → List (ℕ × Kind) → List ℕ → Bool
is_exact test is list = is_confined test (λ op. is_among op list) is && each (λ op. test (kind_in is op)) list

module _ (test : Kind → Bool) where
  exactly : (is : List (ℕ × Kind)) (list : List ℕ) (op : ℕ) → is_exact test is list ≡ true → test (kind_in is op) ≡ is_among op list
  exactly is list op exact =
      let confined = is_confined test (λ op. is_among op list) is in
      cases (is_among op list) (λ t. among (λ op. test (kind_in is op)) list op (and_r confined (each (λ op. test (kind_in is op)) list) exact) t ∙ sym t)
      (λ t. off (test (kind_in is op)) (λ e. true≢false (sym (kind_confined test (λ op. is_among op list) is (and_l confined (each (λ op. test (kind_in is op)) list) exact) op e) ∙ t))
      ∙ sym t)

  pub kind_exactly : (on_008a on_05pa : List ℕ) → is_exact test instructions_008a on_008a ≡ true → is_exact test instructions_05pa on_05pa ≡ true
      → (number : ℕ) → is_known number ≡ true → (op : ℕ) → test (kind_of number op) ≡ is_among op (by_chip number on_008a on_05pa)
  kind_exactly on_008a on_05pa first second number known op =
      ap test (kind_by_chip number known op)
      ∙ ⊎_elim (λ e. rw e (exactly instructions_008a on_008a op first)) (λ e. rw e (exactly instructions_05pa on_05pa op second)) (known_number number known)
