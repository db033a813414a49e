-- A chip's data and its opcodes' kinds, by its number: a table of the document at a time.
-- Assumes nothing.
use mathlib.Core.Path.{◌≡◌, refl, ap}
use mathlib.Core.Bool.{true}
use mathlib.Core.Logic.{⊎_elim}
use Prim.Native.Nat.{ℕ}
use lib.Dec.{eqb}
use Rattle.common.proofs.Laws.Choice.{cond_elim}
use Rattle.chip.specs.declared.Chip.{Chip}
use Rattle.chip.specs.Instructions.{instructions_008a, instructions_05pa, kind_in}
use Rattle.chip.specs.Chip.{f25l008a, f25l05pa, is_known, chip_of, kind_of}
use Rattle.chip.proofs.Laws.Chip.{chip_of_8, chip_of_5, known_number, kind_of_is}
use Rattle.rules.specs.Chips.{by_chip}

-- what is the same on both chips
pub same_by_chip : {A : Type 0} (number : ℕ) (x : A) → by_chip number x x ≡ x
same_by_chip number x = cond_elim (λ y. y ≡ x) (eqb number 8) (λ _. refl) (λ _. refl)

module _ (number : ℕ) (known : is_known number ≡ true) where
  -- one thing of a chip's data
  pub data_by_chip : {A : Type 0} (thing : Chip → A) → thing (chip_of number) ≡ by_chip number (thing f25l008a) (thing f25l05pa)
  data_by_chip thing = ⊎_elim (λ e. rw e (ap thing chip_of_8)) (λ e. rw e (ap thing chip_of_5)) (known_number number known)

  -- an opcode's kind
  pub kind_by_chip : (op : ℕ) → kind_of number op ≡ by_chip number (kind_in instructions_008a op) (kind_in instructions_05pa op)
  kind_by_chip op = ⊎_elim (λ e. rw e (kind_of_is 8 op)) (λ e. rw e (kind_of_is 5 op)) (known_number number known)
