-- One opcode's row: its kind by chip, its address, and its tests.
-- Assumes nothing.
use mathlib.Core.Path.{◌≡◌, refl, ap, ap₂, ◌∙◌}
use mathlib.Core.Bool.{Bool, true, false, ◌&&◌}
use mathlib.Core.List.{List}
use Prim.Native.Nat.{ℕ, ◌%◌}
use lib.ListN.{get_or}
use Rattle.common.specs.Numbers.{three_bytes}
use Rattle.chip.specs.declared.Chip.{Chip}
use Rattle.chip.specs.declared.kinds.Kind.{Kind}
use Rattle.chip.specs.Instructions.{instructions_008a, instructions_05pa, kind_in}
use Rattle.chip.specs.Chip.{kind_of}
use Rattle.state.specs.State.{data_of}
use Rattle.command.specs.declared.Command.{Command}
use Rattle.command.specs.Command.{when, address, by_kind, command_of}
use Rattle.command.specs.Fits.{Resting}
use Rattle.command.proofs.Laws.Modes.{address_is, seen_at_rest}
use Rattle.frame.specs.Device.{Device}
use Rattle.frame.specs.Line.{Line}
use Rattle.frame.specs.Call.{Accepted}
use Rattle.rules.specs.Chips.{by_chip}
use Rattle.rules.specs.Frames.{opcode}
use Rattle.rules.specs.Opcodes.{size_of, address_in, TakenIf}
use Rattle.rules.proofs.Laws.Chips.{data_by_chip, kind_by_chip, same_by_chip}
use Rattle.rules.proofs.Laws.Does.{ignored}

-- ---- two tests

pub when_both : (a b : Bool) (c : Command) → when a (when b c) ≡ when (a && b) c
when_both true b c = refl
when_both false b c = refl

module _ {wp : Bool} {f : List ℕ} {d : Device} {line : Line} (a : Accepted wp f d line) where
  -- ---- what the chip's data and the frame give

  pub size_is : (data_of d.state).size ≡ size_of d
  size_is = data_by_chip d.state.chip a.sound.chip_known (λ (c : Chip). c.size)

  pub address_in_lem : address d.state f ≡ address_in f d
  address_in_lem = address_is d.state f ∙ ap (λ (n : ℕ). three_bytes (get_or f 1 0) (get_or f 2 0) (get_or f 3 0) % n) size_is

  -- an opcode's kind: one for both chips, or on one of them
  pub kind_of_both : (op : ℕ) (kind : Kind) → kind_in instructions_008a op ≡ kind → kind_in instructions_05pa op ≡ kind → opcode f ≡ op
      → kind_of d.state.chip (opcode f) ≡ kind
  kind_of_both op kind on008a on05pa e =
      ap (kind_of d.state.chip) e
      ∙ kind_by_chip d.state.chip a.sound.chip_known op
      ∙ ap₂ (by_chip d.state.chip) on008a on05pa
      ∙ same_by_chip d.state.chip kind

  pub kind_of_one : (number op : ℕ) (kind : Kind) → d.state.chip ≡ number → by_chip number (kind_in instructions_008a op) (kind_in instructions_05pa op) ≡ kind
      → opcode f ≡ op → kind_of d.state.chip (opcode f) ≡ kind
  kind_of_one number op kind is e f_is =
      ap (kind_of d.state.chip) f_is
      ∙ kind_by_chip d.state.chip a.sound.chip_known op
      ∙ ap (λ (n : ℕ). by_chip n (kind_in instructions_008a op) (kind_in instructions_05pa op)) is
      ∙ e

  -- ---- a row of the table

  pub seen : Resting d.state → {kind : Kind} → kind_of d.state.chip (opcode f) ≡ kind → command_of d.state wp f ≡ by_kind d.state wp f kind
  seen r e = seen_at_rest d.state f wp r ∙ ap (by_kind d.state wp f) e

  -- taken by a test
  pub row : {t test : Bool} {c : Command} {outcome : Type 0} → command_of d.state wp f ≡ when t c → t ≡ test → (command_of d.state wp f ≡ c → outcome)
      → TakenIf wp f d line test outcome
  row {t} {test} {c} e same taken = record {
    then = λ h. taken (e ∙ ap (λ (b : Bool). when b c) (same ∙ h));
    else = λ h. ignored a (e ∙ ap (λ (b : Bool). when b c) (same ∙ h));
  }
