-- The opcodes that change the registers alone.
-- Assumes nothing.
use mathlib.Core.Path.{◌≡◌, refl, ap, ◌∙◌}
use mathlib.Core.Bool.{Bool, true, false, ◌&&◌, ◌||◌, not}
use mathlib.Core.List.{List}
use Prim.Native.Nat.{ℕ}
use native.Mathlib.Omega.{arith}
use lib.Dec.{eqb}
use lib.ListN.{length, get_or}
use Rattle.common.proofs.Laws.Choice.{cases}
use Rattle.chip.specs.declared.Chip.{Chip}
use Rattle.chip.specs.declared.kinds.Kind.TheVariants.{Ewsr, Wrsr, Wren, Wrdi, DeepPowerDown}
use Rattle.state.specs.State.{data_of, with_pending}
use Rattle.command.specs.declared.Command.TheVariants.{WriteStatus}
use Rattle.command.specs.Command.{when, long, look, aai_rows, by_kind}
use Rattle.command.proofs.Laws.Modes.{seen_in_aai}
use Rattle.registers.specs.Registers.{state_after}
use Rattle.registers.proofs.Laws.After.{after_write_enable, after_write_disable, after_arm, after_write_status, after_status_begun, after_sleep}
use Rattle.output.specs.Output.{memory}
use Rattle.output.proofs.Laws.Shown.{shows_write_enable, shows_write_disable, shows_arm, shows_write_status, shows_sleep}
use Rattle.frame.specs.Device.{Device}
use Rattle.frame.specs.Line.{Line}
use Rattle.frame.specs.Call.{Accepted}
use Rattle.rules.specs.Chips.{by_chip}
use Rattle.rules.specs.Opcodes.{busy_for, status_written, status_begun, Switches}
use Rattle.rules.proofs.Laws.Chips.{data_by_chip}
use Rattle.rules.proofs.Laws.StatusByte.{level_of, bpl_of, bits_of}
use Rattle.rules.proofs.Laws.Does.{changes_nothing, does}
use Rattle.rules.proofs.Laws.Rows.{when_both, kind_of_both, kind_of_one, seen, row}

module _ {wp : Bool} {f : List ℕ} {d : Device} {line : Line} (a : Accepted wp f d line) where
  pub not_locked : (bpl : Bool) → (not bpl || wp) ≡ not (bpl && not wp)
  not_locked true = by wp
    where
      by : (level : Bool) → level ≡ not (not level)
      by true = refl
      by false = refl
  not_locked false = refl

  -- a status write: at once on the one chip, and by a cycle of its own on the other
  status_after : (byte : ℕ) → state_after d.state (WriteStatus byte (data_of d.state).status_time) ≡ by_chip d.state.chip (status_written byte d) (status_begun byte d)
  status_after byte =
      let top_bottom_lem = data_by_chip d.state.chip a.sound.chip_known (λ (c : Chip). c.top_bottom) in
      ap (λ (n : ℕ). state_after d.state (WriteStatus byte n)) (data_by_chip d.state.chip a.sound.chip_known (λ (c : Chip). c.status_time))
      ∙ cases (eqb d.state.chip 8)
      (λ t. let none : (data_of d.state).top_bottom ≡ false = rw t at top_bottom_lem in
      rw t (after_write_status d.state byte ∙ rw (none, level_of byte, bpl_of byte) refl))
      (λ t. rw t (after_status_begun d.state byte 5000 (omega arith) ∙ ap (with_pending (busy_for 5000 d) true) (bits_of byte)))

  pub switches : Switches wp f d line
  unfolding by_kind
  switches = record {
    write_enable = λ r e. row a (seen a r (kind_of_both a 0x06 Wren refl refl e)) refl
        (λ c. does a c (λ i. shows_write_enable d.state (memory d.array) i) (after_write_enable d.state) (changes_nothing f refl));
    write_disable = λ still awake e. row a (cases d.state.aai
        (λ aai. seen_in_aai d.state f wp still aai ∙ ap (look (aai_rows d.state f)) e)
        (λ single. seen a record { still = still; single = single; awake = awake } (kind_of_both a 0x04 Wrdi refl refl e))) refl
        (λ c. does a c (λ i. shows_write_disable d.state (memory d.array) i) (after_write_disable d.state) (changes_nothing f refl));
    enable_status = λ r n e. row a (seen a r (kind_of_one a 8 0x50 Ewsr n refl e)) refl
        (λ c. does a c (λ i. shows_arm d.state (memory d.array) i) (after_arm d.state) (changes_nothing f refl));
    write_status_lem = λ r e. row a
        (seen a r (kind_of_both a 0x01 Wrsr refl refl e)
        ∙ ap (when (long f 2)) (when_both d.state.armed (not d.state.bpl || wp) (WriteStatus (get_or f 1 0) (data_of d.state).status_time))
        ∙ when_both (long f 2) (d.state.armed && (not d.state.bpl || wp)) (WriteStatus (get_or f 1 0) (data_of d.state).status_time))
        (ap (λ (b : Bool). eqb (length f) 2 && (d.state.armed && b)) (not_locked d.state.bpl))
        (λ c. does a c (λ i. shows_write_status d.state (memory d.array) i (get_or f 1 0) (data_of d.state).status_time)
        (status_after (get_or f 1 0)) (changes_nothing f refl));
    power_down_lem = λ r n e. row a (seen a r (kind_of_one a 5 0xb9 DeepPowerDown n refl e)) refl
        (λ c. does a c (λ i. shows_sleep d.state (memory d.array) i) (after_sleep d.state) (changes_nothing f refl));
  }
