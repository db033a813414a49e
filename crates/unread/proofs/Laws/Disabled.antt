-- A sound chip with WEL 0 is not busy, and of all frames the one byte 06 alone sets WEL: every other keeps the array, and leaves WEL 0.
-- By the chip's data, never by its number.
-- Assumes nothing.
use mathlib.Core.Path.{◌≡◌, refl, sym, ap, ◌∙◌}
use mathlib.Core.Bool.{Bool, true, false, ◌||◌, not, true≢false}
use mathlib.Core.List.{List}
use mathlib.Core.Logic.{⊎_elim}
use Prim.Native.Nat.{ℕ, ◌+◌, ◌-◌, ◌*◌, ◌/◌}
use native.Mathlib.Omega.{arith}
use lib.Dec.{leb, eqb}
use lib.ListN.{length, get_or}
use borrow.Author.Tests.{eq-eqb}
use Rattle.common.proofs.Laws.Booleans.{and_i}
use Rattle.common.proofs.Laws.Choice.{cond_elim, cases}
use Rattle.common.proofs.Laws.Lists.{split}
use Rattle.chip.specs.declared.kinds.Kind.{Kind}
use Rattle.chip.specs.declared.kinds.Kind.TheVariants.{
  Unknown,
  Read,
  FastRead,
  SectorErase,
  BlockErase,
  ChipErase,
  ByteProgram,
  PageProgram,
  AaiProgram,
  Rdsr,
  Ewsr,
  Wrsr,
  Wren,
  Wrdi,
  DeepPowerDown,
  Res,
  JedecId,
  Rdid,
}
use Rattle.chip.specs.Chip.{kind_of}
use Rattle.chip.proofs.Laws.Chip.{regular, timed_or_at_once}
use Rattle.state.specs.declared.State.{State}
use Rattle.state.specs.State.{data_of}
use Rattle.state.specs.Soundness.{Sound}
use Rattle.command.specs.declared.Command.{Command}
use Rattle.command.specs.declared.Command.TheVariants.{
  Ignored,
  ReadSignature,
  WriteEnable,
  WriteDisable,
  Arm,
  WriteStatus,
  Erase,
  ProgramByte,
  ProgramPage,
  ProgramWord,
  Sleep,
}
use Rattle.command.specs.Command.{when, long, address, writable, by_kind, command_of}
use Rattle.command.proofs.Laws.Fits.{open_of}
use Rattle.command.proofs.Laws.Modes.{seen_asleep, seen_at_rest}
use Rattle.registers.specs.Registers.{state_after}
use Rattle.registers.proofs.Laws.After.{
  after_ignored,
  after_read_status,
  after_read_array,
  after_read_jedec,
  after_read_signature,
  after_read_identity,
  after_write_disable,
  after_arm,
  after_write_status,
  after_sleep,
}
use Rattle.script.specs.Record.{frame}
use Rattle.effect.specs.declared.Effect.TheVariants.{Keep}
use Rattle.frame.specs.Effect.{effect_of}
use Rattle.unread.specs.Unread.{is_write_enable}

-- a command that keeps the array and leaves WEL 0
pub record Harmless (s : State) (c : Command) : Type 0 where
  pub keeps : effect_of c ≡ Keep
  pub stays_off : (state_after s c).wel ≡ false

module _ (s : State) (off : s.wel ≡ false) where
  -- ---- what a sound chip can be doing

  never : {A : Type 0} → s.wel ≡ true → A
  never on = absurd (true≢false (sym on ∙ off))

  pub not_busy : Sound s → s.left ≡ 0
  not_busy h = ⊎_elim (λ busy. never (h.while_busy busy).enabled) (λ still. omega arith) (split 0 s.left)

  not_in_aai : Sound s → s.aai ≡ false
  not_in_aai h = cases s.aai (λ a. never (h.in_aai_lem a).enabled) (λ a. a)

  -- ---- the commands

  -- by the registers behind it
  harmless : {c : Command} {t : State} → effect_of c ≡ Keep → state_after s c ≡ t → t.wel ≡ false → Harmless s c
  harmless none after low = record { keeps = none; stays_off = ap (λ (t : State). t.wel) after ∙ low }

  ignored : Harmless s Ignored
  ignored = harmless refl (after_ignored s) off

  perhaps : (c : Command) (t : Bool) → (t ≡ true → Harmless s c) → Harmless s (when t c)
  perhaps c t taken = cond_elim (Harmless s) t taken (λ _. ignored)

  -- a program or an erase needs WEL 1
  closed : (c : Command) (end : ℕ) → Harmless s (when (writable s end) c)
  closed c end = perhaps c (writable s end) (λ w. never (open_of s end w).enabled)

  -- so does a status write that takes time: a chip that has no 50 is armed by 06 alone
  status_harmless : Sound s → (byte : ℕ) → s.armed ≡ true → Harmless s (WriteStatus byte (data_of s).status_time)
  status_harmless h byte armed =
      ⊎_elim (λ timed. never (h.armed_enabled timed.no_ewsr armed)) (λ none. rw none (harmless refl (after_write_status s byte) refl))
      (timed_or_at_once s.chip)

  module _ (wp : Bool) (f : List ℕ) (other : is_write_enable (frame f) ≡ false) where
    abbrev op : ℕ
    op = get_or f 0 0

    kind_harmless : Sound s → (kind : Kind) → kind_of s.chip op ≡ kind → Harmless s (by_kind s wp f kind)
    unfolding by_kind
    kind_harmless h Unknown k = ignored
    kind_harmless h Read k = harmless refl (after_read_array s (address s f) 4) off
    kind_harmless h FastRead k = harmless refl (after_read_array s (address s f) 5) off
    kind_harmless h SectorErase k =
        let start = address s f / 4096 * 4096 in perhaps _ (long f 4) (λ _. closed (Erase start 4096 90000) (start + 4096))
    kind_harmless h BlockErase k =
        let start = address s f / 65536 * 65536 in perhaps _ (long f 4) (λ _. closed (Erase start 65536 (data_of s).block_time) (start + 65536))
    kind_harmless h ChipErase k = perhaps _ (long f 1) (λ _. closed (Erase 0 (data_of s).size (data_of s).chip_time) (0 + (data_of s).size))
    kind_harmless h ByteProgram k = perhaps _ (long f 5) (λ _. closed (ProgramByte (address s f)) (address s f + 1))
    kind_harmless h PageProgram k = perhaps _ (leb 5 (length f)) (λ _. closed (ProgramPage (address s f) (length f - 4)) (address s f + 1))
    kind_harmless h AaiProgram k = let even = address s f / 2 * 2 in perhaps _ (long f 6) (λ _. closed (ProgramWord even 4) (even + 2))
    kind_harmless h Rdsr k = harmless refl (after_read_status s) off
    kind_harmless h Ewsr k = perhaps Arm (long f 1) (λ _. harmless refl (after_arm s) off)
    kind_harmless h Wrsr k =
        perhaps _ (long f 2) (λ _. perhaps _ s.armed
        (λ armed. perhaps (WriteStatus (get_or f 1 0) (data_of s).status_time) (not s.bpl || wp) (λ _. status_harmless h (get_or f 1 0) armed)))
    kind_harmless h Wren k =
        perhaps WriteEnable (long f 1) (λ one. absurd (true≢false (sym (and_i one (eq-eqb op 0x06 ((regular s.chip).wren_only_06 op k))) ∙ other)))
    kind_harmless h Wrdi k = perhaps WriteDisable (long f 1) (λ _. harmless refl (after_write_disable s) refl)
    kind_harmless h DeepPowerDown k = perhaps Sleep (long f 1) (λ _. harmless refl (after_sleep s) off)
    kind_harmless h Res k = harmless refl (after_read_signature s) off
    kind_harmless h JedecId k = harmless refl (after_read_jedec s) off
    kind_harmless h Rdid k = harmless refl (after_read_identity s _) off

    pub frame_harmless : Sound s → Harmless s (command_of s wp f)
    frame_harmless h =
        let still = not_busy h in
        let single = not_in_aai h in
        cases s.power_down
        (λ asleep. rw (seen_asleep s f wp still single asleep) (perhaps ReadSignature (eqb op 0xab) (λ _. harmless refl (after_read_signature s) off)))
        (λ awake. rw (seen_at_rest s f wp record { still = still; single = single; awake = awake }) (kind_harmless h (kind_of s.chip op) refl))
