-- A test on commands that a frame can pass at rest alone: none that is taken while busy, in AAI or in power-down does, and no ignored one; and which rows
-- at rest pass it is told by their commands.
-- Assumes nothing.
use mathlib.Core.Path.{◌≡◌, refl, sym, ap, ◌∙◌}
use mathlib.Core.Bool.{Bool, false, ◌||◌, not}
use mathlib.Core.List.{List}
use Prim.Native.Nat.{ℕ, ◌+◌, ◌-◌, ◌*◌, ◌/◌, ◌%◌}
use lib.Dec.{leb, eqb}
use lib.ListN.{length, get_or}
use borrow.Author.Tests.{lt-ltb}
use Rattle.common.proofs.Laws.Choice.{cond_elim}
use Rattle.common.proofs.Laws.Pairs.{◌▹◌}
use Rattle.chip.specs.declared.kinds.Kind.{Kind}
use Rattle.chip.specs.declared.kinds.Kind.TheVariants.{
  Unknown,
  Read,
  FastRead,
  SectorErase,
  BlockErase,
  ChipErase,
  ByteProgram,
  PageProgram,
  AaiProgram,
  Rdsr,
  Ewsr,
  Wrsr,
  Wren,
  Wrdi,
  DeepPowerDown,
  Res,
  JedecId,
  Rdid,
}
use Rattle.state.specs.declared.State.{State}
use Rattle.state.specs.State.{data_of}
use Rattle.command.specs.declared.Command.{Command}
use Rattle.command.specs.declared.Command.TheVariants.{
  Ignored,
  ReadStatus,
  ReadArray,
  ReadJedec,
  ReadSignature,
  ReadIdentity,
  WriteEnable,
  WriteDisable,
  Arm,
  WriteStatus,
  Erase,
  ProgramByte,
  ProgramPage,
  ProgramWord,
  Sleep,
}
use Rattle.command.specs.Command.{when, long, address, writable, by_kind, aai_rows, command_of}
use Rattle.command.specs.Fits.{Resting}
use Rattle.command.proofs.Laws.Rows.{look_elim}
use Rattle.command.proofs.Laws.Modes.{seen_busy, seen_in_aai, seen_asleep}
use Rattle.frame.specs.Device.{Device}
use Rattle.frame.specs.Line.{Line}
use Rattle.frame.specs.Call.{Accepted}
use Rattle.rules.specs.Frames.{opcode, is_resting}
use Rattle.rules.proofs.Laws.Does.{by_mode}

-- a kind's command, without its row's tests
abbrev pub bare : State → List ℕ → Kind → Command
bare s f Unknown = Ignored
bare s f Read = ReadArray (address s f) 4
bare s f FastRead = ReadArray (address s f) 5
bare s f SectorErase = Erase (address s f / 4096 * 4096) 4096 90000
bare s f BlockErase = Erase (address s f / 65536 * 65536) 65536 (data_of s).block_time
bare s f ChipErase = Erase 0 (data_of s).size (data_of s).chip_time
bare s f ByteProgram = ProgramByte (address s f)
bare s f PageProgram = ProgramPage (address s f) (length f - 4)
bare s f AaiProgram = ProgramWord (address s f / 2 * 2) 4
bare s f Rdsr = ReadStatus
bare s f Ewsr = Arm
bare s f Wrsr = WriteStatus (get_or f 1 0) (data_of s).status_time
bare s f Wren = WriteEnable
bare s f Wrdi = WriteDisable
bare s f DeepPowerDown = Sleep
bare s f Res = ReadSignature
bare s f JedecId = ReadJedec
bare s f Rdid = ReadIdentity (eqb (address s f % 2) 1)

module _ (test : Command → Bool) (none : test Ignored ≡ false) where
  abbrev Fails : Command → Type 0
  Fails c = test c ≡ false

  -- a row with a test of its own
  pub fails_when : (c : Command) (t : Bool) → test c ≡ false → test (when t c) ≡ false
  fails_when c t fails = cond_elim Fails t (λ _. fails) (λ _. none)

  -- no kind passes whose command would not without its row's tests
  pub kind_fails : (s : State) (wp : Bool) (f : List ℕ) (kind : Kind) → test (bare s f kind) ≡ false → test (by_kind s wp f kind) ≡ false
  unfolding by_kind
  kind_fails s wp f Unknown fails = fails
  kind_fails s wp f Read fails = fails
  kind_fails s wp f FastRead fails = fails
  kind_fails s wp f SectorErase fails = fails_when _ (long f 4) (fails_when _ (writable s (address s f / 4096 * 4096 + 4096)) fails)
  kind_fails s wp f BlockErase fails = fails_when _ (long f 4) (fails_when _ (writable s (address s f / 65536 * 65536 + 65536)) fails)
  kind_fails s wp f ChipErase fails = fails_when _ (long f 1) (fails_when _ (writable s (0 + (data_of s).size)) fails)
  kind_fails s wp f ByteProgram fails = fails_when _ (long f 5) (fails_when _ (writable s (address s f + 1)) fails)
  kind_fails s wp f PageProgram fails = fails_when _ (leb 5 (length f)) (fails_when _ (writable s (address s f + 1)) fails)
  kind_fails s wp f AaiProgram fails = fails_when _ (long f 6) (fails_when _ (writable s (address s f / 2 * 2 + 2)) fails)
  kind_fails s wp f Rdsr fails = fails
  kind_fails s wp f Ewsr fails = fails_when _ (long f 1) fails
  kind_fails s wp f Wrsr fails = fails_when _ (long f 2) (fails_when _ s.armed (fails_when _ (not s.bpl || wp) fails))
  kind_fails s wp f Wren fails = fails_when _ (long f 1) fails
  kind_fails s wp f Wrdi fails = fails_when _ (long f 1) fails
  kind_fails s wp f DeepPowerDown fails = fails_when _ (long f 1) fails
  kind_fails s wp f Res fails = fails
  kind_fails s wp f JedecId fails = fails
  kind_fails s wp f Rdid fails = fails

  module _ {wp : Bool} {f : List ℕ} {d : Device} {line : Line} (a : Accepted wp f d line) where
    pub at_rest_alone : test ReadStatus ≡ false → test ReadSignature ≡ false → test WriteDisable ≡ false → ((x i : ℕ) → test (ProgramWord x i) ≡ false)
        → {told : Bool} → (is_resting d.state ≡ false → told ≡ false) → (Resting d.state → test (command_of d.state wp f) ≡ told)
        → test (command_of d.state wp f) ≡ told
    at_rest_alone status signature disable word {told} elsewhere at_rest =
        let s = d.state in
        by_mode a
        (λ busy. ap test (seen_busy s f wp busy) ∙ fails_when ReadStatus (eqb (opcode f) 0x05) status ∙ sym (elsewhere (rw (lt-ltb 0 s.left busy) refl)))
        (λ still aai. ap test (seen_in_aai s f wp still aai)
        ∙ look_elim Fails none (aai_rows s f) (opcode f)
        ((λ _. fails_when _ (long f 3) (fails_when (ProgramWord s.next 1) (writable s (s.next + 2)) (word s.next 1)))
        ▹ (λ _. status) ▹ (λ _. fails_when WriteDisable (long f 1) disable) ▹ tt)
        ∙ sym (elsewhere (rw (still, aai) refl)))
        (λ still single asleep. ap test (seen_asleep s f wp still single asleep) ∙ fails_when ReadSignature (eqb (opcode f) 0xab) signature
        ∙ sym (elsewhere (rw (still, single, asleep) refl)))
        at_rest
