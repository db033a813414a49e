-- What becomes of armed: only a taken 06, and on the F25L008A a taken 50, leaves it 1.
-- Assumes nothing.
use mathlib.Core.Path.{◌≡◌, refl, sym, ap, ◌∙◌}
use mathlib.Core.Bool.{Bool, true, false, ◌&&◌}
use mathlib.Core.List.{List, [], ◌∷◌}
use Prim.Native.Nat.{ℕ}
use lib.Dec.{eqb}
use lib.ListN.{length}
use Rattle.common.proofs.Laws.Choice.{cases}
use Rattle.chip.specs.declared.kinds.Kind.{Kind}
use Rattle.chip.specs.declared.kinds.Kind.TheVariants.{
  Unknown,
  Read,
  FastRead,
  SectorErase,
  BlockErase,
  ChipErase,
  ByteProgram,
  PageProgram,
  AaiProgram,
  Rdsr,
  Ewsr,
  Wrsr,
  Wren,
  Wrdi,
  DeepPowerDown,
  Res,
  JedecId,
  Rdid,
}
use Rattle.chip.specs.Chip.{kind_of}
use Rattle.command.specs.declared.Command.{Command}
use Rattle.command.specs.declared.Command.TheVariants.{WriteEnable, Arm}
use Rattle.command.specs.Command.{when, long, by_kind, command_of}
use Rattle.command.specs.Fits.{Resting}
use Rattle.command.proofs.Laws.Modes.{seen_at_rest}
use Rattle.registers.proofs.Laws.After.{arms, state_after_armed}
use Rattle.frame.specs.Device.{Device}
use Rattle.frame.specs.Line.{Line}
use Rattle.frame.specs.Call.{Accepted, frame_device}
use Rattle.frame.proofs.Laws.Ran.{ran_is}
use Rattle.rules.specs.Chips.{by_chip}
use Rattle.rules.specs.Frames.{opcode, is_resting, is_among}
use Rattle.rules.proofs.Laws.Does.{done}
use Rattle.rules.proofs.Laws.Kinds.{kind_exactly}
use Rattle.rules.proofs.Laws.AtRest.{bare, kind_fails, at_rest_alone}

and_no : (a : Bool) {b : Bool} → b ≡ false → a && b ≡ false
and_no true e = e
and_no false e = refl

-- the kinds that arm
is_arming : Kind → Bool
is_arming Wren = true
is_arming Ewsr = true
is_arming other = false

module _ {wp : Bool} {f : List ℕ} {d : Device} {line : Line} (a : Accepted wp f d line) where
  armed_after : (frame_device wp f d line).state.armed ≡ arms (command_of d.state wp f)
  armed_after =
      ap (λ (e : Device). e.state.armed) (sym (done a).device_is ∙ ran_is wp f d) ∙ state_after_armed d.state (command_of d.state wp f)

  module _ (r : Resting d.state) where
    -- a kind whose command does not arm, taken or not
    quiet : (kind : Kind) → arms (bare d.state f kind) ≡ false → is_arming kind ≡ false → arms (by_kind d.state wp f kind) ≡ (eqb (length f) 1 && is_arming kind)
    quiet kind fails none = kind_fails arms refl d.state wp f kind fails ∙ sym (and_no (eqb (length f) 1) none)

    -- and one that does
    taken : (c : Command) → arms c ≡ true → arms (when (long f 1) c) ≡ (eqb (length f) 1 && true)
    taken c sets = cases (long f 1) (λ t. rw t sets) (λ t. rw t refl)

    armed_by_kind : (kind : Kind) → arms (by_kind d.state wp f kind) ≡ (eqb (length f) 1 && is_arming kind)
    unfolding by_kind is_arming
    armed_by_kind Unknown = quiet Unknown refl refl
    armed_by_kind Read = quiet Read refl refl
    armed_by_kind FastRead = quiet FastRead refl refl
    armed_by_kind SectorErase = quiet SectorErase refl refl
    armed_by_kind BlockErase = quiet BlockErase refl refl
    armed_by_kind ChipErase = quiet ChipErase refl refl
    armed_by_kind ByteProgram = quiet ByteProgram refl refl
    armed_by_kind PageProgram = quiet PageProgram refl refl
    armed_by_kind AaiProgram = quiet AaiProgram refl refl
    armed_by_kind Rdsr = quiet Rdsr refl refl
    armed_by_kind Ewsr = taken Arm refl
    armed_by_kind Wrsr = quiet Wrsr refl refl
    armed_by_kind Wren = taken WriteEnable refl
    armed_by_kind Wrdi = quiet Wrdi refl refl
    armed_by_kind DeepPowerDown = quiet DeepPowerDown refl refl
    armed_by_kind Res = quiet Res refl refl
    armed_by_kind JedecId = quiet JedecId refl refl
    armed_by_kind Rdid = quiet Rdid refl refl

    arming_opcode : is_arming (kind_of d.state.chip (opcode f)) ≡ is_among (opcode f) (by_chip d.state.chip (0x06 ∷ 0x50 ∷ []) (0x06 ∷ []))
    unfolding is_arming
    arming_opcode = kind_exactly is_arming (0x06 ∷ 0x50 ∷ []) (0x06 ∷ []) refl refl d.state.chip a.sound.chip_known (opcode f)

    armed_at_rest : arms (command_of d.state wp f)
        ≡ (eqb (length f) 1 && is_among (opcode f) (by_chip d.state.chip (0x06 ∷ 0x50 ∷ []) (0x06 ∷ [])))
    armed_at_rest =
        ap arms (seen_at_rest d.state f wp r) ∙ armed_by_kind (kind_of d.state.chip (opcode f)) ∙ ap (λ (b : Bool). eqb (length f) 1 && b) arming_opcode

  pub armed_is : (frame_device wp f d line).state.armed
      ≡ (is_resting d.state && eqb (length f) 1 && is_among (opcode f) (by_chip d.state.chip (0x06 ∷ 0x50 ∷ []) (0x06 ∷ [])))
  armed_is =
      armed_after
      ∙ at_rest_alone arms refl a refl refl refl (λ _ _. refl) (λ e. rw e refl) (λ r. armed_at_rest r ∙ rw (r.still, r.single, r.awake) refl)
