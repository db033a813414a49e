-- Which accepted frames are taken erases: 20, D8, 60 and C7, each with its length, at rest, with WEL 1 and an unprotected target; and no other.
-- Assumes nothing.
use mathlib.Core.Path.{◌≡◌, refl, ap, ◌∙◌}
use mathlib.Core.Bool.{Bool, true, false, ◌&&◌, cond}
use mathlib.Core.List.{List, [], ◌∷◌}
use Prim.Native.Nat.{ℕ, ◌+◌, ◌-◌, ◌*◌, ◌/◌}
use lib.ListN.{length}
use Rattle.chip.specs.declared.kinds.Kind.{Kind}
use Rattle.chip.specs.declared.kinds.Kind.TheVariants.{
  Unknown,
  Read,
  FastRead,
  SectorErase,
  BlockErase,
  ChipErase,
  ByteProgram,
  PageProgram,
  AaiProgram,
  Rdsr,
  Ewsr,
  Wrsr,
  Wren,
  Wrdi,
  DeepPowerDown,
  Res,
  JedecId,
  Rdid,
}
use Rattle.chip.specs.Instructions.{instructions_008a, instructions_05pa}
use Rattle.chip.specs.Chip.{kind_of}
use Rattle.state.specs.declared.State.{State}
use Rattle.state.specs.State.{data_of}
use Rattle.command.specs.declared.Command.{Command}
use Rattle.command.specs.declared.Command.TheVariants.{Erase}
use Rattle.command.specs.Command.{when, long, address, writable, by_kind, command_of}
use Rattle.command.specs.Fits.{Resting}
use Rattle.command.proofs.Laws.Modes.{writable_is, seen_at_rest}
use Rattle.effect.specs.Effect.{page_effect}
use Rattle.effect.proofs.Laws.Rise.{page_no_erase}
use Rattle.frame.specs.Device.{Device}
use Rattle.frame.specs.Line.{Line}
use Rattle.frame.specs.Effect.{effect_of}
use Rattle.frame.specs.Call.{Accepted}
use Rattle.unread.specs.Unread.{is_erase}
use Rattle.unread.proofs.Laws.Run.{erase_told}
use Rattle.rules.specs.Frames.{opcode, is_among}
use Rattle.rules.specs.Opcodes.{size_of, sector_in, block_in, is_open}
use Rattle.rules.specs.Unread.{is_erase_open, is_erasing}
use Rattle.rules.proofs.Laws.Chips.{same_by_chip}
use Rattle.rules.proofs.Laws.Kinds.{is_sector_erase, is_block_erase, is_chip_erase, is_exact, kind_exactly}
use Rattle.rules.proofs.Laws.AtRest.{bare, kind_fails, at_rest_alone}
use Rattle.rules.proofs.Laws.Rows.{size_is, address_in_lem}

-- ---- of a command

abbrev is_eraser : Command → Bool
is_eraser c = is_erase (effect_of c)

-- an erase, by its length and its target
by_tests : (a b : Bool) (start count time : ℕ) → is_eraser (when a (when b (Erase start count time))) ≡ (a && b)
by_tests true true start count time = refl
by_tests true false start count time = refl
by_tests false b start count time = refl

module _ (s : State) (wp : Bool) (f : List ℕ) where
  -- a kind whose command is no erase, taken or not
  quiet : (kind : Kind) → is_eraser (bare s f kind) ≡ false → is_eraser (by_kind s wp f kind) ≡ false
  quiet kind fails = kind_fails is_eraser refl s wp f kind fails

  erases_by_kind : (kind : Kind) → is_eraser (by_kind s wp f kind)
      ≡ cond (is_sector_erase kind) (long f 4 && writable s (address s f / 4096 * 4096 + 4096))
      (cond (is_block_erase kind) (long f 4 && writable s (address s f / 65536 * 65536 + 65536)) (is_chip_erase kind && (long f 1 && writable s (0 + (data_of s).size))))
  unfolding by_kind
  erases_by_kind Unknown = quiet Unknown refl
  erases_by_kind Read = quiet Read refl
  erases_by_kind FastRead = quiet FastRead refl
  erases_by_kind SectorErase = by_tests (long f 4) _ _ 4096 90000
  erases_by_kind BlockErase = by_tests (long f 4) _ _ 65536 _
  erases_by_kind ChipErase = by_tests (long f 1) _ 0 _ _
  erases_by_kind ByteProgram = quiet ByteProgram refl
  erases_by_kind PageProgram = quiet PageProgram ((erase_told (page_effect (address s f) (length f - 4))).only_when (page_no_erase (address s f) (length f - 4)))
  erases_by_kind AaiProgram = quiet AaiProgram refl
  erases_by_kind Rdsr = quiet Rdsr refl
  erases_by_kind Ewsr = quiet Ewsr refl
  erases_by_kind Wrsr = quiet Wrsr refl
  erases_by_kind Wren = quiet Wren refl
  erases_by_kind Wrdi = quiet Wrdi refl
  erases_by_kind DeepPowerDown = quiet DeepPowerDown refl
  erases_by_kind Res = quiet Res refl
  erases_by_kind JedecId = quiet JedecId refl
  erases_by_kind Rdid = quiet Rdid refl

-- ---- of a frame

module _ {wp : Bool} {f : List ℕ} {d : Device} {line : Line} (a : Accepted wp f d line) where
  abbrev s : State
  s = d.state

  -- the same opcodes on either chip
  opcode_of : (test : Kind → Bool) (list : List ℕ) → is_exact test instructions_008a list ≡ true → is_exact test instructions_05pa list ≡ true
      → test (kind_of s.chip (opcode f)) ≡ is_among (opcode f) list
  opcode_of test list on008a on05pa =
      kind_exactly test list list on008a on05pa s.chip a.sound.chip_known (opcode f)
      ∙ ap (is_among (opcode f)) (same_by_chip s.chip list)

  open_is : (address n : ℕ) → writable s (address + n) ≡ is_open d address n
  open_is address n = writable_is s f (address + n)

  erases_at_rest : Resting s → is_eraser (command_of s wp f) ≡ is_erase_open f d
  erases_at_rest r =
      ap is_eraser (seen_at_rest s f wp r)
      ∙ erases_by_kind s wp f (kind_of s.chip (opcode f))
      ∙ rw (
        opcode_of is_sector_erase (0x20 ∷ []) refl refl,
        opcode_of is_block_erase (0xd8 ∷ []) refl refl,
        opcode_of is_chip_erase (0x60 ∷ 0xc7 ∷ []) refl refl,
        address_in_lem a,
        size_is a,
        open_is (sector_in f d) 4096,
        open_is (block_in f d) 65536,
        open_is 0 (size_of d),
      ) refl

  pub erases_exactly : is_eraser (command_of s wp f) ≡ is_erasing f d
  erases_exactly =
      at_rest_alone is_eraser refl a refl refl refl (λ _ _. refl) (λ e. rw e refl) (λ r. erases_at_rest r ∙ rw (r.still, r.single, r.awake) refl)
