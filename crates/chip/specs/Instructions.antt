-- The chips' instructions (000, Table 5; 004, Table 5): each opcode with its kind, in the sheets' order. No other opcode is known.
use Rattle.std.specs.Prelude.{cond, List, [], ◌∷◌, ℕ, eqb}
use Rattle.chip.specs.declared.kinds.Kind.{Kind}
use Rattle.chip.specs.declared.kinds.Kind.TheVariants.{
  Unknown,
  Read,
  FastRead,
  SectorErase,
  BlockErase,
  ChipErase,
  ByteProgram,
  PageProgram,
  AaiProgram,
  Rdsr,
  Ewsr,
  Wrsr,
  Wren,
  Wrdi,
  DeepPowerDown,
  Res,
  JedecId,
  Rdid,
}

-- the F25L008A
abbrev pub instructions_008a : List (ℕ × Kind)
instructions_008a =
    (0x03, Read)
    ∷ (0x0b, FastRead)  -- High-Speed-Read
    ∷ (0x20, SectorErase)
    ∷ (0xd8, BlockErase)
    ∷ (0x60, ChipErase)
    ∷ (0xc7, ChipErase)
    ∷ (0x02, ByteProgram)
    ∷ (0xad, AaiProgram)  -- Auto-Address-Increment-word programming
    ∷ (0x05, Rdsr)  -- Read-Status-Register
    ∷ (0x50, Ewsr)  -- Enable-Write-Status-Register
    ∷ (0x01, Wrsr)  -- Write-Status-Register
    ∷ (0x06, Wren)  -- Write-Enable
    ∷ (0x04, Wrdi)  -- Write-Disable
    ∷ (0xab, Res)  -- Read-Electronic-Signature
    ∷ (0x9f, JedecId)
    ∷ (0x90, Rdid)  -- Read-ID
    ∷ []

-- the F25L05PA
abbrev pub instructions_05pa : List (ℕ × Kind)
instructions_05pa =
    (0x03, Read)
    ∷ (0x0b, FastRead)
    ∷ (0x20, SectorErase)
    ∷ (0xd8, BlockErase)
    ∷ (0x60, ChipErase)
    ∷ (0xc7, ChipErase)
    ∷ (0x02, PageProgram)
    ∷ (0x05, Rdsr)  -- Read Status Register
    ∷ (0x01, Wrsr)  -- Write Status Register
    ∷ (0x06, Wren)  -- Write Enable
    ∷ (0x04, Wrdi)  -- Write Disable
    ∷ (0xb9, DeepPowerDown)
    ∷ (0xab, Res)  -- Read Electronic Signature, and Release from Deep Power Down
    ∷ (0x9f, JedecId)
    ∷ (0x90, Rdid)  -- Read ID
    ∷ []

-- "exactly the opcodes below are known"
abbrev pub kind_in : List (ℕ × Kind) → ℕ → Kind
kind_in [] op = Unknown
kind_in (i ∷ is) op = cond (eqb op i.0) i.1 (kind_in is op)
