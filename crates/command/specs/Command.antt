-- What a frame is at a state and a WP level: taken, or ignored (01, "Frames").
use Rattle.std.specs.Prelude.{Bool, ◌&&◌, ◌||◌, not, cond, List, [], ◌∷◌, ℕ, ◌+◌, ◌-◌, ◌*◌, ◌/◌, ◌%◌, leb, ltb, eqb, get_or, length}
use Rattle.common.specs.Numbers.{three_bytes}
use Rattle.state.specs.declared.State.{State}
use Rattle.state.specs.State.{data_of}
use Rattle.state.specs.Protection.{first_protected}
use Rattle.chip.specs.declared.kinds.Kind.{Kind}
use Rattle.chip.specs.declared.kinds.Kind.TheVariants.{
  Unknown,
  Read,
  FastRead,
  SectorErase,
  BlockErase,
  ChipErase,
  ByteProgram,
  PageProgram,
  AaiProgram,
  Rdsr,
  Ewsr,
  Wrsr,
  Wren,
  Wrdi,
  DeepPowerDown,
  Res,
  JedecId,
  Rdid,
}
use Rattle.chip.specs.Chip.{kind_of}
use Rattle.command.specs.declared.Command.{Command}
use Rattle.command.specs.declared.Command.TheVariants.{
  Ignored,
  ReadStatus,
  ReadArray,
  ReadJedec,
  ReadSignature,
  ReadIdentity,
  WriteEnable,
  WriteDisable,
  Arm,
  WriteStatus,
  Erase,
  ProgramByte,
  ProgramPage,
  ProgramWord,
  Sleep,
}

-- ---- what a row says

-- the command if the test holds, else ignored
abbrev pub when : Bool → Command → Command
when t c = cond t c Ignored

-- the frame has exactly n bytes
abbrev pub long : List ℕ → ℕ → Bool
long f n = eqb (length f) n

-- "three bytes, high byte first, taken modulo the chip's size"
unfoldable pub address : State → List ℕ → ℕ
address s f = three_bytes (get_or f 1 0) (get_or f 2 0) (get_or f 3 0) % (data_of s).size

-- "Program and erase need WEL 1 and an unprotected target": one that ends at or below the first protected address
unfoldable pub writable : State → ℕ → Bool
writable s end = s.wel && leb end (first_protected s)

-- "Status write is taken only if armed, and not if BPL is 1 while WP is low."
abbrev pub write_status : State → Bool → List ℕ → Command
write_status s wp f = when (long f 2) (when s.armed (when (not s.bpl || wp) (WriteStatus (get_or f 1 0) (data_of s).status_time)))

abbrev pub erase : State → ℕ → ℕ → ℕ → Command
erase s start count time = when (writable s (start + count)) (Erase start count time)

-- the whole array: it is writable where nothing is protected, on the 008A by BP 000
abbrev pub erase_chip : State → List ℕ → Command
erase_chip s f = when (long f 1) (erase s 0 (data_of s).size (data_of s).chip_time)

abbrev pub program_byte : State → List ℕ → Command
program_byte s f = when (long f 5) (when (writable s (address s f + 1)) (ProgramByte (address s f)))

-- a page is wholly protected or wholly not: one address tells
abbrev pub program_page : State → List ℕ → Command
program_page s f = when (leb 5 (length f)) (when (writable s (address s f + 1)) (ProgramPage (address s f) (length f - 4)))

-- ---- at rest, a line a kind

unfoldable pub by_kind : State → Bool → List ℕ → Kind → Command
by_kind s wp f Unknown = Ignored
by_kind s wp f Read = ReadArray (address s f) 4  -- 03
by_kind s wp f FastRead = ReadArray (address s f) 5  -- 0B
by_kind s wp f SectorErase = when (long f 4) (erase s (address s f / 4096 * 4096) 4096 90000)  -- 20
by_kind s wp f BlockErase = when (long f 4) (erase s (address s f / 65536 * 65536) 65536 (data_of s).block_time)  -- D8
by_kind s wp f ChipErase = erase_chip s f  -- 60, C7
by_kind s wp f ByteProgram = program_byte s f  -- 02 (008A)
by_kind s wp f PageProgram = program_page s f  -- 02 (05PA)
by_kind s wp f AaiProgram = when (long f 6) (when (writable s (address s f / 2 * 2 + 2)) (ProgramWord (address s f / 2 * 2) 4))  -- AD
by_kind s wp f Rdsr = ReadStatus  -- 05
by_kind s wp f Ewsr = when (long f 1) Arm  -- 50
by_kind s wp f Wrsr = write_status s wp f  -- 01
by_kind s wp f Wren = when (long f 1) WriteEnable  -- 06
by_kind s wp f Wrdi = when (long f 1) WriteDisable  -- 04
by_kind s wp f DeepPowerDown = when (long f 1) Sleep  -- B9
by_kind s wp f Res = ReadSignature  -- AB
by_kind s wp f JedecId = ReadJedec  -- 9F
by_kind s wp f Rdid = ReadIdentity (eqb (address s f % 2) 1)  -- 90

-- ---- elsewhere, tables: the row of an opcode, and every other is ignored

abbrev pub look : List (ℕ × Command) → ℕ → Command
look [] op = Ignored
look (r ∷ rs) op = cond (eqb op r.0) r.1 (look rs op)

-- "in AAI only AD, 05, 04"
abbrev pub aai_rows : State → List ℕ → List (ℕ × Command)
aai_rows s f =
    (0xad, when (long f 3) (when (writable s (s.next + 2)) (ProgramWord s.next 1)))
    ∷ (0x05, ReadStatus)
    ∷ (0x04, when (long f 1) WriteDisable)
    ∷ []

unfoldable pub in_aai : State → List ℕ → ℕ → Command
in_aai s f op = look (aai_rows s f) op

-- "While busy only 05 is taken; in AAI only AD, 05, 04; in power-down only AB."
unfoldable pub command_of : State → Bool → List ℕ → Command
command_of s wp f =
    cond (ltb 0 s.left) (look ((0x05, ReadStatus) ∷ []) (get_or f 0 0))
    (cond s.aai (in_aai s f (get_or f 0 0))
    (cond s.power_down (look ((0xab, ReadSignature) ∷ []) (get_or f 0 0))
    (by_kind s wp f (kind_of s.chip (get_or f 0 0)))))
