-- What a chip shows at byte i of a frame (01, "Frames"; 02, A10): `Some` byte that it drives, or nothing (`None`). Over a memory, which says what
-- stands at each address.
use Rattle.std.specs.Prelude.{Bool, cond, List, ℕ, ◌+◌, ◌-◌, ◌%◌, ltb, eqb, get_or, Option, Some, None}
use Rattle.state.specs.declared.State.{State}
use Rattle.state.specs.State.{data_of}
use Rattle.state.specs.Status.{status_of}
use Rattle.command.specs.declared.Command.{Command}
use Rattle.command.specs.declared.Command.TheVariants.{
  Ignored,
  ReadStatus,
  ReadArray,
  ReadJedec,
  ReadSignature,
  ReadIdentity,
  WriteEnable,
  WriteDisable,
  Arm,
  WriteStatus,
  Erase,
  ProgramByte,
  ProgramPage,
  ProgramWord,
  Sleep,
}

-- the byte that is read: where the chip is silent FF, "our board's pull-up"
abbrev pub byte_of : Option ℕ → ℕ
byte_of None = 255
byte_of (Some x) = x

-- whether the chip drove it: "01 or 00 a byte"
abbrev pub driven_of : Option ℕ → ℕ
driven_of None = 0
driven_of (Some x) = 1

abbrev pub memory : List ℕ → ℕ → ℕ
memory array k = get_or array k 0

-- from byte n on x is driven, and nothing before it
abbrev pub since : ℕ → ℕ → ℕ → Option ℕ
since n i x = cond (ltb i n) None (Some x)

-- "array from the address up, wrapping at the top", after so many silent bytes
abbrev pub read_at : ℕ → ℕ → ℕ → (ℕ → ℕ) → ℕ → Option ℕ
read_at size address silent m i = since silent i (m ((address + (i - silent)) % size))

-- "bytes 1 to 3: JEDEC"; driven are the bytes "for which 01's table names a value, but not 9F's FF from byte 4"
abbrev pub jedec : ℕ → ℕ → ℕ → Option ℕ
jedec family capacity i = cond (eqb i 1) (Some 0x8c) (cond (eqb i 2) (Some family) (cond (eqb i 3) (Some capacity) None))

-- "8C and device ID by turns, device ID first if address bit 0 is 1"
abbrev pub identity : ℕ → Bool → ℕ → ℕ
identity device odd i = cond (eqb (i % 2) 0) (cond odd device 0x8c) (cond odd 0x8c device)

unfoldable pub shown_at : State → Command → (ℕ → ℕ) → ℕ → Option ℕ
shown_at s Ignored m i = None
shown_at s ReadStatus m i = since 1 i (status_of s)
shown_at s (ReadArray a n) m i = read_at (data_of s).size a n m i
shown_at s ReadJedec m i = jedec (data_of s).family (data_of s).capacity i
shown_at s ReadSignature m i = since (data_of s).preamble i (data_of s).signature
shown_at s (ReadIdentity odd) m i = since 4 i (identity (data_of s).device_id odd i)
shown_at s WriteEnable m i = None
shown_at s WriteDisable m i = None
shown_at s Arm m i = None
shown_at s (WriteStatus b t) m i = None
shown_at s (Erase a n t) m i = None
shown_at s (ProgramByte a) m i = None
shown_at s (ProgramPage a n) m i = None
shown_at s (ProgramWord a j) m i = None
shown_at s Sleep m i = None
