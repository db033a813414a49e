-- The registers when a frame ends (01, "Frames", column "does", and the times; a status write's 02, A4).
use Rattle.std.specs.Prelude.{true, false, cond, ◌+◌, eqb}
use Rattle.state.specs.declared.State.{State}
use Rattle.state.specs.State.{with_left, with_wel, with_armed, with_power_down, with_aai, with_pending}
use Rattle.state.specs.Status.{writable_bits, with_status_byte}
use Rattle.command.specs.declared.Command.{Command}
use Rattle.command.specs.declared.Command.TheVariants.{
  Ignored,
  ReadStatus,
  ReadArray,
  ReadJedec,
  ReadSignature,
  ReadIdentity,
  WriteEnable,
  WriteDisable,
  Arm,
  WriteStatus,
  Erase,
  ProgramByte,
  ProgramPage,
  ProgramWord,
  Sleep,
}

abbrev pub disarm : State → State
disarm s = with_armed s false

-- "Every taken frame clears armed too, but WREN and EWSR, which set it."
unfoldable pub state_after : State → Command → State
state_after s Ignored = disarm s
state_after s ReadStatus = disarm s
state_after s (ReadArray a i) = disarm s
state_after s ReadJedec = disarm s
state_after s ReadSignature = with_power_down (disarm s) false
state_after s (ReadIdentity b) = disarm s
state_after s WriteEnable = with_armed (with_wel s true) true
state_after s WriteDisable = with_aai (with_wel (disarm s) false) false 0
state_after s Arm = with_armed s true
state_after s (WriteStatus b t) =
    cond (eqb t 0) (with_wel (with_status_byte (disarm s) b) false)
    (with_pending (with_left (disarm s) t) true (writable_bits b))  -- "BUSY reads 1, WEL stays 1 until the end, the new bits are seen only then"
state_after s (Erase a n t) = with_left (disarm s) t
state_after s (ProgramByte a) = with_left (disarm s) 7
state_after s (ProgramPage a n) = with_left (disarm s) 1500
state_after s (ProgramWord a i) = with_aai (with_left (disarm s) 7) true (a + 2)
state_after s Sleep = with_power_down (disarm s) true
