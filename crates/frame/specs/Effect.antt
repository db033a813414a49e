-- What a command does to the array (01, "Frames").
use Rattle.command.specs.declared.Command.{Command}
use Rattle.command.specs.declared.Command.TheVariants.{
  Ignored,
  ReadStatus,
  ReadArray,
  ReadJedec,
  ReadSignature,
  ReadIdentity,
  WriteEnable,
  WriteDisable,
  Arm,
  WriteStatus,
  Erase,
  ProgramByte,
  ProgramPage,
  ProgramWord,
  Sleep,
}
use Rattle.effect.specs.declared.Effect.{Effect}
use Rattle.effect.specs.declared.Effect.TheVariants.{Keep, Fill, Program}
use Rattle.effect.specs.Effect.{page_effect}

abbrev pub effect_of : Command → Effect
effect_of Ignored = Keep
effect_of ReadStatus = Keep
effect_of (ReadArray a i) = Keep
effect_of ReadJedec = Keep
effect_of ReadSignature = Keep
effect_of (ReadIdentity b) = Keep
effect_of WriteEnable = Keep
effect_of WriteDisable = Keep
effect_of Arm = Keep
effect_of (WriteStatus b t) = Keep
effect_of (Erase a n t) = Fill a n
effect_of (ProgramByte a) = Program a 1 4
effect_of (ProgramPage a n) = page_effect a n
effect_of (ProgramWord a i) = Program a 2 i
effect_of Sleep = Keep
