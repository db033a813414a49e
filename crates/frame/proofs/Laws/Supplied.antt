-- A frame has the data bytes that its command's effect programs.
-- Assumes nothing.
use mathlib.Core.List.{List}
use Prim.Native.Nat.{ℕ}
use native.Mathlib.Omega.{arith}
use Rattle.command.specs.declared.Command.{Command}
use Rattle.command.specs.declared.Command.TheVariants.{
  Ignored,
  ReadStatus,
  ReadArray,
  ReadJedec,
  ReadSignature,
  ReadIdentity,
  WriteEnable,
  WriteDisable,
  Arm,
  WriteStatus,
  Erase,
  ProgramByte,
  ProgramPage,
  ProgramWord,
  Sleep,
}
use Rattle.command.specs.Fits.{Carries}
use Rattle.effect.specs.Effect.{Supplied}
use Rattle.effect.proofs.Laws.Straight.{page_supplied}
use Rattle.frame.specs.Effect.{effect_of}

pub effect_supplied : (f : List ℕ) (c : Command) → Carries f c → Supplied (effect_of c) f
effect_supplied f Ignored h = tt
effect_supplied f ReadStatus h = tt
effect_supplied f (ReadArray a i) h = tt
effect_supplied f ReadJedec h = tt
effect_supplied f ReadSignature h = tt
effect_supplied f (ReadIdentity b) h = tt
effect_supplied f WriteEnable h = tt
effect_supplied f WriteDisable h = tt
effect_supplied f Arm h = tt
effect_supplied f (WriteStatus b t) h = tt
effect_supplied f (Erase a n t) h = tt
effect_supplied f (ProgramByte a) h = omega (arith, h)
effect_supplied f (ProgramPage a n) h = page_supplied a n f (omega (arith, h))
effect_supplied f (ProgramWord a i) h = omega (arith, h)
effect_supplied f Sleep h = tt
