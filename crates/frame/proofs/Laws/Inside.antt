-- The effect of a command that fits the state lies in the array, below the first protected address.
-- Assumes nothing.
use Prim.Native.Nat.{ℕ, ◌+◌, ◌≤◌}
use native.Mathlib.Nat.{le_trans}
use native.Mathlib.Omega.{arith}
use Rattle.state.specs.declared.State.{State}
use Rattle.state.specs.State.{data_of}
use Rattle.state.specs.Protection.{first_protected}
use Rattle.state.proofs.Laws.Protection.{first_border}
use Rattle.command.specs.declared.Command.{Command}
use Rattle.command.specs.declared.Command.TheVariants.{
  Ignored,
  ReadStatus,
  ReadArray,
  ReadJedec,
  ReadSignature,
  ReadIdentity,
  WriteEnable,
  WriteDisable,
  Arm,
  WriteStatus,
  Erase,
  ProgramByte,
  ProgramPage,
  ProgramWord,
  Sleep,
}
use Rattle.command.specs.Fits.{Fits}
use Rattle.effect.specs.Effect.{page_effect, span_of}
use Rattle.effect.proofs.Laws.Effect.{Inside, span_inside}
use Rattle.effect.proofs.Laws.Straight.{page_below_end}
use Rattle.frame.specs.Effect.{effect_of}

-- what is protected is whole blocks, so that a page with one free address is free
page_free : (s : State) (a n : ℕ) → a + 1 ≤ first_protected s → (span_of (page_effect a n)).end ≤ first_protected s
page_free s a n h = omega (arith, page_below_end a n, (first_border s).blocks)

-- a command that fits touches nothing protected
pub effect_free : (s : State) (c : Command) → Fits s c → (span_of (effect_of c)).end ≤ first_protected s
effect_free s Ignored k = omega arith
effect_free s ReadStatus k = omega arith
effect_free s (ReadArray a i) k = omega arith
effect_free s ReadJedec k = omega arith
effect_free s ReadSignature k = omega arith
effect_free s (ReadIdentity b) k = omega arith
effect_free s WriteEnable k = omega arith
effect_free s WriteDisable k = omega arith
effect_free s Arm k = omega arith
effect_free s (WriteStatus b t) k = omega arith
effect_free s (Erase a n t) k = k.1.0.free
effect_free s (ProgramByte a) k = k.1.free
effect_free s (ProgramPage a n) k = page_free s a n k.1.free
effect_free s (ProgramWord a i) k = k.1.free
effect_free s Sleep k = omega arith

pub effect_inside : (s : State) (c : Command) → Fits s c → Inside (span_of (effect_of c)) (data_of s).size
effect_inside s c k = span_inside (effect_of c) (data_of s).size (le_trans (effect_free s c k) (first_border s).in_size)
