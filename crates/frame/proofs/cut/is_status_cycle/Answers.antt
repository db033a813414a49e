-- `frame::cut::is_status_cycle` meets its contract: a status write with a time, and no other command has one.
use borrow.Enum.Refused.{opened}
use mathlib.Core.Path.{◌≡◌, refl}
use mathlib.Core.List.{List, [], ◌∷◌}
use Prim.Native.Nat.{ℕ}
use denote.Enum.Declared.{tag_of}
use types.Run.{OneOf, miss}
use Rattle.command.specs.declared.Command.{Command}
use Rattle.command.specs.contracts.Command.{the_type}
use Rattle.command.specs.declared.Command.TheVariants.{Ignored, ReadStatus, ReadArray, ReadJedec, ReadSignature, ReadIdentity, WriteEnable, WriteDisable, Arm, WriteStatus, Erase, ProgramByte, ProgramPage, ProgramWord, Sleep}
use Rattle.frame.specs.Cut.{status_time}
use Rattle.frame.proofs.cut.is_status_cycle.Goals as goal

-- the variants of the last arm
abbrev timeless : List ℕ
timeless = 0 ∷ 1 ∷ 2 ∷ 3 ∷ 4 ∷ 5 ∷ 6 ∷ 7 ∷ 8 ∷ 10 ∷ 11 ∷ 12 ∷ 13 ∷ 14 ∷ []

others : (c : Command) → OneOf timeless (tag_of the_type c) → status_time c ≡ 0
others Ignored h = refl
others ReadStatus h = refl
others (ReadArray a i) h = refl
others ReadJedec h = refl
others ReadSignature h = refl
others (ReadIdentity b) h = refl
others WriteEnable h = refl
others WriteDisable h = refl
others Arm h = refl
others (WriteStatus b t) h = absurd (miss timeless 9 tt h)
others (Erase a n t) h = refl
others (ProgramByte a) h = refl
others (ProgramPage a n) h = refl
others (ProgramWord a i) h = refl
others Sleep h = refl

pub returns-in_default : goal.returns-in_default
returns-in_default c = rw (others c.args.c (opened c.in_default.in_default-own.keys2)) refl
