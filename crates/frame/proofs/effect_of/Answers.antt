-- `frame::effect_of` meets its contract: each arm is its command's effect, and the last arm's commands have none.
use borrow.Enum.Refused.{opened}
use mathlib.Core.Path.{◌≡◌, refl, sym}
use mathlib.Core.List.{List, [], ◌∷◌}
use Prim.Native.Nat.{ℕ}
use denote.Enum.Declared.{tag_of}
use types.Run.{OneOf, miss}
use Rattle.command.specs.declared.Command.{Command}
use Rattle.command.specs.contracts.Command.{the_type}
use Rattle.command.specs.declared.Command.TheVariants.{Ignored, ReadStatus, ReadArray, ReadJedec, ReadSignature, ReadIdentity, WriteEnable, WriteDisable, Arm, WriteStatus, Erase, ProgramByte, ProgramPage, ProgramWord, Sleep}
use Rattle.effect.specs.declared.Effect.TheVariants.{Keep}
use Rattle.frame.specs.Effect.{effect_of}
use Rattle.frame.proofs.effect_of.Goals as goal

-- the variants of the last arm
abbrev keeping : List ℕ
keeping = 0 ∷ 1 ∷ 2 ∷ 3 ∷ 4 ∷ 5 ∷ 6 ∷ 7 ∷ 8 ∷ 9 ∷ 14 ∷ []

others : (c : Command) → OneOf keeping (tag_of the_type c) → effect_of c ≡ Keep
others Ignored h = refl
others ReadStatus h = refl
others (ReadArray a n) h = refl
others ReadJedec h = refl
others ReadSignature h = refl
others (ReadIdentity b) h = refl
others WriteEnable h = refl
others WriteDisable h = refl
others Arm h = refl
others (WriteStatus b t) h = refl
others (Erase a n t) h = absurd (miss keeping 10 tt h)
others (ProgramByte a) h = absurd (miss keeping 11 tt h)
others (ProgramPage a n) h = absurd (miss keeping 12 tt h)
others (ProgramWord a i) h = absurd (miss keeping 13 tt h)
others Sleep h = refl

pub returns-in-Erase : goal.returns-in-Erase
returns-in-Erase c = rw c.in-Erase.is refl

pub returns-in-ProgramByte : goal.returns-in-ProgramByte
returns-in-ProgramByte c = rw c.in-ProgramByte.is refl

pub returns-in-ProgramPage : goal.returns-in-ProgramPage
returns-in-ProgramPage c = rw c.in-ProgramPage.is c.page_effect.ensures

pub returns-in-ProgramWord : goal.returns-in-ProgramWord
returns-in-ProgramWord c = rw c.in-ProgramWord.is refl

pub returns-in_default : goal.returns-in_default
returns-in_default c = sym (others c.args.c (opened c.in_default.in_default-own.keys5))
