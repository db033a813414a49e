-- `flags::plan_book` meets its contract: what is planned is the used bytes, laid over an erased sector.
use mathlib.Core.Path.{refl}
use mathlib.Core.List.{[]}
use native.Mathlib.Omega.{arith}
use Rattle.sectors.proofs.Laws.Images.{laid_over}
use Rattle.flags.proofs.plan_book.Goals as goal

pub returns : goal.returns
returns c = rw (laid_over [] [] _ _ _ _ _ refl c.blank-wanted.ensures (omega arith) (omega arith) c.put.ensures) at c.plan_update.ensures
