-- `region::Update::differs` meets its contract: the byte wanted at an address of the region is compared.
use mathlib.Core.Path.{sym}
use native.Mathlib.Omega.{arith}
use Rattle.region.proofs.Laws.Region.{changes_inside}
use Rattle.region.proofs.Update.differs.Goals as goal

pub returns : goal.returns
returns c = sym (changes_inside _ _ _ _ (omega arith) (omega arith))
