-- `salvage::used::used_part` meets its contract: FF from the end of `used` on.
use Rattle.salvage.proofs.Laws.Used.{behind_start, behind_turn, behind_all, behind_found}
use Rattle.salvage.proofs.used.used_part.Goals as goal

pub loop-used-init : goal.loop-used-init
loop-used-init c = behind_start c.args.sector.now

pub loop-used-preserved : goal.loop-used-preserved
loop-used-preserved c = behind_turn _ _ c.loop-used.invariant c.in-255.len_at_least search

pub returns-in_default : goal.returns-in_default
returns-in_default c = behind_all _ _ c.loop-used.invariant c.in_default.len_below

pub returns-in_default-2 : goal.returns-in_default-2
returns-in_default-2 c = behind_found _ _ c.loop-used.invariant c.in_default.len_at_least search
