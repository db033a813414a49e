-- `frame::cut::takes_mask` meets its contract: a status write's one byte, or the mask of the frame's effect.
use mathlib.Core.Path.{sym}
use Rattle.common.proofs.Laws.Booleans.{and_true}
use Rattle.frame.proofs.cut.takes_mask.Goals as goal

pub returns : goal.returns
returns c = rw (rw c.is_status_cycle.ensures at c.if-is_status_cycle.false, c.mask_length.ensures, c.effect_of.ensures) (sym (and_true _))
