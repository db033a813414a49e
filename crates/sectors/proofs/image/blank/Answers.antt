-- `sectors::image::blank` meets its contract: no bytes, and FF behind them.
use mathlib.Core.Path.{sym}
use Rattle.names.proofs.Laws.Padded.{padded_none}
use Rattle.sectors.proofs.image.blank.Goals as goal

pub returns : goal.returns
returns c = sym padded_none
