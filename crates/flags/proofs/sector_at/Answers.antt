-- `flags::sector_at` meets its contract: a slice of the array.
use Rattle.sectors.proofs.Laws.Images.{sector_sliced}
use Rattle.flags.proofs.sector_at.Goals as goal

pub returns : goal.returns
returns c = sector_sliced _ _
