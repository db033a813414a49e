-- `text::U32Spelled::put` meets its contract: the space is laid, then the number.
use mathlib.Core.List.{[], ◌∷◌}
use Rattle.text.specs.Text.{decimal}
use Rattle.text.proofs.Laws.Writing.{both_put}
use Rattle.text.proofs.U32Spelled.put.Goals as goal

pub returns : goal.returns
returns c =
    both_put (0x20 ∷ []) (decimal c.args.self) c.requires.room c.put-begun.ensures c.put_decimal.ensures
