-- `book::telling::Book::scenes_read` meets its contract: it counts the scenes of the used bytes.
use mathlib.Core.Path.{◌∙◌}
use Rattle.book.proofs.Laws.Read.{used_sliced, count_sliced}
use Rattle.book.proofs.telling.Book.scenes_read.Goals as goal

pub returns : goal.returns
returns c = rw (used_sliced c.args.self.now.array.now c.args.self.now.sector) at c.zeros_in.ensures ∙ count_sliced _ _ c.args.self.now.inside
