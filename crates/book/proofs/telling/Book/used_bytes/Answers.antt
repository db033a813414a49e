-- `book::telling::Book::used_bytes` meets its contract.
use mathlib.Core.Path.{◌∙◌}
use Rattle.book.proofs.Laws.Read.{used_sliced}
use Rattle.book.proofs.telling.Book.used_bytes.Goals as goal

pub returns : goal.returns
returns c = c.copy_from_slice.ensures.after ∙ used_sliced _ _
