-- `book::telling::Book::open` meets its contract: where the check passes, the used bytes lie in the array.
use Rattle.book.proofs.Laws.Refusals.{used_inside}
use Rattle.book.proofs.telling.Book.open.Goals as goal

pub invariant_of-result : goal.invariant_of-result
invariant_of-result c = record { inside = used_inside _ _ _ _ c.in_ok-check_book.ensures }
