-- `book::telling::Book::scene_read` meets its contract: shifted down, the scene's bit is the lowest.
use Rattle.book.proofs.Laws.Read.{read_shifted}
use Rattle.book.proofs.telling.Book.scene_read.Goals as goal

pub returns : goal.returns
returns c = read_shifted _ _ c.args.scene
