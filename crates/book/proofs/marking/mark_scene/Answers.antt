-- `book::marking::mark_scene` meets its contract: a one shifted up to the scene's bit, taken from FF, is the mask.
use Rattle.book.proofs.Laws.Marked.{marked_shifted}
use Rattle.book.proofs.marking.mark_scene.Goals as goal

pub returns : goal.returns
returns c = marked_shifted c.args.scene _
