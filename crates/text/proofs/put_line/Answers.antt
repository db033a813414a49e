-- `text::put_line` meets its contract: what opens the line, what it tells and the line feed are laid one behind the other.
use Rattle.text.proofs.Laws.Writing.{line_put}
use Rattle.text.proofs.put_line.Goals as goal

pub returns : goal.returns
returns g c = line_put c.args.opening.now (g.T.Spelled.characters c.args.told) c.requires.room c.put-begun.ensures c.put-end.ensures c.put.ensures
