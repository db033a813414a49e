-- `text::put_hex_line` meets its contract: the bytes' characters are the bytes in hex.
use Rattle.text.proofs.Laws.Text.{hex_is}
use Rattle.text.proofs.put_hex_line.Goals as goal

pub put_line-requires-clause-room : goal.put_line-requires-clause-room
put_line-requires-clause-room c = rw (← hex_is c.args.bytes.now) at c.requires

pub returns : goal.returns
returns c = rw hex_is at c.put_line.ensures
