-- `script::reader::record_at` meets its contract: what was read, and the next offset of it.
use Rattle.script.proofs.Laws.Values.{record_at_answered}
use Rattle.script.proofs.reader.record_at.Goals as goal

pub returns : goal.returns
returns c = record_at_answered _ _ c.read_in_order-read.ensures c.next_of.ensures
