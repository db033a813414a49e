-- Bytes as a line showed them are laid: with those left the text will be as it is to be.
use lib.ListN.{drop}
use Rattle.common.proofs.Laws.Buffer.{Left}
use Rattle.text.specs.Text.{shown_hex}
use Rattle.text.proofs.ShownSpelled.put.Given as goal

abbrev pub invariant-loop-i : goal.invariant-loop-i
invariant-loop-i l = Left l.next (shown_hex (drop l.i l.self.bytes.now) (drop l.i l.self.driven.now)) l.text l.at (shown_hex l.self.bytes.now l.self.driven.now) l.initial.text
