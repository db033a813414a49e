-- `script::reader::read_in_order` meets its contract: its two tests are those of `record_at`.
use mathlib.Core.Path.{sym, ◌∙◌}
use Rattle.script.proofs.Laws.Reader.{record_at_long, record_at_past, record_at_inside}
use Rattle.script.proofs.reader.read_in_order.Goals as goal

pub returns-then-script-gt-LONGEST_SCRIPT : goal.returns-then-script-gt-LONGEST_SCRIPT
returns-then-script-gt-LONGEST_SCRIPT c =
    let a = c.args in sym (record_at_long a.script.now a.offset c.if-script-gt-LONGEST_SCRIPT.true)

pub returns-then-script-offset : goal.returns-then-script-offset
returns-then-script-offset c =
    let a = c.args in sym (record_at_past a.script.now a.offset c.if-script-gt-LONGEST_SCRIPT.false c.if-script-offset.true)

pub returns : goal.returns
returns c =
    let a = c.args in
    c.front_at.ensures ∙ sym (record_at_inside a.script.now a.offset c.if-script-gt-LONGEST_SCRIPT.false c.if-script-offset.false)
