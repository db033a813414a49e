-- `host::zeradok_read` meets its contract: the reader's answer, as a struct.
use mathlib.Core.Path.{ap, ◌∙◌}
use Rattle.script.proofs.Laws.Reader.{answered_is}
use Rattle.host.specs.Read.{record_of}
use Rattle.host.specs.declared.reader.Record.{Record}
use Rattle.host.proofs.zeradok_read.Goals as goal

pub returns : goal.returns
returns c =
    let told = c.record_at.ensures in
    let made = c.into.ensures in
    record {
      answer_is = made ∙ ap record_of (answered_is told);
      number_is = ap (λ (r : Record). r.number) made ∙ told.number_is;
      kind_is = ap (λ (r : Record). r.kind) made ∙ told.kind_is;
      start_is = ap (λ (r : Record). r.start) made ∙ told.start_is;
      length_is = ap (λ (r : Record). r.length) made ∙ told.length_is;
      microseconds_are = ap (λ (r : Record). r.microseconds) made ∙ told.microseconds_are;
      next_is = ap (λ (r : Record). r.next) made ∙ told.next_is;
    }
