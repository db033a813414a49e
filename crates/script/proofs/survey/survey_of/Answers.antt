-- `script::survey::survey_of` meets its contract: it is the counts, as a struct.
use mathlib.Core.Path.{ap, ◌∙◌}
use Rattle.script.specs.Survey.{in_struct}
use Rattle.script.proofs.Laws.Survey.{counts_in_struct}
use Rattle.script.proofs.survey.survey_of.Goals as goal

pub returns : goal.returns
returns c = c.into.ensures ∙ ap in_struct c.counts_of.ensures ∙ counts_in_struct _
