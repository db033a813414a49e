-- `chip::kind_of` meets its contract: each table is its instruction list's rule at all 256 numbers, computed once.
use mathlib.Core.Path.{ap, ◌∙◌}
use native.Mathlib.Omega.{arith}
use Rattle.common.proofs.Laws.Lists.{get_d_tab}
use Rattle.chip.specs.declared.kinds.Kind.TheVariants.{Unknown}
use Rattle.chip.specs.Instructions.{instructions_008a, instructions_05pa, kind_in}
use Rattle.chip.specs.Chip.{Model, kind_of}
use Rattle.chip.proofs.Laws.Models.{model_of_8, model_of_other}
use Rattle.chip.proofs.kind_of.Goals as goal

pub returns-then-number-eq8 : goal.returns-then-number-eq8
unfolding kind_of
returns-then-number-eq8 c =
    rw c.from.ensures (get_d_tab 256 (kind_in instructions_008a) c.args.op Unknown (omega arith))
    ∙ ap (λ (m : Model). kind_in m.instructions c.args.op) (model_of_8 _ c.if-number-eq8.true)

pub returns-else-number-eq8 : goal.returns-else-number-eq8
unfolding kind_of
returns-else-number-eq8 c =
    rw c.from-else-number-eq8.ensures (get_d_tab 256 (kind_in instructions_05pa) c.args.op Unknown (omega arith))
    ∙ ap (λ (m : Model). kind_in m.instructions c.args.op) (model_of_other _ c.if-number-eq8.false)
