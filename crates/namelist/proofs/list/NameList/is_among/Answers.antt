-- `namelist::list::NameList::is_among` meets its contract: `any` tells whether one of them is the same.
use lib.Dec.{eqb}
use lib.Pointwise.{pointwise}
use Rattle.std.proofs.Common.{sym, ◌∙◌, rules, tests}
use Rattle.std.proofs.lemmas.Iterator.{YieldsList-from_take}
use Rattle.std.proofs.lemmas.Iterator.Consumers.{YieldsList-from_first}
use Rattle.std.proofs.lemmas.Iterator.Search.{any_from_yields_List}
use Rattle.names.proofs.Laws.Search.{same_pointwise}
use Rattle.namelist.specs.Listed.{listed, names_in}
use Rattle.namelist.proofs.Laws.Comparing.{on_any}
use Rattle.namelist.proofs.list.NameList.is_among.Goals as goal

pub returns : goal.returns
returns c =
    let names = names_in (listed c.args.self.now.bytes.now) in
    any_from_yields_List (pointwise eqb c.args.name.now) c.any.new.self _ c.any.result c.any.ensures.ran
    (YieldsList-from_take c.args.count (YieldsList-from_first (λ x. x.now) (λ left. names_in (listed left.left.now)) names (cc)) (cc))
    (λ x b q k. search (rules, tests, sym (same_pointwise c.args.name.now x.now)))
    ∙ on_any c.args.name.now _
