-- `namelist::list::NameList::position_of` meets its contract: `position` gives the first name that is the same.
use lib.Dec.{eqb}
use lib.Pointwise.{pointwise}
use Rattle.std.proofs.Common.{sym, arith, inl, ◌∙◌, rules, tests}
use Rattle.std.proofs.lemmas.Iterator.Consumers.{YieldsList-from_first}
use Rattle.std.proofs.lemmas.Iterator.Search.{position_from_yields_List}
use Rattle.names.proofs.Laws.Search.{same_pointwise}
use Rattle.namelist.specs.Listed.{listed, names_in}
use Rattle.namelist.proofs.Laws.Listed.{good_most}
use Rattle.namelist.proofs.Laws.Position.{found_position}
use Rattle.namelist.proofs.list.NameList.position_of.Goals as goal

pub position-requires-clause-fits : goal.position-requires-clause-fits
position-requires-clause-fits c = inl (omega (arith, good_most _ c.iter.result.good))

pub returns : goal.returns
returns c =
    position_from_yields_List (pointwise eqb c.args.name.now) c.position.new.self _ c.position.result c.position.ensures.ran (YieldsList-from_first (λ x. x.now) (λ names. names_in (listed names.left.now)) (names_in (listed c.args.self.now.bytes.now)) cc) (λ x b q k. search (rules, tests, sym (same_pointwise c.args.name.now x.now)))
    ∙ found_position c.args.name.now _
