-- `namelist::list::NameList::count` meets its contract: there are at most 4,096 names.
use Rattle.std.proofs.Common.{arith, inl}
use Rattle.namelist.proofs.Laws.Listed.{good_most}
use Rattle.namelist.proofs.list.NameList.count.Goals as goal

pub count-requires-clause-fits : goal.count-requires-clause-fits
count-requires-clause-fits c = inl (omega (arith, good_most _ c.iter.result.good))
