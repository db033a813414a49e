-- `namelist::list::NamesLeft::next` meets its contract: the first name of a good list is whole, and the list behind it is good too.
use mathlib.Core.Path.{ap}
use Prim.Native.Nat.{◌<◌}
use native.Mathlib.Omega.{arith}
use lib.ListN.{length}
use Rattle.namelist.specs.Listed.{listed, names_in}
use Rattle.namelist.proofs.Laws.Listed.{good_none, good_first}
use Rattle.namelist.proofs.list.NamesLeftIterator.next.Goals as goal

pub returns-in_err-length-clause-steps : goal.returns-in_err-length-clause-steps
returns-in_err-length-clause-steps c =
    let none_left = good_none c.args.self.now.left.now c.in_err-length.ensures.cases in
    rw c.from_residual.ensures (none_left, none_left)

pub split_at-requires : goal.split_at-requires
split_at-requires c = (good_first _ _ _ _ c.args.self.now.good c.in_ok-length.ensures.cases.0 c.from.ensures).inside

pub invariant_of-self : goal.invariant_of-self
invariant_of-self c = let first = good_first _ _ _ _ c.args.self.now.good c.in_ok-length.ensures.cases.0 c.from.ensures in record { good = rw c.split_at.ensures.back first.behind }

pub returns-clause-steps : goal.returns-clause-steps
returns-clause-steps c =
    let first = good_first _ _ _ _ c.args.self.now.good c.in_ok-length.ensures.cases.0 c.from.ensures in
    rw (c.split_at.ensures.front, c.split_at.ensures.back) first.names_are

pub returns-clause-goes : goal.returns-clause-goes
returns-clause-goes c =
    let first = good_first _ _ _ _ c.args.self.now.good c.in_ok-length.ensures.cases.0 c.from.ensures in
    let shorter : length (names_in (listed c.split_at.result.1.now)) < length (names_in (listed c.args.self.now.left.now)) =
    rw c.split_at.ensures.back (omega (arith, ap length first.names_are)) in
    search
