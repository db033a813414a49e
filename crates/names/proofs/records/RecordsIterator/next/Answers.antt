-- `names::records::Records::next` meets its contract: the first record gives the first name, and the names left are those behind it.
use mathlib.Core.Path.{sym, ap, ◌∙◌}
use Prim.Native.Nat.{◌<◌}
use native.Mathlib.Omega.{arith}
use lib.ListN.{length}
use Rattle.names.specs.Records.{names_of}
use Rattle.names.proofs.Laws.Front.{none_exactly}
use Rattle.names.proofs.Laws.Names.{names_none, names_next}
use Rattle.names.proofs.records.RecordsIterator.next.Goals as goal

pub returns-in_err-size-clause-steps : goal.returns-in_err-size-clause-steps
returns-in_err-size-clause-steps c =
    let none_left = names_none _ ((none_exactly _).when (sym c.record_at.ensures ∙ c.in_err-size.was)) in
    rw c.from_residual.ensures (none_left, none_left)

pub split_at-requires : goal.split_at-requires
split_at-requires c = (names_next _ _ (sym c.in_ok-size.was ∙ c.record_at.ensures)).inside

pub returns-clause-steps : goal.returns-clause-steps
returns-clause-steps c =
    let split = c.split_at.ensures in
    rw (split.front_len, split.front, split.back) (names_next _ _ (sym c.in_ok-size.was ∙ c.record_at.ensures)).names_are

pub returns-clause-goes : goal.returns-clause-goes
returns-clause-goes c =
    let first = names_next _ _ (sym c.in_ok-size.was ∙ c.record_at.ensures) in
    let shorter : length (names_of c.split_at.result.1.now) < length (names_of c.args.self.now.left.now) =
    rw c.split_at.ensures.back (omega (arith, ap length first.names_are)) in
    search
