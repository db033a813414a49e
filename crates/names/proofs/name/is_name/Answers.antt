-- `names::name::is_name` meets its contract: the length is asked first.
use Rattle.std.proofs.Common.{rules, tests}
use Rattle.names.specs.Records.{is_name}
use Rattle.names.proofs.name.is_name.Goals as goal

pub returns-then-contains : goal.returns-then-contains
unfolding is_name
returns-then-contains c = search (rules, tests)

pub returns-else-contains : goal.returns-else-contains
unfolding is_name
returns-else-contains c = search (rules, tests)
