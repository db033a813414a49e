-- `output::show_array` meets its contract: three runs are the read byte by byte.
use lib.ListN.{length}
use Rattle.output.proofs.Laws.Output.{read_in_runs}
use Rattle.output.proofs.show_array.Goals as goal

pub returns : goal.returns
returns c =
    let a = c.args in
    rw (c.copy_run-2.ensures, c.copy_run.ensures, c.fill_run.ensures, c.min.ensures, c.min-head.ensures, c.from.ensures)
    (read_in_runs (length a.array.now) a.from a.at a.array.now a.output.now c.requires.0 c.requires.1)
