-- `output::drive_since` meets its contract: two runs are the marks byte by byte.
use Rattle.output.proofs.Laws.Output.{driven_in_runs}
use Rattle.output.proofs.drive_since.Goals as goal

pub returns : goal.returns
returns c =
    let a = c.args in
    let first = c.fill_run.ensures in
    let head = c.min-head.ensures in
    λ bytes. rw (c.fill_run-2.ensures, first, head, c.from.ensures) (driven_in_runs a.at a.driven.now bytes)
