-- `common::runs::and_run` meets its contract: below k the run is ANDed.
use mathlib.Core.Path.{refl}
use native.Mathlib.Omega.{arith}
use Rattle.common.proofs.Laws.Runs.{run_start, run_turn, run_end}
use Rattle.common.proofs.runs.and_run.Goals as goal

pub loop-k-init : goal.loop-k-init
loop-k-init c = run_start c.args.from c.args.to _ c.args.bytes.now

pub loop-k-preserved : goal.loop-k-preserved
loop-k-preserved c =
    let a = c.args in
    run_turn a.from a.to _ a.bytes.now c.loop-k.bytes c.loop-k.k _ (omega arith) (omega arith) (omega arith) refl c.loop-k.invariant

pub returns : goal.returns
returns c = let a = c.args in run_end a.from a.to _ a.bytes.now c.loop-k.bytes c.loop-k.k (omega arith) c.loop-k.invariant
