-- `names::record::put_record` meets its contract: mark and length are laid, and the name behind them.
use mathlib.Core.List.{[], ◌∷◌}
use native.Mathlib.Omega.{arith}
use lib.ListN.{length}
use Rattle.common.proofs.Laws.Buffer.{left_start, left_turn, left_last}
use Rattle.names.specs.Records.{record_bytes}
use Rattle.names.proofs.record.put_record.Goals as goal

pub returns : goal.returns
returns c =
    let a = c.args in
    left_last
    (left_turn (c.marked_or_erased-first.result ∷ c.marked_or_erased-second.result ∷ length a.name.now ∷ []) a.name.now (rw (c.marked_or_erased-second.ensures, c.marked_or_erased-first.ensures) (left_start a.at (record_bytes a.marked a.name.now) a.buffer.now (omega arith))) c.put-start.ensures)
    c.put.ensures
