-- `names::record::record_at` meets its contract: what the pattern and `get` told says what `front` finds.
use mathlib.Core.Path.{ap, ◌∙◌}
use mathlib.Core.Bool.{Bool}
use native.Mathlib.Omega.{arith}
use Prim.Native.Nat.{◌+◌}
use lib.ListN.{length}
use Rattle.std.specs.Bool.{then_some}
use Rattle.names.proofs.Laws.Reader.{reads_short, reads_unmarked, reads_half_marked, reads_cut, reads_name}
use Rattle.names.proofs.record.record_at.Goals as goal

pub returns-in_default : goal.returns-in_default
returns-in_default c = reads_short c.args.bytes.now c.args.at c.in_default.len_below

pub returns-in_default-2 : goal.returns-in_default-2
returns-in_default-2 c = reads_half_marked c.args.bytes.now c.args.at search

pub returns-in_default-3 : goal.returns-in_default-3
returns-in_default-3 c = reads_unmarked c.args.bytes.now c.args.at search

pub returns-in_err-name : goal.returns-in_err-name
returns-in_err-name c =
    let look = c.in_err-name.ensures.lookup in
    c.from_residual.ensures ∙ reads_cut c.args.bytes.now c.args.at c.in-78.len_at_least (search) (search) c.from.result c.from.ensures (omega (arith, look.0))

pub returns : goal.returns
returns c =
    let look = c.in_ok-name.ensures.lookup.0 in
    c.then_some.ensures ∙ ap (λ (t : Bool). then_some t (3 + length c.in_ok-name.name.now)) c.is_name.ensures
    ∙ reads_name c.args.bytes.now c.args.at c.in-78.len_at_least (search) (search) c.from.result c.from.ensures c.in_ok-name.name.now look.2 look.1
