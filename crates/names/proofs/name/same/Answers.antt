-- `names::name::same` meets its contract: in each of its ways it tells what comparing place by place tells.
use mathlib.Core.Path.{sym, ◌∙◌}
use lib.Dec.{eqb}
use Rattle.std.proofs.Common.{rules, tests}
use Rattle.std.proofs.lemmas.Iterator.{YieldsList-from_slice, YieldsList-from_zip}
use Rattle.std.proofs.lemmas.Iterator.Consumers.{YieldsList-at}
use Rattle.std.proofs.lemmas.Iterator.Search.{all_from_yields_List}
use Rattle.names.proofs.Laws.Search.{same_pointwise, same_zip, differ_long, differ_front}
use Rattle.names.proofs.name.same.Goals as goal

pub returns-then-lengths_differ : goal.returns-then-lengths_differ
returns-then-lengths_differ c = differ_long _ _ c.if-lengths_differ.true

pub returns-then-bytes-lt4 : goal.returns-then-bytes-lt4
returns-then-bytes-lt4 c =
    let pairs = YieldsList-from_zip (YieldsList-at c.zip.ensures.first (YieldsList-from_slice _ c.iter.ensures.rest)) (YieldsList-from_slice _ c.zip.ensures.second.0) in
    all_from_yields_List (λ p. eqb p.0 p.1) c.all.new.self _ c.all.result c.all.ensures.ran pairs (λ x b q k. search (rules, tests))
    ∙ same_zip c.args.bytes.now c.args.others.now c.if-lengths_differ.false

pub returns-then-not-starts_with : goal.returns-then-not-starts_with
returns-then-not-starts_with c = differ_front 8 _ _ (sym c.starts_with.ensures.value ∙ c.if-not-starts_with.true)

pub returns : goal.returns
returns c = c.eq.ensures ∙ same_pointwise _ _
