-- `region::Update::wants_rise` meets its contract: the closure's test is that of the pairs, and of each address.
use mathlib.Core.Bool.{not}
use mathlib.Core.Path.{◌∙◌}
use native.Mathlib.Omega.{arith}
use borrow.Author.Tests.{tests}
use lib.Bits.{bit_and}
use lib.Dec.{eqb}
use Rattle.std.proofs.Common.{rules}
use Rattle.std.proofs.lemmas.Iterator.{YieldsList-from_slice, YieldsList-from_zip}
use Rattle.std.proofs.lemmas.Iterator.Consumers.{YieldsList-at}
use Rattle.std.proofs.lemmas.Iterator.Search.{any_from_yields_List}
use Rattle.region.proofs.Laws.Region.{rises_pairs}
use Rattle.region.proofs.Update.wants_rise.Goals as goal

pub returns : goal.returns
returns c =
    let pairs = YieldsList-from_zip (YieldsList-at c.zip.ensures.first (YieldsList-from_slice _ c.iter.ensures.rest)) (YieldsList-from_slice _ c.zip.ensures.second.0) in
    any_from_yields_List (λ p. not (eqb (bit_and p.0 p.1) p.1)) c.any.new.self _ _ c.any.ensures.ran pairs (λ x b q k. search (rules, tests))
    ∙ rises_pairs _ _ _ _ (omega arith) c.args.self.now.inside.fits
