-- `region::wanted_at` meets its contract: before the region and behind it the byte is FF.
use mathlib.Core.Path.{◌≡◌, sym, ◌∙◌}
use Prim.Native.Nat.{◌-◌}
use native.Mathlib.Omega.{arith}
use lib.ListN.{get_or}
use Rattle.std.proofs.Common.{rules}
use Rattle.common.proofs.Laws.Places.{within_below}
use Rattle.region.proofs.Laws.Region.{wanted_out, wanted_got}
use Rattle.region.proofs.wanted_at.Goals as goal

pub returns-then-address-start : goal.returns-then-address-start
returns-then-address-start c = sym (wanted_out _ _ _ (within_below _ _ _ c.if-address-start.true))

pub returns : goal.returns
returns c =
    let a = c.args in
    let got : c.unwrap_or.result ≡ get_or a.wanted.now (a.address - a.start) 255 = search rules in
    got ∙ wanted_got _ _ _ c.if-address-start.false
