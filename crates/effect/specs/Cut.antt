-- An interrupted frame (01, "Interrupted frame": "This model of a cut is ours.").
use Rattle.std.specs.Prelude.{cond, List, ℕ, ◌-◌, get_or}
use Rattle.std.specs.Int.Bits.{bit_and, bit_or}
use Rattle.common.specs.Lists.{count_below}
use Rattle.effect.specs.declared.Effect.{Effect}
use Rattle.effect.specs.Effect.{touches, struck}

-- "its new bit where the mask has 1 and keeps the old where it has 0"
unfoldable pub mixed : ℕ → ℕ → ℕ → ℕ
mixed mask old new = bit_or (bit_and new mask) (bit_and old (255 - mask))

-- "by rising address": the mask's byte for an address has as many before it as there are touched addresses below
abbrev pub mask_place : Effect → ℕ → ℕ
mask_place e k = count_below (touches e) k

-- the byte x at address k after the cut
unfoldable pub cut : Effect → List ℕ → List ℕ → ℕ → ℕ → ℕ
cut e f mask k x = cond (touches e k) (mixed (get_or mask (mask_place e k) 0) x (struck e f k x)) x
