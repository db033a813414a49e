-- What a frame does to the array (01, "Frames"): which addresses it touches, and the byte that each gets. Nothing here knows a state.
use Rattle.std.specs.Prelude.{Bool, false, ◌&&◌, cond, List, ℕ, ◌+◌, ◌-◌, ◌*◌, ◌/◌, ◌%◌, ◌≤◌, leb, ltb, eqb, get_or, length}
use Rattle.std.specs.Int.Bits.{bit_and}
use Rattle.std.specs.declared.ops.Range.{Range}
use Rattle.common.specs.Lists.{within}
use Rattle.effect.specs.declared.Effect.{Effect}
use Rattle.effect.specs.declared.Effect.TheVariants.{Keep, Fill, Program, Round}

-- a page program that stays below its page's end goes straight up, another goes round the page
unfoldable pub page_effect : ℕ → ℕ → Effect
page_effect a n = cond (leb n (256 - a % 256)) (Program a n 4) (Round a n)

-- how many bytes on from address a address k lies, round the page
abbrev pub turn : ℕ → ℕ → ℕ
turn a k = (k + (256 - a % 256)) % 256

-- of n data bytes laid from address a on, round the page, the last one for address k
abbrev pub last_for : ℕ → ℕ → ℕ → ℕ
last_for a n k = turn a k + (n - 1 - turn a k) / 256 * 256

-- the addresses that are programmed or erased
unfoldable pub touches : Effect → ℕ → Bool
touches Keep k = false
touches (Fill a n) k = within a n k
touches (Program a n i) k = within a n k
touches (Round a n) k = eqb (k / 256) (a / 256) && ltb (turn a k) n

-- "Programming sets each byte to old AND new"; erased is "all FF"
unfoldable pub struck : Effect → List ℕ → ℕ → ℕ → ℕ
struck Keep f k x = x
struck (Fill a n) f k x = 255
struck (Program a n i) f k x = bit_and x (get_or f (i + (k - a)) 0)
struck (Round a n) f k x = bit_and x (get_or f (4 + last_for a n k) 0)

-- the byte x at address k afterwards
unfoldable pub changed : Effect → List ℕ → ℕ → ℕ → ℕ
changed e f k x = cond (touches e k) (struck e f k x) x

-- the frame has the data bytes that go straight up
abbrev pub Supplied : Effect → List ℕ → Type 0
Supplied Keep f = Unit {0}
Supplied (Fill a n) f = Unit {0}
Supplied (Program a n i) f = i + n ≤ length f
Supplied (Round a n) f = Unit {0}

-- the addresses among which all touched ones lie
abbrev pub span_of : Effect → Range ℕ
span_of Keep = record { start = 0; end = 0 }
span_of (Fill a n) = record { start = a; end = a + n }
span_of (Program a n i) = record { start = a; end = a + n }
span_of (Round a n) = record { start = a / 256 * 256; end = a / 256 * 256 + 256 }

-- how many are touched: "one byte for each array byte the frame programs or erases"
unfoldable pub mask_length : Effect → ℕ
mask_length Keep = 0
mask_length (Fill a n) = n
mask_length (Program a n i) = n
mask_length (Round a n) = cond (ltb n 256) n 256
