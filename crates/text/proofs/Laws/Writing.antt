-- How text is laid into a buffer piece by piece: items, two pieces, a line, the digits of a number. Names: `-room` there is room for it, `-put` it is laid.
-- Assumes nothing.
use mathlib.Core.Path.{◌≡◌, ap}
use mathlib.Core.List.{List, [], ◌∷◌, ◌++◌}
use Prim.Native.Nat.{ℕ, ◌+◌, ◌/◌, ◌%◌, ◌≤◌, ◌<◌}
use native.Mathlib.Omega.{arith}
use lib.ListN.{length, get_or, drop}
use Rattle.std.specs.Prelude.{flat_map}
use Rattle.std.proofs.lemmas.List.{at_drop_more}
use Rattle.common.specs.Buffer.{Put}
use Rattle.common.proofs.Laws.Buffer.{Left, left_start, left_room, left_fits, left_turn, left_last}
use Rattle.text.specs.Text.{digit, decimal_end, decimal, line_feed}
use Rattle.text.proofs.Laws.Decimal.{decimal_one, decimal_turn}

-- items, laid one behind the other: at the turn of the item x
pub items_left : {A : Type 0} (piece : A → List ℕ) (items : List A) (i : ℕ) (x : A) → i < length items → x ≡ get_or items i x
    → {next at : ℕ} {text all text₀ : List ℕ} → Left next (flat_map piece (drop i items)) text at all text₀
    → Left next (piece x ++ flat_map piece (drop (i + 1) items)) text at all text₀
items_left piece items i x h is l = rw (at_drop_more (flat_map piece) items i x h, ← is) at l

-- two pieces, laid one behind the other
pub first_room : (xs ys : List ℕ) (at : ℕ) (text : List ℕ) → at + length (xs ++ ys) ≤ length text → at + length xs ≤ length text
first_room xs ys at text room = left_room xs ys (left_start at (xs ++ ys) text room)

module _ (xs ys : List ℕ) {at : ℕ} {text : List ℕ} (room : at + length (xs ++ ys) ≤ length text)
    {filled : List ℕ} {behind : ℕ} (p : Put at xs text filled behind) where
  second_left : Left behind ys filled at (xs ++ ys) text
  second_left = left_turn xs ys (left_start at (xs ++ ys) text room) p

  pub second_room : behind + length ys ≤ length filled
  second_room = left_fits second_left

  pub both_put : {after : List ℕ} {next : ℕ} → Put behind ys filled after next → Put at (xs ++ ys) text after next
  both_put q = left_last second_left q

-- a line: what opens it is laid, then what it tells, then the line feed
module _ (front told : List ℕ) {at : ℕ} {text : List ℕ} (room : at + length (front ++ (told ++ (line_feed ∷ []))) ≤ length text)
    {opened : List ℕ} {begun : ℕ} (p : Put at front text opened begun) where
  rest_room : begun + length (told ++ (line_feed ∷ [])) ≤ length opened
  rest_room = second_room front (told ++ (line_feed ∷ [])) room p

  pub told_room : begun + length told ≤ length opened
  told_room = first_room told (line_feed ∷ []) begun opened rest_room

  module _ {filled : List ℕ} {end : ℕ} (q : Put begun told opened filled end) where
    pub feed_room : end + 1 ≤ length filled
    feed_room = second_room told (line_feed ∷ []) rest_room q

    pub line_put : {after : List ℕ} {next : ℕ} → Put end (line_feed ∷ []) filled after next → Put at (front ++ (told ++ (line_feed ∷ []))) text after next
    line_put r = both_put front (told ++ (line_feed ∷ [])) room p (both_put told (line_feed ∷ []) rest_room q r)

-- ---- numbers

-- a number of one digit
module _ (n : ℕ) (few : n < 10) where
  pub one_room : (at : ℕ) (text : List ℕ) → at + length (decimal n) ≤ length text → at + 1 ≤ length text
  one_room at text room = omega (arith, ap length (decimal_one n few))

  pub one_put : {at next : ℕ} {text after : List ℕ} → Put at (digit n ∷ []) text after next → Put at (decimal n) text after next
  one_put p = rw (decimal_one n few) p

-- of several: the others, then the last
module _ (n : ℕ) (many : 10 ≤ n) (small : n < decimal_end) where
  turned_room : (at : ℕ) (text : List ℕ) → at + length (decimal n) ≤ length text
      → at + length (decimal (n / 10) ++ (digit (n % 10) ∷ [])) ≤ length text
  turned_room at text room = rw (decimal_turn n many small) at room

  pub others_room : (at : ℕ) (text : List ℕ) → at + length (decimal n) ≤ length text → at + length (decimal (n / 10)) ≤ length text
  others_room at text room = first_room (decimal (n / 10)) (digit (n % 10) ∷ []) at text (turned_room at text room)

  module _ {at : ℕ} {text : List ℕ} (room : at + length (decimal n) ≤ length text)
      {filled : List ℕ} {last : ℕ} (p : Put at (decimal (n / 10)) text filled last) where
    pub last_room : last + 1 ≤ length filled
    last_room = second_room (decimal (n / 10)) (digit (n % 10) ∷ []) (turned_room at text room) p

    pub last_put : {after : List ℕ} {next : ℕ} → Put last (digit (n % 10) ∷ []) filled after next → Put at (decimal n) text after next
    last_put q = rw (decimal_turn n many small) (both_put (decimal (n / 10)) (digit (n % 10) ∷ []) (turned_room at text room) p q)
