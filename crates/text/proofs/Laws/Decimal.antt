-- The laws of numbers in decimal: their digits, how many they are, the number they stand for, and a line of numbers.
-- Assumes nothing.
use mathlib.Core.Path.{◌≡◌, refl, sym, ap, ◌∙◌}
use mathlib.Core.List.{List, [], ◌∷◌, ◌++◌, append_assoc, append-nil}
use mathlib.Core.Logic.{⊎_elim}
use Prim.Native.Nat.{ℕ, zero, suc, ◌+◌, ◌-◌, ◌*◌, ◌/◌, ◌%◌, ◌^◌, ◌≤◌, ◌<◌}
use native.Mathlib.Nat.{pow-suc}
use native.Mathlib.Omega.{arith}
use lib.Dec.{ltb}
use lib.ListN.{length, get_or, length-append}
use borrow.Author.Tests.{lt-ltb, le-ltb}
use Rattle.std.specs.Prelude.{flat_map}
use Rattle.common.specs.Lists.{Each}
use Rattle.common.proofs.Laws.Choice.{cond_elim, yes, no}
use Rattle.common.proofs.Laws.Each.{each_append}
use Rattle.common.proofs.Laws.Lists.{split}
use Rattle.text.specs.Text.{digit, decimal_within, decimal_end, decimal, Numeral, value_from, value_of, spaced, decimals, line_feed, line, decimals_line}
use Rattle.text.proofs.Laws.Text.{digit_low, length_line_of}

-- ---- within so many digits

within_one : (k n : ℕ) → n < 10 → decimal_within (suc k) n ≡ digit n ∷ []
unfolding decimal_within
within_one k n h = sym (yes _ (lt-ltb n 10 h) refl)

within_more : (k n : ℕ) → 10 ≤ n → decimal_within (suc k) n ≡ decimal_within k (n / 10) ++ (digit (n % 10) ∷ [])
unfolding decimal_within
within_more k n h = sym (no _ (le-ltb n 10 h) refl)

within_short : (k n : ℕ) → length (decimal_within k n) ≤ k
unfolding decimal_within
within_short zero n = omega arith
within_short (suc k) n =
    cond_elim (λ (l : List ℕ). length l ≤ suc k) (ltb n 10) (λ _. omega arith)
    (λ _. omega (arith, length-append (decimal_within k (n / 10)) (digit (n % 10) ∷ []), within_short k (n / 10)))

-- one digit less to write
tenth : (k n : ℕ) → n < 10 ^ suc k → n / 10 < 10 ^ k
tenth k n h = omega (arith, pow-suc 10 k)

-- where so many digits are enough, one more changes nothing
within_enough : (k n : ℕ) → n < 10 ^ suc k → decimal_within (suc (suc k)) n ≡ decimal_within (suc k) n
within_enough zero n h = within_one 1 n h ∙ sym (within_one 0 n h)
within_enough (suc k) n h =
    ⊎_elim (λ few. within_one (suc (suc k)) n few ∙ sym (within_one (suc k) n few))
    (λ many. within_more (suc (suc k)) n many
    ∙ ap (λ (others : List ℕ). others ++ (digit (n % 10) ∷ [])) (within_enough k (n / 10) (tenth (suc k) n h))
    ∙ sym (within_more (suc k) n many)) (split n 10)

-- ---- a number below 100,000

pub decimal_one : (n : ℕ) → n < 10 → decimal n ≡ digit n ∷ []
unfolding decimal
decimal_one n h = within_one 4 n h

-- the last digit, behind the others
pub decimal_turn : (n : ℕ) → 10 ≤ n → n < decimal_end → decimal n ≡ decimal (n / 10) ++ (digit (n % 10) ∷ [])
unfolding decimal
decimal_turn n many small =
    within_more 4 n many ∙ ap (λ (others : List ℕ). others ++ (digit (n % 10) ∷ [])) (sym (within_enough 3 (n / 10) (omega arith)))

pub decimal_zero : decimal 0 ≡ 0x30 ∷ []
decimal_zero = decimal_one 0 (omega arith) ∙ rw (digit_low 0 (omega arith)) refl

pub decimal_two : (n : ℕ) → 10 ≤ n → n < 100 → decimal n ≡ digit (n / 10) ∷ digit (n % 10) ∷ []
decimal_two n many small = decimal_turn n many (omega arith) ∙ rw (decimal_one (n / 10) (omega arith)) refl

pub decimal_short : (n : ℕ) → length (decimal n) ≤ 5
unfolding decimal
decimal_short n = within_short 5 n

-- what holds of one digit, and with a further digit where it holds of the others, holds of each number
module _ (P : ℕ → List ℕ → Type 0) (one : (n : ℕ) → n < 10 → P n (digit n ∷ []))
    (more : (n : ℕ) (others : List ℕ) → 10 ≤ n → P (n / 10) others → P n (others ++ (digit (n % 10) ∷ []))) where
  within_elim : (k n : ℕ) → n < 10 ^ suc k → P n (decimal_within (suc k) n)
  within_elim zero n h = rw (within_one 0 n h) (one n h)
  within_elim (suc k) n h =
      ⊎_elim (λ few. rw (within_one (suc k) n few) (one n few))
      (λ many. rw (within_more (suc k) n many) (more n (decimal_within (suc k) (n / 10)) many (within_elim k (n / 10) (tenth (suc k) n h)))) (split n 10)

  decimal_elim : (n : ℕ) → n < decimal_end → P n (decimal n)
  unfolding decimal
  decimal_elim n h = within_elim 4 n h

-- each character is one of 0 to 9
digit_numeral : (n : ℕ) → n < 10 → Numeral (digit n)
digit_numeral n h = rw (digit_low n h) (omega arith)

pub decimal_digits : (n : ℕ) → n < decimal_end → Each Numeral (decimal n)
decimal_digits =
    decimal_elim (λ n cs. Each Numeral cs) (λ n h. (digit_numeral n h, tt))
    (λ n others many e. each_append Numeral others (digit (n % 10) ∷ []) e (digit_numeral (n % 10) (omega arith), tt))

-- read back, it is the number
value_append : (v : ℕ) (xs ys : List ℕ) → value_from v (xs ++ ys) ≡ value_from (value_from v xs) ys
unfolding value_from
value_append v [] ys = refl
value_append v (x ∷ xs) ys = value_append (10 * v + (x - 0x30)) xs ys

value_digit : (v n : ℕ) → n < 10 → value_from v (digit n ∷ []) ≡ 10 * v + n
unfolding value_from
value_digit v n h = omega (arith, digit_low n h)

pub decimal_value : (n : ℕ) → n < decimal_end → value_of (decimal n) ≡ n
decimal_value =
    decimal_elim (λ n cs. value_of cs ≡ n) (λ n h. value_digit 0 n h ∙ omega arith)
    (λ n others many e. value_append 0 others (digit (n % 10) ∷ []) ∙ value_digit (value_of others) (n % 10) (omega arith) ∙ omega arith)

-- the first character is no 0, but of the number 0
first_append : (xs ys : List ℕ) → 0x30 < get_or xs 0 0 → 0x30 < get_or (xs ++ ys) 0 0
first_append [] ys h = absurd (omega arith)
first_append (x ∷ xs) ys h = h

pub decimal_no_leading_zero : (n : ℕ) → 1 ≤ n → n < decimal_end → 0x30 < get_or (decimal n) 0 0
decimal_no_leading_zero n some small =
    decimal_elim (λ n cs. 1 ≤ n → 0x30 < get_or cs 0 0) (λ n h some. omega (arith, digit_low n h))
    (λ n others many e some. first_append others (digit (n % 10) ∷ []) (e (omega arith))) n small some

-- ---- several numbers

pub decimals_none : decimals [] ≡ []
unfolding decimals
decimals_none = refl

pub decimals_first : (n : ℕ) (ns : List ℕ) → decimals (n ∷ ns) ≡ spaced n ++ decimals ns
unfolding decimals
decimals_first n ns = refl

-- the numbers, one behind the other
pub decimals_are : (numbers : List ℕ) → flat_map spaced numbers ≡ decimals numbers
decimals_are [] = sym decimals_none
decimals_are (n ∷ ns) = rw (decimals_are ns, decimals_first n ns) refl

-- a line of one number tells that number
pub decimals_line_one : (letter n : ℕ) → decimals_line letter (n ∷ []) ≡ line letter (decimal n)
unfolding decimals
decimals_line_one letter n = ap (λ (told : List ℕ). line letter told) (append-nil (decimal n))

-- of two, these two
pub decimals_line_two : (letter n m : ℕ)
    → decimals_line letter (n ∷ m ∷ []) ≡ letter ∷ 0x20 ∷ (decimal n ++ (0x20 ∷ (decimal m ++ (line_feed ∷ []))))
unfolding decimals
decimals_line_two letter n m =
    rw (append-nil (decimal m)) (ap (λ (told : List ℕ). letter ∷ 0x20 ∷ told) (append_assoc (decimal n) (0x20 ∷ decimal m) (line_feed ∷ [])))

pub length_decimals_first : (n : ℕ) (ns : List ℕ) → length (decimals (n ∷ ns)) ≡ 1 + length (decimal n) + length (decimals ns)
unfolding decimals
length_decimals_first n ns = omega (arith, length-append (decimal n) (decimals ns))

pub decimals_short : (ns : List ℕ) → length (decimals ns) ≤ 6 * length ns
decimals_short [] = rw decimals_none (omega arith)
decimals_short (n ∷ ns) = omega (arith, length_decimals_first n ns, decimal_short n, decimals_short ns)

pub length_decimals_line : (letter : ℕ) (ns : List ℕ) → length (decimals_line letter ns) ≡ 2 + length (decimals ns)
length_decimals_line letter ns = length_line_of letter (decimals ns)

pub decimals_line_short : (letter : ℕ) (ns : List ℕ) → length (decimals_line letter ns) ≤ 2 + 6 * length ns
decimals_line_short letter ns = omega (arith, length_decimals_line letter ns, decimals_short ns)
