-- Bits of a number: of `bit_and`, `bit_or` and a byte's complement. Numbers with the same bits are equal, and "no bit rises" is `bit_and`. Lists of bytes.
-- Assumes nothing.
use mathlib.Core.Path.{◌≡◌, refl, sym, ap, ap₂, ◌∙◌}
use mathlib.Core.Bool.{Bool, false, ◌&&◌}
use mathlib.Core.List.{List}
use mathlib.Core.Logic.{⊎_elim}
use Prim.Native.Nat.{ℕ, zero, suc, ◌+◌, ◌-◌, ◌*◌, ◌/◌, ◌%◌, ◌^◌, ◌≤◌, ◌<◌, min, max, suc-le-suc}
use native.Mathlib.Nat.{zero-add, lt_of_lt_of_le, le_of_suc-le-suc, mod-eq_of_lt, not-suc-le-zero, pow-suc, zero-lt-suc}
use native.Mathlib.Numerals.{one-add}
use native.Mathlib.Omega.{arith}
use lib.Arith.{bin_ind, digits_mod, lt-one}
use lib.Bits.{bit_and, bit_or, and_le_l, and_step, or_step, and_shr, or_shr, and_self, and_comm, and_zero_r, and_mask}
use lib.Count.{ones, ones_step, ones-ones}
use lib.Dec.{eqb}
use lib.ListN.{length, get_or, drop, get_or-eq_default}
use lib.Pow.{pow_mono, shr_lt, shr-shr}
use lib.Seq.{get_or-drop}
use Rattle.common.specs.Bits.{bit_at, bit, Bytes}
use Rattle.common.specs.Lists.{count_below}
use borrow.Author.Tests.{ne_eqb, eqb-true, eqb-false}
use Rattle.common.proofs.Laws.Booleans.{and_l, and_r, and_off}
use Rattle.common.proofs.Laws.Choice.{cases}
use Rattle.common.proofs.Laws.Lists.{split}
use Rattle.common.proofs.Laws.Places.{count_none, count_cong, count_first, Passing, some_passes}

pub bit_lt : (x b : ℕ) → bit_at x b < 2
unfolding bit_at
bit_lt x b = omega arith

-- a bit, by division
pub bit_is : (x b : ℕ) → bit_at x b ≡ x / 2 ^ b % 2
unfolding bit_at
bit_is x b = refl

-- ---- bits of the operations

and_odd : (x y : ℕ) → bit_and x y % 2 ≡ min (x % 2) (y % 2)
and_odd x y = ap (λ (n : ℕ). n % 2) (and_step x y) ∙ digits_mod (bit_and (x / 2) (y / 2)) (omega arith)

or_odd : (x y : ℕ) → bit_or x y % 2 ≡ max (x % 2) (y % 2)
or_odd x y = ap (λ (n : ℕ). n % 2) (or_step x y) ∙ digits_mod (bit_or (x / 2) (y / 2)) (omega arith)

pub bit_and_lem : (x y b : ℕ) → bit_at (bit_and x y) b ≡ min (bit_at x b) (bit_at y b)
unfolding bit_at
bit_and_lem x y b = ap (λ (n : ℕ). n % 2) (and_shr x y b) ∙ and_odd (x / 2 ^ b) (y / 2 ^ b)

pub bit_or_lem : (x y b : ℕ) → bit_at (bit_or x y) b ≡ max (bit_at x b) (bit_at y b)
unfolding bit_at
bit_or_lem x y b = ap (λ (n : ℕ). n % 2) (or_shr x y b) ∙ or_odd (x / 2 ^ b) (y / 2 ^ b)

pub bit_zero : (x : ℕ) → bit_at x 0 ≡ x % 2
unfolding bit_at
bit_zero x = omega arith

pub bit_suc : (x b : ℕ) → bit_at x (suc b) ≡ bit_at (x / 2) b
unfolding bit_at
bit_suc x b = ap (λ (n : ℕ). x / 2 ^ n % 2) (sym (one-add b)) ∙ ap (λ (n : ℕ). n % 2) (sym (shr-shr x 1 b))

-- the complement of a number of w bits
bit_complement : (w x b : ℕ) → x < 2 ^ w → b < w → bit_at (2 ^ w - 1 - x) b ≡ 1 - bit_at x b
bit_complement zero x b h l = absurd (not-suc-le-zero l)
bit_complement (suc w) x zero h l =
    let p = pow-suc 2 w in
    omega (arith, bit_zero (2 ^ suc w - 1 - x), bit_zero x)
bit_complement (suc w) x (suc b) h l =
    let p = pow-suc 2 w in
    let e : (2 ^ suc w - 1 - x) / 2 ≡ 2 ^ w - 1 - x / 2 = omega arith in
    bit_suc (2 ^ suc w - 1 - x) b ∙ ap (λ (n : ℕ). bit_at n b) e ∙ bit_complement w (x / 2) b (omega arith) (le_of_suc-le-suc l)
    ∙ ap (λ (n : ℕ). 1 - n) (sym (bit_suc x b))

pub bit_not : (x b : ℕ) → x < 256 → b < 8 → bit_at (255 - x) b ≡ 1 - bit_at x b
bit_not x b h l = bit_complement 8 x b h l

pow_half : (j : ℕ) → 2 ^ suc j / 2 ≡ 2 ^ j
pow_half j = let p = pow-suc 2 j in omega arith

-- a number with one bit set has that one, and no other
pub bit_pow_same : (j : ℕ) → bit_at (2 ^ j) j ≡ 1
bit_pow_same zero = bit_zero 1
bit_pow_same (suc j) = bit_suc (2 ^ suc j) j ∙ ap (λ (n : ℕ). bit_at n j) (pow_half j) ∙ bit_pow_same j

bit_none : (b : ℕ) → bit_at 0 b ≡ 0
bit_none zero = bit_zero 0
bit_none (suc b) = bit_suc 0 b ∙ bit_none b

pub bit_pow_other : (j b : ℕ) → (j ≡ b → ⊥) → bit_at (2 ^ j) b ≡ 0
bit_pow_other zero zero differ = absurd (differ refl)
bit_pow_other zero (suc b) differ = bit_suc 1 b ∙ bit_none b
bit_pow_other (suc j) zero differ = let p = pow-suc 2 j in bit_zero (2 ^ suc j) ∙ omega arith
bit_pow_other (suc j) (suc b) differ =
    bit_suc (2 ^ suc j) b ∙ ap (λ (n : ℕ). bit_at n b) (pow_half j) ∙ bit_pow_other j b (λ e. differ (ap suc e))

-- the zeros of a number of w bits are the ones of its complement
pub count_zeros : (w x : ℕ) → x < 2 ^ w → count_below (λ b. eqb (bit_at x b) 0) w ≡ ones (2 ^ w - 1 - x)
count_zeros zero x h = count_none (λ b. eqb (bit_at x b) 0) 0 (λ i l. absurd (not-suc-le-zero l)) ∙ sym (ones_zero (2 ^ 0 - 1 - x) (omega arith))
  where
    ones_zero : (n : ℕ) → n ≡ 0 → ones n ≡ 0
    ones_zero n e = rw e (ones-ones 0)
count_zeros (suc w) x h =
    let p = pow-suc 2 w in
    let y : ℕ = 2 ^ suc w - 1 - x in
    let half : y / 2 ≡ 2 ^ w - 1 - x / 2 = omega arith in
    let rest = count_cong (λ b. eqb (bit_at x (suc b)) 0) (λ b. eqb (bit_at (x / 2) b) 0) w (λ b l. ap (λ (n : ℕ). eqb n 0) (bit_suc x b)) ∙ count_zeros w (x / 2) (omega arith) in
    let first : bit (eqb (bit_at x 0) 0) 1 ≡ y % 2 = first_digit (bit_at x 0) (omega (arith, bit_zero x)) in
    count_first (λ b. eqb (bit_at x b) 0) w ∙ ap₂ (λ (a b : ℕ). a + b) first (rest ∙ ap ones (sym half)) ∙ sym (ones_step y)
  where
    first_digit : (n : ℕ) → n + (2 ^ suc w - 1 - x) % 2 ≡ 1 → bit (eqb n 0) 1 ≡ (2 ^ suc w - 1 - x) % 2
    first_digit zero e = omega arith
    first_digit (suc n) e = rw (ne_eqb (suc n) 0 (λ z. omega arith)) (omega arith)

-- above the w bits of a number there is none
pub bit_above : (w x b : ℕ) → x < 2 ^ w → w ≤ b → bit_at x b ≡ 0
unfolding bit_at
bit_above w x b h l = let none = lt-one (shr_lt {n = x} 0 b (rw (zero-add b) (lt_of_lt_of_le h (pow_mono l)))) in omega arith

-- a number with eight bits set keeps a byte
pub and_full : (x : ℕ) → x < 256 → bit_and x 255 ≡ x
and_full x h = and_mask x 8 ∙ mod-eq_of_lt h

-- two numbers of w bits with the same bits are equal
pub bits_ext : (w x y : ℕ) → x < 2 ^ w → y < 2 ^ w → ((b : ℕ) → b < w → bit_at x b ≡ bit_at y b) → x ≡ y
bits_ext zero x y h g same = lt-one h ∙ sym (lt-one g)
bits_ext (suc w) x y h g same =
    let p = pow-suc 2 w in
    let half : x / 2 ≡ y / 2 =
    bits_ext w (x / 2) (y / 2) (omega arith) (omega arith) (λ b l. sym (bit_suc x b) ∙ same (suc b) (suc-le-suc l) ∙ bit_suc y b) in
    let odd : x % 2 ≡ y % 2 = sym (bit_zero x) ∙ same zero (zero-lt-suc w) ∙ bit_zero y in
    omega arith

-- ---- laws of `bit_and` and `bit_or`

min_assoc : (x y z : ℕ) → min (min x y) z ≡ min x (min y z)
min_assoc x y z = omega arith

min_max : (x y z : ℕ) → min (max x y) z ≡ max (min x z) (min y z)
min_max x y z = omega arith

pub and_assoc : (x y z : ℕ) → bit_and (bit_and x y) z ≡ bit_and x (bit_and y z)
and_assoc x =
    bin_ind (λ (n : ℕ). (y z : ℕ) → bit_and (bit_and n y) z ≡ bit_and n (bit_and y z)) (λ y z. refl)
    (λ n ih y z. and_step (bit_and n y) z
    ∙ ap₂ (λ (h o : ℕ). bit_and h (z / 2) * 2 + min o (z % 2)) (and_shr n y 1) (and_odd n y)
    ∙ ap₂ (λ (h o : ℕ). h * 2 + o) (ih (y / 2) (z / 2)) (min_assoc (n % 2) (y % 2) (z % 2))
    ∙ sym (ap₂ (λ (h o : ℕ). bit_and (n / 2) h * 2 + min (n % 2) o) (and_shr y z 1) (and_odd y z))
    ∙ sym (and_step n (bit_and y z))) x

-- programmed twice is programmed once
pub and_again : (x d : ℕ) → bit_and (bit_and x d) d ≡ bit_and x d
and_again x d = and_assoc x d d ∙ ap (bit_and x) (and_self d)

pub and_or : (x y z : ℕ) → bit_and (bit_or x y) z ≡ bit_or (bit_and x z) (bit_and y z)
and_or x y z =
    bin_ind (λ (n : ℕ). (x y : ℕ) → bit_and (bit_or x y) n ≡ bit_or (bit_and x n) (bit_and y n))
    (λ x y. and_zero_r (bit_or x y) ∙ sym (ap₂ bit_or (and_zero_r x) (and_zero_r y)))
    (λ n ih x y. and_step (bit_or x y) n
    ∙ ap₂ (λ (h o : ℕ). bit_and h (n / 2) * 2 + min o (n % 2)) (or_shr x y 1) (or_odd x y)
    ∙ ap₂ (λ (h o : ℕ). h * 2 + o) (ih (x / 2) (y / 2)) (min_max (x % 2) (y % 2) (n % 2))
    ∙ sym (or_step (bit_and x n) (bit_and y n)
    ∙ ap₂ (λ (h o : ℕ). h * 2 + o) (ap₂ bit_or (and_shr x n 1) (and_shr y n 1)) (ap₂ max (and_odd x n) (and_odd y n)))) z x y

-- ---- no bit rises: a bit that is 1 in the new number is 1 in the old

abbrev pub NoRise : ℕ → ℕ → Type 0
NoRise old new = bit_and new old ≡ new

pub no_rise_bit : (old new b : ℕ) → NoRise old new → bit_at old b ≡ 0 → bit_at new b ≡ 0
no_rise_bit old new b h z = sym (ap (λ (n : ℕ). bit_at n b) h) ∙ bit_and_lem new old b ∙ omega arith

pub no_rise_refl : (x : ℕ) → NoRise x x
no_rise_refl x = and_self x

pub no_rise_trans : (x y z : ℕ) → NoRise x y → NoRise y z → NoRise x z
no_rise_trans x y z h g = ap (λ (n : ℕ). bit_and n x) (sym g) ∙ and_assoc z y x ∙ ap (bit_and z) h ∙ g

-- "old AND new"
pub no_rise_and : (x d : ℕ) → NoRise x (bit_and x d)
no_rise_and x d = and_comm (bit_and x d) x ∙ sym (and_assoc x x d) ∙ ap (λ (n : ℕ). bit_and n d) (and_self x)

-- some bits of a number that has not risen
pub no_rise_part : (old new d : ℕ) → NoRise old new → NoRise old (bit_and new d)
no_rise_part old new d h = no_rise_trans old new (bit_and new d) h (no_rise_and new d)

pub no_rise_or : (old x y : ℕ) → NoRise old x → NoRise old y → NoRise old (bit_or x y)
no_rise_or old x y h g = and_or x y old ∙ ap₂ bit_or h g

-- a bit that is 1 in the new number of w bits and 0 in the old
pub record Rise (w old new : ℕ) : Type 0 where
  pub place : ℕ
  pub below : place < w
  pub wanted : bit_at new place ≡ 1
  pub missing : bit_at old place ≡ 0

abbrev rising : ℕ → ℕ → ℕ → Bool
rising old new b = eqb (bit_at new b) 1 && eqb (bit_at old b) 0

-- where "no bit rises" fails, one does
pub some_rise : (w old new : ℕ) → new < 2 ^ w → (NoRise old new → ⊥) → Rise w old new
some_rise w old new h fails = ⊎_elim (λ p. risen p) (λ none. absurd (fails (same none))) (some_passes (rising old new) w)
  where
    risen : Passing (rising old new) w → Rise w old new
    risen p = record {
      place = p.place;
      below = p.below;
      wanted = eqb-true (bit_at new p.place) 1 (and_l (eqb (bit_at new p.place) 1) (eqb (bit_at old p.place) 0) p.passes);
      missing = eqb-true (bit_at old p.place) 0 (and_r (eqb (bit_at new p.place) 1) (eqb (bit_at old p.place) 0) p.passes);
    }

    kept : (b : ℕ) → rising old new b ≡ false → min (bit_at new b) (bit_at old b) ≡ bit_at new b
    kept b e =
        cases (eqb (bit_at new b) 1)
        (λ t. let one = eqb-true (bit_at new b) 1 t in
        let some = eqb-false (bit_at old b) 0 (and_off (eqb (bit_at new b) 1) (eqb (bit_at old b) 0) e t) in
        omega (arith, bit_lt old b))
        (λ t. let none = eqb-false (bit_at new b) 1 t in omega (arith, bit_lt new b))

    same : ((b : ℕ) → b < w → rising old new b ≡ false) → NoRise old new
    same none =
        bits_ext w (bit_and new old) new (omega (arith, and_le_l new old)) h (λ b l. bit_and_lem new old b ∙ kept b (none b l))

-- ---- lists of bytes

-- by the places that it has
pub bytes_within : (l : List ℕ) → ((k : ℕ) → k < length l → get_or l k 0 < 256) → Bytes l
bytes_within l h k = ⊎_elim (λ lt. h k lt) (λ ge. rw (get_or-eq_default l 0 {n = k} ge) (omega arith)) (split k (length l))

pub bytes_drop : (n : ℕ) (l : List ℕ) → Bytes l → Bytes (drop n l)
bytes_drop n l b k = rw (get_or-drop n l k 0) (b (n + k))
