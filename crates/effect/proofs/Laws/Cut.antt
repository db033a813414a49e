-- A cut bit by bit: each bit of a touched byte is the new one where the mask has 1 and the old one where it has 0.
-- A mask of FFs leaves what the whole frame leaves, and one of 00s what was there before.
-- Assumes nothing.
use mathlib.Core.Path.{◌≡◌, refl, sym, ap, ap₂, ◌∙◌}
use mathlib.Core.Bool.{true, cond}
use mathlib.Core.List.{List}
use mathlib.Core.Logic.{◌⊎◌, inl, inr, ⊎_elim}
use Prim.Native.Nat.{ℕ, ◌-◌, ◌<◌, min, max}
use native.Mathlib.Nat.{lt_of_le_of_lt}
use native.Mathlib.Omega.{arith}
use lib.Bits.{bit_and, bit_or, and_comm, and_le_l, or_lt, and_zero_r, or_zero_l, or_zero_r}
use lib.Dec.{eqb}
use lib.ListN.{get_or, replicate, get_or-replicate, get_or-eq_default, length-replicate}
use borrow.Author.Tests.{eqb-true, eqb-false}
use Rattle.common.specs.Lists.{mapi}
use Rattle.common.proofs.Laws.Choice.{cond_elim, cases}
use Rattle.common.proofs.Laws.Lists.{split, mapi_cong, mapi_id}
use Rattle.effect.specs.declared.Effect.{Effect}
use Rattle.effect.specs.declared.Effect.TheVariants.{Keep, Fill, Program, Round}
use Rattle.effect.specs.Effect.{touches, struck, changed, mask_length}
use Rattle.effect.specs.Cut.{mixed, mask_place, cut}
use Rattle.common.specs.Bits.{Bytes, bit_at}
use Rattle.common.proofs.Laws.Bits.{bit_lt, bit_and_lem, bit_or_lem, bit_not, bits_ext, and_full, and_assoc, and_or}
use Rattle.effect.proofs.Laws.Effect.{changed_touched, changed_other, cut_touched, cut_other}
use Rattle.effect.proofs.Laws.Mask.{mask_place_lt}

-- ---- one byte

-- of one bit: the mask's, the old and the new
abbrev mixed_bit : ℕ → ℕ → ℕ → ℕ
mixed_bit m o n = max (min n m) (min o (1 - m))

mixed_bit_lem : (m o n : ℕ) → m < 2 → o < 2 → n < 2 → mixed_bit m o n ≡ cond (eqb m 1) n o
mixed_bit_lem m o n hm ho hn =
    cond_elim (λ (x : ℕ). mixed_bit m o n ≡ x) (eqb m 1) (λ e. omega (arith, eqb-true m 1 e)) (λ e. omega (arith, eqb-false m 1 e))

-- "takes its new bit where the mask has 1 and keeps the old where it has 0"
bit_mixed : (mask old new b : ℕ) → mask < 256 → b < 8 → bit_at (mixed mask old new) b ≡ cond (eqb (bit_at mask b) 1) (bit_at new b) (bit_at old b)
unfolding mixed
bit_mixed mask old new b h l =
    bit_or_lem (bit_and new mask) (bit_and old (255 - mask)) b
    ∙ ap₂ max (bit_and_lem new mask b) (bit_and_lem old (255 - mask) b ∙ ap (min (bit_at old b)) (bit_not mask b h l))
    ∙ mixed_bit_lem (bit_at mask b) (bit_at old b) (bit_at new b) (bit_lt mask b) (bit_lt old b) (bit_lt new b)

mixed_all : (old new : ℕ) → new < 256 → mixed 255 old new ≡ new
unfolding mixed
mixed_all old new h = ap₂ bit_or (and_full new h) (and_zero_r old) ∙ or_zero_r new

mixed_none : (old new : ℕ) → old < 256 → mixed 0 old new ≡ old
unfolding mixed
mixed_none old new h = ap₂ bit_or (and_zero_r new) (and_full old h) ∙ or_zero_l old

mixed_lt : (mask old new : ℕ) → old < 256 → new < 256 → mixed mask old new < 256
unfolding mixed
mixed_lt mask old new h g =
    or_lt 8 (bit_and new mask) (bit_and old (255 - mask)) (omega (arith, and_le_l new mask)) (omega (arith, and_le_l old (255 - mask)))

-- a byte mixed with itself
pub mixed_same : (mask x : ℕ) → mask < 256 → x < 256 → mixed mask x x ≡ x
mixed_same mask x h l =
    bits_ext 8 (mixed mask x x) x (mixed_lt mask x x l l) l
    (λ b i. bit_mixed mask x x b h i ∙ cond_elim (λ (n : ℕ). n ≡ bit_at x b) (eqb (bit_at mask b) 1) (λ _. refl) (λ _. refl))

-- some bits of a mixture are the mixture of theirs
pub mixed_and : (mask old new d : ℕ) → bit_and (mixed mask old new) d ≡ mixed mask (bit_and old d) (bit_and new d)
unfolding mixed
mixed_and mask old new d =
    and_or (bit_and new mask) (bit_and old (255 - mask)) d ∙ ap₂ bit_or (turned new mask) (turned old (255 - mask))
  where
    turned : (x m : ℕ) → bit_and (bit_and x m) d ≡ bit_and (bit_and x d) m
    turned x m = and_assoc x m d ∙ ap (bit_and x) (and_comm m d) ∙ sym (and_assoc x d m)

-- ---- bytes stay bytes

struck_lt : (e : Effect) (f : List ℕ) (k x : ℕ) → x < 256 → struck e f k x < 256
unfolding struck
struck_lt Keep f k x h = h
struck_lt (Fill a n) f k x h = omega arith
struck_lt (Program a n i) f k x h = lt_of_le_of_lt (and_le_l x _) h
struck_lt (Round a n) f k x h = lt_of_le_of_lt (and_le_l x _) h

-- ---- the byte at an address

module _ (e : Effect) (f mask : List ℕ) (k x : ℕ) where
  pub cut_bit : (b : ℕ) → touches e k ≡ true → get_or mask (mask_place e k) 0 < 256 → b < 8
      → bit_at (cut e f mask k x) b ≡ cond (eqb (bit_at (get_or mask (mask_place e k) 0) b) 1) (bit_at (changed e f k x) b) (bit_at x b)
  cut_bit b t h l =
      rw (cut_touched e f k x mask t, changed_touched e f k x t) (bit_mixed (get_or mask (mask_place e k) 0) x (struck e f k x) b h l)

  -- each bit is the new one or the old one
  pub cut_between : (b : ℕ) → get_or mask (mask_place e k) 0 < 256 → b < 8
      → (bit_at (cut e f mask k x) b ≡ bit_at (changed e f k x) b) ⊎ (bit_at (cut e f mask k x) b ≡ bit_at x b)
  cut_between b h l =
      cases (touches e k)
      (λ t. rw (cut_bit b t h l) (cond_elim (λ (n : ℕ). (n ≡ bit_at (changed e f k x) b) ⊎ (n ≡ bit_at x b)) (eqb (bit_at (get_or mask (mask_place e k) 0) b) 1)
      (λ _. inl refl) (λ _. inr refl)))
      (λ t. inr (ap (λ (n : ℕ). bit_at n b) (cut_other e f k x mask t)))

-- ---- the whole array

-- masks of n bytes
abbrev pub ones : ℕ → List ℕ
ones n = replicate n 255

abbrev pub zeros : ℕ → List ℕ
zeros n = replicate n 0

pub cut_all : (e : Effect) (f array : List ℕ) → Bytes array → mapi (cut e f (ones (mask_length e))) array ≡ mapi (changed e f) array
cut_all e f array bytes = mapi_cong (cut e f (ones (mask_length e))) (changed e f) array (λ k b. at k (get_or array k 0) (bytes k))
  where
    at : (k x : ℕ) → x < 256 → cut e f (ones (mask_length e)) k x ≡ changed e f k x
    at k x h =
        cases (touches e k)
        (λ t. cut_touched e f k x (ones (mask_length e)) t
        ∙ rw (get_or-replicate {A = ℕ} (mask_length e) (mask_place e k) 255 0 (mask_place_lt e k t)) (mixed_all x (struck e f k x) (struck_lt e f k x h))
        ∙ sym (changed_touched e f k x t))
        (λ t. cut_other e f k x (ones (mask_length e)) t ∙ sym (changed_other e f k x t))

get_d_zeros : (n i : ℕ) → get_or (zeros n) i 0 ≡ 0
get_d_zeros n i = ⊎_elim (get_or-replicate {A = ℕ} n i 0 0) (λ l. get_or-eq_default (zeros n) 0 (rw (length-replicate {A = ℕ} n 0) l)) (split i n)

pub cut_none : (e : Effect) (f array : List ℕ) (n : ℕ) → Bytes array → mapi (cut e f (zeros n)) array ≡ array
cut_none e f array n bytes = mapi_id (cut e f (zeros n)) array (λ k b. at k (get_or array k 0) (bytes k))
  where
    at : (k x : ℕ) → x < 256 → cut e f (zeros n) k x ≡ x
    at k x h =
        cases (touches e k)
        (λ t. cut_touched e f k x (zeros n) t ∙ rw (get_d_zeros n (mask_place e k)) (mixed_none x (struck e f k x) h))
        (cut_other e f k x (zeros n))
