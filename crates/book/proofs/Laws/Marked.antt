-- The used bytes with scenes turned read: their length, that they are bytes, and each bit.
-- Assumes nothing.
use mathlib.Core.Path.{◌≡◌, refl, ap, ◌∙◌}
use mathlib.Core.Bool.{cond}
use mathlib.Core.List.{List, [], ◌∷◌}
use mathlib.Core.Logic.{⊎_elim}
use Prim.Native.Nat.{ℕ, ◌+◌, ◌-◌, ◌*◌, ◌/◌, ◌%◌, ◌^◌, ◌≤◌, ◌<◌, min}
use native.Mathlib.Numerals.{add-one}
use native.Mathlib.Omega.{arith}
use lib.Bits.{bit_and, and_le_l}
use lib.Dec.{eqb}
use lib.ListN.{length, get_or, set, drop, length-set, drop_of_length-le}
use lib.Pow.{pow-lt}
use lib.Seq.{drop-cons, set_out, get_or-set_same, get_or-set_other}
use borrow.Author.Tests.{eqb-true, eqb-false}
use Rattle.common.specs.Bits.{Bytes, bit_at}
use Rattle.common.proofs.Laws.Bits.{bit_lt, bit_and_lem, bit_not, bit_pow_same, bit_pow_other}
use Rattle.common.proofs.Laws.Choice.{cond_same, cases}
use Rattle.common.proofs.Laws.Lists.{split}
use Rattle.book.specs.Book.{marked_scene, marked, is_listed}
use Rattle.book.proofs.Laws.Listed.{listed_none, listed_first}

-- ---- one scene

-- the mask that keeps all bits of a byte but one
module _ (j : ℕ) (small : j < 8) where
  power_small : 2 ^ j < 256
  power_small = pow-lt {i = j} {j = 8} small

  pub mask_same : bit_at (255 - 2 ^ j) j ≡ 0
  mask_same = bit_not (2 ^ j) j power_small small ∙ ap (λ (n : ℕ). 1 - n) (bit_pow_same j)

  pub mask_other : (b : ℕ) → b < 8 → (j ≡ b → ⊥) → bit_at (255 - 2 ^ j) b ≡ 1
  mask_other b l differ = bit_not (2 ^ j) b power_small l ∙ ap (λ (n : ℕ). 1 - n) (bit_pow_other j b differ)

module _ (scene : ℕ) (used : List ℕ) where
  pub length_marked_scene : length (marked_scene scene used) ≡ length used
  unfolding marked_scene
  length_marked_scene = length-set used (scene / 8) _

  -- as a shift makes it
  pub marked_shifted : set used (scene / 8) (bit_and (get_or used (scene / 8) 0) (255 - 1 * 2 ^ (scene % 8) % 256)) ≡ marked_scene scene used
  unfolding marked_scene
  marked_shifted =
      let shifted : 1 * 2 ^ (scene % 8) % 256 ≡ 2 ^ (scene % 8) = omega (arith, power_small (scene % 8) (omega arith)) in
      ap (λ (m : ℕ). set used (scene / 8) (bit_and (get_or used (scene / 8) 0) (255 - m))) shifted

  marked_scene_same : scene / 8 < length used → get_or (marked_scene scene used) (scene / 8) 0 ≡ bit_and (get_or used (scene / 8) 0) (255 - 2 ^ (scene % 8))
  unfolding marked_scene
  marked_scene_same h = get_or-set_same used (scene / 8) _ 0 h

  marked_scene_other : (k : ℕ) → (k ≡ scene / 8 → ⊥) → get_or (marked_scene scene used) k 0 ≡ get_or used k 0
  unfolding marked_scene
  marked_scene_other k differ = get_or-set_other used (scene / 8) k _ 0 differ

  masked : scene / 8 < length used → (b : ℕ)
      → bit_at (get_or (marked_scene scene used) (scene / 8) 0) b ≡ min (bit_at (get_or used (scene / 8) 0) b) (bit_at (255 - 2 ^ (scene % 8)) b)
  masked h b = ap (λ (x : ℕ). bit_at x b) (marked_scene_same h) ∙ bit_and_lem (get_or used (scene / 8) 0) (255 - 2 ^ (scene % 8)) b

  marked_scene_bytes : Bytes used → Bytes (marked_scene scene used)
  unfolding marked_scene
  marked_scene_bytes bytes k =
      cases (eqb k (scene / 8))
      (λ t. ⊎_elim
      (λ h. rw (eqb-true k (scene / 8) t, marked_scene_same h) (omega (arith, and_le_l (get_or used (scene / 8) 0) (255 - 2 ^ (scene % 8)), bytes (scene / 8))))
      (λ h. rw (out h) (bytes k)) (split (scene / 8) (length used)))
      (λ f. rw (marked_scene_other k (eqb-false k (scene / 8) f)) (bytes k))
    where
      out : length used ≤ scene / 8 → marked_scene scene used ≡ used
      out h = set_out used (scene / 8) _ h

  -- its own bit is 0
  marked_scene_own : (k b : ℕ) → k < length used → b < 8 → scene ≡ k * 8 + b → bit_at (get_or (marked_scene scene used) k 0) b ≡ 0
  marked_scene_own k b h l e =
      let place : k ≡ scene / 8 = omega arith in
      let digit : b ≡ scene % 8 = omega arith in
      let inside : scene / 8 < length used = omega arith in
      rw (place, digit) (masked inside (scene % 8) ∙ omega (arith, mask_same (scene % 8) (omega arith)))

  -- every other is as it was
  marked_scene_else : (k b : ℕ) → k < length used → b < 8 → (scene ≡ k * 8 + b → ⊥) → bit_at (get_or (marked_scene scene used) k 0) b ≡ bit_at (get_or used k 0) b
  marked_scene_else k b h l differ =
      cases (eqb k (scene / 8))
      (λ t. let place = eqb-true k (scene / 8) t in
      let inside : scene / 8 < length used = omega arith in
      let other : scene % 8 ≡ b → ⊥ = λ digit. differ (omega arith) in
      rw place (masked inside b ∙ omega (arith, mask_other (scene % 8) (omega arith) b l other, bit_lt (get_or used (scene / 8) 0) b)))
      (λ f. ap (λ (x : ℕ). bit_at x b) (marked_scene_other k (eqb-false k (scene / 8) f)))

-- ---- a list of them

-- a walk over the list at its turn i
module _ (scenes used : List ℕ) (i : ℕ) where
  pub marked_turn : i < length scenes → marked (drop i scenes) used ≡ marked (drop (i + 1) scenes) (marked_scene (get_or scenes i 0) used)
  unfolding marked
  marked_turn h = rw (drop-cons scenes i 0 h, add-one i) refl

  pub marked_end : length scenes ≤ i → marked (drop i scenes) used ≡ used
  unfolding marked
  marked_end h = rw (drop_of_length-le scenes h) refl

pub length_marked : (scenes used : List ℕ) → length (marked scenes used) ≡ length used
unfolding marked
length_marked [] used = refl
length_marked (scene ∷ scenes) used = length_marked scenes (marked_scene scene used) ∙ length_marked_scene scene used

pub marked_bytes : (scenes used : List ℕ) → Bytes used → Bytes (marked scenes used)
unfolding marked
marked_bytes [] used bytes = bytes
marked_bytes (scene ∷ scenes) used bytes = marked_bytes scenes (marked_scene scene used) (marked_scene_bytes scene used bytes)

-- the bits of the listed scenes are 0, all others as they were
pub marked_bit : (scenes used : List ℕ) (k b : ℕ) → k < length used → b < 8
    → bit_at (get_or (marked scenes used) k 0) b ≡ cond (is_listed (k * 8 + b) scenes) 0 (bit_at (get_or used k 0) b)
unfolding marked
marked_bit [] used k b h l = rw (listed_none (k * 8 + b)) refl
marked_bit (scene ∷ scenes) used k b h l =
    let others = marked_bit scenes (marked_scene scene used) k b (rw (length_marked_scene scene used) h) l in
    rw (listed_first (k * 8 + b) scene scenes)
    (cases (eqb scene (k * 8 + b))
    (λ t. rw t (others ∙ ap (cond (is_listed (k * 8 + b) scenes) 0) (marked_scene_own scene used k b h l (eqb-true scene (k * 8 + b) t)) ∙ cond_same (is_listed (k * 8 + b) scenes) 0))
    (λ f. rw f (others ∙ ap (cond (is_listed (k * 8 + b) scenes) 0) (marked_scene_else scene used k b h l (eqb-false scene (k * 8 + b) f)))))
