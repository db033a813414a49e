-- The laws of `used_length`: all behind it is FF, the byte before its end is not, and that fixes it.
-- Assumes nothing.
use mathlib.Core.Path.{◌≡◌, refl, sym, ap, ◌∙◌}
use mathlib.Core.Bool.{◌&&◌, true≢false}
use mathlib.Core.List.{List, [], ◌∷◌, ◌++◌}
use mathlib.Core.Logic.{⊎_elim}
use Prim.Native.Nat.{ℕ, zero, suc, ◌+◌, ◌-◌, ◌≤◌, ◌<◌}
use native.Mathlib.Omega.{arith}
use lib.Dec.{eqb}
use lib.ListN.{length, get_or, take, drop, replicate, length-drop, length-replicate, get_or-replicate, take-append-drop, length-append}
use lib.Seq.{length-take-le, get_or-drop, ext_get_or, get_or-take, take-take, take-length, take-append-le}
use borrow.Author.Tests.{eqb-true, eq-eqb}
use Rattle.common.proofs.Laws.Booleans.{and_l, and_r, and_i}
use Rattle.common.proofs.Laws.Choice.{cases}
use Rattle.common.proofs.Laws.Lists.{split, get_d_front, get_d_behind}
use Rattle.salvage.specs.Pieces.{used_on, used_length, used_part}

-- so many bytes are used: FF from there on, and the byte before is none
pub record Used (image : List ℕ) (used : ℕ) : Type 0 where
  pub inside : used ≤ length image
  pub erased : (k : ℕ) → used ≤ k → k < length image → get_or image k 0 ≡ 0xff
  pub last : (k : ℕ) → suc k ≡ used → get_or image k 0 ≡ 0xff → ⊥

on_erased : (x used : ℕ) → used ≡ 0 → x ≡ 0xff → used_on x used ≡ 0
on_erased x used e f = rw (e, f) refl

on_used : (x used : ℕ) → (used ≡ 0 → x ≡ 0xff → ⊥) → used_on x used ≡ suc used
on_used x used h =
    cases (eqb used 0 && eqb x 0xff)
    (λ t. absurd (h (eqb-true used 0 (and_l (eqb used 0) (eqb x 0xff) t)) (eqb-true x 0xff (and_r (eqb used 0) (eqb x 0xff) t))))
    (λ t. rw t refl)

-- ---- it is so

erased_more : (x : ℕ) (bytes : List ℕ) → Used bytes 0 → x ≡ 0xff → Used (x ∷ bytes) 0
erased_more x bytes u e = record { inside = omega arith; erased = at; last = λ k h. absurd (omega arith) }
  where
    at : (k : ℕ) → 0 ≤ k → k < length (x ∷ bytes) → get_or (x ∷ bytes) k 0 ≡ 0xff
    at zero a b = e
    at (suc k) a b = u.erased k (omega arith) (omega arith)

used_more : (x : ℕ) (bytes : List ℕ) (used : ℕ) → Used bytes used → (used ≡ 0 → x ≡ 0xff → ⊥) → Used (x ∷ bytes) (suc used)
used_more x bytes used u h = record { inside = omega (arith, u.inside); erased = at; last = before }
  where
    at : (k : ℕ) → suc used ≤ k → k < length (x ∷ bytes) → get_or (x ∷ bytes) k 0 ≡ 0xff
    at zero a b = absurd (omega arith)
    at (suc k) a b = u.erased k (omega arith) (omega arith)

    before : (k : ℕ) → suc k ≡ suc used → get_or (x ∷ bytes) k 0 ≡ 0xff → ⊥
    before zero e q = h (omega arith) q
    before (suc k) e q = u.last k (omega arith) q

pub used_is : (image : List ℕ) → Used image (used_length image)
unfolding used_length
used_is [] = record { inside = omega arith; erased = λ k a b. absurd (omega arith); last = λ k h. absurd (omega arith) }
used_is (x ∷ bytes) = by (used_is bytes)
  where
    by : Used bytes (used_length bytes) → Used (x ∷ bytes) (used_on x (used_length bytes))
    by u =
        cases (eqb (used_length bytes) 0 && eqb x 0xff)
        (λ t.
        let none : used_length bytes ≡ 0 = eqb-true (used_length bytes) 0 (and_l (eqb (used_length bytes) 0) (eqb x 0xff) t) in
        let erased : x ≡ 0xff = eqb-true x 0xff (and_r (eqb (used_length bytes) 0) (eqb x 0xff) t) in
        rw (on_erased x (used_length bytes) none erased) (erased_more x bytes (rw none at u) erased))
        (λ t.
        let some : used_length bytes ≡ 0 → x ≡ 0xff → ⊥ = λ e f. true≢false (sym (and_i (eq-eqb (used_length bytes) 0 e) (eq-eqb x 0xff f)) ∙ t) in
        rw (on_used x (used_length bytes) some) (used_more x bytes (used_length bytes) u some))

-- ---- and that fixes it

pub used_determined : (image : List ℕ) (m n : ℕ) → Used image m → Used image n → m ≡ n
used_determined image m n a b =
    ⊎_elim (λ less. absurd (shorter m n a b less)) (λ rest. ⊎_elim (λ less. absurd (shorter n m b a less)) (λ other. omega arith) (split n m)) (split m n)
  where
    shorter : (m n : ℕ) → Used image m → Used image n → m < n → ⊥
    shorter m zero a b h = omega arith
    shorter m (suc n) a b h = b.last n refl (a.erased n (omega arith) (omega (arith, b.inside)))

pub used_exactly : (image : List ℕ) (used : ℕ) → Used image used → used ≡ used_length image
used_exactly image used u = used_determined image used (used_length image) u (used_is image)

-- ---- the bytes before it

pub used_part_length : (image : List ℕ) → length (used_part image) ≡ used_length image
unfolding used_part
used_part_length image = length-take-le (used_length image) image (used_is image).inside

-- an image is these, and then FF
pub used_split : (image : List ℕ) → image ≡ used_part image ++ replicate (length image - used_length image) 0xff
unfolding used_part
used_split image = sym (take-append-drop (used_length image) image) ∙ ap (λ (l : List ℕ). take (used_length image) image ++ l) tail
  where
    tail : drop (used_length image) image ≡ replicate (length image - used_length image) 0xff
    tail =
        ext_get_or 0 (drop (used_length image) image) (replicate (length image - used_length image) 0xff)
        (length-drop (used_length image) image ∙ sym (length-replicate {A = ℕ} (length image - used_length image) 0xff))
        (λ i h.
        let below : i < length image - used_length image = omega (arith, length-drop (used_length image) image) in
        get_or-drop (used_length image) image i 0 ∙ (used_is image).erased (used_length image + i) (omega arith) (omega (arith, below))
        ∙ sym (get_or-replicate (length image - used_length image) i 0xff 0 below))

-- a last byte that is not FF: all of it is used
pub used_part_all : (image : List ℕ) → ((k : ℕ) → suc k ≡ length image → get_or image k 0 ≡ 0xff → ⊥) → used_part image ≡ image
unfolding used_part
used_part_all image last =
    let all : length image ≡ used_length image =
    used_exactly image (length image) record { inside = omega arith; erased = λ k from below. absurd (omega arith); last = last } in
    rw (sym all) (take-length image)

-- FF behind an image change nothing
pub used_part_erased : (image : List ℕ) (m : ℕ) → used_part (image ++ replicate m 0xff) ≡ used_part image
unfolding used_part
used_part_erased image m = rw (sym same) (take-append-le (used_length image) image (replicate m 0xff) u.inside)
  where
    u : Used image (used_length image)
    u = used_is image

    long : length (image ++ replicate m 0xff) ≡ length image + m
    long = omega (arith, length-append image (replicate m 0xff), length-replicate {A = ℕ} m 0xff)

    at : (k : ℕ) → used_length image ≤ k → k < length (image ++ replicate m 0xff) → get_or (image ++ replicate m 0xff) k 0 ≡ 0xff
    at k from below =
        ⊎_elim (λ first. get_d_front image (replicate m 0xff) k first ∙ u.erased k from first)
        (λ later. get_d_behind image (replicate m 0xff) k later ∙ get_or-replicate m (k - length image) 0xff 0 (omega (arith, below, long))) (split k (length image))

    same : used_length image ≡ used_length (image ++ replicate m 0xff)
    same = used_exactly (image ++ replicate m 0xff) (used_length image) record {
      inside = omega (arith, u.inside, long);
      erased = at;
      last = λ k e q. u.last k e (sym (get_d_front image (replicate m 0xff) k (omega (arith, u.inside))) ∙ q);
    }

-- ---- looked for from the end

-- FF from here on
pub record ErasedFrom (image : List ℕ) (used : ℕ) : Type 0 where
  pub inside : used ≤ length image
  pub erased : (k : ℕ) → used ≤ k → k < length image → get_or image k 0 ≡ 0xff

module _ (image : List ℕ) where
  pub erased_start : ErasedFrom image (length image)
  erased_start = record { inside = omega arith; erased = λ k a b. absurd (omega arith) }

  module _ (used : ℕ) (f : ErasedFrom image used) where
    pub erased_turn : 0 < used → get_or image (used - 1) 0 ≡ 0xff → ErasedFrom image (used - 1)
    erased_turn h e = record {
      inside = omega (arith, f.inside);
      erased = λ k a b. ⊎_elim (λ less. let here : k ≡ used - 1 = omega arith in rw here e) (λ from. f.erased k from b) (split k used);
    }

    pub erased_found : 0 < used → (get_or image (used - 1) 0 ≡ 0xff → ⊥) → used ≡ used_length image
    erased_found h e = used_exactly image used record {
      inside = f.inside;
      erased = f.erased;
      last = λ k q v. let here : k ≡ used - 1 = omega arith in e (rw here at v);
    }

    pub erased_all : used ≤ 0 → 0 ≡ used_length image
    erased_all h =
        let zero_is : used ≡ 0 = omega arith in
        sym zero_is ∙ used_exactly image used record { inside = f.inside; erased = f.erased; last = λ k q. absurd (omega arith) }

-- a front of it, with FF behind
pub record ErasedBehind (image used : List ℕ) : Type 0 where
  pub front : used ≡ take (length used) image
  pub erased : ErasedFrom image (length used)

pub behind_start : (image : List ℕ) → ErasedBehind image image
behind_start image = record { front = sym (take-length image); erased = erased_start image }

module _ (image used : List ℕ) (b : ErasedBehind image used) where
  used_there : (k : ℕ) → k < length used → get_or used k 0 ≡ get_or image k 0
  used_there k h = ap (λ (l : List ℕ). get_or l k 0) b.front ∙ get_or-take (length used) image k 0 h

  part_there : length used ≡ used_length image → used ≡ used_part image
  unfolding used_part
  part_there e = b.front ∙ ap (λ (n : ℕ). take n image) e

  pub behind_turn : 1 ≤ length used → get_or used (length used - 1) 0 ≡ 0xff → ErasedBehind image (take (length used - 1) used)
  behind_turn h last =
      let shorter : length (take (length used - 1) used) ≡ length used - 1 = length-take-le (length used - 1) used (omega arith) in
      record {
        front = rw shorter (ap (take (length used - 1)) b.front ∙ take-take (length used - 1) (length used) image (omega arith));
        erased = rw shorter (erased_turn image (length used) b.erased (omega arith) (sym (used_there (length used - 1) (omega arith)) ∙ last));
      }

  pub behind_all : length used < 1 → used ≡ used_part image
  behind_all h = let none : length used ≡ 0 = omega arith in part_there (none ∙ erased_all image (length used) b.erased (omega arith))

  pub behind_found : 1 ≤ length used → (get_or used (length used - 1) 0 ≡ 0xff → ⊥) → used ≡ used_part image
  behind_found h last = part_there (erased_found image (length used) b.erased (omega arith) (λ e. last (used_there (length used - 1) (omega arith) ∙ e)))
