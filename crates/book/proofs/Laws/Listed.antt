-- Lists of scenes, one entry at a time: which has one over 4,095, and which has a scene.
-- Assumes nothing.
use mathlib.Core.Path.{◌≡◌, refl, ap}
use mathlib.Core.Bool.{Bool, true, false, false≢true, ◌||◌}
use mathlib.Core.List.{List, [], ◌∷◌}
use Prim.Native.Nat.{ℕ, zero, suc, ◌+◌, ◌≤◌, ◌<◌}
use native.Mathlib.Numerals.{add-one}
use native.Mathlib.Omega.{arith}
use lib.Dec.{eqb, ltb}
use lib.ListN.{length, get_or, drop, drop_of_length-le}
use lib.Seq.{drop-cons}
use borrow.Author.Tests.{eq-eqb, eqb-true, ltb-false}
use Rattle.std.specs.List.{list_any}
use Rattle.common.specs.Refusals.{Exactly}
use Rattle.common.proofs.Laws.Booleans.{or_imp, or_none_l, or_none_r, or_true, or_false}
use Rattle.common.proofs.Laws.Choice.{cases}
use Rattle.common.proofs.Laws.Places.{Passing}
use Rattle.book.specs.Book.{is_listed}
use Rattle.book.specs.Refusals.{has_over}

-- ---- a scene over 4,095

pub over_none : has_over [] ≡ false
unfolding has_over
over_none = refl

pub over_one : (scene : ℕ) → has_over (scene ∷ []) ≡ ltb 4095 scene
unfolding has_over
over_one scene = or_false (ltb 4095 scene)

module _ (scenes : List ℕ) (i : ℕ) where
  -- a search at its turn i: the entry is over, or it is not, or there is none left
  pub over_found : i < length scenes → ltb 4095 (get_or scenes i 0) ≡ true → has_over (drop i scenes) ≡ true
  unfolding has_over
  over_found h e = rw (drop-cons scenes i 0 h, e) refl

  pub over_turn : i < length scenes → ltb 4095 (get_or scenes i 0) ≡ false → has_over (drop i scenes) ≡ has_over (drop (i + 1) scenes)
  unfolding has_over
  over_turn h e = rw (drop-cons scenes i 0 h, e, add-one i) refl

  pub over_end : length scenes ≤ i → has_over (drop i scenes) ≡ false
  unfolding has_over
  over_end h = rw (drop_of_length-le scenes h) refl

-- a search for one
pub over_any : (scenes : List ℕ) → has_over scenes ≡ list_any (ltb 4095) scenes
unfolding has_over
over_any [] = refl
over_any (scene ∷ scenes) = ap (λ (t : Bool). ltb 4095 scene || t) (over_any scenes)

pub over_rest : (scene : ℕ) (scenes : List ℕ) → has_over (scene ∷ scenes) ≡ false → has_over scenes ≡ false
unfolding has_over
over_rest scene scenes e = or_none_r (ltb 4095 scene) (has_over scenes) e

-- none is: each is a scene of a book
pub none_over : (scenes : List ℕ) → has_over scenes ≡ false → (i : ℕ) → i < length scenes → get_or scenes i 0 < 4096
unfolding has_over
none_over [] e i h = absurd (omega arith)
none_over (scene ∷ scenes) e zero h = omega (arith, ltb-false 4095 scene (or_none_l (ltb 4095 scene) (has_over scenes) e))
none_over (scene ∷ scenes) e (suc i) h = none_over scenes (or_none_r (ltb 4095 scene) (has_over scenes) e) i (omega arith)

-- one is, at some index
pub over_stands : (scenes : List ℕ) → has_over scenes ≡ true → Passing (λ i. ltb 4095 (get_or scenes i 0)) (length scenes)
unfolding has_over
over_stands [] e = absurd (false≢true e)
over_stands (scene ∷ scenes) e =
    cases (ltb 4095 scene)
    (λ t. record { place = 0; below = omega arith; passes = t })
    (λ f. let o = over_stands scenes (or_imp (ltb 4095 scene) (has_over scenes) e f) in
    record { place = suc o.place; below = omega (arith, o.below); passes = o.passes })

-- ---- a scene of the list

-- it stands at some index
pub record Stands (scene : ℕ) (scenes : List ℕ) : Type 0 where
  pub index : ℕ
  pub inside : index < length scenes
  pub there : get_or scenes index 0 ≡ scene

pub listed_none : (scene : ℕ) → is_listed scene [] ≡ false
unfolding is_listed
listed_none scene = refl

pub listed_first : (scene first : ℕ) (others : List ℕ) → is_listed scene (first ∷ others) ≡ (eqb first scene || is_listed scene others)
unfolding is_listed
listed_first scene first others = refl

listed_at : (scene : ℕ) (scenes : List ℕ) (i : ℕ) → i < length scenes → get_or scenes i 0 ≡ scene → is_listed scene scenes ≡ true
unfolding is_listed
listed_at scene [] i h e = absurd (omega arith)
listed_at scene (first ∷ others) zero h e = rw (eq-eqb first scene e) refl
listed_at scene (first ∷ others) (suc i) h e = rw (listed_at scene others i (omega arith) e) (or_true (eqb first scene))

stands : (scene : ℕ) (scenes : List ℕ) → is_listed scene scenes ≡ true → Stands scene scenes
unfolding is_listed
stands scene [] e = absurd (false≢true e)
stands scene (first ∷ others) e =
    cases (eqb first scene)
    (λ t. record { index = 0; inside = omega arith; there = eqb-true first scene t })
    (λ f. let s = stands scene others (or_imp (eqb first scene) (is_listed scene others) e f) in
    record { index = suc s.index; inside = omega (arith, s.inside); there = s.there })

pub is_listed_exactly : (scene : ℕ) (scenes : List ℕ) → Exactly (is_listed scene scenes ≡ true) (Stands scene scenes)
is_listed_exactly scene scenes = record { when = stands scene scenes; only_when = λ s. listed_at scene scenes s.index s.inside s.there }

-- a list with none over has scenes of a book only
pub listed_scene : (scene : ℕ) (scenes : List ℕ) → has_over scenes ≡ false → is_listed scene scenes ≡ true → scene < 4096
listed_scene scene scenes e l = let s = stands scene scenes l in rw (← s.there) (none_over scenes e s.index s.inside)
