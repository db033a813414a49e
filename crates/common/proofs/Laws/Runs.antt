-- The laws of `on_run`: a loop over a run of places, a store a turn or a strip of places a turn, and a run that is stored as one part.
-- Assumes nothing.
use mathlib.Core.Path.{◌≡◌, refl, sym, ap, ◌∙◌}
use mathlib.Core.Bool.{and-false}
use mathlib.Core.List.{List, ◌++◌}
use mathlib.Core.Logic.{⊎_elim}
use Prim.Native.Nat.{ℕ, ◌+◌, ◌-◌, ◌≤◌, ◌<◌}
use native.Mathlib.Omega.{arith}
use lib.Dec.{leb}
use lib.ListN.{length, get_or, set, take}
use lib.Seq.{ext_get_or, length-take-le}
use borrow.Author.Tests.{lt-ltb, le-ltb, le-leb, lt-leb}
use borrow.Rule.Slice.PartMut.{post_of, put_mid, same_len_mid, mid_len, Post-is}
use Rattle.std.proofs.lemmas.List.{get_or-take, get_or-drop, get_or_append_left, get_or-append_right}
use Rattle.common.specs.Lists.{mapi, up_to, on_run}
use Rattle.common.proofs.Laws.Lists.{split, length_mapi, get_d_mapi, mapi_cong, mapi_mapi, loop_start, loop_turn, loop_end}

module _ (lo hi : ℕ) (f : ℕ → ℕ → ℕ) (l : List ℕ) where
  run_inside : (k x : ℕ) → lo ≤ k → k < hi → f k x ≡ on_run lo hi f k x
  run_inside k x a b = rw (le-leb lo k a, lt-ltb k hi b) refl

  pub run_start : l ≡ mapi (up_to lo (on_run lo hi f)) l
  run_start = loop_start (on_run lo hi f) l lo (λ k x a. rw (lt-leb lo k a) refl)

  pub run_turn : (a : List ℕ) (k v : ℕ) → lo ≤ k → k < hi → hi ≤ length l → v ≡ f k (get_or a k 0) → a ≡ mapi (up_to k (on_run lo hi f)) l
      → set a k v ≡ mapi (up_to (k + 1) (on_run lo hi f)) l
  run_turn a k v p q h e t =
      rw (e ∙ run_inside k (get_or a k 0) p q) (loop_turn (on_run lo hi f) l a k (omega arith) t)

  -- the strip from k up to m in one turn
  pub run_strip : (g : ℕ → ℕ → ℕ) (a : List ℕ) (k m : ℕ) → lo ≤ k → k ≤ m → m ≤ hi → ((j x : ℕ) → k ≤ j → j < m → g j x ≡ f j x)
      → a ≡ mapi (up_to k (on_run lo hi f)) l → mapi (on_run k m g) a ≡ mapi (up_to m (on_run lo hi f)) l
  run_strip g a k m p q r same t =
      ap (mapi (on_run k m g)) t ∙ mapi_mapi (up_to k (on_run lo hi f)) (on_run k m g) l
      ∙ mapi_cong _ (up_to m (on_run lo hi f)) l (λ j _. at j (get_or l j 0))
    where
      at : (j x : ℕ) → on_run k m g j (up_to k (on_run lo hi f) j x) ≡ up_to m (on_run lo hi f) j x
      at j x =
          ⊎_elim (λ below. rw (lt-leb k j below, lt-ltb j k below, lt-ltb j m (omega arith)) refl)
          (λ from. ⊎_elim
          (λ within. rw (le-leb k j from, lt-ltb j m within, le-ltb j k from) (same j x from within ∙ run_inside j x (omega arith) (omega arith)))
          (λ above. rw (le-leb k j from, le-ltb j m above, le-ltb j k from) refl) (split j m)) (split j k)

  pub run_end : (a : List ℕ) (k : ℕ) → hi ≤ k → a ≡ mapi (up_to k (on_run lo hi f)) l → a ≡ mapi (on_run lo hi f) l
  run_end a k b t = loop_end (on_run lo hi f) l a k (λ j x c. above j x (omega arith)) t
    where
      above : (j x : ℕ) → hi ≤ j → on_run lo hi f j x ≡ x
      above j x d = rw (le-ltb j hi d, and-false (leb lo j)) refl

  -- effects that agree on the run
  pub run_cong : (g : ℕ → ℕ → ℕ) → lo ≤ hi → ((j x : ℕ) → lo ≤ j → j < hi → g j x ≡ f j x) → mapi (on_run lo hi g) l ≡ mapi (on_run lo hi f) l
  run_cong g h same = run_end (mapi (on_run lo hi g) l) hi (omega arith) (run_strip g l lo hi (omega arith) h (omega arith) same run_start)

-- ---- a run that is copied from a list, from place `at` on

abbrev pub copied : List ℕ → ℕ → ℕ → ℕ → ℕ → ℕ
copied source at from k x = get_or source (at + (k - from)) 0

-- from k on it goes on
pub copied_on : (source : List ℕ) (at from k j x : ℕ) → from ≤ k → k ≤ j → copied source (at + (k - from)) k j x ≡ copied source at from j x
copied_on source at from k j x p q = ap (λ (n : ℕ). get_or source n 0) (omega arith)

-- ---- a run that is stored as one part of the list

module _ (lo hi : ℕ) (f : ℕ → ℕ → ℕ) (l part : List ℕ) (order : lo ≤ hi) (fits : hi ≤ length l) (long : length part ≡ hi - lo) where
  abbrev pub stored : List ℕ
  stored = put_mid lo (hi - lo) l part

  front_long : length (take lo l) ≡ lo
  front_long = length-take-le lo l (omega arith)

  below : (k : ℕ) → k < lo → get_or stored k 0 ≡ on_run lo hi f k (get_or l k 0)
  below k h =
      get_or_append_left (take lo l) (part ++ post_of lo (hi - lo) l) 0 k (omega (arith, front_long))
      ∙ get_or-take lo l k 0 h
      ∙ rw (lt-leb lo k h) refl

  behind : (k : ℕ) → lo ≤ k → get_or stored k 0 ≡ get_or (part ++ post_of lo (hi - lo) l) (k - lo) 0
  behind k h = get_or-append_right (take lo l) (part ++ post_of lo (hi - lo) l) lo k 0 front_long h

  above : (k : ℕ) → hi ≤ k → get_or stored k 0 ≡ on_run lo hi f k (get_or l k 0)
  above k h =
      let there : hi + (k - lo - (hi - lo)) ≡ k = omega arith in
      behind k (omega arith)
      ∙ get_or-append_right part (post_of lo (hi - lo) l) (hi - lo) (k - lo) 0 long (omega arith)
      ∙ ap (λ (rest : List ℕ). get_or rest (k - lo - (hi - lo)) 0) (Post-is lo hi l order)
      ∙ get_or-drop hi l (k - lo - (hi - lo)) 0
      ∙ ap (λ (n : ℕ). get_or l n 0) there
      ∙ rw (le-leb lo k (omega arith), le-ltb k hi h) refl

  within : ((j : ℕ) → j < hi - lo → get_or part j 0 ≡ f (lo + j) (get_or l (lo + j) 0)) → (k : ℕ) → lo ≤ k → k < hi
      → get_or stored k 0 ≡ on_run lo hi f k (get_or l k 0)
  within each k p q =
      let there : lo + (k - lo) ≡ k = omega arith in
      behind k p
      ∙ get_or_append_left part (post_of lo (hi - lo) l) 0 (k - lo) (omega (arith, long))
      ∙ each (k - lo) (omega arith)
      ∙ ap (λ (n : ℕ). f n (get_or l n 0)) there
      ∙ rw (le-leb lo k p, lt-ltb k hi q) refl

  -- each byte of the part is what f makes of the byte that stood in its place
  pub part_stored : ((j : ℕ) → j < hi - lo → get_or part j 0 ≡ f (lo + j) (get_or l (lo + j) 0)) → stored ≡ mapi (on_run lo hi f) l
  part_stored each =
      let same : length stored ≡ length l = same_len_mid lo (hi - lo) l part (long ∙ sym (mid_len lo hi l fits)) in
      ext_get_or 0 stored (mapi (on_run lo hi f) l) (same ∙ sym (length_mapi (on_run lo hi f) l))
      (λ k h. ⊎_elim (below k) (λ from. ⊎_elim (within each k from) (above k) (split k hi)) (split k lo)
      ∙ sym (get_d_mapi (on_run lo hi f) l k 0 (omega (arith, same))))
