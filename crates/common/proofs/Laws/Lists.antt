-- Lists one behind another, and the laws of `mapi`, `tab` and `up_to`: one place at a time, and one turn of a loop.
-- Assumes nothing.
use mathlib.Core.Path.{◌≡◌, refl, sym, ap, ◌∙◌}
use mathlib.Core.List.{List, [], ◌∷◌, ◌++◌}
use mathlib.Core.Logic.{⊎_elim, ◌⊎◌, inl, inr}
use Prim.Native.Nat.{ℕ, zero, suc, ◌+◌, ◌-◌, ◌≤◌, ◌<◌}
use native.Mathlib.Nat.{le_of_suc-le-suc, not-suc-le-zero}
use native.Mathlib.Omega.{arith}
use native.Mathlib.Decide.{ℕ_discrete, dec_lt}
use lib.ListN.{length, get_or, set, drop, replicate, length-set}
use lib.Seq.{get_or-append-add, ext_get_or, get_or-set_same, get_or-set_other}
use borrow.Author.Tests.{lt-ltb, le-ltb}
use Rattle.common.specs.Lists.{mapi, tab, up_to}

pub split : (k i : ℕ) → (k < i) ⊎ (i ≤ k)
split k i = elim (dec_lt k i) [ yes h ↦ inl h | no h ↦ inr (omega arith) ]

-- one list behind another
pub get_d_front : (xs ys : List ℕ) (i : ℕ) → i < length xs → get_or (xs ++ ys) i 0 ≡ get_or xs i 0
get_d_front [] ys i h = absurd (not-suc-le-zero h)
get_d_front (x ∷ xs) ys zero h = refl
get_d_front (x ∷ xs) ys (suc i) h = get_d_front xs ys i (le_of_suc-le-suc h)

pub get_d_behind : (xs ys : List ℕ) (i : ℕ) → length xs ≤ i → get_or (xs ++ ys) i 0 ≡ get_or ys (i - length xs) 0
get_d_behind xs ys i h = let there : length xs + (i - length xs) ≡ i = omega arith in rw there at (get_or-append-add xs ys (i - length xs) 0)

-- what is left of equal elements
pub drop_replicate : (m n x : ℕ) → drop m (replicate n x) ≡ replicate (n - m) x
drop_replicate zero n x = let all : n ≡ n - 0 = omega arith in ap (λ (k : ℕ). replicate k x) all
drop_replicate (suc m) zero x = let none : 0 ≡ 0 - suc m = omega arith in ap (λ (k : ℕ). replicate k x) none
drop_replicate (suc m) (suc n) x = let both : n - m ≡ suc n - suc m = omega arith in drop_replicate m n x ∙ ap (λ (k : ℕ). replicate k x) both

pub length_mapi : (f : ℕ → ℕ → ℕ) (l : List ℕ) → length (mapi f l) ≡ length l
length_mapi f [] = refl
length_mapi f (x ∷ xs) = ap suc (length_mapi (λ k. f (suc k)) xs)

pub get_d_mapi : (f : ℕ → ℕ → ℕ) (l : List ℕ) (k d : ℕ) → k < length l → get_or (mapi f l) k d ≡ f k (get_or l k d)
get_d_mapi f [] k d h = absurd (not-suc-le-zero h)
get_d_mapi f (x ∷ xs) zero d h = refl
get_d_mapi f (x ∷ xs) (suc k) d h = get_d_mapi (λ k. f (suc k)) xs k d (le_of_suc-le-suc h)

pub length_tab : {A : Type 0} (n : ℕ) (f : ℕ → A) → length (tab n f) ≡ n
length_tab zero f = refl
length_tab (suc n) f = ap suc (length_tab n (λ k. f (suc k)))

pub get_d_tab : {A : Type 0} (n : ℕ) (f : ℕ → A) (k : ℕ) (d : A) → k < n → get_or (tab n f) k d ≡ f k
get_d_tab zero f k d h = absurd (not-suc-le-zero h)
get_d_tab (suc n) f zero d h = refl
get_d_tab (suc n) f (suc k) d h = get_d_tab n (λ k. f (suc k)) k d (le_of_suc-le-suc h)

-- effects that agree on the bytes of a list change it alike
pub tab_cong : {A : Type 0} (n : ℕ) (f g : ℕ → A) → ((k : ℕ) → f k ≡ g k) → tab n f ≡ tab n g
tab_cong zero f g h = refl
tab_cong (suc n) f g h = rw (h 0, tab_cong n (λ k. f (suc k)) (λ k. g (suc k)) (λ k. h (suc k))) refl

pub mapi_cong : (f g : ℕ → ℕ → ℕ) (l : List ℕ) → ((k : ℕ) → k < length l → f k (get_or l k 0) ≡ g k (get_or l k 0)) → mapi f l ≡ mapi g l
mapi_cong f g l h =
    ext_get_or 0 (mapi f l) (mapi g l) (simp length_mapi)
    (λ k lt. let b : k < length l = omega (arith, length_mapi f l) in rw (get_d_mapi f l k 0 b, get_d_mapi g l k 0 b) (h k b))

pub mapi_id : (f : ℕ → ℕ → ℕ) (l : List ℕ) → ((k : ℕ) → k < length l → f k (get_or l k 0) ≡ get_or l k 0) → mapi f l ≡ l
mapi_id f l h =
    ext_get_or 0 (mapi f l) l (length_mapi f l)
    (λ k lt. let b : k < length l = omega (arith, length_mapi f l) in get_d_mapi f l k 0 b ∙ h k b)

-- one effect after another
pub mapi_mapi : (f g : ℕ → ℕ → ℕ) (l : List ℕ) → mapi g (mapi f l) ≡ mapi (λ k x. g k (f k x)) l
mapi_mapi f g [] = refl
mapi_mapi f g (x ∷ xs) = ap (λ (t : List ℕ). g 0 (f 0 x) ∷ t) (mapi_mapi (λ k. f (suc k)) (λ k. g (suc k)) xs)

-- an effect that does not look at the old byte is a table
pub mapi_tab : (f : ℕ → ℕ) (l : List ℕ) → mapi (λ k x. f k) l ≡ tab (length l) f
mapi_tab f [] = refl
mapi_tab f (x ∷ xs) = ap (λ (t : List ℕ). f 0 ∷ t) (mapi_tab (λ k. f (suc k)) xs)

-- a loop over the places lo, lo + 1, .. hi - 1 of a list, one store a turn.
-- It starts: nothing below lo is to change
pub loop_start : (f : ℕ → ℕ → ℕ) (l : List ℕ) (lo : ℕ) → ((k x : ℕ) → k < lo → f k x ≡ x) → l ≡ mapi (up_to lo f) l
loop_start f l lo h =
    sym (mapi_id (up_to lo f) l (λ k b. ⊎_elim (λ lt. rw (lt-ltb k lo lt) (h k (get_or l k 0) lt)) (λ ge. rw (le-ltb k lo ge) refl) (split k lo)))

-- a turn at i
pub loop_turn : (f : ℕ → ℕ → ℕ) (l a : List ℕ) (i : ℕ) → i < length l → a ≡ mapi (up_to i f) l → set a i (f i (get_or a i 0)) ≡ mapi (up_to (i + 1) f) l
loop_turn f l a i b e =
    ext_get_or 0 (set a i (f i (get_or a i 0))) (mapi (up_to (i + 1) f) l)
    (length-set a i (f i (get_or a i 0)) ∙ long ∙ sym (length_mapi (up_to (i + 1) f) l))
    (λ k lt. at k (omega (arith, length-set a i (f i (get_or a i 0)), long)))
  where
    long : length a ≡ length l
    long = ap length e ∙ length_mapi (up_to i f) l

    old : get_or a i 0 ≡ get_or l i 0
    old = ap (λ (t : List ℕ). get_or t i 0) e ∙ get_d_mapi (up_to i f) l i 0 b ∙ rw (le-ltb i i (omega arith)) refl

    here : (k : ℕ) → k < length l → k ≡ i → get_or (set a i (f i (get_or a i 0))) k 0 ≡ get_or (mapi (up_to (i + 1) f) l) k 0
    here k h q =
        rw q
        (get_or-set_same a i (f i (get_or a i 0)) 0 (omega (arith, long)) ∙ ap (f i) old
        ∙ sym (get_d_mapi (up_to (i + 1) f) l i 0 b ∙ rw (lt-ltb i (i + 1) (omega arith)) refl))

    else : (k : ℕ) → k < length l → (k ≡ i → ⊥) → get_or (set a i (f i (get_or a i 0))) k 0 ≡ get_or (mapi (up_to (i + 1) f) l) k 0
    else k h q =
        get_or-set_other a i k (f i (get_or a i 0)) 0 q ∙ ap (λ (t : List ℕ). get_or t k 0) e ∙ get_d_mapi (up_to i f) l k 0 h
        ∙ ⊎_elim (λ lt. rw (lt-ltb k i lt) (sym (get_d_mapi (up_to (i + 1) f) l k 0 h ∙ rw (lt-ltb k (i + 1) (omega arith)) refl)))
        (λ ge. rw (le-ltb k i ge) (sym (get_d_mapi (up_to (i + 1) f) l k 0 h ∙ rw (le-ltb k (i + 1) (omega arith)) refl))) (split k i)

    at : (k : ℕ) → k < length l → get_or (set a i (f i (get_or a i 0))) k 0 ≡ get_or (mapi (up_to (i + 1) f) l) k 0
    at k h = elim (ℕ_discrete k i) [ yes q ↦ here k h q | no q ↦ else k h q ]

-- it ends: nothing from hi on is to change
pub loop_end : (f : ℕ → ℕ → ℕ) (l a : List ℕ) (hi : ℕ) → ((k x : ℕ) → hi ≤ k → f k x ≡ x) → a ≡ mapi (up_to hi f) l → a ≡ mapi f l
loop_end f l a hi h e =
    e ∙ mapi_cong (up_to hi f) f l (λ k b. ⊎_elim (λ lt. rw (lt-ltb k hi lt) refl) (λ ge. rw (le-ltb k hi ge) (sym (h k (get_or l k 0) ge))) (split k hi))

-- a loop over a whole list ends
pub mapi_all : (f : ℕ → ℕ → ℕ) (l : List ℕ) → mapi (up_to (length l) f) l ≡ mapi f l
mapi_all f l = mapi_cong (up_to (length l) f) f l (λ k b. rw (lt-ltb k (length l) b) refl)
