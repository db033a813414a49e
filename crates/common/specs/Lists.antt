-- Lists by place: what stands at each index, what becomes of it, and how many indexes pass a test.
use Rattle.std.specs.Prelude.{Bool, ◌&&◌, cond, List, [], ◌∷◌, ℕ, zero, suc, ◌+◌, leb, ltb}

-- each byte x at place k becomes f k x
abbrev pub mapi : (ℕ → ℕ → ℕ) → List ℕ → List ℕ
mapi f [] = []
mapi f (x ∷ xs) = f 0 x ∷ mapi (λ k. f (suc k)) xs

-- the list f 0, f 1, .. of n elements
abbrev pub tab : {A : Type 0} → ℕ → (ℕ → A) → List A
tab zero f = []
tab (suc n) f = f 0 ∷ tab n (λ k. f (suc k))

-- f below place i, and nothing from there on
abbrev pub up_to : ℕ → (ℕ → ℕ → ℕ) → ℕ → ℕ → ℕ
up_to i f k x = cond (ltb k i) (f k x) x

-- f at the places lo up to hi, and nothing elsewhere
abbrev pub on_run : ℕ → ℕ → (ℕ → ℕ → ℕ) → ℕ → ℕ → ℕ
on_run lo hi f k x = cond (leb lo k && ltb k hi) (f k x) x

-- how many numbers below k pass the test
unfoldable pub count_below : (ℕ → Bool) → ℕ → ℕ
count_below test zero = 0
count_below test (suc k) = count_below test k + cond (test k) 1 0

-- k is one of the n places from a on
unfoldable pub within : ℕ → ℕ → ℕ → Bool
within a n k = leb a k && ltb k (a + n)

-- it holds of each element
abbrev pub Each : {A : Type 0} → (A → Type 0) → List A → Type 0
Each P [] = Unit {0}
Each P (x ∷ xs) = P x × Each P xs
