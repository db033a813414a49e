-- Choices by a test: `cond t a b` is a where t holds, and b where it does not.
-- Assumes nothing.
use mathlib.Core.Path.{◌≡◌, refl}
use mathlib.Core.Bool.{Bool, true, false, cond}

-- what holds of each arm under its test holds of the choice
pub cond_elim : {A : Type 0} (P : A → Type 0) (t : Bool) {a b : A} → (t ≡ true → P a) → (t ≡ false → P b) → P (cond t a b)
cond_elim P true f g = f refl
cond_elim P false f g = g refl

-- both arms are one
pub cond_same : {A : Type 0} (t : Bool) (a : A) → cond t a a ≡ a
cond_same true a = refl
cond_same false a = refl

-- a proof by cases on a test
pub cases : {P : Type 0} (t : Bool) → (t ≡ true → P) → (t ≡ false → P) → P
cases true f g = f refl
cases false f g = g refl

-- a result at a choice: the test held, or not. They nest as the branches of the code do
pub yes : {A : Type 0} {t : Bool} {r x : A} (y : A) → t ≡ true → r ≡ x → r ≡ cond t x y
yes y h e = rw h e

pub no : {A : Type 0} {t : Bool} {r y : A} (x : A) → t ≡ false → r ≡ y → r ≡ cond t x y
no x h e = rw h e
