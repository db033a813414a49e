-- A call's refusals: number 0 means that none of the conditions holds, and another number is "given exactly when" its own condition holds and no
-- earlier one does. Names: `clear` is none, `given` one, `first` the number that `first_of` finds.
-- Assumes nothing.
use mathlib.Core.Path.{◌≡◌, refl, sym, ap, ◌∙◌}
use mathlib.Core.Bool.{Bool, true, false, cond, ◌||◌}
use mathlib.Core.List.{List, [], ◌∷◌, ◌++◌}
use mathlib.Core.Logic.{◌⊎◌, inl, inr}
use Prim.Native.Nat.{ℕ, ◌<◌}
use native.Mathlib.Omega.{arith}
use lib.Dec.{ltb, eqb}
use lib.ListN.{get_or}
use borrow.Author.Tests.{eqb-true, eqb-false, ltb-true}
use Rattle.common.specs.declared.refusals.Refusal.{Refusal}
use Rattle.common.specs.declared.refusals.Refusal.TheVariants.{StateNotSound, WrongArray, WrongFrame, WrongOutput, WrongMask, WrongRegion, NotAtRest, WantedRises, StatusLocked, BufferTooShort, ScriptTooLong, UnknownMark, WrongLength, CutShort, WrongBook, WrongNames, NameTwice, RecordsTooLong}
use Rattle.common.specs.Refusals.{first_of, number_of, Exactly}
use Rattle.common.proofs.Laws.Booleans.{or_none_l, or_none_r}
use Rattle.common.proofs.Laws.Choice.{cases}

-- a refusal's number is above 0
pub number_some : (refusal : Refusal) → 0 < number_of refusal
number_some refusal = grind arith

-- each refusal at its number, with the first in the places 0, 16 and 17, which are no refusal's
abbrev by_number : List Refusal
by_number =
    StateNotSound
    ∷ StateNotSound
    ∷ WrongArray
    ∷ WrongFrame
    ∷ WrongOutput
    ∷ WrongMask
    ∷ WrongRegion
    ∷ NotAtRest
    ∷ WantedRises
    ∷ StatusLocked
    ∷ BufferTooShort
    ∷ ScriptTooLong
    ∷ UnknownMark
    ∷ WrongLength
    ∷ CutShort
    ∷ WrongBook
    ∷ StateNotSound
    ∷ StateNotSound
    ∷ WrongNames
    ∷ NameTwice
    ∷ RecordsTooLong
    ∷ []

numbered : (refusal : Refusal) → get_or by_number (number_of refusal) StateNotSound ≡ refusal
numbered refusal = grind arith

-- and no two refusals have one number
pub number_determines : (a b : Refusal) → number_of a ≡ number_of b → a ≡ b
number_determines a b e = sym (numbered a) ∙ ap (λ (n : ℕ). get_or by_number n StateNotSound) e ∙ numbered b

-- ---- none of them holds

abbrev pub Clear : List (ℕ × Bool) → Type 0
Clear [] = Unit {0}
Clear (r ∷ rs) = (r.1 ≡ false) × Clear rs

-- no refusal has the number of an accepted call: computed at a list that is written out
abbrev pub are_numbered : List (ℕ × Bool) → Bool
are_numbered [] = true
are_numbered (r ∷ rs) = cond (ltb 0 r.0) (are_numbered rs) false

numbered_first : (r : ℕ × Bool) (rs : List (ℕ × Bool)) → are_numbered (r ∷ rs) ≡ true → (0 < r.0) × (are_numbered rs ≡ true)
numbered_first r rs n = by (ltb 0 r.0) refl n
  where
    by : (t : Bool) → ltb 0 r.0 ≡ t → cond t (are_numbered rs) false ≡ true → (0 < r.0) × (are_numbered rs ≡ true)
    by true e n = (ltb-true 0 r.0 e, n)
    by false e n = absurd (mathlib.Core.Bool.false≢true n)

clear_by : (r : ℕ × Bool) (rs : List (ℕ × Bool)) → 0 < r.0 → (t : Bool) → r.1 ≡ t → cond t r.0 (first_of rs) ≡ 0
    → (first_of rs ≡ 0 → Clear rs) → Clear (r ∷ rs)
clear_by r rs n true q e f = absurd (omega (arith, n, e))
clear_by r rs n false q e f = (q, f e)

pub clear : (rs : List (ℕ × Bool)) → are_numbered rs ≡ true → first_of rs ≡ 0 → Clear rs
clear [] n e = tt
clear (r ∷ rs) n e = let m = numbered_first r rs n in clear_by r rs m.0 r.1 refl e (clear rs m.1)

pub first_of_clear : (rs : List (ℕ × Bool)) → Clear rs → first_of rs ≡ 0
first_of_clear [] c = refl
first_of_clear (r ∷ rs) c = rw c.0 (first_of_clear rs c.1)

-- ---- one of them

abbrev pub is_listed : ℕ → List (ℕ × Bool) → Bool
is_listed number [] = false
is_listed number (r ∷ rs) = eqb r.0 number || is_listed number rs

-- a row's own number: its condition holds, or, where the number stands again further on, it does not and that one is given
abbrev pub OwnGiven : Bool → ℕ × Bool → Type 0 → Type 0
OwnGiven false r others = r.1 ≡ true
OwnGiven true r others = (r.1 ≡ true) ⊎ ((r.1 ≡ false) × others)

-- and another's: the row's condition does not hold
abbrev pub GivenBy : Bool → Bool → ℕ × Bool → Type 0 → Type 0
GivenBy true again r others = OwnGiven again r others
GivenBy false again r others = (r.1 ≡ false) × others

-- the number's own condition holds and no earlier one does. At a number and a list that are written out this is their product
abbrev pub Given : ℕ → List (ℕ × Bool) → Type 0
Given number [] = ⊥
Given number (r ∷ rs) = GivenBy (eqb r.0 number) (is_listed number rs) r (Given number rs)

unlisted : (rs : List (ℕ × Bool)) (number : ℕ) → 0 < number → is_listed number rs ≡ false → first_of rs ≡ number → ⊥
unlisted [] number h l e = omega arith
unlisted (r ∷ rs) number h l e =
    cases r.1 (λ t. eqb-false r.0 number (or_none_l (eqb r.0 number) (is_listed number rs) l) (rw t at e))
    (λ t. unlisted rs number h (or_none_r (eqb r.0 number) (is_listed number rs) l) (rw t at e))

given_by : (r : ℕ × Bool) (rs : List (ℕ × Bool)) (number : ℕ) → 0 < number → (first_of rs ≡ number → Given number rs)
    → (own : Bool) → eqb r.0 number ≡ own → (again : Bool) → is_listed number rs ≡ again → (holds : Bool) → r.1 ≡ holds
    → cond holds r.0 (first_of rs) ≡ number → GivenBy own again r (Given number rs)
given_by r rs number h others true q true a true t e = inl t
given_by r rs number h others true q true a false t e = inr (t, others e)
given_by r rs number h others true q false a true t e = t
given_by r rs number h others true q false a false t e = absurd (unlisted rs number h a e)
given_by r rs number h others false q again a true t e = absurd (eqb-false r.0 number q e)
given_by r rs number h others false q again a false t e = (t, others e)

given : (rs : List (ℕ × Bool)) (number : ℕ) → 0 < number → first_of rs ≡ number → Given number rs
given [] number h e = omega arith
given (r ∷ rs) number h e = given_by r rs number h (given rs number h) (eqb r.0 number) refl (is_listed number rs) refl r.1 refl e

first_by : (r : ℕ × Bool) (rs : List (ℕ × Bool)) (number : ℕ) → (Given number rs → first_of rs ≡ number)
    → (own : Bool) → eqb r.0 number ≡ own → (again : Bool) → GivenBy own again r (Given number rs) → cond r.1 r.0 (first_of rs) ≡ number
first_by r rs number others true q true (inl g) = rw g (eqb-true r.0 number q)
first_by r rs number others true q true (inr g) = rw g.0 (others g.1)
first_by r rs number others true q false g = rw g (eqb-true r.0 number q)
first_by r rs number others false q again g = rw g.0 (others g.1)

first_given : (rs : List (ℕ × Bool)) (number : ℕ) → Given number rs → first_of rs ≡ number
first_given [] number g = absurd g
first_given (r ∷ rs) number g = first_by r rs number (first_given rs number) (eqb r.0 number) refl (is_listed number rs) g

-- "given exactly when"
pub given_exactly : (rs : List (ℕ × Bool)) (number : ℕ) → 0 < number → Exactly (first_of rs ≡ number) (Given number rs)
given_exactly rs number h = record { when = given rs number h; only_when = first_given rs number }

-- ---- one list behind another

pub first_behind : (rs ss : List (ℕ × Bool)) → Clear rs → first_of (rs ++ ss) ≡ first_of ss
first_behind [] ss c = refl
first_behind (r ∷ rs) ss c = rw c.0 (first_behind rs ss c.1)

pub first_before : (rs ss : List (ℕ × Bool)) (number : ℕ) → 0 < number → first_of rs ≡ number → first_of (rs ++ ss) ≡ number
first_before [] ss number h e = absurd (omega arith)
first_before (r ∷ rs) ss number h e = cases r.1 (λ t. rw t (rw t at e)) (λ t. rw t (first_before rs ss number h (rw t at e)))
