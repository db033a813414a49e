-- Tests joined by `&&`, `||`, `not`, and what they say. Names: the connective, then what is taken from it (`-l`, `-r`, `-imp`, `-off`) or made (`-i`, `imp-`, `-none`).
-- Assumes nothing.
use mathlib.Core.Path.{◌≡◌, refl}
use mathlib.Core.Bool.{Bool, true, false, ◌&&◌, ◌||◌, not, false≢true, true≢false}

pub and_l : (a b : Bool) → a && b ≡ true → a ≡ true
and_l true b e = refl
and_l false b e = e

pub and_r : (a b : Bool) → a && b ≡ true → b ≡ true
and_r true b e = e
and_r false b e = absurd (false≢true e)

pub and_i : {a b : Bool} → a ≡ true → b ≡ true → a && b ≡ true
and_i p q = rw (p, q) refl

-- an "and" that does not hold
pub and_off : (a b : Bool) → a && b ≡ false → a ≡ true → b ≡ false
and_off true b e h = e
and_off false b e h = absurd (false≢true h)

pub and_on : (a b : Bool) → a ≡ true → a && b ≡ b
and_on a b h = rw h refl

pub and_none : (a b : Bool) → a ≡ false → a && b ≡ false
and_none a b h = rw h refl

pub and_true : (a : Bool) → a && true ≡ a
and_true true = refl
and_true false = refl

pub not_i : (a : Bool) → a ≡ false → not a ≡ true
not_i a e = rw e refl

-- an or is an implication
pub or_imp : (a b : Bool) → a || b ≡ true → a ≡ false → b ≡ true
or_imp true b e p = absurd (true≢false p)
or_imp false b e p = e

pub imp_or : (a b : Bool) → (a ≡ false → b ≡ true) → a || b ≡ true
imp_or true b f = refl
imp_or false b f = f refl

-- neither
pub or_none_l : (a b : Bool) → a || b ≡ false → a ≡ false
or_none_l true b e = e
or_none_l false b e = refl

pub or_none_r : (a b : Bool) → a || b ≡ false → b ≡ false
or_none_r true b e = absurd (true≢false e)
or_none_r false b e = e

pub or_none_i : {a b : Bool} → a ≡ false → b ≡ false → a || b ≡ false
or_none_i p q = rw (p, q) refl

pub or_true : (a : Bool) → a || true ≡ true
or_true true = refl
or_true false = refl

pub or_false : (a : Bool) → a || false ≡ a
or_false true = refl
or_false false = refl

-- "not a, or b" is "a implies b"
pub implies_elim : (a b : Bool) → not a || b ≡ true → a ≡ true → b ≡ true
implies_elim true b e p = e
implies_elim false b e p = absurd (false≢true p)

pub implies_i : (a b : Bool) → (a ≡ true → b ≡ true) → not a || b ≡ true
implies_i true b f = f refl
implies_i false b f = refl
