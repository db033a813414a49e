-- A list of clauses: where one fails not all hold, and where none fails all do. So a test that stops at the first failing clause is the test of all.
-- Assumes nothing.
use mathlib.Core.Path.{◌≡◌, refl, sym}
use mathlib.Core.Bool.{Bool, true, false, ◌&&◌, not, true≢false}
use mathlib.Core.List.{List, [], ◌∷◌}
use Prim.Native.Nat.{ℕ, zero, suc}
use lib.ListN.{get_or}
use borrow.Author.Tests.{not-true, not-false}
use Rattle.common.specs.Lists.{Each}
use Rattle.common.proofs.Laws.Booleans.{and_l, and_r, and_i, and_off}
use Rattle.state.specs.Soundness.{all_from, all_of, implies}

abbrev pub Holds : Bool → Type 0
Holds b = b ≡ true

-- ---- all hold

each_from : (a : Bool) (bs : List Bool) → all_from a bs ≡ true → (a ≡ true) × Each Holds bs
each_from a [] e = (e, tt)
each_from a (b ∷ bs) e = let k = each_from (a && b) bs e in (and_l a b k.0, (and_r a b k.0, k.1))

pub each : (bs : List Bool) → all_of bs ≡ true → Each Holds bs
each bs e = (each_from true bs e).1

from_each : (a : Bool) (bs : List Bool) → a ≡ true → Each Holds bs → all_from a bs ≡ true
from_each a [] e k = e
from_each a (b ∷ bs) e k = from_each (a && b) bs (and_i e k.0) k.1

pub all_each : (bs : List Bool) → Each Holds bs → all_of bs ≡ true
all_each bs k = from_each true bs refl k

-- ---- one fails

none_from : (bs : List Bool) → all_from false bs ≡ false
none_from [] = refl
none_from (b ∷ bs) = none_from bs

fails_from : (a : Bool) (place : ℕ) (bs : List Bool) → get_or bs place true ≡ false → all_from a bs ≡ false
fails_from a place [] e = absurd (true≢false e)
fails_from true zero (b ∷ bs) e = rw e (none_from bs)
fails_from false zero (b ∷ bs) e = none_from bs
fails_from a (suc place) (b ∷ bs) e = fails_from (a && b) place bs e

-- the clause at a place
pub fails_at : (place : ℕ) (bs : List Bool) → get_or bs place true ≡ false → false ≡ all_of bs
fails_at place bs e = sym (fails_from true place bs e)

-- ---- one is left to test

pub decides_at : (place : ℕ) (bs : List Bool) (b : Bool) → (b ≡ true → Each Holds bs) → (b ≡ false → get_or bs place true ≡ false) → b ≡ all_of bs
decides_at place bs true all fails = sym (all_each bs (all refl))
decides_at place bs false all fails = fails_at place bs (fails refl)

-- ---- a clause that is an implication

pub denied : {a b : Bool} → a ≡ true → b ≡ false → implies a b ≡ false
denied p q = rw (p, q) refl

-- the code's test of it, "a and not b"
pub implies_fails : (a b : Bool) → a && not b ≡ true → implies a b ≡ false
implies_fails a b e = denied (and_l a (not b) e) (not-true b (and_r a (not b) e))

pub implies_holds : (a b : Bool) → a && not b ≡ false → a ≡ true → b ≡ true
implies_holds a b e h = not-false b (and_off a (not b) e h)
