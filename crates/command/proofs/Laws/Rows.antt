-- A table of rows: what holds of each row holds of the row found, and a number that no row has finds none.
-- Assumes nothing.
use mathlib.Core.Path.{◌≡◌, refl}
use mathlib.Core.Bool.{Bool, cond}
use mathlib.Core.List.{List, [], ◌∷◌}
use Prim.Native.Nat.{ℕ}
use lib.Dec.{eqb}
use borrow.Author.Tests.{ne_eqb, eqb-true}
use Rattle.common.proofs.Laws.Choice.{cond_elim}
use Rattle.command.specs.declared.Command.{Command}
use Rattle.command.specs.declared.Command.TheVariants.{Ignored}
use Rattle.command.specs.Command.{look}

-- n is none of the rows' numbers, as a `match` says it: nested to the left, the last arm outermost
abbrev pub Others : ℕ → List (ℕ × Command) → Type 0 → Type 0
Others n [] A = A
Others n (r ∷ rs) A = Others n rs (A × (n ≡ r.0 → ⊥))

none : (rs : List (ℕ × Command)) (n : ℕ) (A : Type 0) → Others n rs A → A × (look rs n ≡ Ignored)
none [] n A h = (h, refl)
none (r ∷ rs) n A h =
    let k = none rs n (A × (n ≡ r.0 → ⊥)) h in
    (k.0.0, cond_else (eqb n r.0) (ne_eqb n r.0 k.0.1) k.1)
  where
    cond_else : (t : Bool) → t ≡ mathlib.Core.Bool.false → look rs n ≡ Ignored → cond t r.1 (look rs n) ≡ Ignored
    cond_else t e q = rw e q

pub look_none : (rs : List (ℕ × Command)) (n : ℕ) → Others n rs (Unit {0}) → look rs n ≡ Ignored
look_none rs n h = (none rs n (Unit {0}) h).1

-- what holds of each row, if the number is the row's
abbrev pub AllRows : (Command → Type 0) → ℕ → List (ℕ × Command) → Type 0
AllRows P n [] = Unit {0}
AllRows P n (r ∷ rs) = (n ≡ r.0 → P r.1) × AllRows P n rs

pub look_elim : (P : Command → Type 0) → P Ignored → (rs : List (ℕ × Command)) (n : ℕ) → AllRows P n rs → P (look rs n)
look_elim P z [] n k = z
look_elim P z (r ∷ rs) n k = cond_elim P (eqb n r.0) (λ e. k.0 (eqb-true n r.0 e)) (λ _. look_elim P z rs n k.1)
