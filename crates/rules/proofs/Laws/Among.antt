-- Lists of opcodes: what holds of each of them holds of one that is listed, and one that is not listed is none of them.
-- Assumes nothing.
use mathlib.Core.Path.{◌≡◌, sym, ap, ◌∙◌}
use mathlib.Core.Bool.{Bool, true, false, ◌&&◌, true≢false, false≢true}
use mathlib.Core.List.{List, [], ◌∷◌}
use Prim.Native.Nat.{ℕ}
use lib.Dec.{eqb}
use borrow.Author.Tests.{eqb-true}
use Rattle.common.proofs.Laws.Booleans.{and_l, and_r, or_imp}
use Rattle.common.proofs.Laws.Choice.{cases}
use Rattle.rules.specs.Frames.{is_among}

-- each of them passes a test
abbrev pub each : (ℕ → Bool) → List ℕ → Bool
each test [] = true
each test (op ∷ others) = test op && each test others

pub among : (test : ℕ → Bool) (list : List ℕ) (op : ℕ) → each test list ≡ true → is_among op list ≡ true → test op ≡ true
among test [] op all listed = absurd (false≢true listed)
among test (known ∷ others) op all listed =
    cases (eqb op known) (λ e. ap test (eqb-true op known e) ∙ and_l (test known) (each test others) all)
    (λ other. among test others op (and_r (test known) (each test others) all) (or_imp (eqb op known) (is_among op others) listed other))

pub among_not : (op known : ℕ) (list : List ℕ) → is_among op list ≡ false → is_among known list ≡ true → eqb op known ≡ false
among_not op known list other listed =
    cases (eqb op known) (λ e. absurd (true≢false (sym listed ∙ ap (λ (n : ℕ). is_among n list) (sym (eqb-true op known e)) ∙ other))) (λ e. e)

-- it is this opcode, or another
pub either : {P : Type 0} (op known : ℕ) → (op ≡ known → P) → (eqb op known ≡ false → P) → P
either op known here other = cases (eqb op known) (λ e. here (eqb-true op known e)) other
