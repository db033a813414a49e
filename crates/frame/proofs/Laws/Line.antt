-- The laws of a line: what a place of it shows, how long it is, and lines one behind another.
-- Assumes nothing.
use mathlib.Core.Path.{◌≡◌, refl}
use mathlib.Core.Bool.{false, not}
use mathlib.Core.List.{append_assoc, append-nil}
use Prim.Native.Nat.{ℕ, ◌+◌, ◌<◌}
use native.Mathlib.Omega.{arith}
use lib.Dec.{eqb}
use lib.ListN.{length, get_or, length-append}
use borrow.Author.Tests.{eqb-true, eq-eqb, not-false}
use Rattle.std.specs.Prelude.{Option}
use Rattle.common.proofs.Laws.Booleans.{or_none_l, or_none_r}
use Rattle.common.proofs.Laws.Lists.{length_tab, get_d_tab}
use Rattle.output.specs.Output.{byte_of, driven_of}
use Rattle.frame.specs.Line.{Line, showing, is_not_long, Long, no_line, joined}

-- both slices make the line
pub line_same : {l m : Line} → l.output ≡ m.output → l.driven ≡ m.driven → l ≡ m
line_same p q = λ i. record { output = p i; driven = q i }

-- ---- what it shows

module _ (n : ℕ) (shown : ℕ → Option ℕ) where
  pub showing_long : Long n (showing n shown)
  showing_long = record { output_long = length_tab n (λ i. byte_of (shown i)); driven_long = length_tab n (λ i. driven_of (shown i)) }

  module _ (i : ℕ) (inside : i < n) where
    pub output_at : get_or (showing n shown).output i 0 ≡ byte_of (shown i)
    output_at = get_d_tab n (λ k. byte_of (shown k)) i 0 inside

    pub driven_at : get_or (showing n shown).driven i 0 ≡ driven_of (shown i)
    driven_at = get_d_tab n (λ k. driven_of (shown k)) i 0 inside

-- ---- how long it is

module _ (n : ℕ) (l : Line) where
  pub long_of : is_not_long n l ≡ false → Long n l
  long_of e =
      let o = not (eqb (length l.output) n) in
      let d = not (eqb (length l.driven) n) in
      record {
        output_long = eqb-true _ _ (not-false (eqb (length l.output) n) (or_none_l o d e));
        driven_long = eqb-true _ _ (not-false (eqb (length l.driven) n) (or_none_r o d e));
      }

  pub of_long : Long n l → is_not_long n l ≡ false
  of_long h = rw (eq-eqb _ _ h.output_long, eq-eqb _ _ h.driven_long) refl

-- ---- one behind another

pub joined_none : (l : Line) → joined l no_line ≡ l
joined_none l = line_same (append-nil l.output) (append-nil l.driven)

pub joined_joined : (l m k : Line) → joined (joined l m) k ≡ joined l (joined m k)
joined_joined l m k = line_same (append_assoc l.output m.output k.output) (append_assoc l.driven m.driven k.driven)

pub joined_long : {a b : ℕ} (l m : Line) → Long a l → Long b m → Long (a + b) (joined l m)
joined_long l m h k = record {
  output_long = omega (arith, length-append l.output m.output, h.output_long, k.output_long);
  driven_long = omega (arith, length-append l.driven m.driven, h.driven_long, k.driven_long);
}
