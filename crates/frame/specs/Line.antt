-- The line on which a chip answers (02, A10): what a call is lent for it, and what a chip shows on it.
use Rattle.std.specs.Prelude.{◌≡◌, Bool, ◌||◌, not, List, [], ◌++◌, ℕ, eqb, length, take, drop, Option}
use Rattle.common.specs.Lists.{tab}
use Rattle.output.specs.Output.{byte_of, driven_of}

-- two slices, byte by byte: what is read, and 01 where the chip drove it, 00 where it was silent
pub record Line : Type 0 where
  pub output : List ℕ
  pub driven : List ℕ

abbrev pub on_line : List ℕ → List ℕ → Line
on_line output driven = record { output = output; driven = driven }

-- so many bytes as they are shown
abbrev pub showing : ℕ → (ℕ → Option ℕ) → Line
showing n shown = on_line (tab n (λ i. byte_of (shown i))) (tab n (λ i. driven_of (shown i)))

-- ---- how long it is

-- "4 now covers both slices": not both have so many bytes
abbrev pub is_not_long : ℕ → Line → Bool
is_not_long n l = not (eqb (length l.output) n) || not (eqb (length l.driven) n)

-- both have
pub record Long (n : ℕ) (l : Line) : Type 0 where
  pub output_long : length l.output ≡ n
  pub driven_long : length l.driven ≡ n

-- ---- one behind another, and in parts

abbrev pub no_line : Line
no_line = on_line [] []

abbrev pub joined : Line → Line → Line
joined l m = on_line (l.output ++ m.output) (l.driven ++ m.driven)

-- the first n bytes, and what is behind them
abbrev pub front : ℕ → Line → Line
front n l = on_line (take n l.output) (take n l.driven)

abbrev pub behind : ℕ → Line → Line
behind n l = on_line (drop n l.output) (drop n l.driven)
