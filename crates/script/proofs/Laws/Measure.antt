-- What is counted of no records, and of a frame or a wait in front of others: bytes, frames and microseconds together, and the measure they make.
-- Names: the count, then the shape (`-none`, `-frame`, `-wait`, `-append`).
-- Assumes nothing.
use mathlib.Core.Path.{◌≡◌, refl}
use mathlib.Core.List.{List, [], ◌∷◌, ◌++◌}
use Prim.Native.Nat.{ℕ, ◌+◌}
use native.Mathlib.Omega.{arith}
use lib.ListN.{length}
use Rattle.script.specs.Record.{Record, frame, wait, script_length, frames_in, microseconds_in}
use Rattle.script.specs.Measure.{measure_of}
use Rattle.script.proofs.Laws.Records.{script_length_append, frames_append, microseconds_append}

-- records of l bytes, f frames and m microseconds
pub record Counts (rs : List Record) (l f m : ℕ) : Type 0 where
  pub bytes : script_length rs ≡ l
  pub frames : frames_in rs ≡ f
  pub microseconds : microseconds_in rs ≡ m

pub counts_none : Counts [] 0 0 0
unfolding script_length frames_in microseconds_in
counts_none = record { bytes = refl; frames = refl; microseconds = refl }

module _ {rs : List Record} {l f m : ℕ} (c : Counts rs l f m) where
  pub counts_frame : (bytes : List ℕ) → Counts (frame bytes ∷ rs) (4 + length bytes + l) (1 + f) m
  unfolding script_length frames_in microseconds_in
  counts_frame bytes = record { bytes = omega (arith, c); frames = omega (arith, c); microseconds = c.microseconds }

  pub counts_wait : (n : ℕ) → Counts (wait n ∷ rs) (6 + l) f (n + m)
  unfolding script_length frames_in microseconds_in
  counts_wait n = record { bytes = omega (arith, c); frames = c.frames; microseconds = omega (arith, c) }

  pub counts_append : {ss : List Record} {k g n : ℕ} → Counts ss k g n → Counts (rs ++ ss) (l + k) (f + g) (m + n)
  counts_append {ss} d = record {
    bytes = omega (arith, script_length_append rs ss, c, d);
    frames = omega (arith, frames_append rs ss, c, d);
    microseconds = omega (arith, microseconds_append rs ss, c, d);
  }

  -- the same numbers, written otherwise
  pub counts_as : {k g n : ℕ} → l ≡ k → f ≡ g → m ≡ n → Counts rs k g n
  counts_as p q r = record { bytes = omega (arith, c, p); frames = omega (arith, c, q); microseconds = omega (arith, c, r) }

  pub measure_is : measure_of rs ≡ record { length = l; frames = f; microseconds = m }
  unfolding measure_of
  measure_is = rw (c.bytes, c.frames, c.microseconds) refl

-- each field of the measure is that of the script
pub measured : (rs : List Record) → Counts rs (measure_of rs).length (measure_of rs).frames (measure_of rs).microseconds
unfolding measure_of
measured rs = record { bytes = refl; frames = refl; microseconds = refl }
