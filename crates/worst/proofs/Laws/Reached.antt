-- The worst cases are reached: on the F25L05PA all three numbers at once; on the F25L008A the bytes, with the time or with the frames.
-- Assumes nothing.
use mathlib.Core.Path.{◌≡◌, refl, ◌∙◌}
use mathlib.Core.Bool.{Bool, false, cond}
use mathlib.Core.List.{List}
use Prim.Native.Nat.{ℕ, ◌+◌, ◌%◌, ◌<◌}
use native.Mathlib.Omega.{arith}
use lib.Dec.{ltb}
use lib.ListN.{length, get_or, replicate, length-replicate, get_or-replicate}
use borrow.Author.Tests.{lt-ltb, le-ltb}
use Rattle.common.specs.Lists.{tab}
use Rattle.common.proofs.Laws.Choice.{cond_elim}
use Rattle.common.proofs.Laws.Lists.{length_tab, get_d_tab}
use Rattle.chip.specs.Chip.{f25l05pa, is_known, chip_of}
use Rattle.chip.proofs.Laws.Chip.{chip_of_8, chip_of_5}
use Rattle.state.specs.Power.{at_rest}
use Rattle.state.specs.Protection.{first_protected}
use Rattle.state.specs.Soundness.{is_sound}
use Rattle.worst.specs.Worst.{worst_of, Reaches}
use Rattle.worst.proofs.Laws.Blank.{Blank, most_time, most_frames, pages_reached, one_run_reached, single_words_reached}

-- ---- erased chips

-- the F25L05PA with BP 001
blank_05pa : (array : List ℕ) → length array ≡ 65536 → ((k : ℕ) → k < 65536 → get_or array k 0 ≡ 0xff) → Blank (at_rest 5 1 false false) array
unfolding is_sound is_known chip_of first_protected
blank_05pa array sized erased = record {
  sound = refl;
  ready = refl;
  no_aai = refl;
  awake = refl;
  unlocked = refl;
  protected = refl;
  sized = sized;
  large = omega arith;
  erased = λ k h. erased k (rw sized at h);
}

-- the F25L008A, new
blank_008a : (array : List ℕ) → length array ≡ 1048576 → ((k : ℕ) → k < 1048576 → get_or array k 0 ≡ 0xff) → Blank (at_rest 8 7 false false) array
unfolding is_sound is_known chip_of first_protected
blank_008a array sized erased = record {
  sound = refl;
  ready = refl;
  no_aai = refl;
  awake = refl;
  unlocked = refl;
  protected = refl;
  sized = sized;
  large = omega arith;
  erased = λ k h. erased k (rw sized at h);
}

-- ---- every byte 00

zeros : (i : ℕ) → i < 4096 → get_or (replicate {A = ℕ} 4096 0) i 0 ≡ 0
zeros i h = get_or-replicate {A = ℕ} 4096 i 0 0 h

zeros_long : length (replicate {A = ℕ} 4096 0) ≡ 4096
zeros_long = length-replicate {A = ℕ} 4096 0

zeros_bytes : (i : ℕ) → i < 4096 → get_or (replicate {A = ℕ} 4096 0) i 0 < 256
zeros_bytes i h = rw (zeros i h) (omega arith)

-- "Show for one of the chips a plan that reaches all its frame and byte limits": the F25L05PA with BP 001, and its time too
pub worst_reached : (wp : Bool) (array : List ℕ) → length array ≡ 65536 → ((k : ℕ) → k < 65536 → get_or array k 0 ≡ 0xff)
    → Reaches (at_rest 5 1 false false) wp array 1 (replicate 4096 0) (worst_of f25l05pa)
worst_reached wp array sized erased =
    rw chip_of_5 at (pages_reached (at_rest 5 1 false false) wp array (blank_05pa array sized erased) (replicate 4096 0) zeros_long zeros_bytes zeros (rw chip_of_5 refl))

-- the F25L008A, new
pub time_reached : (wp : Bool) (array : List ℕ) → length array ≡ 1048576 → ((k : ℕ) → k < 1048576 → get_or array k 0 ≡ 0xff)
    → Reaches (at_rest 8 7 false false) wp array 1 (replicate 4096 0) most_time
time_reached wp array sized erased =
    one_run_reached (at_rest 8 7 false false) wp array (blank_008a array sized erased) (replicate 4096 0) zeros_long zeros_bytes zeros (rw chip_of_8 refl)

-- ---- every second word 00

-- so many bytes, from address 1 on: 00 in every second word
abbrev second_byte : ℕ → ℕ
second_byte i = cond (ltb ((1 + i) % 4) 2) 0x00 0xff

pub every_second : ℕ → List ℕ
every_second n = tab n second_byte

second_long : (n : ℕ) → length (every_second n) ≡ n
unfolding every_second
second_long n = length_tab n second_byte

second_at : (n i : ℕ) → i < n → get_or (every_second n) i 0 ≡ second_byte i
unfolding every_second
second_at n i h = get_d_tab n second_byte i 0 h

second_bytes : (n i : ℕ) → i < n → get_or (every_second n) i 0 < 256
second_bytes n i h = rw (second_at n i h) (cond_elim (λ (x : ℕ). x < 256) (ltb ((1 + i) % 4) 2) (λ _. omega arith) (λ _. omega arith))

pub frames_reached : (wp : Bool) (array : List ℕ) → length array ≡ 1048576 → ((k : ℕ) → k < 1048576 → get_or array k 0 ≡ 0xff)
    → Reaches (at_rest 8 7 false false) wp array 1 (every_second 4096) most_frames
frames_reached wp array sized erased =
    single_words_reached (at_rest 8 7 false false) wp array (blank_008a array sized erased) (every_second 4096) (second_long 4096) (second_bytes 4096)
    (λ i h l. second_at 4096 i h ∙ rw (lt-ltb ((1 + i) % 4) 2 l) refl) (λ i h l. second_at 4096 i h ∙ rw (le-ltb ((1 + i) % 4) 2 l) refl) (rw chip_of_8 refl)
