-- The laws of `encode` and of the counts: of no records, of a first one and the others, of records one after another (`-append`), and how the script's
-- length bounds them (`-bound`).
-- Assumes nothing.
use mathlib.Core.Path.{◌≡◌, refl}
use mathlib.Core.List.{List, [], ◌∷◌, ◌++◌, append_assoc}
use Prim.Native.Nat.{ℕ, ◌+◌, ◌/◌, ◌%◌, ◌≤◌, ◌<◌}
use native.Mathlib.Omega.{arith}
use lib.ListN.{length, length-append}
use Rattle.common.proofs.Laws.Each.{each_append, each_left, each_right}
use Rattle.script.specs.Record.{Record, frame, wait, Fits, AllFit, script_mark, wait_mark, frame_head, encode_record, encode, record_length, script_length, frames_in, microseconds_in, output_length}

pub all_fit_append : (rs ss : List Record) → AllFit rs → AllFit ss → AllFit (rs ++ ss)
all_fit_append = each_append Fits

pub all_fit_left : (rs ss : List Record) → AllFit (rs ++ ss) → AllFit rs
all_fit_left = each_left Fits

pub all_fit_right : (rs ss : List Record) → AllFit (rs ++ ss) → AllFit ss
all_fit_right = each_right Fits

pub encode_none : encode [] ≡ []
unfolding encode
encode_none = refl

pub encode_front : (r : Record) (rs : List Record) → encode (r ∷ rs) ≡ encode_record r ++ encode rs
unfolding encode
encode_front r rs = refl

pub encoded_frame : (bytes : List ℕ) → encode_record (frame bytes) ≡ frame_head (length bytes) ++ bytes
unfolding encode_record
encoded_frame bytes = refl

pub encoded_wait : (n : ℕ) → encode_record (wait n) ≡ script_mark ∷ wait_mark ∷ n / 16777216 ∷ n / 65536 % 256 ∷ n / 256 % 256 ∷ n % 256 ∷ []
unfolding encode_record
encoded_wait n = refl

pub encode_append : (rs ss : List Record) → encode (rs ++ ss) ≡ encode rs ++ encode ss
unfolding encode
encode_append [] ss = refl
encode_append (r ∷ rs) ss = rw (encode_append rs ss, append_assoc (encode_record r) (encode rs) (encode ss)) refl

pub frames_append : (rs ss : List Record) → frames_in (rs ++ ss) ≡ frames_in rs + frames_in ss
unfolding frames_in
frames_append [] ss = omega arith
frames_append (frame bytes ∷ rs) ss = omega (arith, frames_append rs ss)
frames_append (wait n ∷ rs) ss = frames_append rs ss

pub microseconds_append : (rs ss : List Record) → microseconds_in (rs ++ ss) ≡ microseconds_in rs + microseconds_in ss
unfolding microseconds_in
microseconds_append [] ss = omega arith
microseconds_append (frame bytes ∷ rs) ss = microseconds_append rs ss
microseconds_append (wait n ∷ rs) ss = omega (arith, microseconds_append rs ss)

pub output_append : (rs ss : List Record) → output_length (rs ++ ss) ≡ output_length rs + output_length ss
unfolding output_length
output_append [] ss = omega arith
output_append (frame bytes ∷ rs) ss = omega (arith, output_append rs ss)
output_append (wait n ∷ rs) ss = output_append rs ss

-- a first record's bytes of output, and the others'
pub output_none : output_length [] ≡ 0
unfolding output_length
output_none = refl

pub output_frame : (bytes : List ℕ) (rs : List Record) → output_length (frame bytes ∷ rs) ≡ length bytes + output_length rs
unfolding output_length
output_frame bytes rs = refl

pub output_wait : (n : ℕ) (rs : List Record) → output_length (wait n ∷ rs) ≡ output_length rs
unfolding output_length
output_wait n rs = refl

pub script_length_first : (r : Record) (rs : List Record) → script_length (r ∷ rs) ≡ record_length r + script_length rs
unfolding script_length
script_length_first r rs = refl

pub script_length_append : (rs ss : List Record) → script_length (rs ++ ss) ≡ script_length rs + script_length ss
unfolding script_length
script_length_append [] ss = omega arith
script_length_append (r ∷ rs) ss = omega (arith, script_length_append rs ss)

pub encoded_record_length : (r : Record) → length (encode_record r) ≡ record_length r
unfolding encode_record
encoded_record_length (frame bytes) = omega arith
encoded_record_length (wait n) = refl

pub encoded_length : (rs : List Record) → length (encode rs) ≡ script_length rs
unfolding encode script_length
encoded_length [] = refl
encoded_length (r ∷ rs) = omega (arith, length-append (encode_record r) (encode rs), encoded_record_length r, encoded_length rs)

-- no bytes, no record
pub encode_empty : (rs : List Record) → length (encode rs) ≡ 0 → rs ≡ []
encode_empty [] e = refl
encode_empty (r ∷ rs) e = absurd (omega (arith, encoded_length (r ∷ rs), script_length_first r rs, record_length_pos r))
  where
    record_length_pos : (r : Record) → 0 < record_length r
    record_length_pos (frame bytes) = omega arith
    record_length_pos (wait n) = omega arith

pub output_bound : (rs : List Record) → output_length rs ≤ script_length rs
unfolding output_length script_length
output_bound [] = omega arith
output_bound (frame bytes ∷ rs) = omega (arith, output_bound rs)
output_bound (wait n ∷ rs) = omega (arith, output_bound rs)
