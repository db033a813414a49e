-- What `front` finds at a record's own bytes: its mark, its length, its frame or its microseconds, whatever follows.
-- Assumes nothing.
use mathlib.Core.Path.{◌≡◌, refl, ap, ap₂, ◌∙◌}
use mathlib.Core.List.{List, [], ◌∷◌, ◌++◌, append_assoc}
use mathlib.Core.Logic.{◌⊎◌}
use Prim.Native.Nat.{ℕ, ◌≤◌, ◌<◌}
use native.Mathlib.Omega.{arith}
use lib.ListN.{length, length-append}
use lib.Seq.{take-append_seam, drop-append_seam}
use Rattle.common.specs.Limits.{longest_frame}
use Rattle.common.specs.Numbers.{two_bytes, four_bytes}
use Rattle.script.specs.Record.{Record, frame, wait, AllFit, script_mark, frame_mark, wait_mark, encode_record, encode, script_length}
use Rattle.script.specs.Decode.{Fault, wrong_length, item, malformed, front_frame, front_wait, front, bad_at, followed, decode}
use Rattle.script.proofs.Laws.Front.{right_length, other_length, body_wrong, body_whole, front_encode}
use Rattle.script.proofs.Laws.Decode.{decode_item, decode_malformed}

pub frame_here : (high low : ℕ) (f rest : List ℕ) → length f ≡ two_bytes high low → 1 ≤ length f → length f ≤ longest_frame
    → front (script_mark ∷ frame_mark ∷ high ∷ low ∷ (f ++ rest)) ≡ item (frame f) rest
unfolding front front_frame
frame_here high low f rest e least most =
    rw (← e)
    (body_whole (length f) (f ++ rest) (right_length (length f) least most) (omega (arith, length-append f rest))
    ∙ ap₂ (λ (x y : List ℕ). item (frame x) y) (take-append_seam f rest) (drop-append_seam f rest))

-- "1 to 4,101"
pub wrong_length_here : (high low : ℕ) (rest : List ℕ) → (two_bytes high low < 1) ⊎ (longest_frame < two_bytes high low)
    → front (script_mark ∷ frame_mark ∷ high ∷ low ∷ rest) ≡ malformed wrong_length
unfolding front front_frame
wrong_length_here high low rest wrong = let n : ℕ = two_bytes high low in body_wrong n rest (other_length n wrong)

pub wait_here : (a b c d : ℕ) (rest : List ℕ) → front (script_mark ∷ wait_mark ∷ a ∷ b ∷ c ∷ d ∷ rest) ≡ item (wait (four_bytes a b c d)) rest
unfolding front front_wait
wait_here a b c d rest = refl

-- behind records that fit
pub decode_bad_behind : (rs : List Record) (bytes : List ℕ) {fault : Fault} → AllFit rs → front bytes ≡ malformed fault
    → decode (encode rs ++ bytes) ≡ bad_at fault (script_length rs)
unfolding encode script_length
decode_bad_behind [] bytes fit e = decode_malformed bytes e
decode_bad_behind (r ∷ rs) bytes fit e =
    rw (append_assoc (encode_record r) (encode rs) bytes)
    (decode_item (encode_record r ++ (encode rs ++ bytes)) (front_encode r (encode rs ++ bytes) fit.0) ∙ ap (followed r) (decode_bad_behind rs bytes fit.1 e))
