-- The laws of `front`: it reads back what `encode_record` wrote, and what is known of a record that it reads.
-- Assumes nothing.
use mathlib.Core.Path.{◌≡◌, refl, sym, ap, ap₂, ◌∙◌}
use mathlib.Core.Bool.{true, false, ◌&&◌, ◌||◌}
use mathlib.Core.Logic.{◌⊎◌, ⊎_elim}
use mathlib.Core.List.{List, [], ◌∷◌, ◌++◌}
use Prim.Native.Nat.{ℕ, suc, ◌+◌, ◌/◌, ◌%◌, ◌≤◌, ◌<◌}
use native.Mathlib.Nat.{div-div-eq-div-mul, div-add-mod'}
use native.Mathlib.Omega.{arith}
use lib.Dec.{eqb, ltb}
use lib.ListN.{length, take, drop, length-append, length-drop, take-append-drop}
use lib.Seq.{take-append_seam, drop-append_seam, length-take-le}
use borrow.Author.Tests.{eqb-true, ltb-false, lt-ltb, le-ltb}
use Rattle.common.proofs.Laws.Booleans.{and_l, and_r, or_none_l, or_none_r, or_true}
use Rattle.common.proofs.Laws.Choice.{cond_elim, yes, no}
use Rattle.script.specs.Record.{Record, frame, wait, script_mark, frame_mark, wait_mark, Fits, encode_record, record_length}
use Rattle.common.specs.Bits.{Bytes}
use Rattle.common.specs.Numbers.{two_bytes, four_bytes}
use Rattle.common.specs.Limits.{longest_frame}
use Rattle.script.specs.Decode.{Fault, wrong_length, cut_short, Front, end, item, malformed, front_body, front_frame, front_wait, front}

four_bytes_back : (n : ℕ) → n < 4294967296 → four_bytes (n / 16777216) (n / 65536 % 256) (n / 256 % 256) (n % 256) ≡ n
four_bytes_back n h =
    let e : n / 256 / 256 ≡ n / 65536 = div-div-eq-div-mul n 256 256 in
    let f : n / 65536 / 256 ≡ n / 16777216 = div-div-eq-div-mul n 65536 256 in
    omega arith

-- behind a length: out of range, longer than what is left, or the frame
pub body_wrong : (n : ℕ) (rest : List ℕ) → ltb n 1 || ltb longest_frame n ≡ true → front_body n rest ≡ malformed wrong_length
unfolding front_body
body_wrong n rest wrong = sym (yes _ wrong refl)

pub body_short : (n : ℕ) (rest : List ℕ) → ltb n 1 || ltb longest_frame n ≡ false → length rest < n → front_body n rest ≡ malformed cut_short
unfolding front_body
body_short n rest right h = sym (no _ right (yes _ (lt-ltb (length rest) n h) refl))

pub body_whole : (n : ℕ) (rest : List ℕ) → ltb n 1 || ltb longest_frame n ≡ false → n ≤ length rest
    → front_body n rest ≡ item (frame (take n rest)) (drop n rest)
unfolding front_body
body_whole n rest right h = sym (no _ right (no _ (le-ltb (length rest) n h) refl))

pub right_length : (n : ℕ) → 1 ≤ n → n ≤ longest_frame → ltb n 1 || ltb longest_frame n ≡ false
right_length n least most = rw (le-ltb n 1 least) (le-ltb longest_frame n most)

pub other_length : (n : ℕ) → (n < 1) ⊎ (longest_frame < n) → ltb n 1 || ltb longest_frame n ≡ true
other_length n wrong =
    ⊎_elim (λ few. rw (lt-ltb n 1 few) refl) (λ many. rw (lt-ltb longest_frame n many) (or_true (ltb n 1))) wrong

-- a written record is read back, whatever follows it
pub front_encode : (r : Record) (rest : List ℕ) → Fits r → front (encode_record r ++ rest) ≡ item r rest
unfolding front front_frame front_wait encode_record
front_encode (frame bytes) rest f =
    rw (div-add-mod' (length bytes) 256)
    (body_whole (length bytes) (bytes ++ rest) (right_length (length bytes) f.0 f.1) (omega (arith, length-append bytes rest))
    ∙ ap₂ (λ (x y : List ℕ). item (frame x) y) (take-append_seam bytes rest) (drop-append_seam bytes rest))
front_encode (wait n) rest f = ap (λ (x : ℕ). item (wait x) rest) (four_bytes_back n f)

-- a frame stands behind its mark and its length
abbrev pub Body : List ℕ → Record → Type 0
Body bytes (frame body) = body ≡ take (length body) (drop 4 bytes)
Body bytes (wait microseconds) = Unit {0}

-- what is known where a record stands at the front
pub record Item (bytes : List ℕ) (r : Record) (rest : List ℕ) : Type 0 where
  pub length_is : length bytes ≡ record_length r + length rest
  pub rest_is : rest ≡ drop (record_length r) bytes
  pub body : Body bytes r
  pub least : 5 ≤ record_length r
  pub encoded : Bytes bytes → (bytes ≡ encode_record r ++ rest) × Fits r

-- what is known of whatever stands there
abbrev pub Seen : List ℕ → Front → Type 0
Seen bytes end = bytes ≡ []
Seen bytes (item r rest) = Item bytes r rest
Seen bytes (malformed fault) = Unit {0}

frame_item : (first second high low : ℕ) (rest : List ℕ) → eqb first script_mark && eqb second frame_mark ≡ true
    → ltb (two_bytes high low) 1 || ltb longest_frame (two_bytes high low) ≡ false → two_bytes high low ≤ length rest
    → Item (first ∷ second ∷ high ∷ low ∷ rest) (frame (take (two_bytes high low) rest)) (drop (two_bytes high low) rest)
unfolding front front_frame encode_record
frame_item first second high low rest mark right inside =
    let n : ℕ = two_bytes high low in
    let least : 1 ≤ n = ltb-false n 1 (or_none_l (ltb n 1) (ltb longest_frame n) right) in
    let most : n ≤ longest_frame = ltb-false longest_frame n (or_none_r (ltb n 1) (ltb longest_frame n) right) in
    let long : length (take n rest) ≡ n = length-take-le n rest inside in
    let four : 4 + n ≡ suc (suc (suc (suc n))) = omega arith in
    record {
      length_is = omega (arith, long, length-drop n rest);
      rest_is = rw (long, four) refl;
      body = rw long refl;
      least = omega arith;
      encoded = λ b.
          let is : first ≡ script_mark = eqb-true first script_mark (and_l (eqb first script_mark) (eqb second frame_mark) mark) in
          let also : second ≡ frame_mark = eqb-true second frame_mark (and_r (eqb first script_mark) (eqb second frame_mark) mark) in
          let small : low < 256 = b 3 in
          let h : n / 256 ≡ high = omega (arith, small) in
          let l : n % 256 ≡ low = omega (arith, small) in
          (rw (long, is, also, h, l, take-append-drop n rest) refl, (omega arith, omega arith));
    }

wait_item : (first second a b c d : ℕ) (rest : List ℕ) → eqb first script_mark && eqb second frame_mark ≡ false → eqb first script_mark && eqb second wait_mark ≡ true
    → Item (first ∷ second ∷ a ∷ b ∷ c ∷ d ∷ rest) (wait (four_bytes a b c d)) rest
unfolding front front_wait encode_record
wait_item first second a b c d rest other mark = record {
  length_is = omega arith;
  rest_is = refl;
  body = tt;
  least = omega arith;
  encoded = λ h.
      let n : ℕ = four_bytes a b c d in
      let small_a : a < 256 = h 2 in
      let small_b : b < 256 = h 3 in
      let small_c : c < 256 = h 4 in
      let small_d : d < 256 = h 5 in
      let is : first ≡ script_mark = eqb-true first script_mark (and_l (eqb first script_mark) (eqb second wait_mark) mark) in
      let also : second ≡ wait_mark = eqb-true second wait_mark (and_r (eqb first script_mark) (eqb second wait_mark) mark) in
      let ea : n / 16777216 ≡ a = omega arith in
      let eb : n / 65536 % 256 ≡ b = omega arith in
      let ec : n / 256 % 256 ≡ c = omega arith in
      let ed : n % 256 ≡ d = omega arith in
      (rw (is, also, ea, eb, ec, ed) refl, omega arith);
}

frame_seen : (first second : ℕ) (bytes : List ℕ) → eqb first script_mark && eqb second frame_mark ≡ true → Seen (first ∷ second ∷ bytes) (front_frame bytes)
unfolding front_frame front_body
frame_seen first second [] mark = tt
frame_seen first second (high ∷ []) mark = tt
frame_seen first second (high ∷ low ∷ rest) mark =
    let n : ℕ = two_bytes high low in
    let P = Seen (first ∷ second ∷ high ∷ low ∷ rest) in
    cond_elim P (ltb n 1 || ltb longest_frame n) (λ _. tt)
    (λ right. cond_elim P (ltb (length rest) n) (λ _. tt)
    (λ whole. frame_item first second high low rest mark right (ltb-false (length rest) n whole)))

wait_seen : (first second : ℕ) (bytes : List ℕ) → eqb first script_mark && eqb second frame_mark ≡ false → eqb first script_mark && eqb second wait_mark ≡ true
    → Seen (first ∷ second ∷ bytes) (front_wait bytes)
unfolding front_wait
wait_seen first second [] other mark = tt
wait_seen first second (a ∷ []) other mark = tt
wait_seen first second (a ∷ b ∷ []) other mark = tt
wait_seen first second (a ∷ b ∷ c ∷ []) other mark = tt
wait_seen first second (a ∷ b ∷ c ∷ d ∷ rest) other mark = wait_item first second a b c d rest other mark

pub front_seen : (bytes : List ℕ) → Seen bytes (front bytes)
unfolding front
front_seen [] = refl
front_seen (first ∷ []) = tt
front_seen (first ∷ second ∷ bytes) =
    let P = Seen (first ∷ second ∷ bytes) in
    cond_elim P (eqb first script_mark && eqb second frame_mark) (λ mark. frame_seen first second bytes mark)
    (λ other. cond_elim P (eqb first script_mark && eqb second wait_mark) (λ mark. wait_seen first second bytes other mark) (λ _. tt))

-- bytes that are no record are some bytes
pub malformed_some : (bytes : List ℕ) {fault : Fault} → front bytes ≡ malformed fault → 0 < length bytes
unfolding front
malformed_some [] {fault} e = let z : ◌≡◌ {A = ℕ} 0 1 = cc in absurd (omega arith)
malformed_some (first ∷ bytes) {fault} e = omega arith

-- a record that is read
pub front_item : (bytes : List ℕ) {r : Record} {rest : List ℕ} → front bytes ≡ item r rest → Item bytes r rest
front_item bytes e = rw e at (front_seen bytes)
