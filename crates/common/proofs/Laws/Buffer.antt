-- The laws of `written` and `Put`: bytes laid into a buffer one after another, and what a loop that lays them has left to do.
-- Assumes nothing.
use mathlib.Core.Path.{◌≡◌, refl, sym, ap, ◌∙◌}
use mathlib.Core.List.{List, [], ◌∷◌, ◌++◌, append_assoc}
use Prim.Native.Nat.{ℕ, ◌+◌, ◌≤◌, ◌<◌}
use native.Mathlib.Nat.{add-zero, zero-add}
use native.Mathlib.Numerals.{add-one}
use native.Mathlib.Omega.{arith}
use lib.ListN.{length, take, drop, set, length-append, length-take, length-drop, take-append-drop, drop_of_length-le, get_or}
use lib.Seq.{set_split, take-append_seam, take_at, length-take-le, drop-append-add, drop-drop, drop-cons}
use Rattle.common.specs.Buffer.{written, Put}

written_nil : (at : ℕ) (buffer : List ℕ) → written at [] buffer ≡ buffer
unfolding written
written_nil at buffer = ap (λ (k : ℕ). take at buffer ++ drop k buffer) (add-zero at) ∙ take-append-drop at buffer

written_one : (at x : ℕ) (buffer : List ℕ) → at < length buffer → written at (x ∷ []) buffer ≡ set buffer at x
unfolding written
written_one at x buffer h = ap (λ (k : ℕ). take at buffer ++ (x ∷ drop k buffer)) (add-one at) ∙ sym (set_split buffer at x h)

pub written_front : (bytes buffer : List ℕ) → written 0 bytes buffer ≡ bytes ++ drop (length bytes) buffer
unfolding written
written_front bytes buffer = ap (λ (k : ℕ). bytes ++ drop k buffer) (zero-add (length bytes))

-- behind a front that stays
pub written_behind : (front bytes rest : List ℕ) → written (length front) bytes (front ++ rest) ≡ front ++ (bytes ++ drop (length bytes) rest)
unfolding written
written_behind front bytes rest = rw (take-append_seam front rest, drop-append-add front rest (length bytes)) refl

length_written : (at : ℕ) (bytes buffer : List ℕ) → at + length bytes ≤ length buffer → length (written at bytes buffer) ≡ length buffer
unfolding written
length_written at bytes buffer h = simp (length-append, length-take, length-drop) (omega arith)

-- bytes, and further ones right behind them
written_append : (at : ℕ) (xs ys buffer : List ℕ) → at ≤ length buffer
    → written (at + length xs) ys (written at xs buffer) ≡ written at (xs ++ ys) buffer
unfolding written
written_append at xs ys buffer h =
    let front : List ℕ = take at buffer ++ xs in
    let rest : List ℕ = drop (at + length xs) buffer in
    let split : take at buffer ++ (xs ++ rest) ≡ front ++ rest = sym (append_assoc (take at buffer) xs rest) in
    let long : length front ≡ at + length xs = omega (arith, length-append (take at buffer) xs, length-take-le at buffer h) in
    let same : at + length xs + length ys ≡ at + length (xs ++ ys) = omega (arith, length-append xs ys) in
    let kept : take (at + length xs) (front ++ rest) ≡ front = take_at front rest (at + length xs) long in
    let left : drop (at + length xs + length ys) (front ++ rest) ≡ drop (at + length (xs ++ ys)) buffer =
    ap (λ (k : ℕ). drop (k + length ys) (front ++ rest)) (sym long) ∙ drop-append-add front rest (length ys) ∙ drop-drop (length ys) (at + length xs) buffer ∙ ap (λ (k : ℕ). drop k buffer) same in
    rw (split, kept, left) (simp append_assoc)

pub put_none : (at : ℕ) (buffer : List ℕ) → Put at [] buffer buffer at
put_none at buffer = record { behind = omega arith; stored = sym (written_nil at buffer) }

put_one : (at x : ℕ) (buffer : List ℕ) → at < length buffer → Put at (x ∷ []) buffer (set buffer at x) (at + 1)
put_one at x buffer h = record { behind = omega arith; stored = sym (written_one at x buffer h) }

-- what was laid at the front lies within the buffer
pub front_within : {bytes before after : List ℕ} {next : ℕ} → Put 0 bytes before after next → next ≤ length after
front_within {bytes} {before} p =
    omega (arith, p.behind, ap length (p.stored ∙ written_front bytes before), length-append bytes (drop (length bytes) before))

-- ---- bytes laid one after another, by calls or by a loop

-- what is left: with it the buffer will be as it is to be, and as long as it was
pub record Left (at : ℕ) (rest buffer : List ℕ) (at₀ : ℕ) (all buffer₀ : List ℕ) : Type 0 where
  pub ends : at + length rest ≡ at₀ + length all
  pub fits : at₀ + length all ≤ length buffer₀
  pub long : length buffer ≡ length buffer₀
  pub stores : written at rest buffer ≡ written at₀ all buffer₀

abbrev pub Whole : ℕ → List ℕ → List ℕ → Type 0
Whole at all buffer = Left at all buffer at all buffer

pub left_start : (at : ℕ) (all buffer : List ℕ) → at + length all ≤ length buffer → Whole at all buffer
left_start at all buffer h = record { ends = refl; fits = h; long = refl; stores = refl }

-- there is room for it, and for the next bytes
pub left_fits : {at at₀ : ℕ} {rest buffer all buffer₀ : List ℕ} → Left at rest buffer at₀ all buffer₀ → at + length rest ≤ length buffer
left_fits l = omega (arith, l.ends, l.fits, l.long)

pub left_room : (xs rest : List ℕ) {at at₀ : ℕ} {buffer all buffer₀ : List ℕ} → Left at (xs ++ rest) buffer at₀ all buffer₀ → at + length xs ≤ length buffer
left_room xs rest l = omega (arith, length-append xs rest, l.ends, l.fits, l.long)

-- they are laid
pub left_turn : (xs rest : List ℕ) {at at₀ next : ℕ} {buffer after all buffer₀ : List ℕ} → Left at (xs ++ rest) buffer at₀ all buffer₀
    → Put at xs buffer after next → Left next rest after at₀ all buffer₀
left_turn xs rest {at} {at₀} {next} {buffer} {after} {all} {buffer₀} l p =
    let n = length-append xs rest in
    record {
      ends = omega (arith, p.behind, l.ends);
      fits = l.fits;
      long = ap length p.stored ∙ length_written at xs buffer (left_room xs rest l) ∙ l.long;
      stores = rw (p.behind, p.stored) (written_append at xs rest buffer (omega (arith, left_room xs rest l))) ∙ l.stores;
    }

-- the last bytes are laid
pub left_last : {at at₀ next : ℕ} {rest buffer after all buffer₀ : List ℕ} → Left at rest buffer at₀ all buffer₀ → Put at rest buffer after next
    → Put at₀ all buffer₀ after next
left_last l p = record { behind = p.behind ∙ l.ends; stored = p.stored ∙ l.stores }

-- nothing is left
pub left_none : {at at₀ : ℕ} {buffer all buffer₀ : List ℕ} → Left at [] buffer at₀ all buffer₀ → Put at₀ all buffer₀ buffer at
left_none {at} {at₀} {buffer} l = left_last l (put_none at buffer)

-- a loop that copies byte by byte, at its turn i
module _ {next i at : ℕ} {bytes buffer buffer₀ : List ℕ} (l : Left next (drop i bytes) buffer at bytes buffer₀) where
  byte_left : i < length bytes → Left next ((get_or bytes i 0 ∷ []) ++ drop (i + 1) bytes) buffer at bytes buffer₀
  byte_left h = rw (add-one i) (rw (drop-cons bytes i 0 h) at l)

  pub byte_room : i < length bytes → next < length buffer
  byte_room h = omega (arith, left_room (get_or bytes i 0 ∷ []) (drop (i + 1) bytes) (byte_left h))

  pub byte_turn : i < length bytes → Left (next + 1) (drop (i + 1) bytes) (set buffer next (get_or bytes i 0)) at bytes buffer₀
  byte_turn h = left_turn (get_or bytes i 0 ∷ []) (drop (i + 1) bytes) (byte_left h) (put_one next (get_or bytes i 0) buffer (byte_room h))

  pub byte_last : length bytes ≤ i → Put at bytes buffer₀ buffer next
  byte_last h = left_none (rw (drop_of_length-le bytes h) at l)
