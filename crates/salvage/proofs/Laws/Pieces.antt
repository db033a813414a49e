-- The laws of `pieces_in`: a record or a byte a turn, what is proved of every walk, and stretches.
-- Assumes nothing.
use mathlib.Core.Path.{◌≡◌, refl, sym, ap, ◌∙◌}
use mathlib.Core.List.{List, [], ◌∷◌}
use Prim.Native.Nat.{ℕ, zero, suc, ◌+◌, ◌-◌, ◌≤◌, ◌<◌}
use native.Mathlib.Nat.{le_refl, add-zero}
use native.Mathlib.Numerals.{add-one}
use native.Mathlib.Omega.{arith}
use lib.ListN.{length, get_or, drop, drop_of_length-le}
use lib.Seq.{drop-cons}
use Rattle.common.proofs.Laws.Turns.{turns_same, by_length}
use Rattle.std.specs.Option.{is_some}
use Rattle.names.specs.Records.{Front, none, item, front, front_length}
use mathlib.Core.Bool.{true, true≢false}
use Rattle.names.proofs.Laws.Names.{rest_shorter}
use Rattle.salvage.specs.Pieces.{Piece, kept, dropped, drop_byte, pieces_on, pieces_within, pieces_in}
use Rattle.salvage.specs.Walk.{StretchEnds}

-- ---- a turn

within_on : (n m : ℕ) (x : ℕ) (bytes : List ℕ) (f : Front) → front (x ∷ bytes) ≡ f
    → ((rest : List ℕ) → length rest ≤ length bytes → pieces_within n rest ≡ pieces_within m rest)
    → pieces_on f bytes (pieces_within n) ≡ pieces_on f bytes (pieces_within m)
within_on n m x bytes none e go = ap drop_byte (go bytes (le_refl (length bytes)))
within_on n m x bytes (item name rest) e go = ap (λ (l : List Piece). kept name ∷ l) (go rest (omega (arith, rest_shorter (x ∷ bytes) e)))

within_end : (n : ℕ) → pieces_within n [] ≡ []
unfolding pieces_within
within_end zero = refl
within_end (suc n) = refl

within_turn : (n m : ℕ) (bytes : List ℕ) → ((rest : List ℕ) → length rest < length bytes → pieces_within n rest ≡ pieces_within m rest)
    → pieces_within (suc n) bytes ≡ pieces_within (suc m) bytes
unfolding pieces_within
within_turn n m [] go = refl
within_turn n m (x ∷ bytes) go = within_on n m x bytes (front (x ∷ bytes)) refl (λ rest h. go rest (omega arith))

-- where the bytes are at most as many as the turns, more turns find the same
within_same : (n m : ℕ) (bytes : List ℕ) → length bytes ≤ n → length bytes ≤ m → pieces_within n bytes ≡ pieces_within m bytes
within_same = turns_same pieces_within (λ n. within_end n ∙ sym (within_end 0)) within_turn

pub pieces_nil : pieces_in [] ≡ []
unfolding pieces_in pieces_within
pieces_nil = refl

pub pieces_none : (x : ℕ) (bytes : List ℕ) → front (x ∷ bytes) ≡ none → pieces_in (x ∷ bytes) ≡ drop_byte (pieces_in bytes)
unfolding pieces_in pieces_within
pieces_none x bytes e = rw e refl

pub pieces_item : (bytes : List ℕ) {name rest : List ℕ} → front bytes ≡ item name rest → pieces_in bytes ≡ kept name ∷ pieces_in rest
unfolding pieces_in pieces_within
pieces_item [] {name} {rest} e = absurd (omega (arith, rest_shorter [] e))
pieces_item (x ∷ bytes) {name} {rest} e =
    rw e
    (ap (λ (l : List Piece). kept name ∷ l)
    (within_same (length bytes) (length rest) rest (omega (arith, rest_shorter (x ∷ bytes) e)) (le_refl (length rest))))

-- ---- what is so of every walk

-- of no bytes, of a byte before a walk of which it is so, and of a record before one
module _ (P : List ℕ → List Piece → Type 0)
    (at_end : P [] [])
    (at_none : (x : ℕ) (bytes : List ℕ) → front (x ∷ bytes) ≡ none → P bytes (pieces_in bytes) → P (x ∷ bytes) (drop_byte (pieces_in bytes)))
    (at_item : (bytes name rest : List ℕ) → front bytes ≡ item name rest → P rest (pieces_in rest) → P bytes (kept name ∷ pieces_in rest)) where
  walked_on : (x : ℕ) (bytes : List ℕ) (f : Front) → front (x ∷ bytes) ≡ f → ((rest : List ℕ) → length rest ≤ length bytes → P rest (pieces_in rest))
      → P (x ∷ bytes) (pieces_in (x ∷ bytes))
  walked_on x bytes none e behind = rw (pieces_none x bytes e) (at_none x bytes e (behind bytes (le_refl (length bytes))))
  walked_on x bytes (item name rest) e behind =
      rw (pieces_item (x ∷ bytes) e) (at_item (x ∷ bytes) name rest e (behind rest (omega (arith, rest_shorter (x ∷ bytes) e))))

  walked : (bytes : List ℕ) → ((rest : List ℕ) → length rest < length bytes → P rest (pieces_in rest)) → P bytes (pieces_in bytes)
  walked [] behind = rw pieces_nil at_end
  walked (x ∷ bytes) behind = walked_on x bytes (front (x ∷ bytes)) refl (λ rest h. behind rest (omega arith))

  pub pieces_by : (bytes : List ℕ) → P bytes (pieces_in bytes)
  pieces_by = by_length (λ bytes. P bytes (pieces_in bytes)) walked

-- ---- stretches

-- so many bytes more dropped, before some pieces
abbrev pub drop_bytes : ℕ → List Piece → List Piece
drop_bytes zero pieces = pieces
drop_bytes (suc n) pieces = drop_bytes n (drop_byte pieces)

-- pieces that begin with no stretch
abbrev pub Fresh : List Piece → Type 0
Fresh [] = Unit {0}
Fresh (kept name ∷ pieces) = Unit {0}
Fresh (dropped n ∷ pieces) = ⊥

pub drop_joined : (n m : ℕ) (pieces : List Piece) → drop_bytes n (dropped m ∷ pieces) ≡ dropped (n + m) ∷ pieces
drop_joined zero m pieces = ap (λ (k : ℕ). dropped k ∷ pieces) (omega arith)
drop_joined (suc n) m pieces = drop_joined n (suc m) pieces ∙ ap (λ (k : ℕ). dropped k ∷ pieces) (omega arith)

-- they are one stretch
pub drop_fresh : (n : ℕ) (pieces : List Piece) → 0 < n → Fresh pieces → drop_bytes n pieces ≡ dropped n ∷ pieces
drop_fresh zero pieces h f = absurd (omega arith)
drop_fresh (suc n) [] h f = drop_joined n 1 [] ∙ ap (λ (k : ℕ). dropped k ∷ []) (omega arith)
drop_fresh (suc n) (kept name ∷ pieces) h f = drop_joined n 1 (kept name ∷ pieces) ∙ ap (λ (k : ℕ). dropped k ∷ kept name ∷ pieces) (omega arith)
drop_fresh (suc n) (dropped m ∷ pieces) h f = absurd f

-- from a place on: its byte is dropped
pub pieces_none_at : (bytes : List ℕ) (at : ℕ) → at < length bytes → front (drop at bytes) ≡ none
    → pieces_in (drop at bytes) ≡ drop_byte (pieces_in (drop (at + 1) bytes))
pieces_none_at bytes at h e =
    let split = drop-cons bytes at 0 h in
    rw (add-one at) (ap pieces_in split ∙ pieces_none (get_or bytes at 0) (drop (suc at) bytes) (ap front (sym split) ∙ e))

-- so many bytes are
pub pieces_none_run : (bytes : List ℕ) (n at : ℕ) → at + n ≤ length bytes → ((k : ℕ) → at ≤ k → k < at + n → front (drop k bytes) ≡ none)
    → pieces_in (drop at bytes) ≡ drop_bytes n (pieces_in (drop (at + n) bytes))
pieces_none_run bytes zero at h e = rw (add-zero at) refl
pieces_none_run bytes (suc n) at h e =
    let next : at + n + 1 ≡ at + suc n = omega arith in
    pieces_none_run bytes n at (omega arith) (λ k a b. e k a (omega arith))
    ∙ ap (drop_bytes n) (rw next at (pieces_none_at bytes (at + n) (omega arith) (e (at + n) (omega arith) (omega arith))))

-- ---- where a stretch ends

pub fresh_end : (bytes : List ℕ) (at : ℕ) → length bytes ≤ at → Fresh (pieces_in (drop at bytes))
fresh_end bytes at h = rw (drop_of_length-le bytes h, pieces_nil) tt

pub fresh_record : (bytes : List ℕ) → true ≡ is_some (front_length (front bytes)) → Fresh (pieces_in bytes)
fresh_record bytes some = by (front bytes) refl some
  where
    by : (f : Front) → front bytes ≡ f → true ≡ is_some (front_length f) → Fresh (pieces_in bytes)
    by none e h = absurd (true≢false h)
    by (item name rest) e h = rw (pieces_item bytes e) tt

pub stretch_ends : (bytes : List ℕ) (at end : ℕ) → at < end → end ≤ length bytes → ((k : ℕ) → at ≤ k → k < end → front (drop k bytes) ≡ none)
    → Fresh (pieces_in (drop end bytes)) → StretchEnds bytes at end
stretch_ends bytes at end onward inside nothing fresh =
    let n : ℕ = end - at in
    let there : at + n ≡ end = omega arith in
    let run = pieces_none_run bytes n at (omega arith) (λ k a b. nothing k a (omega arith)) in
    record {
      onward = onward;
      inside = inside;
      pieces_are = rw there at run ∙ drop_fresh n (pieces_in (drop end bytes)) (omega arith) fresh;
    }
