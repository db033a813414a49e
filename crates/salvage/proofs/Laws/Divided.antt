-- The pieces of a sector are what `Divided` says, and that fixes them.
-- Assumes nothing.
use mathlib.Core.Path.{◌≡◌, refl, sym, ap, ◌∙◌}
use mathlib.Core.Bool.{true}
use mathlib.Core.List.{List, [], ◌∷◌, ◌++◌}
use mathlib.Core.Logic.{⊎_elim}
use Prim.Native.Nat.{ℕ, suc, ◌+◌, ◌-◌, ◌≤◌, ◌<◌}
use native.Mathlib.Omega.{arith}
use lib.Dec.{ltb}
use lib.ListN.{length, take, drop, replicate, length-drop, take-append-drop}
use lib.Seq.{drop-drop, drop-length, drop-append-le, take-append-le, take_at}
use borrow.Author.Tests.{lt-ltb, le-ltb}
use Rattle.common.specs.Bits.{bit}
use Rattle.common.specs.Lists.{within}
use Rattle.common.specs.Refusals.{Exactly}
use Rattle.common.proofs.Laws.Lists.{split}
use Rattle.common.proofs.Laws.Places.{within_bounds, within_yes, within_below, within_above}
use Rattle.names.specs.Records.{Front, none, item, front, record_bytes}
use Rattle.names.proofs.Laws.Front.{front_item, item_long, front_exactly}
use Rattle.names.proofs.Laws.Padded.{front_more, front_erased_behind}
use Rattle.salvage.specs.Pieces.{Piece, kept, dropped, piece_length, drop_byte, pieces_in, used_length, used_part, pieces_of, stretches_from}
use Rattle.salvage.specs.Divided.{holding, EachPiece, Right, Behind, Apart, Divided}
use Rattle.salvage.proofs.Laws.Pieces.{pieces_nil, pieces_item, pieces_by, Fresh, drop_bytes, drop_fresh, pieces_none_run}
use Rattle.salvage.proofs.Laws.Used.{used_is, used_exactly, used_part_length, used_split}
use Rattle.salvage.proofs.Laws.Apart.{total, pieces_total, pieces_spaced, stretches_apart}

-- ---- each place once

-- pieces one behind the other hold the places from the first one's start up to the last one's end, once each
within_join : (at n m k : ℕ) → bit (within at n k) 1 + bit (within (at + n) m k) 1 ≡ bit (within at (n + m) k) 1
within_join at n m k =
    ⊎_elim (λ before. rw (within_below at n k before, within_below (at + n) m k (omega arith), within_below at (n + m) k before) refl)
    (λ from. ⊎_elim
    (λ first. rw (within_yes at n k from first, within_below (at + n) m k first, within_yes at (n + m) k from (omega arith)) refl)
    (λ later. ⊎_elim
    (λ second. rw (within_above at n k later, within_yes (at + n) m k later second, within_yes at (n + m) k from (omega arith)) refl)
    (λ behind. rw (within_above at n k later, within_above (at + n) m k behind, within_above at (n + m) k (omega arith)) refl)
    (split k (at + n + m))) (split k (at + n))) (split k at)

within_none : (at k : ℕ) → bit (within at 0 k) 1 ≡ 0
within_none at k = ⊎_elim (λ before. rw (within_below at 0 k before) refl) (λ from. rw (within_above at 0 k (omega arith)) refl) (split k at)

holding_total : (k at : ℕ) (pieces : List Piece) → holding k at pieces ≡ bit (within at (total pieces) k) 1
unfolding holding total
holding_total k at [] = sym (within_none at k)
holding_total k at (p ∷ pieces) =
    ap (λ (n : ℕ). bit (within at (piece_length p) k) 1 + n) (holding_total k (at + piece_length p) pieces)
    ∙ within_join at (piece_length p) (total pieces) k

within_first : (n k : ℕ) → bit (within 0 n k) 1 ≡ bit (ltb k n) 1
within_first n k =
    ⊎_elim (λ below. rw (within_yes 0 n k (omega arith) (omega arith), lt-ltb k n below) refl)
    (λ from. rw (within_above 0 n k (omega arith), le-ltb k n from) refl) (split k n)

covered : (pieces : List Piece) (used long : ℕ) → used ≤ long → total pieces ≡ used
    → (k : ℕ) → holding k 0 pieces + bit (within used (long - used) k) 1 ≡ bit (ltb k long) 1
covered pieces used long h t k =
    let there : 0 + used ≡ used = omega arith in
    let all : used + (long - used) ≡ long = omega arith in
    ap (λ (n : ℕ). n + bit (within used (long - used) k) 1) (holding_total k 0 pieces ∙ ap (λ (n : ℕ). bit (within 0 n k) 1) t)
    ∙ rw (there, all) at (within_join 0 used (long - used) k) ∙ within_first long k

-- ---- each piece is right

one_byte : (image : List ℕ) (at : ℕ) → front (drop at image) ≡ none → Right image at (dropped 1)
one_byte image at e k w = let b = within_bounds at 1 k w in let here : k ≡ at = omega (arith, b.0, b.1) in rw here e

byte_more : (image : List ℕ) (at n : ℕ) → front (drop at image) ≡ none → Right image (at + 1) (dropped n) → Right image at (dropped (suc n))
byte_more image at n e r k w =
    let b = within_bounds at (suc n) k w in
    ⊎_elim (λ first. let here : k ≡ at = omega (arith, b.0) in rw here e)
    (λ later. r k (within_yes (at + 1) n k (omega arith) (omega (arith, b.1)))) (split k (at + 1))

each_byte : (image : List ℕ) (at : ℕ) (pieces : List Piece) → front (drop at image) ≡ none → EachPiece (Right image) (at + 1) pieces
    → EachPiece (Right image) at (drop_byte pieces)
each_byte image at [] e r = (one_byte image at e, tt)
each_byte image at (kept name ∷ pieces) e r = (one_byte image at e, r)
each_byte image at (dropped n ∷ pieces) e r =
    let there : at + 1 + n ≡ at + suc n = omega arith in
    (byte_more image at n e r.0, rw there at r.1)

-- the walk from a place on
walk_right : (bytes image : List ℕ) (at : ℕ) → drop at image ≡ bytes → EachPiece (Right image) at (pieces_in bytes)
walk_right =
    pieces_by (λ bytes pieces. (image : List ℕ) (at : ℕ) → drop at image ≡ bytes → EachPiece (Right image) at pieces) (λ image at e. tt)
    (λ x bytes nothing behind image at e. each_byte image at (pieces_in bytes) (ap front e ∙ nothing) (behind image (at + 1) (next image at x bytes e)))
    (λ bytes name rest is behind image at e.
    let i = front_item bytes is in
    let l = item_long bytes is in (
      (i.good, ap (take (3 + length name)) (e ∙ i.is) ∙ take_at (record_bytes true name) rest (3 + length name) (omega arith)),
      behind image (at + (3 + length name)) (sym (drop-drop (3 + length name) at image) ∙ ap (drop (3 + length name)) e ∙ sym l.rest_is),
    ))
  where
    next : (image : List ℕ) (at x : ℕ) (bytes : List ℕ) → drop at image ≡ x ∷ bytes → drop (at + 1) image ≡ bytes
    next image at x bytes e = sym (drop-drop 1 at image) ∙ ap (drop 1) e

-- ---- FF behind the used bytes change none of it

module _ (used : List ℕ) (m : ℕ) where
  abbrev sector : List ℕ
  sector = used ++ replicate m 0xff

  drop_in : (k : ℕ) → k ≤ length used → drop k sector ≡ drop k used ++ replicate m 0xff
  drop_in k h = drop-append-le k used (replicate m 0xff) h

  none_in : (k : ℕ) → k ≤ length used → Exactly (front (drop k used) ≡ none) (front (drop k sector) ≡ none)
  none_in k h = record {
    when = λ e. ap front (drop_in k h) ∙ front_erased_behind (drop k used) m e;
    only_when = λ e. by (front (drop k used)) refl e;
  }
    where
      by : (f : Front) → front (drop k used) ≡ f → front (drop k sector) ≡ none → f ≡ none
      by none q e = refl
      by (item name rest) q e =
          let clash : none ≡ item name (rest ++ replicate m 0xff) = sym e ∙ ap front (drop_in k h) ∙ front_more (drop k used) (replicate m 0xff) q in
          let z : ◌≡◌ {A = ℕ} 0 1 = cc in absurd (omega arith)

  taken_in : (at n : ℕ) → at + n ≤ length used → take n (drop at sector) ≡ take n (drop at used)
  taken_in at n h =
      ap (take n) (drop_in at (omega arith)) ∙ take-append-le n (drop at used) (replicate m 0xff) (omega (arith, length-drop at used))

  right_in : (at : ℕ) (p : Piece) → at + piece_length p ≤ length used → Exactly (Right used at p) (Right sector at p)
  right_in at (kept name) h = record {
    when = λ r. (r.0, taken_in at (3 + length name) h ∙ r.1);
    only_when = λ r. (r.0, sym (taken_in at (3 + length name) h) ∙ r.1);
  }
  right_in at (dropped n) h = record {
    when = λ r k w. (none_in k (omega (arith, (within_bounds at n k w).1))).when (r k w);
    only_when = λ r k w. (none_in k (omega (arith, (within_bounds at n k w).1))).only_when (r k w);
  }

  each_in : (at : ℕ) (pieces : List Piece) → at + total pieces ≤ length used → Exactly (EachPiece (Right used) at pieces) (EachPiece (Right sector) at pieces)
  unfolding total
  each_in at [] h = record { when = λ r. tt; only_when = λ r. tt }
  each_in at (p ∷ pieces) h =
      let first = right_in at p (omega arith) in
      let others = each_in (at + piece_length p) pieces (omega arith) in
      record {
        when = λ r. (first.when r.0, others.when r.1);
        only_when = λ r. (first.only_when r.0, others.only_when r.1);
      }

-- ---- so the walk's pieces are such

-- image and used bytes, whatever they are
right_of : (image used : List ℕ) (m : ℕ) → image ≡ used ++ replicate m 0xff → EachPiece (Right image) 0 (pieces_in used)
right_of image used m e = rw e ((each_in used m 0 (pieces_in used) (omega (arith, pieces_total used))).when (walk_right used used 0 refl))

pub divided : (image : List ℕ) → Divided image (pieces_of image) (used_length image)
unfolding pieces_of
divided image =
    let u = used_is image in
    let pieces : List Piece = pieces_in (used_part image) in
    record {
      inside = u.inside;
      covered_once = covered pieces (used_length image) (length image) u.inside (pieces_total (used_part image) ∙ used_part_length image);
      pieces_right = right_of image (used_part image) (length image - used_length image) (used_split image);
      stretches_apart = stretches_apart 0 pieces (pieces_spaced (used_part image));
      tail_erased = u.erased;
      before_tail = u.last;
    }

-- ---- and no other pieces are

-- places that are held once fix where the pieces end
covered_total : (pieces : List Piece) (used long : ℕ) → used ≤ long
    → ((k : ℕ) → holding k 0 pieces + bit (within used (long - used) k) 1 ≡ bit (ltb k long) 1) → total pieces ≡ used
covered_total pieces used long h once =
    ⊎_elim (λ short. absurd (too_short short)) (λ enough. ⊎_elim (λ over. absurd (too_long over)) (λ most. omega arith) (split used (total pieces))) (split (total pieces) used)
  where
    at : (k : ℕ) → bit (ltb k (total pieces)) 1 + bit (within used (long - used) k) 1 ≡ bit (ltb k long) 1
    at k = ap (λ (n : ℕ). n + bit (within used (long - used) k) 1) (sym (holding_total k 0 pieces ∙ within_first (total pieces) k)) ∙ once k

    -- the place behind them is held by nothing
    too_short : total pieces < used → ⊥
    too_short s =
        let none = rw (
          le-ltb (total pieces) (total pieces) (omega arith),
          within_below used (long - used) (total pieces) s,
          lt-ltb (total pieces) long (omega arith),
        ) at (at (total pieces)) in
        omega (arith, none)

    -- the first place of the final stretch is held twice, or lies behind the sector
    too_long : used < total pieces → ⊥
    too_long l =
        ⊎_elim
        (λ some.
        let twice = rw (lt-ltb used (total pieces) l, within_yes used (long - used) used (omega arith) (omega arith), lt-ltb used long some) at (at used) in
        omega (arith, twice))
        (λ all.
        let outside = rw (lt-ltb used (total pieces) l, within_above used (long - used) used (omega arith), le-ltb used long all) at (at used) in
        omega (arith, outside))
        (split used long)

-- no stretch is next to one
fresh_apart : (at : ℕ) (pieces : List Piece) → Behind at (stretches_from at pieces) → Fresh pieces
unfolding stretches_from
fresh_apart at [] b = tt
fresh_apart at (kept name ∷ pieces) b = tt
fresh_apart at (dropped n ∷ pieces) b = omega arith

-- right pieces that are apart are those of the walk, from each place on
right_walk : (bytes : List ℕ) (at : ℕ) (pieces : List Piece) → EachPiece (Right bytes) at pieces → Apart (stretches_from at pieces)
    → at + total pieces ≡ length bytes → pieces ≡ pieces_in (drop at bytes)
unfolding stretches_from total
right_walk bytes at [] r a t =
    let end : at ≡ length bytes = omega arith in
    rw end (sym (ap pieces_in (drop-length bytes) ∙ pieces_nil))
right_walk bytes at (kept name ∷ pieces) r a t =
    let n : ℕ = 3 + length name in
    let is : drop at bytes ≡ record_bytes true name ++ drop (at + n) bytes =
    sym (take-append-drop n (drop at bytes)) ∙ rw (r.0.1, drop-drop n at bytes) refl in
    ap (λ (l : List Piece). kept name ∷ l) (right_walk bytes (at + n) pieces r.1 a (omega arith))
    ∙ sym (pieces_item (drop at bytes) ((front_exactly (drop at bytes) name (drop (at + n) bytes)).only_when record { good = r.0.0; is = is }))
right_walk bytes at (dropped n ∷ pieces) r a t =
    sym (pieces_none_run bytes n at (omega arith) (λ k f b. r.0 k (within_yes at n k f b))
    ∙ ap (drop_bytes n) (sym (right_walk bytes (at + n) pieces r.1 a.1.1 (omega arith)))
    ∙ drop_fresh n pieces a.0 (fresh_apart (at + n) pieces a.1.0))

right_back : (image used : List ℕ) (m : ℕ) → image ≡ used ++ replicate m 0xff → (pieces : List Piece) → total pieces ≡ length used
    → EachPiece (Right image) 0 pieces → EachPiece (Right used) 0 pieces
right_back image used m e pieces t r = (each_in used m 0 pieces (omega arith)).only_when (rw e at r)

pub pieces_determined : (image : List ℕ) (pieces : List Piece) (used : ℕ) → Divided image pieces used → (pieces ≡ pieces_of image) × (used ≡ used_length image)
unfolding pieces_of
pieces_determined image pieces used d =
    let u = used_exactly image used record { inside = d.inside; erased = d.tail_erased; last = d.before_tail } in
    let t : total pieces ≡ length (used_part image) =
    covered_total pieces used (length image) d.inside d.covered_once ∙ u ∙ sym (used_part_length image) in (
      right_walk (used_part image) 0 pieces
          (right_back image (used_part image) (length image - used_length image) (used_split image) pieces t d.pieces_right) d.stretches_apart (omega (arith, t)),
      u,
    )
