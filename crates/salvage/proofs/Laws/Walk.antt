-- The walk over the used bytes: what its loops have found, and what they have left to do.
-- Assumes nothing.
use mathlib.Core.Path.{◌≡◌, refl, sym, ap, ◌∙◌}
use mathlib.Core.Bool.{true, false, false≢true}
use mathlib.Core.List.{List, [], ◌∷◌, ◌++◌}
use mathlib.Core.Logic.{⊎_elim}
use Prim.Native.Nat.{ℕ, ◌+◌, ◌-◌, ◌≤◌, ◌<◌}
use native.Mathlib.Omega.{arith}
use lib.ListN.{length, take, drop, length-drop, drop_of_length-le}
use lib.Seq.{drop-drop, take_at}
use denote.Ref.{Bor}
use Rattle.std.specs.Prelude.{Option, Some, None, unwrap_or}
use Rattle.std.specs.Option.{MatchOption, is_some}
use Rattle.common.specs.Buffer.{Put}
use Rattle.common.proofs.Laws.Buffer.{Left, left_start, left_room, left_turn, left_none}
use Rattle.common.proofs.Laws.Lists.{split}
use Rattle.names.specs.Records.{Front, none, item, front, front_length, record_bytes, records_bytes}
use Rattle.names.proofs.Laws.Front.{found, front_item, item_long}
use Rattle.salvage.specs.Pieces.{kept, pieces_in, kept_names, stretches_from, stretch_bytes, list_bytes}
use Rattle.salvage.specs.Pieces as Pieces
use Rattle.salvage.specs.Walk.{StretchEnds, Lies, PiecesPut}
use Rattle.salvage.specs.declared.pieces.Piece.{Piece}
use Rattle.salvage.specs.declared.pieces.Piece.TheVariants.{Kept, Dropped}
use Rattle.salvage.proofs.Laws.Kept.{records_fit}
use Rattle.salvage.proofs.Laws.Pieces.{pieces_nil, pieces_item, fresh_end, fresh_record, stretch_ends}

-- ---- the end of a stretch, looked for

none_there : (bytes : List ℕ) → false ≡ is_some (front_length (front bytes)) → front bytes ≡ none
none_there bytes h = by (front bytes) refl h
  where
    by : (f : Front) → front bytes ≡ f → false ≡ is_some (front_length f) → front bytes ≡ none
    by none e h = e
    by (item name rest) e h = absurd (false≢true h)

module _ (bytes : List ℕ) (at : ℕ) (inside : at < length bytes) (e : front (drop at bytes) ≡ none) where
  abbrev Unrecorded : ℕ → Type 0
  Unrecorded k = false ≡ is_some (front_length (front (drop k bytes)))

  -- from its start up to a place no record begins
  nothing : (end : ℕ) → ((k : ℕ) → at + 1 ≤ k → k < end → Unrecorded k) → (k : ℕ) → at ≤ k → k < end → front (drop k bytes) ≡ none
  nothing end clear k a b =
      ⊎_elim (λ first. let here : k ≡ at = omega arith in rw here e) (λ behind. none_there (drop k bytes) (clear k behind b)) (split k (at + 1))

  -- the first place behind it at which one does, or else the end
  pub stretch_found : (r : Option ℕ) (end : ℕ) → end ≡ unwrap_or r (length bytes)
      → MatchOption r ((k : ℕ) → at + 1 ≤ k → k < length bytes → Unrecorded k)
      (λ i. (at + 1 ≤ i) × (i < length bytes) × (true ≡ is_some (front_length (front (drop i bytes)))) × ((k : ℕ) → at + 1 ≤ k → k < i → Unrecorded k))
      → StretchEnds bytes at end
  stretch_found None end is f =
      rw is (stretch_ends bytes at (length bytes) inside (omega arith) (nothing (length bytes) f) (fresh_end bytes (length bytes) (omega arith)))
  stretch_found (Some i) end is f =
      rw is (stretch_ends bytes at i (omega (arith, f.0)) (omega (arith, f.1)) (nothing i f.3) (fresh_record (drop i bytes) f.2))

-- ---- a record that is kept

pub record KeptAt (bytes : List ℕ) (at n : ℕ) : Type 0 where
  pub some : 0 < n
  pub inside : at + n ≤ length bytes
  pub name : List ℕ
  pub bytes_are : take n (drop at bytes) ≡ record_bytes true name
  pub long : 3 + length name ≡ n
  pub pieces_are : pieces_in (drop at bytes) ≡ kept name ∷ pieces_in (drop (at + n) bytes)

pub kept_at : (bytes : List ℕ) (at n : ℕ) → Some n ≡ front_length (front (drop at bytes)) → KeptAt bytes at n
kept_at bytes at n some =
    let f = found (drop at bytes) n some in
    let long : 3 + length f.name ≡ n = sym f.size in
    let l = item_long (drop at bytes) f.is in
    let i = front_item (drop at bytes) f.is in
    let behind : f.rest ≡ drop (at + n) bytes = l.rest_is ∙ rw long (drop-drop n at bytes) in
    record {
      some = omega (arith, long);
      inside = omega (arith, long, l.in_all, length-drop at bytes, l.least);
      name = f.name;
      bytes_are = ap (take n) i.is ∙ take_at (record_bytes true f.name) f.rest n (omega (arith, long));
      long = long;
      pieces_are = pieces_item (drop at bytes) f.is ∙ ap (λ (rest : List ℕ). kept f.name ∷ pieces_in rest) behind;
    }

-- ---- a piece, as the walk gives it

module _ {held bytes : List ℕ} (same : held ≡ bytes) (at next : ℕ) {piece : Piece} where
  pub lies_dropped : {start count : ℕ} → piece ≡ Dropped start count → Lies held at next piece → Lies bytes at next (Dropped start count)
  lies_dropped e lies = rw same at (rw e at lies)

  pub lies_kept : {r : Bor (List ℕ)} → piece ≡ Kept r → Lies held at next piece
      → KeptAt bytes at (next - at) × (at + (next - at) ≡ next) × (r.now ≡ take (next - at) (drop at bytes))
  lies_kept {r} e lies =
      let there : Lies bytes at next (Kept r) = rw same at (rw e at lies) in
      (kept_at bytes at (next - at) (sym there.2), omega (arith, there.0), there.1)

-- ---- what is left to do from a place on

abbrev pub records_at : List ℕ → ℕ → List ℕ
records_at bytes at = records_bytes true (kept_names (pieces_in (drop at bytes)))

abbrev pub list_at : List ℕ → ℕ → List ℕ
list_at bytes at = list_bytes (stretches_from at (pieces_in (drop at bytes)))

-- nothing at the end
module _ (bytes : List ℕ) (at : ℕ) (h : length bytes ≤ at) where
  pub records_at_end : records_at bytes at ≡ []
  unfolding records_bytes kept_names
  records_at_end = rw (drop_of_length-le bytes h, pieces_nil) refl

  pub list_at_end : list_at bytes at ≡ []
  unfolding stretches_from list_bytes
  list_at_end = rw (drop_of_length-le bytes h, pieces_nil) refl

-- a stretch: one entry of the list
module _ (bytes : List ℕ) (at end : ℕ) (s : StretchEnds bytes at end) where
  pub records_at_stretch : records_at bytes at ≡ records_at bytes end
  unfolding kept_names
  records_at_stretch = rw s.pieces_are refl

  pub list_at_stretch : list_at bytes at ≡ stretch_bytes record { start = at; count = end - at } ++ list_at bytes end
  unfolding stretches_from list_bytes
  list_at_stretch =
      let there : at + (end - at) ≡ end = omega (arith, s.onward) in
      rw (s.pieces_are, there) refl

-- a record: its bytes
module _ (bytes : List ℕ) (at n : ℕ) (r : KeptAt bytes at n) where
  pub records_at_kept : records_at bytes at ≡ take n (drop at bytes) ++ records_at bytes (at + n)
  unfolding kept_names records_bytes
  records_at_kept = rw (r.bytes_are, r.pieces_are) refl

  pub list_at_kept : list_at bytes at ≡ list_at bytes (at + n)
  unfolding stretches_from
  list_at_kept =
      ap (λ (pieces : List Pieces.Piece). list_bytes (stretches_from at pieces)) r.pieces_are
      ∙ ap (λ (k : ℕ). list_bytes (stretches_from (at + k) (pieces_in (drop (at + n) bytes)))) r.long

-- ---- laying both, from a place on

pub record Laying (bytes kept₀ list₀ kept list : List ℕ) (at size listed : ℕ) : Type 0 where
  pub inside : at ≤ length bytes
  pub records : Left size (records_at bytes at) kept 0 (records_at bytes 0) kept₀
  pub entries : Left listed (list_at bytes at) list 0 (list_at bytes 0) list₀

module _ (bytes kept₀ list₀ : List ℕ) where
  pub laying_start : length bytes ≤ length kept₀ → length (list_at bytes 0) ≤ length list₀ → Laying bytes kept₀ list₀ kept₀ list₀ 0 0 0
  laying_start h l = record {
    inside = omega arith;
    records = left_start 0 (records_at bytes 0) kept₀ (omega (arith, records_fit bytes));
    entries = left_start 0 (list_at bytes 0) list₀ (omega arith);
  }

  module _ (kept list : List ℕ) (at size listed : ℕ) where
    -- the next stretch
    module _ (end : ℕ) (s : StretchEnds bytes at end) (l : Laying bytes kept₀ list₀ kept list at size listed) where
      entry_left : Left listed (stretch_bytes record { start = at; count = end - at } ++ list_at bytes end) list 0 (list_at bytes 0) list₀
      entry_left = rw (list_at_stretch bytes at end s) at l.entries

      pub entry_room : listed + 4 ≤ length list
      entry_room = left_room (stretch_bytes record { start = at; count = end - at }) (list_at bytes end) entry_left

      pub laying_stretch : (next : ℕ) (after : List ℕ) → Put listed (stretch_bytes record { start = at; count = end - at }) list after next
          → Laying bytes kept₀ list₀ kept after end size next
      laying_stretch next after p = record {
        inside = s.inside;
        records = rw (records_at_stretch bytes at end s) at l.records;
        entries = left_turn (stretch_bytes record { start = at; count = end - at }) (list_at bytes end) entry_left p;
      }

    -- the next record
    module _ (n : ℕ) (r : KeptAt bytes at n) (l : Laying bytes kept₀ list₀ kept list at size listed) where
      record_left : Left size (take n (drop at bytes) ++ records_at bytes (at + n)) kept 0 (records_at bytes 0) kept₀
      record_left = rw (records_at_kept bytes at n r) at l.records

      pub record_room : size + length (take n (drop at bytes)) ≤ length kept
      record_room = left_room (take n (drop at bytes)) (records_at bytes (at + n)) record_left

      pub laying_kept : (next : ℕ) (after : List ℕ) → Put size (take n (drop at bytes)) kept after next
          → Laying bytes kept₀ list₀ after list (at + n) next listed
      laying_kept next after p = record {
        inside = r.inside;
        records = left_turn (take n (drop at bytes)) (records_at bytes (at + n)) record_left p;
        entries = rw (list_at_kept bytes at n r) at l.entries;
      }

    pub laying_end : length bytes ≤ at → Laying bytes kept₀ list₀ kept list at size listed → PiecesPut bytes kept₀ kept list₀ list size
    laying_end h l = record {
      records_put = left_none (rw (records_at_end bytes at h) at l.records);
      list_put = (left_none (rw (list_at_end bytes at h) at l.entries)).stored;
    }
