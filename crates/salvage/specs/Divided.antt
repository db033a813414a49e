-- What the pieces of a sector are (02, A9), by its bytes and not by the walk: "Kept and dropped and the final erased stretch cover the sector once each".
use Rattle.std.specs.Prelude.{◌≡◌, true, List, [], ◌∷◌, ℕ, suc, ◌+◌, ◌-◌, ◌≤◌, ◌<◌, ltb, length, get_or, take, drop}
use Rattle.common.specs.Bits.{bit}
use Rattle.common.specs.Lists.{within}
use Rattle.names.specs.Records.{is_name, none, front, record_bytes}
use Rattle.salvage.specs.Pieces.{Piece, kept, dropped, piece_length, Stretch, stretches_from}

-- how many of the pieces that lie from a place on hold the place k
unfoldable pub holding : ℕ → ℕ → List Piece → ℕ
holding k at [] = 0
holding k at (p ∷ pieces) = bit (within at (piece_length p) k) 1 + holding k (at + piece_length p) pieces

-- it holds of each piece where it lies
abbrev pub EachPiece : (ℕ → Piece → Type 0) → ℕ → List Piece → Type 0
EachPiece P at [] = Unit {0}
EachPiece P at (p ∷ pieces) = P at p × EachPiece P (at + piece_length p) pieces

-- a kept piece is a whole good record, byte for byte; at no place of a dropped one does such a record begin
abbrev pub Right : List ℕ → ℕ → Piece → Type 0
Right image at (kept name) = (is_name name ≡ true) × (take (3 + length name) (drop at image) ≡ record_bytes true name)
Right image at (dropped n) = (k : ℕ) → within at n k ≡ true → front (drop k image) ≡ none

-- the next stretch begins behind a place, and not right at it
abbrev pub Behind : ℕ → List Stretch → Type 0
Behind end [] = Unit {0}
Behind end (s ∷ stretches) = end < s.start

-- "a rising list .. of dropped stretches, none touching the next"; and none is empty
abbrev pub Apart : List Stretch → Type 0
Apart [] = Unit {0}
Apart (s ∷ stretches) = (0 < s.count) × (Behind (s.start + s.count) stretches × Apart stretches)

-- pieces from the sector's start on, and so many bytes in all before its final erased stretch
pub record Divided (image : List ℕ) (pieces : List Piece) (used : ℕ) : Type 0 where
  pub inside : used ≤ length image
  -- each place of the sector is held once, and no other is
  pub covered_once : (k : ℕ) → holding k 0 pieces + bit (within used (length image - used) k) 1 ≡ bit (ltb k (length image)) 1
  pub pieces_right : EachPiece (Right image) 0 pieces
  pub stretches_apart : Apart (stretches_from 0 pieces)
  -- "all trailing FF are that stretch"
  pub tail_erased : (k : ℕ) → used ≤ k → k < length image → get_or image k 0 ≡ 0xff
  pub before_tail : (k : ℕ) → suc k ≡ used → get_or image k 0 ≡ 0xff → ⊥
