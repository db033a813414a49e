-- What the parts of the walk promise, of the used bytes of a sector.
use Rattle.std.specs.Prelude.{◌≡◌, true, Option, Some, MatchOption, List, ◌∷◌, ℕ, ◌-◌, ◌≤◌, ◌<◌, length, take, drop}
use Rattle.common.specs.Buffer.{written, Put}
use Rattle.names.specs.Records.{front, front_length, records_bytes}
use Rattle.salvage.specs.Pieces.{dropped, pieces_in, kept_names, stretches_from, list_bytes}
use Rattle.salvage.specs.declared.pieces.Piece.{Piece}
use Rattle.salvage.specs.declared.pieces.Piece.TheVariants.{Kept, Dropped}
use Rattle.salvage.specs.declared.pieces.Pieces.{Pieces}

-- the stretch that begins at a place ends there: it is the first piece from that place on
pub record StretchEnds (bytes : List ℕ) (at end : ℕ) : Type 0 where
  pub onward : at < end
  pub inside : end ≤ length bytes
  pub pieces_are : pieces_in (drop at bytes) ≡ dropped (end - at) ∷ pieces_in (drop end bytes)

-- a piece that lies from a place to the next
abbrev pub Lies : List ℕ → ℕ → ℕ → Piece → Type 0
Lies bytes at next (Kept r) = (at < next) × (r.now ≡ take (next - at) (drop at bytes)) × (front_length (front (drop at bytes)) ≡ Some (next - at))
Lies bytes at next (Dropped start count) = (start ≡ at) × (count ≡ next - at) × StretchEnds bytes at next

-- the next piece; none where the bytes end
abbrev pub NextPiece : Pieces → Option Piece → Pieces → Type 0
NextPiece s r t = (t.bytes ≡ s.bytes) × MatchOption r ((t.at ≡ s.at) × (length s.bytes.now ≤ s.at)) (Lies s.bytes.now s.at t.at)

-- the records and the list are laid, each from the front of its buffer
pub record PiecesPut (bytes kept kept_after list list_after : List ℕ) (size : ℕ) : Type 0 where
  pub records_put : Put 0 (records_bytes true (kept_names (pieces_in bytes))) kept kept_after size
  pub list_put : list_after ≡ written 0 (list_bytes (stretches_from 0 (pieces_in bytes))) list
