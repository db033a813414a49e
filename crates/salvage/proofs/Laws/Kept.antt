-- What is kept: whole good records, no more bytes of them than there are, and every name that a reader saw before.
-- Assumes nothing.
use mathlib.Core.Path.{◌≡◌, refl}
use mathlib.Core.Bool.{true}
use mathlib.Core.List.{List, [], ◌∷◌}
use Prim.Native.Nat.{ℕ, ◌≤◌}
use native.Mathlib.Omega.{arith}
use lib.ListN.{length, length-append}
use Rattle.names.specs.Records.{AllNames, records_bytes}
use Rattle.names.proofs.Laws.Front.{front_item, item_long}
use Rattle.salvage.specs.Pieces.{Piece, kept, dropped, drop_byte, pieces_in, kept_names}
use Rattle.salvage.proofs.Laws.Pieces.{pieces_by}

-- a dropped byte changes no name
pub kept_byte : (pieces : List Piece) → kept_names (drop_byte pieces) ≡ kept_names pieces
unfolding kept_names
kept_byte [] = refl
kept_byte (kept name ∷ pieces) = refl
kept_byte (dropped n ∷ pieces) = refl

-- each is a name
pub kept_good : (bytes : List ℕ) → AllNames (kept_names (pieces_in bytes))
unfolding kept_names
kept_good =
    pieces_by (λ bytes pieces. AllNames (kept_names pieces)) tt
    (λ x bytes e g. rw (kept_byte (pieces_in bytes)) g)
    (λ bytes name rest e g. ((front_item bytes e).good, g))

-- no more is kept than there is
pub records_fit : (bytes : List ℕ) → length (records_bytes true (kept_names (pieces_in bytes))) ≤ length bytes
unfolding records_bytes kept_names
records_fit =
    pieces_by (λ bytes pieces. length (records_bytes true (kept_names pieces)) ≤ length bytes) (omega arith)
    (λ x bytes e h. rw (kept_byte (pieces_in bytes)) (omega (arith, h)))
    (λ bytes name rest e h. omega (arith, h, (item_long bytes e).in_all, length-append name (records_bytes true (kept_names (pieces_in rest)))))
