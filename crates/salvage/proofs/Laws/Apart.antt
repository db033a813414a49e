-- Stretches are apart: between two of them a record is kept. So there are at most 820 in a sector.
-- Assumes nothing.
use mathlib.Core.Path.{◌≡◌, refl, ap, ◌∙◌}
use mathlib.Core.List.{List, [], ◌∷◌}
use Prim.Native.Nat.{ℕ, suc, ◌+◌, ◌*◌, ◌≤◌, ◌<◌}
use native.Mathlib.Omega.{arith}
use lib.ListN.{length}
use Rattle.names.proofs.Laws.Front.{item_long}
use Rattle.salvage.specs.Pieces.{Piece, kept, dropped, piece_length, drop_byte, pieces_in, stretches_from, list_bytes}
use Rattle.salvage.specs.Divided.{Behind, Apart}
use Rattle.salvage.proofs.Laws.Pieces.{Fresh, pieces_by}

-- ---- in pieces

-- no name and no stretch is empty, and no two stretches are next to each other
abbrev pub Spaced : List Piece → Type 0
Spaced [] = Unit {0}
Spaced (kept name ∷ pieces) = (1 ≤ length name) × Spaced pieces
Spaced (dropped n ∷ pieces) = (0 < n) × (Fresh pieces × Spaced pieces)

spaced_byte : (pieces : List Piece) → Spaced pieces → Spaced (drop_byte pieces)
spaced_byte [] s = (omega arith, (tt, tt))
spaced_byte (kept name ∷ pieces) s = (omega arith, (tt, s))
spaced_byte (dropped n ∷ pieces) s = (omega arith, s.1)

pub pieces_spaced : (bytes : List ℕ) → Spaced (pieces_in bytes)
pieces_spaced =
    pieces_by (λ bytes pieces. Spaced pieces) tt (λ x bytes e s. spaced_byte (pieces_in bytes) s) (λ bytes name rest e s. ((item_long bytes e).least, s))

-- ---- how long they are in all

unfoldable pub total : List Piece → ℕ
total [] = 0
total (p ∷ pieces) = piece_length p + total pieces

total_byte : (pieces : List Piece) → total (drop_byte pieces) ≡ suc (total pieces)
unfolding total
total_byte [] = refl
total_byte (kept name ∷ pieces) = omega arith
total_byte (dropped n ∷ pieces) = omega arith

pub pieces_total : (bytes : List ℕ) → total (pieces_in bytes) ≡ length bytes
unfolding total
pieces_total =
    pieces_by (λ bytes pieces. total pieces ≡ length bytes) refl
    (λ x bytes e t. total_byte (pieces_in bytes) ∙ ap suc t)
    (λ bytes name rest e t. omega (arith, t, (item_long bytes e).in_all))

-- ---- in the list

behind_first : (at : ℕ) (pieces : List Piece) (end : ℕ) → end < at → Behind end (stretches_from at pieces)
unfolding stretches_from
behind_first at [] end h = tt
behind_first at (kept name ∷ pieces) end h = behind_first (at + piece_length (kept name)) pieces end (omega arith)
behind_first at (dropped n ∷ pieces) end h = h

behind_fresh : (at : ℕ) (pieces : List Piece) → Fresh pieces → Behind at (stretches_from at pieces)
unfolding stretches_from
behind_fresh at [] f = tt
behind_fresh at (kept name ∷ pieces) f = behind_first (at + piece_length (kept name)) pieces at (omega arith)
behind_fresh at (dropped n ∷ pieces) f = absurd f

pub stretches_apart : (at : ℕ) (pieces : List Piece) → Spaced pieces → Apart (stretches_from at pieces)
unfolding stretches_from
stretches_apart at [] s = tt
stretches_apart at (kept name ∷ pieces) s = stretches_apart (at + piece_length (kept name)) pieces s.1
stretches_apart at (dropped n ∷ pieces) s = (s.0, (behind_fresh (at + n) pieces s.1.0, stretches_apart (at + n) pieces s.1.1))

-- ---- how many there can be

-- a stretch has a byte at least, and a record between two has four
unfoldable stretch_count : List Piece → ℕ
stretch_count [] = 0
stretch_count (kept name ∷ pieces) = stretch_count pieces
stretch_count (dropped n ∷ pieces) = suc (stretch_count pieces)

list_length : (at : ℕ) (pieces : List Piece) → length (list_bytes (stretches_from at pieces)) ≡ 4 * stretch_count pieces
unfolding stretches_from list_bytes stretch_count
list_length at [] = refl
list_length at (kept name ∷ pieces) = list_length (at + piece_length (kept name)) pieces
list_length at (dropped n ∷ pieces) = omega (arith, list_length (at + n) pieces)

count_most : (pieces : List Piece) → Spaced pieces → (5 * stretch_count pieces ≤ total pieces + 4) × (Fresh pieces → 5 * stretch_count pieces ≤ total pieces)
unfolding stretch_count total
count_most [] s = (omega arith, λ f. omega arith)
count_most (kept name ∷ pieces) s = let m = count_most pieces s.1 in (omega (arith, m.0, s.0), λ f. omega (arith, m.0, s.0))
count_most (dropped n ∷ pieces) s = let m = (count_most pieces s.1.1).1 s.1.0 in (omega (arith, m, s.0), λ f. absurd f)

-- "at most 820": 3,280 bytes
pub list_most : (bytes : List ℕ) → length bytes ≤ 4096 → length (list_bytes (stretches_from 0 (pieces_in bytes))) ≤ 3280
list_most bytes h = omega (arith, list_length 0 (pieces_in bytes), (count_most (pieces_in bytes) (pieces_spaced bytes)).0, pieces_total bytes)
