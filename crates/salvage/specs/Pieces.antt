-- A sector image, walked (02, A9): "keep each whole good record, and step bytewise over anything else to the next one".
use Rattle.std.specs.Prelude.{true, cond, ◌&&◌, List, [], ◌∷◌, ◌++◌, ℕ, zero, suc, ◌+◌, ◌/◌, ◌%◌, eqb, length, take}
use Rattle.names.specs.Records.{Front, none, item, front, records_bytes}

-- ---- pieces, one behind the other

-- a record that is kept, by its name, or so many bytes that are dropped
pub data Piece : Type 0 where
  kept : List ℕ → Piece
  dropped : ℕ → Piece

abbrev pub piece_length : Piece → ℕ
piece_length (kept name) = 3 + length name
piece_length (dropped n) = n

-- one more byte dropped, before some pieces: it joins dropped ones that follow, so that no stretch touches the next
abbrev pub drop_byte : List Piece → List Piece
drop_byte [] = dropped 1 ∷ []
drop_byte (kept name ∷ pieces) = dropped 1 ∷ kept name ∷ pieces
drop_byte (dropped n ∷ pieces) = dropped (suc n) ∷ pieces

-- by what stands at the front; `go` walks on, behind a record or behind one byte
abbrev pub pieces_on : Front → List ℕ → (List ℕ → List Piece) → List Piece
pieces_on none behind go = drop_byte (go behind)
pieces_on (item name rest) behind go = kept name ∷ go rest

-- in at most so many turns
unfoldable pub pieces_within : ℕ → List ℕ → List Piece
pieces_within zero bytes = []
pieces_within (suc n) [] = []
pieces_within (suc n) (x ∷ bytes) = pieces_on (front (x ∷ bytes)) bytes (pieces_within n)

-- each turn takes a byte at least, so as many as there are bytes are enough
unfoldable pub pieces_in : List ℕ → List Piece
pieces_in bytes = pieces_within (length bytes) bytes

-- ---- "the final erased stretch": "all trailing FF are that stretch"

-- with one byte more in front of so many used ones
abbrev pub used_on : ℕ → ℕ → ℕ
used_on x used = cond (eqb used 0 && eqb x 0xff) 0 (suc used)

-- how many bytes stand before it
unfoldable pub used_length : List ℕ → ℕ
used_length [] = 0
used_length (x ∷ bytes) = used_on x (used_length bytes)

unfoldable pub used_part : List ℕ → List ℕ
used_part image = take (used_length image) image

-- a sector's pieces
unfoldable pub pieces_of : List ℕ → List Piece
pieces_of image = pieces_in (used_part image)

-- ---- what is kept

unfoldable pub kept_names : List Piece → List (List ℕ)
kept_names [] = []
kept_names (kept name ∷ pieces) = name ∷ kept_names pieces
kept_names (dropped n ∷ pieces) = kept_names pieces

-- the records "from the front"
unfoldable pub kept_bytes : List ℕ → List ℕ
kept_bytes image = records_bytes true (kept_names (pieces_of image))

-- ---- what is dropped

pub record Stretch : Type 0 where
  pub start : ℕ
  pub count : ℕ

-- the dropped stretches of pieces that lie from a place on
unfoldable pub stretches_from : ℕ → List Piece → List Stretch
stretches_from at [] = []
stretches_from at (kept name ∷ pieces) = stretches_from (at + piece_length (kept name)) pieces
stretches_from at (dropped n ∷ pieces) = record { start = at; count = n } ∷ stretches_from (at + n) pieces

-- "start and length in two bytes each, high first"
abbrev pub stretch_bytes : Stretch → List ℕ
stretch_bytes s = s.start / 256 ∷ s.start % 256 ∷ s.count / 256 ∷ s.count % 256 ∷ []

unfoldable pub list_bytes : List Stretch → List ℕ
list_bytes [] = []
list_bytes (s ∷ stretches) = stretch_bytes s ++ list_bytes stretches

-- "a rising list .. of dropped stretches"
unfoldable pub dropped_bytes : List ℕ → List ℕ
dropped_bytes image = list_bytes (stretches_from 0 (pieces_of image))
