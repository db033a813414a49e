-- Sectors that are salvaged, written out: the edges of the walk, and the longest list.
-- Assumes nothing.
use mathlib.Core.Path.{◌≡◌, refl, sym, ap, ◌∙◌}
use mathlib.Core.Bool.{true}
use mathlib.Core.List.{List, [], ◌∷◌, ◌++◌, append-nil}
use Prim.Native.Nat.{ℕ, zero, suc, ◌+◌, ◌*◌, ◌-◌, ◌≤◌}
use native.Mathlib.Omega.{arith}
use lib.ListN.{length, get_or, replicate, length-append, length-replicate, get_or-replicate}
use Rattle.common.proofs.Laws.Lists.{get_d_behind}
use Rattle.names.specs.Records.{all_name, is_name, front_body, front, names_within, names_of, record_bytes, padded}
use Rattle.names.proofs.Laws.Front.{front_record}
use Rattle.names.proofs.Laws.Reader.{front_unmarked}
use Rattle.salvage.specs.Pieces.{Piece, kept, dropped, drop_byte, pieces_within, pieces_in, used_length, used_part, pieces_of, stretches_from, list_bytes, dropped_bytes}
use Rattle.salvage.proofs.Laws.Pieces.{pieces_nil, pieces_none, pieces_item, drop_bytes, drop_joined, drop_fresh}
use Rattle.salvage.proofs.Laws.Used.{used_part_all, used_part_erased}

-- ---- what is used of an image

-- a sector with bytes at its front has their pieces
pub sector_pieces : (bytes : List ℕ) → pieces_of (padded bytes) ≡ pieces_of bytes
unfolding padded pieces_of
sector_pieces bytes = ap pieces_in (used_part_erased bytes (4096 - length bytes))

-- of an image with a last byte that is not FF all is used
used_all : (image : List ℕ) (k : ℕ) → suc k ≡ length image → (get_or image k 0 ≡ 0xff → ⊥) → pieces_of image ≡ pieces_in image
unfolding pieces_of
used_all image k e last = ap pieces_in (used_part_all image (λ j h q. let here : j ≡ k = omega arith in last (rw here at q)))

-- ---- the edges, each a sector with these bytes at its front

abbrev a : List ℕ
a = 0x41 ∷ []

abbrev b : List ℕ
b = 0x42 ∷ []

-- a damaged first mark: a reader found nothing, and the record behind it is kept
pub damaged_mark : List ℕ
damaged_mark = (0x4e ∷ 0x50 ∷ 1 ∷ a) ++ record_bytes true b

pub damaged_mark_hides : names_of damaged_mark ≡ []
unfolding names_of names_within front damaged_mark
damaged_mark_hides = refl

pub damaged_mark_lem : pieces_of damaged_mark ≡ dropped 4 ∷ kept b ∷ []
unfolding pieces_of pieces_in pieces_within used_part used_length front front_body is_name all_name damaged_mark
damaged_mark_lem = refl

-- FF inside a record: it is dropped with the rest of it, and is not the final erased stretch
pub erased_inside : pieces_of ((0x4e ∷ 0x52 ∷ 2 ∷ 0x41 ∷ 0xff ∷ []) ++ record_bytes true b) ≡ dropped 5 ∷ kept b ∷ []
unfolding pieces_of pieces_in pieces_within used_part used_length front front_body is_name all_name
erased_inside = refl

-- equal names are all kept
pub equal_names : pieces_of (record_bytes true a ++ record_bytes true a) ≡ kept a ∷ kept a ∷ []
unfolding pieces_of pieces_in pieces_within used_part used_length front front_body is_name all_name
equal_names = refl

-- The name "ANR " behind a damaged mark: its last three bytes are a mark and the length 32. Where 32 bytes of names follow, a record begins inside it and
-- is kept, though nobody marked that name. By the request's words this is right: it is the next whole good record, and steps go bytewise.
pub record_inside : pieces_of ((0x4e ∷ 0x50 ∷ 4 ∷ 0x41 ∷ 0x4e ∷ 0x52 ∷ 0x20 ∷ []) ++ replicate 32 0x42) ≡ dropped 4 ∷ kept (replicate 32 0x42) ∷ []
unfolding pieces_of pieces_in pieces_within used_part used_length front front_body is_name all_name
record_inside = refl

-- all FF: no piece
pub all_erased : pieces_of (replicate 4096 0xff) ≡ []
unfolding pieces_of pieces_in pieces_within used_part used_length
all_erased = ap pieces_in (used_part_erased [] 4096)

-- ---- at the end of a sector

drop_byte_behind : (n : ℕ) (pieces : List Piece) → drop_byte (drop_bytes n pieces) ≡ drop_bytes n (drop_byte pieces)
drop_byte_behind zero pieces = refl
drop_byte_behind (suc n) pieces = drop_byte_behind n (drop_byte pieces)

-- so many bytes that begin no record
run_dropped : (n x : ℕ) (rest : List ℕ) → (x ≡ 0x4e → ⊥) → pieces_in (replicate n x ++ rest) ≡ drop_bytes n (pieces_in rest)
run_dropped zero x rest h = refl
run_dropped (suc n) x rest h =
    pieces_none x (replicate n x ++ rest) (front_unmarked (x ∷ (replicate n x ++ rest)) h) ∙ ap drop_byte (run_dropped n x rest h)
    ∙ drop_byte_behind n (pieces_in rest)

-- the last byte of bytes behind a run
last_behind : (n x : ℕ) (rest : List ℕ) (k : ℕ) → n ≤ k → get_or (replicate n x ++ rest) k 0 ≡ get_or rest (k - n) 0
last_behind n x rest k h = rw (length-replicate n x) at (get_d_behind (replicate n x) rest k (omega (arith, length-replicate n x)))

run_length : (n x : ℕ) (rest : List ℕ) → length (replicate n x ++ rest) ≡ n + length rest
run_length n x rest = omega (arith, length-append (replicate n x) rest, length-replicate n x)

one_record : pieces_in (record_bytes true a) ≡ kept a ∷ []
unfolding pieces_in pieces_within front front_body is_name all_name
one_record = refl

no_name : pieces_in (0x4e ∷ 0x52 ∷ 1 ∷ []) ≡ dropped 3 ∷ []
unfolding pieces_in pieces_within front front_body is_name
no_name = refl

-- a record that ends at byte 4,095 is whole
pub last_record : pieces_of (replicate 4092 0xff ++ record_bytes true a) ≡ dropped 4092 ∷ kept a ∷ []
last_record =
    used_all (replicate 4092 0xff ++ record_bytes true a) 4095 (omega (arith, run_length 4092 0xff (record_bytes true a)))
    (λ q. let last = sym (last_behind 4092 0xff (record_bytes true a) 4095 (omega arith)) ∙ q in omega (arith, last))
    ∙ run_dropped 4092 0xff (record_bytes true a) (λ e. omega (arith, e)) ∙ ap (drop_bytes 4092) one_record ∙ drop_fresh 4092 (kept a ∷ []) (omega arith) tt

-- and one that the sector's end cuts off is not
pub cut_off : pieces_of (replicate 4093 0xff ++ (0x4e ∷ 0x52 ∷ 1 ∷ [])) ≡ dropped 4096 ∷ []
cut_off =
    used_all (replicate 4093 0xff ++ (0x4e ∷ 0x52 ∷ 1 ∷ [])) 4095 (omega (arith, run_length 4093 0xff (0x4e ∷ 0x52 ∷ 1 ∷ [])))
    (λ q. let last = sym (last_behind 4093 0xff (0x4e ∷ 0x52 ∷ 1 ∷ []) 4095 (omega arith)) ∙ q in omega (arith, last))
    ∙ run_dropped 4093 0xff (0x4e ∷ 0x52 ∷ 1 ∷ []) (λ e. omega (arith, e)) ∙ ap (drop_bytes 4093) no_name ∙ drop_joined 4093 3 []

-- no FF at all, and no record
pub no_erased : pieces_of (replicate 4096 0) ≡ dropped 4096 ∷ []
no_erased =
    used_all (replicate 4096 0) 4095 (sym (length-replicate {A = ℕ} 4096 0))
    (λ q. let last = sym (get_or-replicate 4096 4095 0 0 (omega arith)) ∙ q in omega (arith, last))
    ∙ ap pieces_in (sym (append-nil (replicate 4096 0))) ∙ run_dropped 4096 0 [] (λ e. omega (arith, e)) ∙ ap (drop_bytes 4096) pieces_nil ∙ drop_fresh 4096 [] (omega arith) tt

-- ---- the longest list

-- a byte, and so many times a record and a byte more
pub longest : ℕ → List ℕ
longest zero = 0 ∷ []
longest (suc n) = 0 ∷ (record_bytes true a ++ longest n)

longest_pieces : ℕ → List Piece
longest_pieces zero = dropped 1 ∷ []
longest_pieces (suc n) = dropped 1 ∷ kept a ∷ longest_pieces n

longest_walk : (n : ℕ) → pieces_in (longest n) ≡ longest_pieces n
unfolding longest longest_pieces is_name all_name
longest_walk zero = pieces_none 0 [] (front_unmarked (0 ∷ []) (λ e. omega (arith, e))) ∙ ap drop_byte pieces_nil
longest_walk (suc n) =
    pieces_none 0 (record_bytes true a ++ longest n) (front_unmarked (0 ∷ (record_bytes true a ++ longest n)) (λ e. omega (arith, e)))
    ∙ ap drop_byte (pieces_item (record_bytes true a ++ longest n) (front_record a (longest n) refl) ∙ ap (λ (l : List Piece). kept a ∷ l) (longest_walk n))

longest_list : (at n : ℕ) → length (list_bytes (stretches_from at (longest_pieces n))) ≡ 4 * (n + 1)
unfolding longest_pieces stretches_from list_bytes
longest_list at zero = refl
longest_list at (suc n) = omega (arith, longest_list (at + 1 + 4) n)

pub longest_length : (n : ℕ) → length (longest n) ≡ 5 * n + 1
unfolding longest
longest_length zero = refl
longest_length (suc n) = omega (arith, longest_length n)

-- it ends with the byte
longest_last : (n : ℕ) → get_or (longest n) (5 * n) 0 ≡ 0
unfolding longest
longest_last zero = refl
longest_last (suc n) =
    let further : 5 * suc n ≡ suc (suc (suc (suc (suc (5 * n))))) = omega arith in
    rw further (longest_last n)

-- 820 stretches in 4,096 bytes: `room_enough_lem` is not too high
pub longest_fits : length (longest 819) ≡ 4096
longest_fits = longest_length 819

pub longest_reached : length (dropped_bytes (longest 819)) ≡ 3280
unfolding dropped_bytes
longest_reached =
    ap (λ (pieces : List Piece). length (list_bytes (stretches_from 0 pieces)))
    (used_all (longest 819) 4095 (sym longest_fits) (λ q. let last = sym (longest_last 819) ∙ q in omega (arith, last)) ∙ longest_walk 819)
    ∙ longest_list 0 819
