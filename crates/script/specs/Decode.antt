-- Bytes read as records (01, "Scripts and plans"; refusals 12, 13, 14).
use Rattle.std.specs.Prelude.{Bool, true, false, cond, ◌&&◌, ◌||◌, List, [], ◌∷◌, ℕ, zero, suc, ◌+◌, eqb, ltb, length, take, drop}
use Rattle.script.specs.Record.{Record, frame, wait, script_mark, frame_mark, wait_mark, record_length}
use Rattle.common.specs.Numbers.{two_bytes, four_bytes}
use Rattle.common.specs.Limits.{longest_frame}
use Rattle.common.specs.Refusals

-- why a record is "malformed or cut short" (01): "unknown mark", "frame length 0 or over 4,101", "record cut short" (02, A1)
pub data Fault : Type 0 where
  unknown_mark : Fault
  wrong_length : Fault
  cut_short : Fault

abbrev pub is_unknown_mark : Fault → Bool
is_unknown_mark unknown_mark = true
is_unknown_mark wrong_length = false
is_unknown_mark cut_short = false

abbrev pub is_wrong_length : Fault → Bool
is_wrong_length unknown_mark = false
is_wrong_length wrong_length = true
is_wrong_length cut_short = false

abbrev pub is_cut_short : Fault → Bool
is_cut_short unknown_mark = false
is_cut_short wrong_length = false
is_cut_short cut_short = true

-- the refusal's number
abbrev pub fault_number : Fault → ℕ
fault_number unknown_mark = Refusals.unknown_mark
fault_number wrong_length = Refusals.wrong_length
fault_number cut_short = Refusals.cut_short

-- what stands at the front of some bytes: nothing, a record with the bytes behind it, or no good record
pub data Front : Type 0 where
  end : Front
  item : Record → List ℕ → Front
  malformed : Fault → Front

-- behind a length, "1 to 4,101, then the frame"
unfoldable pub front_body : ℕ → List ℕ → Front
front_body n rest =
    cond (ltb n 1 || ltb longest_frame n) (malformed wrong_length)
    (cond (ltb (length rest) n) (malformed cut_short) (item (frame (take n rest)) (drop n rest)))

-- behind 5A 46, "a length of two bytes, high first"
unfoldable pub front_frame : List ℕ → Front
front_frame [] = malformed cut_short
front_frame (high ∷ []) = malformed cut_short
front_frame (high ∷ low ∷ rest) = front_body (two_bytes high low) rest

-- behind 5A 57, "four bytes of microseconds, high first"
unfoldable pub front_wait : List ℕ → Front
front_wait [] = malformed cut_short
front_wait (a ∷ []) = malformed cut_short
front_wait (a ∷ b ∷ []) = malformed cut_short
front_wait (a ∷ b ∷ c ∷ []) = malformed cut_short
front_wait (a ∷ b ∷ c ∷ d ∷ rest) = item (wait (four_bytes a b c d)) rest

-- "records, each with a two-byte mark: 5A 46 .. or 5A 57"
unfoldable pub front : List ℕ → Front
front [] = end
front (first ∷ []) = malformed cut_short
front (first ∷ second ∷ rest) =
    cond (eqb first script_mark && eqb second frame_mark) (front_frame rest) (cond (eqb first script_mark && eqb second wait_mark) (front_wait rest) (malformed unknown_mark))

-- what some bytes are: records to the end, or a first bad record, with its fault and its mark's offset
pub data Decoded : Type 0 where
  records : List Record → Decoded
  bad_at : Fault → ℕ → Decoded

-- the records of a script that was read; none where one of them is bad
abbrev pub records_in : Decoded → List Record
records_in (records rs) = rs
records_in (bad_at fault offset) = []

-- the first bad record has such a fault
abbrev pub is_bad : (Fault → Bool) → Decoded → Bool
is_bad is (records rs) = false
is_bad is (bad_at fault offset) = is fault

-- the offset of the first bad record's mark; 0 where none is bad
abbrev pub bad_offset : Decoded → ℕ
bad_offset (records rs) = 0
bad_offset (bad_at fault offset) = offset

-- a record, and behind it what the other bytes are
abbrev pub followed : Record → Decoded → Decoded
followed r (records rs) = records (r ∷ rs)
followed r (bad_at fault offset) = bad_at fault (record_length r + offset)

-- by what stands at the front; `go` reads the bytes behind a record
abbrev pub decode_on : Front → (List ℕ → Decoded) → Decoded
decode_on end go = records []
decode_on (item r rest) go = followed r (go rest)
decode_on (malformed fault) go = bad_at fault 0

-- in at most so many turns
unfoldable pub decode_within : ℕ → List ℕ → Decoded
decode_within zero bytes = records []
decode_within (suc n) bytes = decode_on (front bytes) (decode_within n)

-- record after record. A record has five bytes at least, so as many turns as there are bytes are enough
unfoldable pub decode : List ℕ → Decoded
decode bytes = decode_within (length bytes) bytes

abbrev pub records_of : List ℕ → List Record
records_of script = records_in (decode script)
