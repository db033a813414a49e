-- The reader of one record (01, "Scripts and plans"; refusals 11, 12, 13, 14).
use Rattle.std.specs.Prelude.{◌≡◌, cond, List, [], ℕ, ◌+◌, ◌*◌, ltb, length, get_or, drop, Some, None, Result, Ok, Err}
use Rattle.script.specs.Record.{frame, wait, record_length}
use Rattle.common.specs.Numbers.{two_bytes}
use Rattle.common.specs.Limits.{longest_script}
use Rattle.common.specs.Refusals
use Rattle.common.specs.declared.refusals.Refusal.{Refusal}
use Rattle.common.specs.declared.refusals.Refusal.TheVariants.{ScriptTooLong, UnknownMark, WrongLength, CutShort}
use Rattle.script.specs.Decode.{Fault, unknown_mark, wrong_length, cut_short, fault_number, Front, end, item, malformed, front}
use Rattle.script.specs.declared.reader.Found.{Found}
use Rattle.script.specs.declared.reader.Found.TheVariants.{Frame, Wait}
use Rattle.script.specs.declared.reader.AtOffset.{AtOffset}
use Rattle.script.specs.Answers.{Read, case_of, number_of, microseconds_of, start_of, length_of, part_of}

-- the number of the two bytes from an index on, "high first"
abbrev pub two_bytes_at : List ℕ → ℕ → ℕ
two_bytes_at bytes at = two_bytes (get_or bytes at 0) (get_or bytes (at + 1) 0)

-- the number of the four bytes from an index on, "high first"
abbrev pub four_bytes_at : List ℕ → ℕ → ℕ
four_bytes_at bytes at = two_bytes_at bytes at * 65536 + two_bytes_at bytes (at + 2)

-- ---- the answer

-- the refusal of a bad record
abbrev pub refusal_of : Fault → Refusal
refusal_of unknown_mark = UnknownMark
refusal_of wrong_length = WrongLength
refusal_of cut_short = CutShort

-- in the order checked: 11 for a script over 32,768; "a reader's offset past the end is 14" (02, A1); then by what stands at the offset
abbrev pub read_in_order : {A : Type 0} → (Refusal → A) → (Front → A) → List ℕ → ℕ → A
read_in_order refused told script offset =
    cond (ltb longest_script (length script)) (refused ScriptTooLong)
    (cond (ltb (length script) offset) (refused (refusal_of cut_short)) (told (front (drop offset script))))

-- what stands at an offset, answered: a frame starts behind its mark and length
abbrev pub answer : ℕ → Front → Read
answer offset end = Ok None
answer offset (item (frame bytes) rest) = Ok (Some (Frame (offset + 4) (length bytes) (offset + record_length (frame bytes))))
answer offset (item (wait microseconds) rest) = Ok (Some (Wait microseconds (offset + record_length (wait microseconds))))
answer offset (malformed fault) = Err (refusal_of fault)

-- the answer of one who looks behind a mark, and so finds a record or a bad one, no end
abbrev pub found_in : Result Found Refusal → Read
found_in (Ok found) = Ok (Some found)
found_in (Err refusal) = Err refusal

-- "the frame or the wait of the record there with the next offset, or "end" where the offset is the script's length"
unfoldable pub record_at : List ℕ → ℕ → Read
record_at script offset = read_in_order Err (answer offset) script offset

-- ---- its values, by what stands at the offset

abbrev pub front_kind : Front → ℕ
front_kind end = 3
front_kind (item (frame bytes) rest) = 1
front_kind (item (wait microseconds) rest) = 2
front_kind (malformed fault) = 0

unfoldable pub reader_kind : List ℕ → ℕ → ℕ
reader_kind = read_in_order (λ refusal. 0) front_kind

abbrev pub front_number : Front → ℕ
front_number end = 0
front_number (item r rest) = 0
front_number (malformed fault) = fault_number fault

-- the reader's number: 12, 13 and 14 are for "the record at the offset"
unfoldable pub reader_number : List ℕ → ℕ → ℕ
reader_number = read_in_order Refusals.number_of front_number

abbrev pub front_next : ℕ → Front → ℕ
front_next offset end = offset
front_next offset (item r rest) = offset + record_length r
front_next offset (malformed fault) = offset

-- "with the next offset"; a refusal and "end" give the given one
unfoldable pub reader_next : List ℕ → ℕ → ℕ
reader_next script offset = read_in_order (λ refusal. offset) (front_next offset) script offset

abbrev pub front_microseconds : Front → ℕ
front_microseconds end = 0
front_microseconds (item (frame bytes) rest) = 0
front_microseconds (item (wait microseconds) rest) = microseconds
front_microseconds (malformed fault) = 0

-- "the wait of the record there"
unfoldable pub reader_microseconds : List ℕ → ℕ → ℕ
reader_microseconds = read_in_order (λ refusal. 0) front_microseconds

abbrev pub front_start : ℕ → Front → ℕ
front_start offset end = 0
front_start offset (item (frame bytes) rest) = offset + 4
front_start offset (item (wait microseconds) rest) = 0
front_start offset (malformed fault) = 0

-- where the frame starts: behind its mark and its length
unfoldable pub reader_start : List ℕ → ℕ → ℕ
reader_start script offset = read_in_order (λ refusal. 0) (front_start offset) script offset

abbrev pub front_length : Front → ℕ
front_length end = 0
front_length (item (frame bytes) rest) = length bytes
front_length (item (wait microseconds) rest) = 0
front_length (malformed fault) = 0

-- and how long it is
unfoldable pub reader_length : List ℕ → ℕ → ℕ
reader_length = read_in_order (λ refusal. 0) front_length

abbrev pub front_part : Front → List ℕ
front_part end = []
front_part (item (frame bytes) rest) = bytes
front_part (item (wait microseconds) rest) = []
front_part (malformed fault) = []

-- "the reader gives a frame back as that part of the caller's script"
unfoldable pub frame_part : List ℕ → ℕ → List ℕ
frame_part = read_in_order (λ refusal. []) front_part

-- the whole answer
abbrev pub at_offset : List ℕ → ℕ → AtOffset
at_offset script offset = record { read = record_at script offset; next = reader_next script offset }

-- the reader's promise: its answer, and each value of it
pub record Answered (script : List ℕ) (offset : ℕ) (r : AtOffset) : Type 0 where
  pub answer_is : r.read ≡ record_at script offset
  pub kind_is : case_of r.read ≡ reader_kind script offset
  pub number_is : number_of r.read ≡ reader_number script offset
  pub next_is : r.next ≡ reader_next script offset
  pub microseconds_are : microseconds_of r.read ≡ reader_microseconds script offset
  pub start_is : start_of r.read ≡ reader_start script offset
  pub length_is : length_of r.read ≡ reader_length script offset
  pub part_is : part_of script r.read ≡ frame_part script offset
