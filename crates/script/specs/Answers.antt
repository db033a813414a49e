-- The reader's answer: its values for each of its cases (01, "Scripts and plans").
use Rattle.std.specs.Prelude.{List, [], ℕ, take, drop, Option, Some, None, Result, Ok, Err}
use Rattle.common.specs.Refusals.{number_in}
use Rattle.common.specs.declared.refusals.Refusal.{Refusal}
use Rattle.script.specs.declared.reader.Found.{Found}
use Rattle.script.specs.declared.reader.Found.TheVariants.{Frame, Wait}

-- a record, "end" where there is none, or a refusal
abbrev pub Read : Type 0
Read = Result (Option Found) Refusal

-- which answer it is (ours): 0 a refusal, 1 a frame, 2 a wait, 3 "end"
abbrev pub case_of : Read → ℕ
case_of (Ok (Some (Frame start n next))) = 1
case_of (Ok (Some (Wait microseconds next))) = 2
case_of (Ok None) = 3
case_of (Err refusal) = 0

-- the number: "an accepted call's number is 0"
abbrev pub number_of : Read → ℕ
number_of = number_in

-- the next offset, of an answer for this one; "its refusal returns .. the given offset", and so does "end"
abbrev pub next_of : ℕ → Read → ℕ
next_of offset (Ok (Some (Frame start n next))) = next
next_of offset (Ok (Some (Wait microseconds next))) = next
next_of offset (Ok None) = offset
next_of offset (Err refusal) = offset

-- the wait's microseconds; 0 with all other answers
abbrev pub microseconds_of : Read → ℕ
microseconds_of (Ok (Some (Frame start n next))) = 0
microseconds_of (Ok (Some (Wait microseconds next))) = microseconds
microseconds_of (Ok None) = 0
microseconds_of (Err refusal) = 0

-- the frame's place in the script: its start and its length; 0 with all other answers
abbrev pub start_of : Read → ℕ
start_of (Ok (Some (Frame start n next))) = start
start_of (Ok (Some (Wait microseconds next))) = 0
start_of (Ok None) = 0
start_of (Err refusal) = 0

abbrev pub length_of : Read → ℕ
length_of (Ok (Some (Frame start n next))) = n
length_of (Ok (Some (Wait microseconds next))) = 0
length_of (Ok None) = 0
length_of (Err refusal) = 0

-- the part of the script: a refusal's is empty, "with a wait or "end" the part is empty too"
abbrev pub part_of : List ℕ → Read → List ℕ
part_of script (Ok (Some (Frame start n next))) = take n (drop start script)
part_of script (Ok (Some (Wait microseconds next))) = []
part_of script (Ok None) = []
part_of script (Err refusal) = []
