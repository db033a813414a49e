-- The reader's answer as one struct (ours): its kind is 0 refused, 1 frame, 2 wait, 3 end, and what a kind has no use for is 0.
use Rattle.std.specs.Prelude.{◌≡◌, List, ℕ}
use Rattle.script.specs.declared.reader.AtOffset.{AtOffset}
use Rattle.script.specs.Answers.{case_of, number_of, microseconds_of, start_of, length_of}
use Rattle.script.specs.Reader.{at_offset, reader_kind, reader_number, reader_next, reader_microseconds, reader_start, reader_length}
use Rattle.host.specs.declared.reader.Record.{Record}

abbrev pub record_of : AtOffset → Record
record_of answer = record {
  number = number_of answer.read;
  kind = case_of answer.read;
  start = start_of answer.read;
  length = length_of answer.read;
  microseconds = microseconds_of answer.read;
  next = answer.next;
}

-- what the call answers: the reader's answer, and each value of it
pub record ReadAnswered (script : List ℕ) (offset : ℕ) (r : Record) : Type 0 where
  pub answer_is : r ≡ record_of (at_offset script offset)
  pub number_is : r.number ≡ reader_number script offset
  pub kind_is : r.kind ≡ reader_kind script offset
  pub start_is : r.start ≡ reader_start script offset
  pub length_is : r.length ≡ reader_length script offset
  pub microseconds_are : r.microseconds ≡ reader_microseconds script offset
  pub next_is : r.next ≡ reader_next script offset
