-- "A script is records" (01, "Scripts and plans"): their bytes, and the reader of one record.
use Rattle.std.specs.Prelude.{◌≡◌, List, [], ◌∷◌, ◌++◌, ◌⊎◌, ℕ, ◌+◌, ◌*◌, ◌/◌, ◌%◌, ◌≤◌, ◌<◌, length, take, drop, Some, None, Ok, Err}
use Rattle.common.specs.Lists.{Each}
use Rattle.common.specs.Bits.{Bytes}
use Rattle.script.specs.Record.{Record, frame, wait, encode_record, encode}
use Rattle.script.specs.Decode.{records, decode}
use Rattle.common.specs.Refusals
use Rattle.common.specs.declared.refusals.Refusal.{Refusal}
use Rattle.script.specs.declared.reader.Found.TheVariants.{Frame, Wait}
use Rattle.script.specs.declared.reader.AtOffset.{AtOffset}
use Rattle.script.specs.Answers.{next_of}
use Rattle.script.specs.Reader.{record_at, frame_part, Answered}
use Rattle.host.specs.declared.reader.Record as host
use Rattle.host.specs.Read.{ReadAnswered}

-- "1 to 4,101", and what four bytes can hold
abbrev pub Writable : Record → Type 0
Writable (frame f) = (1 ≤ length f) × (length f ≤ 4101)
Writable (wait n) = n < 4294967296

pub record ScriptBytes : Type 0 where
  -- "each with a two-byte mark: 5A 46, a length of two bytes, high first, 1 to 4,101, then the frame;
  pub of_a_frame : (f : List ℕ) → encode_record (frame f) ≡ 0x5a ∷ 0x46 ∷ length f / 256 ∷ length f % 256 ∷ f
  -- or 5A 57 and four bytes of microseconds, high first."
  pub of_a_wait : (n : ℕ) → encode_record (wait n) ≡ 0x5a ∷ 0x57 ∷ n / 16777216 ∷ n / 65536 % 256 ∷ n / 256 % 256 ∷ n % 256 ∷ []
  -- "A script is records"
  pub of_none : encode [] ≡ []
  pub of_more : (r : Record) (rs : List Record) → encode (r ∷ rs) ≡ encode_record r ++ encode rs
  -- and every script is those of its records
  pub read_back : (rs : List Record) → Each Writable rs → decode (encode rs) ≡ records rs
  pub written_back : (script : List ℕ) (rs : List Record) → Bytes script → decode script ≡ records rs → (encode rs ≡ script) × Each Writable rs

-- what stands at an offset is refused with this number, and the reader's answer there has "the given offset"
pub record RefusedWith (script : List ℕ) (offset number : ℕ) : Type 0 where
  pub refusal : Refusal
  pub is : record_at script offset ≡ Err refusal
  pub number_is : Refusals.number_of refusal ≡ number
  pub next_is : {r : AtOffset} → Answered script offset r → r.next ≡ offset

-- "It takes a script and an offset"
pub record ReaderRules (script : List ℕ) (offset : ℕ) : Type 0 where
  -- "and answers the frame
  pub frame_answered : (high low : ℕ) (f rest : List ℕ) → length script ≤ 32768 → drop offset script ≡ 0x5a ∷ 0x46 ∷ high ∷ low ∷ (f ++ rest)
      → length f ≡ high * 256 + low → Writable (frame f) → record_at script offset ≡ Ok (Some (Frame (offset + 4) (length f) (offset + 4 + length f)))
  -- or the wait of the record there with the next offset,
  pub wait_answered : (a b c d : ℕ) (rest : List ℕ) → length script ≤ 32768 → drop offset script ≡ 0x5a ∷ 0x57 ∷ a ∷ b ∷ c ∷ d ∷ rest
      → record_at script offset ≡ Ok (Some (Wait (a * 16777216 + b * 65536 + c * 256 + d) (offset + 6)))
  -- or "end" where the offset is the script's length."
  pub end_answered : length script ≤ 32768 → offset ≡ length script → record_at script offset ≡ Ok None
  pub end_only_there : record_at script offset ≡ Ok None → offset ≡ length script
  -- "with the next offset": it stands beside what was read, and C gets the same
  pub next_answered : {r : AtOffset} → Answered script offset r → r.next ≡ next_of offset r.read
  pub next_answered_for_c : {r : host.Record} → ReadAnswered script offset r → r.next ≡ next_of offset (record_at script offset)
  -- "The reader gives a frame back as that part of the caller's script."
  pub frame_given : (high low : ℕ) (f rest : List ℕ) → length script ≤ 32768 → drop offset script ≡ 0x5a ∷ 0x46 ∷ high ∷ low ∷ (f ++ rest)
      → length f ≡ high * 256 + low → Writable (frame f) → frame_part script offset ≡ f
  pub as_that_part : {start n next : ℕ} → record_at script offset ≡ Ok (Some (Frame start n next)) → frame_part script offset ≡ take n (drop start script)
  -- "Its refusal returns an empty part and the given offset."
  pub refusal_part : {refusal : Refusal} → record_at script offset ≡ Err refusal → frame_part script offset ≡ []
  pub refusal_offset : {r : AtOffset} {refusal : Refusal} → Answered script offset r → r.read ≡ Err refusal → r.next ≡ offset
  pub refusal_offset_for_c : {r : host.Record} → ReadAnswered script offset r → r.kind ≡ 0 → r.next ≡ offset
  -- "With a wait or "end" the part is empty too;
  pub wait_part : (a b c d : ℕ) (rest : List ℕ) → drop offset script ≡ 0x5a ∷ 0x57 ∷ a ∷ b ∷ c ∷ d ∷ rest → frame_part script offset ≡ []
  pub end_part : offset ≡ length script → frame_part script offset ≡ []
  -- "end" gives the given offset."
  pub end_offset : {r : AtOffset} → Answered script offset r → r.read ≡ Ok None → r.next ≡ offset
  pub end_offset_for_c : {r : host.Record} → ReadAnswered script offset r → r.kind ≡ 3 → r.next ≡ offset
  -- a length that is not "1 to 4,101" is refused, whatever follows
  pub wrong_length_refused : (high low : ℕ) (rest : List ℕ) → length script ≤ 32768 → drop offset script ≡ 0x5a ∷ 0x46 ∷ high ∷ low ∷ rest
      → (high * 256 + low ≡ 0) ⊎ (4102 ≤ high * 256 + low) → RefusedWith script offset 13
  -- "A reader's offset past the end is 14." (02, A1)
  pub past_refused : length script ≤ 32768 → length script < offset → RefusedWith script offset 14
  -- "At most 32,768 bytes"
  pub too_long_refused : 32769 ≤ length script → RefusedWith script offset 11
