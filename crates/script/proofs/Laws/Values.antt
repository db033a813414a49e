-- The values of the reader's answer: each is what stands at the offset, and where it is no frame the part is empty.
-- Assumes nothing.
use mathlib.Core.Path.{◌≡◌, refl, sym, ap, ap₂, ◌∙◌}
use mathlib.Core.Bool.{Bool, true, false, cond}
use mathlib.Core.List.{List, []}
use Prim.Native.Nat.{ℕ, ◌≤◌}
use native.Mathlib.Omega.{arith}
use lib.Dec.{ltb}
use lib.ListN.{length, drop}
use borrow.Author.Tests.{le-ltb}
use Rattle.common.specs.Limits.{longest_script}
use Rattle.std.specs.Prelude.{Some, None, Ok, Err}
use Rattle.common.specs.Refusals
use Rattle.common.specs.declared.refusals.Refusal.{Refusal}
use Rattle.common.specs.declared.refusals.Refusal.TheVariants.{ScriptTooLong}
use Rattle.common.proofs.Laws.Choice.{cond_elim, no}
use Rattle.script.specs.Record.{frame, wait}
use Rattle.script.specs.Decode.{cut_short, Fault, Front, end, item, malformed, front}
use Rattle.script.specs.Answers.{Read, case_of, number_of, next_of, microseconds_of, start_of, length_of, part_of}
use Rattle.script.specs.declared.reader.Found.TheVariants.{Frame, Wait}
use Rattle.script.specs.declared.reader.AtOffset.{AtOffset}
use Rattle.script.specs.Reader.{refusal_of, read_in_order, answer, record_at, front_kind, reader_kind, front_number, reader_number, front_next, reader_next, front_microseconds, reader_microseconds, front_start, reader_start, front_length, reader_length, front_part, frame_part, at_offset, Answered}
use Rattle.script.proofs.Laws.Answers.{refusal_number, stands, frame_bytes}

module _ (script : List ℕ) (offset : ℕ) where
  -- no frame stands there: the part is empty, whatever else does
  pub part_empty_without_frame : ((bytes rest : List ℕ) → front (drop offset script) ≡ item (frame bytes) rest → ⊥) → frame_part script offset ≡ []
  unfolding frame_part
  part_empty_without_frame none =
      cond_elim Empty (ltb longest_script (length script)) (λ _. refl)
      (λ _. cond_elim Empty (ltb (length script) offset) (λ _. refl) (λ _. by_front (front (drop offset script)) none))
    where
      Empty : List ℕ → Type 0
      Empty part = part ≡ []

      by_front : (f : Front) → ((bytes rest : List ℕ) → f ≡ item (frame bytes) rest → ⊥) → Empty (front_part f)
      by_front end h = refl
      by_front (item (frame bytes) rest) h = absurd (h bytes rest refl)
      by_front (item (wait microseconds) rest) h = refl
      by_front (malformed fault) h = refl

  -- a value of the answer, told for each refusal and for each thing that can stand at the offset
  read_value : {A : Type 0} (value : Read → A) (refused : Refusal → A) (told : Front → A) → ((refusal : Refusal) → value (Err refusal) ≡ refused refusal)
      → value (answer offset end) ≡ told end
      → ((bytes rest : List ℕ) → front (drop offset script) ≡ item (frame bytes) rest → value (answer offset (item (frame bytes) rest)) ≡ told (item (frame bytes) rest))
      → ((n : ℕ) (rest : List ℕ) → value (answer offset (item (wait n) rest)) ≡ told (item (wait n) rest))
      → ((fault : Fault) → value (answer offset (malformed fault)) ≡ told (malformed fault)) → value (record_at script offset) ≡ read_in_order refused told script offset
  unfolding record_at
  read_value value refused told r e f w m = by_tests (ltb longest_script (length script)) (ltb (length script) offset)
    where
      by_front : (x : Front) → front (drop offset script) ≡ x → value (answer offset x) ≡ told x
      by_front end q = e
      by_front (item (frame bytes) rest) q = f bytes rest q
      by_front (item (wait n) rest) q = w n rest
      by_front (malformed fault) q = m fault

      by_tests : (long past : Bool)
          → value (cond long (Err ScriptTooLong) (cond past (Err (refusal_of cut_short)) (answer offset (front (drop offset script)))))
          ≡ cond long (refused ScriptTooLong) (cond past (refused (refusal_of cut_short)) (told (front (drop offset script))))
      by_tests true past = r ScriptTooLong
      by_tests false true = r (refusal_of cut_short)
      by_tests false false = by_front (front (drop offset script)) refl

  record_at_kind : case_of (record_at script offset) ≡ reader_kind script offset
  unfolding reader_kind
  record_at_kind = read_value case_of (λ _. 0) front_kind (λ _. refl) refl (λ _ _ _. refl) (λ _ _. refl) (λ _. refl)

  pub record_at_number : number_of (record_at script offset) ≡ reader_number script offset
  unfolding reader_number
  record_at_number = read_value number_of Refusals.number_of front_number (λ _. refl) refl (λ _ _ _. refl) (λ _ _. refl) refusal_number

  pub record_at_next : next_of offset (record_at script offset) ≡ reader_next script offset
  unfolding reader_next
  record_at_next = read_value (next_of offset) (λ _. offset) (front_next offset) (λ _. refl) refl (λ _ _ _. refl) (λ _ _. refl) (λ _. refl)

  record_at_microseconds : microseconds_of (record_at script offset) ≡ reader_microseconds script offset
  unfolding reader_microseconds
  record_at_microseconds = read_value microseconds_of (λ _. 0) front_microseconds (λ _. refl) refl (λ _ _ _. refl) (λ _ _. refl) (λ _. refl)

  record_at_start : start_of (record_at script offset) ≡ reader_start script offset
  unfolding reader_start
  record_at_start = read_value start_of (λ _. 0) (front_start offset) (λ _. refl) refl (λ _ _ _. refl) (λ _ _. refl) (λ _. refl)

  -- a frame's part is the frame
  pub record_at_part : part_of script (record_at script offset) ≡ frame_part script offset
  unfolding frame_part
  record_at_part = read_value (part_of script) (λ _. []) front_part (λ _. refl) refl (λ _ _ e. frame_bytes script offset e) (λ _ _. refl) (λ _. refl)

  record_at_length : length_of (record_at script offset) ≡ reader_length script offset
  unfolding reader_length
  record_at_length = read_value length_of (λ _. 0) front_length (λ _. refl) refl (λ _ _ _. refl) (λ _ _. refl) (λ _. refl)

  -- every clause of the reader's promise follows from two: what was read, and the next offset of it
  pub record_at_answered : {r : AtOffset} → r.read ≡ record_at script offset → r.next ≡ next_of offset r.read → Answered script offset r
  record_at_answered e n = record {
    answer_is = e;
    kind_is = ap case_of e ∙ record_at_kind;
    number_is = ap number_of e ∙ record_at_number;
    next_is = n ∙ ap (next_of offset) e ∙ record_at_next;
    microseconds_are = ap microseconds_of e ∙ record_at_microseconds;
    start_is = ap start_of e ∙ record_at_start;
    length_is = ap length_of e ∙ record_at_length;
    part_is = ap (part_of script) e ∙ record_at_part;
  }

  -- the next offset that is answered is that of what was read
  pub next_answered : {r : AtOffset} → Answered script offset r → r.next ≡ next_of offset r.read
  next_answered a = a.next_is ∙ sym record_at_next ∙ ap (next_of offset) (sym a.answer_is)

  -- a refusal's whole answer
  pub refused_here : {refusal : Refusal} → record_at script offset ≡ Err refusal → at_offset script offset ≡ record { read = Err refusal; next = offset }
  refused_here e = ap₂ (λ (read : Read) (next : ℕ). record { read = read; next = next }) e (sym record_at_next ∙ ap (next_of offset) e)

  -- "the given offset", of a refusal and of "end"
  abbrev pub GivenBack : Read → ℕ → Type 0
  GivenBack (Ok (Some (Frame start n next))) at = Unit {0}
  GivenBack (Ok (Some (Wait microseconds next))) at = Unit {0}
  GivenBack (Ok None) at = at ≡ offset
  GivenBack (Err refusal) at = at ≡ offset

  pub offset_given_back : {r : AtOffset} → Answered script offset r → GivenBack r.read r.next
  offset_given_back {r} a = let next = next_answered a in rw next (of_read r.read)
    where
      of_read : (read : Read) → GivenBack read (next_of offset read)
      of_read (Ok (Some (Frame start n next))) = tt
      of_read (Ok (Some (Wait microseconds next))) = tt
      of_read (Ok None) = refl
      of_read (Err refusal) = refl

  pub frame_part_is_frame : {bytes rest : List ℕ} → length script ≤ longest_script → front (drop offset script) ≡ item (frame bytes) rest
      → frame_part script offset ≡ bytes
  unfolding frame_part
  frame_part_is_frame short e =
      let s = stands script offset e in
      sym (no _ (le-ltb longest_script (length script) short) (no _ (le-ltb (length script) offset (omega (arith, s.inside, s.least))) (rw e refl)))
