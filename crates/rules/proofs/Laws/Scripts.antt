-- A script's bytes, and the reader's answers by what stands at the offset.
-- Assumes nothing.
use mathlib.Core.Path.{◌≡◌, refl, sym, ap, ◌∙◌}
use mathlib.Core.List.{List, ◌∷◌}
use mathlib.Core.Logic.{⊎_elim, ◌⊎◌, inl, inr}
use Prim.Native.Nat.{ℕ, ◌+◌, ◌*◌, ◌≤◌, ◌<◌}
use native.Mathlib.Omega.{arith}
use lib.ListN.{length, drop, length-drop}
use Rattle.common.specs.Limits.{longest_frame, longest_script}
use Rattle.common.specs.Numbers.{two_bytes}
use Rattle.common.proofs.Laws.Lists.{split}
use Rattle.script.specs.Decode.{Front, front}
use Rattle.std.specs.Prelude.{Some, None, Ok, Err}
use Rattle.common.specs.Refusals.{number_of}
use Rattle.common.specs.declared.refusals.Refusal.{Refusal}
use Rattle.common.specs.declared.refusals.Refusal.TheVariants.{ScriptTooLong, WrongLength, CutShort}
use Rattle.script.specs.declared.reader.Found.TheVariants.{Frame, Wait}
use Rattle.script.specs.Answers.{Read, case_of, next_of, part_of}
use Rattle.script.specs.Reader.{answer, record_at}
use Rattle.script.proofs.Laws.Records.{encode_none, encode_front, encoded_frame, encoded_wait}
use Rattle.script.proofs.Laws.Decode.{decode_encode, encode_decode, decoded_none}
use Rattle.script.proofs.Laws.Marks.{frame_here, wrong_length_here, wait_here}
use Rattle.script.proofs.Laws.Places.{front_at_end}
use Rattle.script.proofs.Laws.Reader.{record_at_long, record_at_past, record_at_inside}
use Rattle.script.proofs.Laws.Answers.{answer_told}
use Rattle.script.proofs.Laws.Values.{part_empty_without_frame, record_at_next, record_at_part, next_answered, offset_given_back, frame_part_is_frame}
use Rattle.host.specs.declared.reader.Record as host
use Rattle.host.specs.Read.{ReadAnswered}
use Rattle.rules.specs.Scripts.{ScriptBytes, RefusedWith, ReaderRules}

pub script_bytes : ScriptBytes
script_bytes = record {
  of_a_frame = encoded_frame;
  of_a_wait = encoded_wait;
  of_none = encode_none;
  of_more = encode_front;
  read_back = decode_encode;
  written_back = encode_decode;
}

-- a length that is not "1 to 4,101"
pub wrong_length_lem : (high low : ℕ) → (high * 256 + low ≡ 0) ⊎ (4102 ≤ high * 256 + low) → (two_bytes high low < 1) ⊎ (longest_frame < two_bytes high low)
wrong_length_lem high low wrong = ⊎_elim (λ e. inl (omega arith)) (λ l. inr l) wrong

module _ (script : List ℕ) (offset : ℕ) where
  -- something stands there, so the offset is inside
  some_inside : {x : ℕ} {bytes : List ℕ} → drop offset script ≡ x ∷ bytes → offset ≤ length script
  some_inside e = omega (arith, ap length e, length-drop offset script)

  answered : {f : Front} → length script ≤ longest_script → offset ≤ length script → front (drop offset script) ≡ f → record_at script offset ≡ answer offset f
  answered short inside e = record_at_inside script offset short inside ∙ ap (answer offset) e

  -- a refusal gives back the offset
  pub refused_with : (refusal : Refusal) → record_at script offset ≡ Err refusal → RefusedWith script offset (number_of refusal)
  refused_with refusal e = record {
    refusal = refusal;
    is = e;
    number_is = refl;
    next_is = λ a. rw (a.answer_is ∙ e) at (offset_given_back script offset a);
  }

  -- so does what C is given: kinds 0 and 3 are no record
  no_record : (read : Read) → (case_of read ≡ 0) ⊎ (case_of read ≡ 3) → next_of offset read ≡ offset
  no_record (Ok (Some (Frame start n next))) k = absurd (⊎_elim (λ e. omega (arith, e)) (λ e. omega (arith, e)) k)
  no_record (Ok (Some (Wait microseconds next))) k = absurd (⊎_elim (λ e. omega (arith, e)) (λ e. omega (arith, e)) k)
  no_record (Ok None) k = refl
  no_record (Err refusal) k = refl

  offset_for_c : {r : host.Record} → ReadAnswered script offset r → (r.kind ≡ 0) ⊎ (r.kind ≡ 3) → r.next ≡ offset
  offset_for_c a k = a.next_is ∙ sym (record_at_next script offset) ∙ no_record (record_at script offset) (rw a.answer_is at k)

  no_end_past : record_at script offset ≡ Ok None → length script < offset → ⊥
  no_end_past e past =
      ⊎_elim (λ long. let q = record_at_long script offset long in let z : ◌≡◌ {A = ℕ} 0 1 = cc in omega arith)
      (λ short. let q = record_at_past script offset short past in let z : ◌≡◌ {A = ℕ} 0 1 = cc in omega arith) (split longest_script (length script))

  pub reader_rules : ReaderRules script offset
  reader_rules = record {
    frame_answered = λ high low f rest short e n ok.
        let next : offset + (4 + length f) ≡ offset + 4 + length f = omega arith in
        answered short (some_inside e) (ap front e ∙ frame_here high low f rest n ok.0 ok.1) ∙ ap (λ (n : ℕ). Ok (Some (Frame (offset + 4) (length f) n))) next;
    wait_answered = λ a b c d rest short e.
        let n : (a * 256 + b) * 65536 + (c * 256 + d) ≡ a * 16777216 + b * 65536 + c * 256 + d = omega arith in
        answered short (some_inside e) (ap front e ∙ wait_here a b c d rest) ∙ ap (λ (n : ℕ). Ok (Some (Wait n (offset + 6)))) n;
    end_answered = λ short e. answered short (omega arith) (front_at_end script offset (omega arith));
    end_only_there = λ e.
        let told = (rw e at (answer_told script offset (record_at script offset) refl)) refl in
        ⊎_elim (λ past. absurd (no_end_past e past))
        (λ inside. omega (arith, ap length (decoded_none (drop offset script) told.decoded), length-drop offset script)) (split (length script) offset);
    next_answered = next_answered script offset;
    next_answered_for_c = λ a. a.next_is ∙ sym (record_at_next script offset);
    frame_given = λ high low f rest short e n ok. frame_part_is_frame script offset short (ap front e ∙ frame_here high low f rest n ok.0 ok.1);
    as_that_part = λ e. sym (record_at_part script offset) ∙ ap (part_of script) e;
    refusal_part = λ e. sym (record_at_part script offset) ∙ ap (part_of script) e;
    refusal_offset = λ a e. rw e at (offset_given_back script offset a);
    refusal_offset_for_c = λ a e. offset_for_c a (inl e);
    wait_part = λ a b c d rest e.
        part_empty_without_frame script offset
        (λ bytes behind q. let w = ap front e ∙ wait_here a b c d rest in let z : ◌≡◌ {A = ℕ} 0 1 = cc in omega arith);
    end_part = λ e.
        part_empty_without_frame script offset
        (λ bytes behind q. let w = front_at_end script offset (omega arith) in let z : ◌≡◌ {A = ℕ} 0 1 = cc in omega arith);
    end_offset = λ a e. rw e at (offset_given_back script offset a);
    end_offset_for_c = λ a e. offset_for_c a (inr e);
    wrong_length_refused = λ high low rest short e wrong. refused_with WrongLength (answered short (some_inside e) (ap front e ∙ wrong_length_here high low rest (wrong_length_lem high low wrong)));
    past_refused = λ short past. refused_with CutShort (record_at_past script offset short past);
    too_long_refused = λ long. refused_with ScriptTooLong (record_at_long script offset long);
  }
