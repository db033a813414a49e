-- The first bad record of a script: where it stands, what is wrong with it, and that all before it are good records. The reader says the same of it.
-- Assumes nothing.
use mathlib.Core.Path.{◌≡◌, refl, sym, ap, ◌∙◌}
use mathlib.Core.List.{List, [], ◌∷◌, ◌++◌}
use Prim.Native.Nat.{ℕ, zero, suc, ◌+◌, ◌≤◌, ◌<◌}
use native.Mathlib.Nat.{le_refl}
use native.Mathlib.Omega.{arith}
use lib.ListN.{length, take, drop, take-append-drop}
use lib.Seq.{drop-drop, take-append-add, length-take-le}
use Rattle.common.specs.Bits.{Bytes}
use Rattle.common.specs.Limits.{longest_script}
use Rattle.common.specs.Refusals.{Exactly}
use Rattle.common.proofs.Laws.Bits.{bytes_drop}
use Rattle.script.specs.Record.{Record, AllFit, encode_record, encode, record_length, script_length}
use Rattle.std.specs.Prelude.{Err}
use Rattle.script.specs.Decode.{Fault, Front, end, item, malformed, front, Decoded, records, bad_at, followed, decode}
use Rattle.script.specs.Reader.{refusal_of, answer, at_offset}
use Rattle.script.proofs.Laws.Records.{encode_none, encode_front, encoded_record_length, encoded_length}
use Rattle.script.proofs.Laws.Front.{front_item, malformed_some}
use Rattle.script.proofs.Laws.Decode.{decode_end, decode_item, decode_malformed}
use Rattle.script.proofs.Laws.Marks.{decode_bad_behind}
use Rattle.script.proofs.Laws.Reader.{record_at_inside}
use Rattle.script.proofs.Laws.Values.{refused_here}

-- "the first bad record" begins inside the script, with such a fault, and all bytes before it are those of good records
pub record FirstBad (script : List ℕ) (fault : Fault) (offset : ℕ) : Type 0 where
  pub inside : offset < length script
  pub here : front (drop offset script) ≡ malformed fault
  pub list : List Record
  pub fit : AllFit list
  pub before : take offset script ≡ encode list

-- it is the first record
bad_front : (script : List ℕ) {fault : Fault} → front script ≡ malformed fault → FirstBad script fault 0
bad_front script e = record { inside = malformed_some script e; here = e; list = []; fit = tt; before = sym encode_none }

-- it stands behind a good record
bad_behind : (script : List ℕ) {r : Record} {rest : List ℕ} {fault : Fault} {offset : ℕ} → Bytes script → front script ≡ item r rest → FirstBad rest fault offset
    → FirstBad script fault (record_length r + offset)
bad_behind script {r} {rest} {fault} {offset} bytes e b =
    let i = front_item script e in
    let whole = i.encoded bytes in
    let behind : drop (record_length r + offset) script ≡ drop offset rest = sym (drop-drop offset (record_length r) script) ∙ ap (drop offset) (sym i.rest_is) in
    record {
      inside = omega (arith, i.length_is, b.inside);
      here = ap front behind ∙ b.here;
      list = r ∷ b.list;
      fit = (whole.1, b.fit);
      before =
          ap (take (record_length r + offset)) whole.0
          ∙ ap (λ (n : ℕ). take (n + offset) (encode_record r ++ rest)) (sym (encoded_record_length r))
          ∙ take-append-add (encode_record r) rest offset ∙ ap (λ (l : List ℕ). encode_record r ++ l) b.before ∙ sym (encode_front r b.list);
    }

-- what holds where the first record is bad, and behind a good record where it holds of the bytes behind, holds of each first bad record
module _ (P : List ℕ → Fault → ℕ → Type 0) (first : (script : List ℕ) (fault : Fault) → front script ≡ malformed fault → P script fault 0)
    (behind : (script : List ℕ) (r : Record) (rest : List ℕ) (fault : Fault) (offset : ℕ) → front script ≡ item r rest → P rest fault offset
    → P script fault (record_length r + offset)) where
  -- by what stands at the front; `go` is for the bytes behind a record
  bad_on : (script : List ℕ) {fault : Fault} {offset : ℕ} → decode script ≡ bad_at fault offset
      → ((rest : List ℕ) (at : ℕ) → length rest < length script → decode rest ≡ bad_at fault at → P rest fault at) → P script fault offset
  bad_on script {fault} {offset} e go = by_front (front script) refl
    where
      by_rest : (r : Record) (rest : List ℕ) → front script ≡ item r rest → (d : Decoded) → decode rest ≡ d → followed r d ≡ bad_at fault offset → P script fault offset
      by_rest r rest q (records rs) f h = let z : ◌≡◌ {A = ℕ} 0 1 = cc in absurd (omega arith)
      by_rest r rest q (bad_at other at) f h =
          let i = front_item script q in
          let same : other ≡ fault = cc in
          let place : record_length r + at ≡ offset = cc in
          rw (← place) (behind script r rest fault at q (go rest at (omega (arith, i.length_is, i.least)) (rw same at f)))

      by_front : (f : Front) → front script ≡ f → P script fault offset
      by_front end q = let h = sym (decode_end script q) ∙ e in let z : ◌≡◌ {A = ℕ} 0 1 = cc in absurd (omega arith)
      by_front (item r rest) q = by_rest r rest q (decode rest) refl (sym (decode_item script q) ∙ e)
      by_front (malformed other) q =
          let h = sym (decode_malformed script q) ∙ e in
          let same : other ≡ fault = cc in
          let place : 0 ≡ offset = cc in
          rw (← place) (first script fault (rw same at q))

  bad_within : (n : ℕ) (script : List ℕ) {fault : Fault} {offset : ℕ} → length script ≤ n → decode script ≡ bad_at fault offset → P script fault offset
  bad_within zero script few e = bad_on script e (λ rest at less. absurd (omega arith))
  bad_within (suc n) script few e = bad_on script e (λ rest at less f. bad_within n rest (omega arith) f)

  bad_elim : (script : List ℕ) {fault : Fault} {offset : ℕ} → decode script ≡ bad_at fault offset → P script fault offset
  bad_elim script e = bad_within (length script) script (le_refl (length script)) e

-- it begins inside the script
pub bad_inside : (script : List ℕ) {fault : Fault} {offset : ℕ} → decode script ≡ bad_at fault offset → offset < length script
bad_inside script e =
    bad_elim (λ script fault offset. offset < length script) (λ script fault e. malformed_some script e)
    (λ script r rest fault offset e inside. omega (arith, (front_item script e).length_is, inside)) script e

-- what the survey's and the run's offset means
pub bad_at_first : (script : List ℕ) {fault : Fault} {offset : ℕ} → Bytes script → Exactly (decode script ≡ bad_at fault offset) (FirstBad script fault offset)
bad_at_first script {fault} {offset} bytes = record { when = λ e. first e bytes; only_when = found }
  where
    first : decode script ≡ bad_at fault offset → Bytes script → FirstBad script fault offset
    first =
        bad_elim (λ script fault offset. Bytes script → FirstBad script fault offset) (λ script fault e _. bad_front script e)
        (λ script r rest fault offset e b bytes. bad_behind script bytes e (b (rw (front_item script e).rest_is (bytes_drop (record_length r) script bytes)))) script

    found : FirstBad script fault offset → decode script ≡ bad_at fault offset
    found b =
        let whole : encode b.list ++ drop offset script ≡ script = ap (λ (l : List ℕ). l ++ drop offset script) (sym b.before) ∙ take-append-drop offset script in
        let long : script_length b.list ≡ offset = sym (encoded_length b.list) ∙ ap length (sym b.before) ∙ length-take-le offset script (omega (arith, b.inside)) in
        ap decode (sym whole) ∙ decode_bad_behind b.list (drop offset script) b.fit b.here ∙ ap (bad_at fault) long

-- the reader at that offset gives the same refusal and the same offset
pub bad_at_read : (script : List ℕ) {fault : Fault} {offset : ℕ} → Bytes script → length script ≤ longest_script → decode script ≡ bad_at fault offset
    → at_offset script offset ≡ record { read = Err (refusal_of fault); next = offset }
bad_at_read script {fault} {offset} bytes short e =
    let b = (bad_at_first script bytes).when e in
    refused_here script offset (record_at_inside script offset short (omega (arith, b.inside)) ∙ ap (answer offset) b.here)
