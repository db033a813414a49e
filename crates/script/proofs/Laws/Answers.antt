-- What an answer of the reader tells of the script.
-- Assumes nothing.
use mathlib.Core.Path.{◌≡◌, refl, sym, ap, ◌∙◌}
use mathlib.Core.List.{List, [], ◌∷◌}
use Prim.Native.Nat.{ℕ, ◌+◌, ◌≤◌}
use native.Mathlib.Omega.{arith}
use lib.Dec.{ltb}
use lib.ListN.{length, take, drop, length-drop}
use lib.Seq.{drop-drop}
use Rattle.common.proofs.Laws.Choice.{cond_elim}
use Rattle.script.specs.Record.{Record, frame, wait, record_length}
use Rattle.common.specs.Limits.{longest_script}
use Rattle.script.specs.Decode.{Fault, unknown_mark, wrong_length, cut_short, fault_number, Front, end, item, malformed, front, Decoded, records, bad_at, followed, decode}
use Rattle.std.specs.Result.{IsOk}
use Rattle.std.specs.Prelude.{Some, None, Ok, Err}
use Rattle.common.specs.Refusals
use Rattle.common.specs.declared.refusals.Refusal.{Refusal}
use Rattle.script.specs.Answers.{Read, number_of}
use Rattle.script.specs.Reader.{refusal_of, answer, record_at}
use Rattle.script.specs.declared.reader.Found.TheVariants.{Frame, Wait}
use Rattle.script.proofs.Laws.Front.{front_item}
use Rattle.script.proofs.Laws.Decode.{decode_end, decode_item, decode_malformed}

-- the refusal of a bad record has its number
pub refusal_number : (fault : Fault) → Refusals.number_of (refusal_of fault) ≡ fault_number fault
refusal_number unknown_mark = refl
refusal_number wrong_length = refl
refusal_number cut_short = refl

-- the record r stands at an offset, and next is the offset behind it
pub record Stands (script : List ℕ) (offset : ℕ) (r : Record) (next : ℕ) : Type 0 where
  pub here : front (drop offset script) ≡ item r (drop next script)
  pub decoded : decode (drop offset script) ≡ followed r (decode (drop next script))
  pub next_is : next ≡ offset + record_length r
  pub least : 5 ≤ record_length r
  pub inside : next ≤ length script

pub stands : (script : List ℕ) (offset : ℕ) {r : Record} {rest : List ℕ} → front (drop offset script) ≡ item r rest
    → Stands script offset r (offset + record_length r)
stands script offset {r} {rest} e =
    let i = front_item (drop offset script) e in
    let behind : rest ≡ drop (offset + record_length r) script = i.rest_is ∙ drop-drop (record_length r) offset script in
    let here : front (drop offset script) ≡ item r (drop (offset + record_length r) script) = rw behind at e in
    record {
      here = here;
      decoded = decode_item (drop offset script) here;
      next_is = refl;
      least = i.least;
      inside = omega (arith, i.length_is, i.least, length-drop offset script);
    }

-- where the records from an offset on are known, the one that stands there is the first
pub record First (script : List ℕ) (next : ℕ) (r : Record) (left : List Record) : Type 0 where
  pub others : List Record
  pub is : left ≡ r ∷ others
  pub decoded : decode (drop next script) ≡ records others

pub stands_first : {script : List ℕ} {offset next : ℕ} {r : Record} {left : List Record} → Stands script offset r next
    → decode (drop offset script) ≡ records left → First script next r left
stands_first {script} {offset} {next} {r} {left} t e = by_decoded (decode (drop next script)) refl (sym t.decoded ∙ e)
  where
    by_decoded : (d : Decoded) → decode (drop next script) ≡ d → followed r d ≡ records left → First script next r left
    by_decoded (records rs) q h = let is : left ≡ r ∷ rs = cc in record { others = rs; is = is; decoded = q }
    by_decoded (bad_at fault at) q h = let z : ◌≡◌ {A = ℕ} 0 1 = cc in absurd (omega arith)

-- the bytes of a frame that stands at an offset
pub frame_bytes : (script : List ℕ) (offset : ℕ) {bytes rest : List ℕ} → front (drop offset script) ≡ item (frame bytes) rest
    → take (length bytes) (drop (offset + 4) script) ≡ bytes
frame_bytes script offset {bytes} e =
    rw (← drop-drop 4 offset script) (sym (front_item (drop offset script) e).body)

-- a frame is answered: where it starts and how long it is
pub record FrameTold (script : List ℕ) (offset start n next : ℕ) : Type 0 where
  pub start_is : start ≡ offset + 4
  pub long : length (take n (drop start script)) ≡ n
  pub stands : Stands script offset (frame (take n (drop start script))) next

pub record EndTold (script : List ℕ) (offset : ℕ) : Type 0 where
  pub decoded : decode (drop offset script) ≡ records []

pub record RefusalTold (script : List ℕ) (offset : ℕ) (refusal : Refusal) : Type 0 where
  pub fault : Fault
  pub refusal_is : refusal ≡ refusal_of fault
  pub decoded : decode (drop offset script) ≡ bad_at fault 0

-- where the bytes are records to the end, none is refused
pub good_not_refused : {script : List ℕ} {offset : ℕ} {refusal : Refusal} {rs : List Record} → decode (drop offset script) ≡ records rs → RefusalTold script offset refusal → ⊥
good_not_refused good told = let z : ◌≡◌ {A = ℕ} 0 1 = cc (told.decoded, good) in omega arith

-- what each answer tells of the script
abbrev pub Told : List ℕ → ℕ → Read → Type 0
Told script offset (Ok (Some (Frame start n next))) = FrameTold script offset start n next
Told script offset (Ok (Some (Wait microseconds next))) = Stands script offset (wait microseconds) next
Told script offset (Ok None) = EndTold script offset
Told script offset (Err refusal) = RefusalTold script offset refusal

-- `front_at`'s answer, by what stands at the offset
pub front_told : (script : List ℕ) (offset : ℕ) (found : Read) → found ≡ answer offset (front (drop offset script)) → Told script offset found
front_told script offset found e = rw e (by_front (front (drop offset script)) refl)
  where
    by_front : (f : Front) → front (drop offset script) ≡ f → Told script offset (answer offset f)
    by_front end e = record { decoded = decode_end (drop offset script) e }
    by_front (item (frame bytes) rest) e =
        let is : take (length bytes) (drop (offset + 4) script) ≡ bytes = frame_bytes script offset e in
        record { start_is = refl; long = ap length is; stands = rw is (stands script offset e) }
    by_front (item (wait microseconds) rest) e = stands script offset e
    by_front (malformed fault) e = record { fault = fault; refusal_is = refl; decoded = decode_malformed (drop offset script) e }

-- where the bytes are records to the end, there is a record or none
pub good_ok : (script : List ℕ) (offset : ℕ) {rs : List Record} → decode (drop offset script) ≡ records rs → (read : Read) → read ≡ answer offset (front (drop offset script))
    → IsOk read
good_ok script offset good (Ok there) e = refl
good_ok script offset good (Err refusal) e = absurd (good_not_refused good (front_told script offset (Err refusal) e))

-- `record_at`'s answer tells the same, where it is no refusal
pub answer_told : (script : List ℕ) (offset : ℕ) (found : Read) → found ≡ record_at script offset → number_of found ≡ 0 → Told script offset found
unfolding record_at
answer_told script offset found e =
    rw e
    (cond_elim Accepted (ltb longest_script (length script)) (λ _ none. absurd (omega arith))
    (λ _. cond_elim Accepted (ltb (length script) offset) (λ _ none. absurd (omega arith)) (λ _ _. front_told script offset _ refl)))
  where
    Accepted : Read → Type 0
    Accepted given = number_of given ≡ 0 → Told script offset given
