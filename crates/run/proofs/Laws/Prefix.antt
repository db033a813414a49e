-- A script run in parts: its front part by the call, or record by record as the reader answers. Either way the chip is the one behind the records so
-- far, and running the rest from there makes up the whole.
-- Assumes nothing.
use mathlib.Core.Path.{◌≡◌, refl, sym, ap, ◌∙◌}
use mathlib.Core.Bool.{Bool}
use mathlib.Core.List.{List, [], ◌∷◌, ◌++◌, append_assoc, append-nil}
use Prim.Native.Nat.{ℕ, ◌+◌, ◌≤◌}
use native.Mathlib.Omega.{arith}
use lib.ListN.{length, take, drop, length-append, length-drop, get_or-append}
use lib.Seq.{take-append_seam, drop-append_seam, take_at}
use Rattle.common.specs.Bits.{Bytes}
use Rattle.common.proofs.Laws.Bits.{bytes_within, bytes_drop}
use Rattle.state.specs.declared.Answer.{Answer}
use Rattle.state.specs.Time.{pass_time}
use Rattle.state.proofs.Laws.Passed.{pass_time_granted}
use Rattle.script.specs.Record.{Record, frame, wait, AllFit, encode, frames_in, microseconds_in, output_length}
use Rattle.script.specs.Decode.{records, decode, records_in, records_of}
use Rattle.common.specs.Limits.{longest_script}
use Rattle.script.specs.Answers.{number_of}
use Rattle.script.specs.Reader.{record_at}
use Rattle.std.specs.Prelude.{Some, None, Ok, Err}
use Rattle.script.specs.Answers.{Read}
use Rattle.script.specs.declared.reader.Found.TheVariants.{Frame, Wait}
use Rattle.script.proofs.Laws.Records.{all_fit_append, all_fit_left, encode_append, encoded_length, frames_append, microseconds_append, script_length_append}
use Rattle.script.proofs.Laws.Decode.{decode_encode, encode_decode, decoded_length}
use Rattle.script.proofs.Laws.Answers.{Stands, stands_first, good_not_refused, front_told, answer_told}
use Rattle.script.proofs.Laws.Reader.{record_at_inside}
use Rattle.frame.specs.Device.{Device, with_state}
use Rattle.frame.specs.Line.{Line, Long, joined}
use Rattle.frame.specs.Call.{FrameRun}
use Rattle.frame.proofs.Laws.Accepted as frames
use Rattle.run.specs.declared.Ran.{Ran}
use Rattle.run.specs.Run.{step, run, shown_by_all}
use Rattle.run.specs.Script.{ScriptAccepted, ScriptRun}
use Rattle.run.proofs.Laws.Accepted.{number_accepted}
use Rattle.run.proofs.Laws.Run.{Ready, run_none, run_first, run_append, shown_append, run_ready, step_by_frame}
use Rattle.run.proofs.Laws.Trace.{step_wait}
use Rattle.run.proofs.Laws.Script.{ran_of, script_ran, run_script_determined}

-- ---- two parts

module _ (first second : List ℕ) (bytes : Bytes (first ++ second)) where
  first_bytes : Bytes first
  first_bytes = bytes_within first (λ k h. rw (sym (get_or-append first second 0 k h)) (bytes k))

  second_bytes : Bytes second
  second_bytes = rw (drop-append_seam first second) at (bytes_drop (length first) (first ++ second) bytes)

  -- the records of both parts, one after another
  pub decode_parts : {rs ss : List Record} → decode first ≡ records rs → decode second ≡ records ss → decode (first ++ second) ≡ records (rs ++ ss)
  decode_parts {rs} {ss} e g =
      let a = encode_decode first rs first_bytes e in
      let b = encode_decode second ss second_bytes g in
      let script : encode (rs ++ ss) ≡ first ++ second = encode_append rs ss ∙ rw (a.0, b.0) refl in
      rw script at (decode_encode (rs ++ ss) (all_fit_append rs ss a.1 b.1))

  pub records_in_two : {rs ss : List Record} → decode first ≡ records rs → decode second ≡ records ss
      → records_of (first ++ second) ≡ records_of first ++ records_of second
  records_in_two e g = ap records_in (decode_parts e g) ∙ rw (e, g) refl

-- ---- the call on the front part, and on the rest from there

-- what an accepted call answers and leaves, by the records that are read
pub record RanRecords (wp : Bool) (rs : List Record) (d : Device) (ran : Ran) (after : Device) (line_after : Line) : Type 0 where
  pub answer_is : ran ≡ ran_of (run wp rs d).state (frames_in rs) (microseconds_in rs)
  pub device_is : after ≡ run wp rs d
  pub line_is : line_after ≡ shown_by_all wp rs d

pub script_ran_records : (wp : Bool) (script : List ℕ) (d : Device) (line : Line) {ran : Ran} {after : Device} {line_after : Line} {rs : List Record}
    → ScriptRun wp script d line ran after line_after → ran.number ≡ 0 → decode script ≡ records rs → RanRecords wp rs d ran after line_after
script_ran_records wp script d line {ran} {after} {line_after} {rs} runs good e =
    let a = number_accepted wp script d line (sym runs.number_is ∙ good) in
    let same = rw e at (run_script_determined wp script d line ran _ after _ line_after _ runs (script_ran wp script d line a)) in
    record { answer_is = same.0; device_is = same.1.0; line_is = same.1.1 }

-- of records one after another
ran_in_two : {wp : Bool} {rs ss : List Record} {d : Device} {whole earlier later : Ran} {after between behind : Device} {line_after shown shown_then : Line}
    → RanRecords wp (rs ++ ss) d whole after line_after → RanRecords wp rs d earlier between shown → RanRecords wp ss between later behind shown_then
    → (whole ≡ ran_of later.state (earlier.frames + later.frames) (earlier.microseconds + later.microseconds))
    × ((after ≡ behind) × (line_after ≡ joined shown shown_then))
ran_in_two {wp} {rs} {ss} {d} x y z =
    rw (
      x.answer_is,
      x.device_is,
      x.line_is,
      z.answer_is,
      z.device_is,
      z.line_is,
      y.answer_is,
      y.device_is,
      y.line_is,
      run_append wp rs ss d,
      shown_append wp rs ss d,
      frames_append rs ss,
      microseconds_append rs ss,
    ) (refl, (refl, refl))

module _ (wp : Bool) (first second : List ℕ) (d : Device) (line : Line) where
  -- a front part that can be read is accepted where the script is, with a line of its own length
  pub front_accepted : ScriptAccepted wp (first ++ second) d line → {rs : List Record} → decode first ≡ records rs
      → (part : Line) → Long (output_length rs) part → ScriptAccepted wp first d part
  front_accepted a {rs} e part long = record {
    sound = a.sound;
    sized = a.sized;
    short = omega (arith, a.short, length-append first second);
    list = rs;
    decoded = e;
    same = long;
  }

  -- and so is what follows it, on the chip that the front part leaves
  pub rest_accepted : ScriptAccepted wp (first ++ second) d line → (rs : List Record) {ss : List Record} → decode second ≡ records ss
      → (part : Line) → Long (output_length ss) part → ScriptAccepted wp second (run wp rs d) part
  rest_accepted a rs {ss} e part long =
      let ready = run_ready wp rs d record { sound = a.sound; sized = a.sized } in
      record {
        sound = ready.sound;
        sized = ready.sized;
        short = omega (arith, a.short, length-append first second);
        list = ss;
        decoded = e;
        same = long;
      }

  -- the two calls together do what the one call does: the same chip, what they show one after the other, the counts added
  pub run_in_two : Bytes (first ++ second) → {whole earlier later : Ran} {after between behind : Device} {part others line_after shown shown_then : Line}
      → ScriptRun wp (first ++ second) d line whole after line_after → whole.number ≡ 0
      → ScriptRun wp first d part earlier between shown → earlier.number ≡ 0
      → ScriptRun wp second between others later behind shown_then → later.number ≡ 0
      → (whole ≡ ran_of later.state (earlier.frames + later.frames) (earlier.microseconds + later.microseconds))
      × ((after ≡ behind) × (line_after ≡ joined shown shown_then))
  run_in_two bytes {whole} {earlier} {later} {after} {between} {behind} {part} {others} {line_after} {shown} {shown_then} w good e good_first l good_second =
      let a = number_accepted wp first d part (sym e.number_is ∙ good_first) in
      let b = number_accepted wp second between others (sym l.number_is ∙ good_second) in
      ran_in_two (script_ran_records wp (first ++ second) d line w good (decode_parts first second bytes a.decoded b.decoded))
      (script_ran_records wp first d part e good_first a.decoded) (script_ran_records wp second between others l good_second b.decoded)

-- a script of records one after another: the call on those before alone is accepted, and leaves the chip behind them
pub records_before_ran : (wp : Bool) (before after : List Record) (d : Device) (line : Line) → AllFit before
    → ScriptAccepted wp (encode before ++ encode after) d line → (part : Line) → Long (output_length before) part
    → ScriptRun wp (encode before) d part (ran_of (run wp before d).state (frames_in before) (microseconds_in before)) (run wp before d) (shown_by_all wp before d)
records_before_ran wp before after d line fit a part long =
    let e = decode_encode before fit in
    rw e at (script_ran wp (encode before) d part (front_accepted wp (encode before) (encode after) d line a e part long))

-- ---- record by record, as the reader answers

-- the records before an offset are read: these, and behind them those that are left
pub record ReadTo (script : List ℕ) (at : ℕ) (done : List Record) : Type 0 where
  pub left : List Record
  pub all : decode script ≡ records (done ++ left)
  pub rest : decode (drop at script) ≡ records left
  pub inside : at ≤ length script

pub read_start : {script : List ℕ} {rs : List Record} → decode script ≡ records rs → ReadTo script 0 []
read_start {script} {rs} e = record { left = rs; all = e; rest = e; inside = omega arith }

module _ {script : List ℕ} {at : ℕ} {done : List Record} (h : ReadTo script at done) where
  read_on : {r : Record} {next : ℕ} → Stands script at r next → ReadTo script next (done ++ (r ∷ []))
  read_on {r} {next} t =
      let f = stands_first t h.rest in
      let more : done ++ h.left ≡ (done ++ (r ∷ [])) ++ f.others = ap (λ (l : List Record). done ++ l) f.is ∙ sym (append_assoc done (r ∷ []) f.others) in
      record { left = f.others; all = h.all ∙ ap records more; rest = f.decoded; inside = t.inside }

  -- a frame is answered: that part of the script
  pub read_frame : {start n next : ℕ} → record_at script at ≡ Ok (Some (Frame start n next)) → ReadTo script next (done ++ (frame (take n (drop start script)) ∷ []))
  read_frame {start} {n} {next} e = read_on (answer_told script at (Ok (Some (Frame start n next))) (sym e) refl).stands

  pub read_wait : {n next : ℕ} → record_at script at ≡ Ok (Some (Wait n next)) → ReadTo script next (done ++ (wait n ∷ []))
  read_wait {n} {next} e = read_on (answer_told script at (Ok (Some (Wait n next))) (sym e) refl)

  -- nowhere on the way is the reader's answer a refusal
  pub read_goes_on : length script ≤ longest_script → number_of (record_at script at) ≡ 0
  read_goes_on short = by (record_at script at) refl
    where
      by : (found : Read) → record_at script at ≡ found → number_of found ≡ 0
      by (Ok there) e = refl
      by (Err refusal) e = absurd (good_not_refused h.rest (front_told script at (Err refusal) (sym e ∙ record_at_inside script at short h.inside)))

  -- the end: these are all
  pub read_end : record_at script at ≡ Ok None → decode script ≡ records done
  read_end e =
      let end = (answer_told script at (Ok None) (sym e) refl).decoded in
      let none : h.left ≡ [] = cc in
      h.all ∙ rw (none, append-nil done) refl

  -- the bytes before the offset are a script of their own
  pub read_front : Bytes script → decode (take at script) ≡ records done
  read_front bytes =
      let w = encode_decode script (done ++ h.left) bytes h.all in
      let long : length (encode done) ≡ at =
      omega (
        arith,
        encoded_length done,
        script_length_append done h.left,
        decoded_length script (done ++ h.left) h.all,
        decoded_length (drop at script) h.left h.rest,
        length-drop at script,
        h.inside,
      ) in
      let front : take at script ≡ encode done =
      ap (take at) (sym w.0 ∙ encode_append done h.left) ∙ take_at (encode done) (encode h.left) at long in
      rw front (decode_encode done (all_fit_left done h.left w.1))

-- two parts that can be read: the reader comes to where they meet
pub read_parts : (first second : List ℕ) {rs ss : List Record} → Bytes (first ++ second) → decode first ≡ records rs → decode second ≡ records ss
    → ReadTo (first ++ second) (length first) rs
read_parts first second {rs} {ss} bytes e g = record {
  left = ss;
  all = decode_parts first second bytes e g;
  rest = rw (drop-append_seam first second) g;
  inside = omega (arith, length-append first second);
}

-- ---- a chip on which a script is run so far

pub record RunTo (wp : Bool) (script : List ℕ) (begun : Device) (at : ℕ) (now : Device) : Type 0 where
  pub done : List Record
  pub read : ReadTo script at done
  pub ready : Ready now
  pub device_is : now ≡ run wp done begun

pub run_to_start : {wp : Bool} {script : List ℕ} {d : Device} {rs : List Record} → Ready d → decode script ≡ records rs → RunTo wp script d 0 d
run_to_start {wp} {script} {d} ready e = record { done = []; read = read_start e; ready = ready; device_is = sym (run_none wp d) }

-- by the call "run a script": the part before an offset that the reader has come to
pub run_to_front : {wp : Bool} {script first : List ℕ} {d now : Device} {line line_after : Line} {ran : Ran} {at : ℕ} {rs : List Record} → Bytes script
    → ReadTo script at rs → first ≡ take at script → ScriptRun wp first d line ran now line_after → ran.number ≡ 0 → RunTo wp script d at now
run_to_front {wp} {script} {first} {d} {now} {line} {line_after} {ran} {at} {rs} bytes h front runs good =
    let a = number_accepted wp first d line (sym runs.number_is ∙ good) in
    let did = script_ran_records wp first d line runs good (ap decode front ∙ read_front h bytes) in
    let ready : Ready d = record { sound = a.sound; sized = a.sized } in
    record { done = rs; read = h; ready = rw did.device_is (run_ready wp rs d ready); device_is = did.device_is }

-- and the first of two parts that can be read
pub run_to_first : {wp : Bool} (first second : List ℕ) {d now : Device} {line line_after : Line} {ran : Ran} {ss : List Record} → Bytes (first ++ second)
    → decode second ≡ records ss → ScriptRun wp first d line ran now line_after → ran.number ≡ 0 → RunTo wp (first ++ second) d (length first) now
run_to_first {wp} first second {d} {now} {line} bytes e runs good =
    let a = number_accepted wp first d line (sym runs.number_is ∙ good) in
    run_to_front bytes (read_parts first second bytes a.decoded e) (sym (take-append_seam first second)) runs good

module _ {wp : Bool} {script : List ℕ} {begun now : Device} {at : ℕ} (h : RunTo wp script begun at now) where
  run_on : (r : Record) {next : ℕ} {after : Device} → ReadTo script next (h.done ++ (r ∷ [])) → after ≡ step wp r now → RunTo wp script begun next after
  run_on r {next} {after} read e =
      let one : run wp (r ∷ []) now ≡ after = run_first wp r [] now ∙ run_none wp (step wp r now) ∙ sym e in
      record {
        done = h.done ++ (r ∷ []);
        read = read;
        ready = rw one at (run_ready wp (r ∷ []) now h.ready);
        device_is = sym one ∙ ap (run wp (r ∷ [])) h.device_is ∙ sym (run_append wp h.done (r ∷ []) begun);
      }

  -- the frame that the reader answers, by the call "run a frame"
  pub run_to_frame : {start n next : ℕ} → record_at script at ≡ Ok (Some (Frame start n next)) → {line line_after : Line} {number : ℕ} {after : Device}
      → FrameRun wp (take n (drop start script)) now line number after line_after → number ≡ 0 → RunTo wp script begun next after
  run_to_frame {start} {n} {next} e {line} {line_after} {number} {after} ran good =
      let f : List ℕ = take n (drop start script) in
      run_on (frame f) (read_frame h.read e)
      (ran.device_is ∙ sym (step_by_frame wp now f line (frames.number_accepted wp f now line (sym ran.number_is ∙ good))).device_is)

  -- the wait, by the call "let n microseconds pass"
  pub run_to_wait : {n next : ℕ} → record_at script at ≡ Ok (Some (Wait n next)) → {answer : Answer} → answer ≡ pass_time now.state n
      → RunTo wp script begun next (with_state now answer.state)
  run_to_wait {n} {next} e {answer} is =
      run_on (wait n) (read_wait h.read e)
      (ap (λ (a : Answer). with_state now a.state) (is ∙ pass_time_granted now.state n h.ready.sound) ∙ sym (step_wait wp now n))

  -- at the end all is run
  pub run_to_end : record_at script at ≡ Ok None → now ≡ run wp (records_of script) begun
  run_to_end e = h.device_is ∙ rw (read_end h.read e) refl
