-- Where the walk over a script's records stands: those before an offset are run, and running those that are left makes up the whole.
-- Assumes nothing.
use mathlib.Core.Path.{◌≡◌, refl, sym, ap, ◌∙◌}
use mathlib.Core.Bool.{Bool}
use mathlib.Core.List.{List, [], ◌∷◌, ◌++◌, append_assoc}
use Prim.Native.Nat.{ℕ, ◌+◌, ◌-◌, ◌≤◌}
use native.Mathlib.Omega.{arith}
use lib.ListN.{length, take, drop, length-append}
use lib.Seq.{take_all, take_at, length-take-le}
use borrow.Rule.Slice.PartMut.{mid_of, post_of, put_mid, same_len_mid, mid_len}
use Rattle.common.specs.Bits.{Bytes}
use Rattle.state.specs.declared.State.{State}
use Rattle.state.specs.Time.{time_passed}
use Rattle.script.specs.Record.{Record, frame, wait, AllFit, output_length}
use Rattle.common.specs.Limits.{longest_script}
use Rattle.script.specs.Decode.{records, decode, records_of}
use Rattle.script.proofs.Laws.Records.{output_append, output_none, output_frame, output_wait}
use Rattle.script.proofs.Laws.Decode.{encode_decode}
use Rattle.script.proofs.Laws.Answers.{Stands, First, stands_first, FrameTold, EndTold}
use Rattle.frame.specs.Device.{Device, with_state}
use Rattle.frame.specs.Line.{Line, on_line, Long, joined, front}
use Rattle.frame.specs.Ran.{FrameDone}
use Rattle.frame.specs.Call.{Accepted}
use Rattle.frame.proofs.Laws.Line.{line_same, joined_none, joined_joined}
use Rattle.frame.proofs.Laws.Ran.{shown_long}
use Rattle.run.specs.Run.{step, shown_by, run, shown_by_all}
use Rattle.run.specs.Script.{ScriptAccepted}
use Rattle.run.proofs.Laws.Run.{Ready, run_array_length, run_ready, frame_accepted_ready}

-- from the device that it began with, on a line of so many bytes, of which the first `laid` are laid
pub record Walked (wp : Bool) (script : List ℕ) (begun : Device) (room : ℕ) (now : Device) (at laid : ℕ) (line : Line) : Type 0 where
  pub short : length script ≤ longest_script
  pub inside : at ≤ length script
  pub ready : Ready now
  pub sized : length now.array ≡ length begun.array
  -- what is left to run
  pub left : List Record
  pub decoded : decode (drop at script) ≡ records left
  pub fit : AllFit left
  pub fills : laid + output_length left ≡ room
  pub long : Long room line
  pub device_is : run wp left now ≡ run wp (records_of script) begun
  pub line_is : joined (front laid line) (shown_by_all wp left now) ≡ shown_by_all wp (records_of script) begun

pub walk_start : (wp : Bool) (script : List ℕ) (d : Device) (line : Line) → Bytes script → ScriptAccepted wp script d line
    → Walked wp script d (length line.output) d 0 0 line
walk_start wp script d line bytes a = record {
  short = a.short;
  inside = omega arith;
  ready = record { sound = a.sound; sized = a.sized };
  sized = refl;
  left = a.list;
  decoded = a.decoded;
  fit = (encode_decode script a.list bytes a.decoded).1;
  fills = omega (arith, a.same.output_long);
  long = record { output_long = refl; driven_long = a.same.driven_long ∙ sym a.same.output_long };
  device_is = rw a.decoded refl;
  line_is = rw a.decoded refl;
}

-- a frame's part of a slice is laid behind those before it
part_laid : (laid n : ℕ) (slice part : List ℕ) → laid + n ≤ length slice → length part ≡ n
    → take (laid + n) (put_mid laid (laid + n - laid) slice part) ≡ take laid slice ++ part
part_laid laid n slice part h e =
    ap (take (laid + n)) (sym (append_assoc (take laid slice) part (post_of laid (laid + n - laid) slice)))
    ∙ take_at (take laid slice ++ part) (post_of laid (laid + n - laid) slice) (laid + n)
    (omega (arith, length-append (take laid slice) part, length-take-le laid slice (omega arith), e))

-- the part of a line that is lent to it, and the line with that part laid
abbrev Part : ℕ → ℕ → Line → Line
Part laid n line = on_line (mid_of laid (laid + n - laid) line.output) (mid_of laid (laid + n - laid) line.driven)

abbrev pub laid_on : ℕ → ℕ → Line → Line → Line
laid_on laid n line part =
    on_line (put_mid laid (laid + n - laid) line.output part.output) (put_mid laid (laid + n - laid) line.driven part.driven)

module _ {room : ℕ} {line : Line} (long : Long room line) (laid n : ℕ) (fits : laid + n ≤ room) where
  output_room : laid + n ≤ length line.output
  output_room = omega (arith, fits, long.output_long)

  driven_room : laid + n ≤ length line.driven
  driven_room = omega (arith, fits, long.driven_long)

  part_long : Long n (Part laid n line)
  part_long = record {
    output_long = mid_len laid (laid + n) line.output output_room ∙ omega arith;
    driven_long = mid_len laid (laid + n) line.driven driven_room ∙ omega arith;
  }

  module _ (part : Line) (whole : Long n part) where
    laid_long : Long room (laid_on laid n line part)
    laid_long =
        let lent = part_long in
        record {
          output_long = same_len_mid laid (laid + n - laid) line.output part.output (whole.output_long ∙ sym lent.output_long) ∙ long.output_long;
          driven_long = same_len_mid laid (laid + n - laid) line.driven part.driven (whole.driven_long ∙ sym lent.driven_long) ∙ long.driven_long;
        }

    laid_front : front (laid + n) (laid_on laid n line part) ≡ joined (front laid line) part
    laid_front =
        line_same (part_laid laid n line.output part.output output_room whole.output_long)
        (part_laid laid n line.driven part.driven driven_room whole.driven_long)

module _ {wp : Bool} {script : List ℕ} {begun : Device} {room at laid : ℕ} {now : Device} {line : Line}
    (w : Walked wp script begun room now at laid line) where
  first : {r : Record} {next : ℕ} → Stands script at r next → First script next r w.left
  first t = stands_first t w.decoded

  -- the record that stands at the offset is run, and what it shows is laid
  walk_on : {r : Record} {next more : ℕ} {after : Device} {line_after : Line} → Stands script at r next → after ≡ step wp r now
      → more ≡ laid + output_length (r ∷ []) → Long room line_after → front more line_after ≡ joined (front laid line) (shown_by wp r now)
      → Walked wp script begun room after next more line_after
  unfolding run shown_by_all
  walk_on {r} {next} {more} {after} {line_after} t is m long laid_is =
      let f = first t in
      let d : run wp (r ∷ f.others) now ≡ run wp (records_of script) begun = rw f.is at w.device_is in
      let o : joined (front laid line) (shown_by_all wp (r ∷ f.others) now) ≡ shown_by_all wp (records_of script) begun = rw f.is at w.line_is in
      record {
        short = w.short;
        inside = t.inside;
        ready = rw is (run_ready wp (r ∷ []) now w.ready);
        sized = rw is (run_array_length wp (r ∷ []) now ∙ w.sized);
        left = f.others;
        decoded = f.decoded;
        fit = (rw f.is at w.fit).1;
        fills = omega (arith, m, w.fills, ap output_length f.is, output_append (r ∷ []) f.others);
        long = long;
        device_is = rw is d;
        line_is =
            ap (λ (l : Line). joined l (shown_by_all wp f.others after)) laid_is
            ∙ joined_joined (front laid line) (shown_by wp r now) (shown_by_all wp f.others after)
            ∙ rw is o;
      }

  pub walk_wait : {n next : ℕ} {after : State} → Stands script at (wait n) next → after ≡ time_passed now.state n
      → Walked wp script begun room (with_state now after) next laid line
  unfolding step shown_by
  walk_wait {n} {next} {after} t e =
      walk_on t (ap (with_state now) e) (omega (arith, output_wait n [], output_none)) w.long (sym (joined_none (front laid line)))

  -- there is room for what a frame that stands there shows, in both slices
  frame_fits : {start n next : ℕ} → FrameTold script at start n next → laid + n ≤ room
  frame_fits {start} {n} {next} t =
      let f = first t.stands in
      omega (arith, w.fills, t.long, ap output_length f.is, output_frame (take n (drop start script)) f.others)

  pub frame_room : {start n next : ℕ} → FrameTold script at start n next → laid + n ≤ length line.output
  frame_room {start} {n} {next} t = output_room w.long laid n (frame_fits t)

  pub frame_driven_room : {start n next : ℕ} → FrameTold script at start n next → laid + n ≤ length line.driven
  frame_driven_room {start} {n} {next} t = driven_room w.long laid n (frame_fits t)

  -- and the frame is accepted
  pub walk_accepted : {start n next : ℕ} {f : List ℕ} → FrameTold script at start n next → f ≡ take n (drop start script)
      → Accepted wp f now (Part laid n line)
  walk_accepted {start} {n} {next} {f} t e =
      let stands : Stands script at (frame f) next = rw e t.stands in
      let fit : AllFit (frame f ∷ (first stands).others) = rw (first stands).is at w.fit in
      let count : length f ≡ n = ap length e ∙ t.long in
      frame_accepted_ready wp f now (Part laid n line) fit.0 w.ready (rw count (part_long w.long laid n (frame_fits t)))

  pub walk_frame : {start n next : ℕ} {f : List ℕ} {after : Device} {part : Line} → FrameTold script at start n next → f ≡ take n (drop start script)
      → FrameDone wp f now after part → Walked wp script begun room after next (laid + n) (laid_on laid n line part)
  unfolding step shown_by
  walk_frame {start} {n} {next} {f} {after} {part} t e done =
      let count : length f ≡ n = ap length e ∙ t.long in
      let whole : Long n part = rw (done.line_is, ← count) (shown_long wp f now) in
      let stands : Stands script at (frame f) next = rw e t.stands in
      walk_on stands done.device_is (omega (arith, count, output_frame f [], output_none))
      (laid_long w.long laid n (frame_fits t) part whole)
      (laid_front w.long laid n (frame_fits t) part whole ∙ ap (joined (front laid line)) done.line_is)

  -- the end: nothing is left
  pub walk_end : EndTold script at → (now ≡ run wp (records_of script) begun) × (line ≡ shown_by_all wp (records_of script) begun)
  unfolding run shown_by_all
  walk_end t =
      let none : w.left ≡ [] = cc in
      let all : laid ≡ room = omega (arith, w.fills, ap output_length none, output_none) in
      let whole : front laid line ≡ line =
      line_same (take_all laid line.output (omega (arith, all, w.long.output_long)))
      (take_all laid line.driven (omega (arith, all, w.long.driven_long))) in
      (rw none at w.device_is, sym whole ∙ sym (joined_none (front laid line)) ∙ (rw none at w.line_is))
