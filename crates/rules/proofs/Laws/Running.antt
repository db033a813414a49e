-- A script run: each record in its turn by its own call, and which scripts are accepted.
-- Assumes nothing.
use mathlib.Core.Path.{◌≡◌, refl, sym, ap, ◌∙◌}
use mathlib.Core.Bool.{Bool, false, not}
use mathlib.Core.List.{List, [], ◌∷◌, ◌++◌}
use Prim.Native.Nat.{ℕ, ◌≤◌}
use native.Mathlib.Omega.{arith}
use lib.Dec.{eqb}
use lib.ListN.{length}
use borrow.Author.Tests.{eq-eqb, lt-ltb, le-ltb}
use Rattle.common.specs.Bits.{Bytes}
use Rattle.common.specs.Limits.{longest_script}
use Rattle.state.specs.declared.Answer.{Answer}
use Rattle.state.specs.State.{data_of}
use Rattle.state.specs.Soundness.{is_sound}
use Rattle.state.specs.Time.{pass_time}
use Rattle.state.proofs.Laws.Soundness.{of_sound}
use Rattle.state.proofs.Laws.Passed.{pass_time_granted}
use Rattle.script.specs.Record.{Record, frame, wait, AllFit, encode, script_length, frames_in, microseconds_in, output_length}
use Rattle.script.specs.Decode.{wrong_length, malformed, front, records_in, records_of}
use Rattle.script.proofs.Laws.Records.{encode_none, encoded_length, output_none, output_frame, output_wait}
use Rattle.script.proofs.Laws.Decode.{encode_decode}
use Rattle.script.proofs.Laws.Marks.{wrong_length_here, decode_bad_behind}
use Rattle.script.proofs.Laws.Measure.{Counts, counts_none, counts_frame, counts_wait}
use Rattle.frame.specs.Device.{Device, with_state}
use Rattle.frame.specs.Line.{Line, on_line, no_line}
use Rattle.frame.specs.Call.{FrameRun}
use Rattle.run.specs.declared.Ran.{Ran}
use Rattle.run.specs.Run.{step, shown_by, run, shown_by_all}
use Rattle.run.specs.Script.{script_number, ScriptRun}
use Rattle.run.proofs.Laws.Run.{run_none, run_first, shown_none, shown_frame, shown_wait, step_by_frame, Ready, run_ready, frame_accepted_ready}
use Rattle.run.proofs.Laws.Trace.{step_wait}
use Rattle.run.proofs.Laws.Accepted.{script_exactly, number_accepted, accepted_number, encoded_accepted}
use Rattle.run.proofs.Laws.Script.{script_ran, run_script_determined}
use Rattle.rules.proofs.Laws.Scripts.{wrong_length_lem}
use Rattle.rules.specs.Conditions.{BothLong}
use Rattle.rules.proofs.Laws.Lines.{long_of_both}
use Rattle.rules.specs.Running.{InTurn, runs, waits, ends, Counted, a_frame, a_wait, none, RunRules, ScriptRules}

counts_self : (rs : List Record) → Counts rs (script_length rs) (frames_in rs) (microseconds_in rs)
counts_self rs = record { bytes = refl; frames = refl; microseconds = refl }

pub counted : (rs : List Record) → Counted rs (frames_in rs) (microseconds_in rs)
counted [] = rw (counts_none.frames, counts_none.microseconds) none
counted (frame f ∷ rs) = let c = counts_frame (counts_self rs) f in rw (c.frames, c.microseconds) (a_frame (counted rs))
counted (wait n ∷ rs) = let c = counts_wait (counts_self rs) n in rw (c.frames, c.microseconds) (a_wait (counted rs))

module _ (wp : Bool) where
  -- what each frame and each wait gives, by its own call on a chip that takes it, the records give in their turn
  module _ (P : List Record → Device → Type 0) (none : (d : Device) → P [] d)
      (framed : (f : List ℕ) (rs : List Record) (d : Device) → FrameRun wp f d (on_line f f) 0 (step wp (frame f) d) (shown_by wp (frame f) d)
      → P rs (step wp (frame f) d) → P (frame f ∷ rs) d)
      (waited : (n : ℕ) (rs : List Record) (d : Device) → (pass_time d.state n).number ≡ 0
      → step wp (wait n) d ≡ with_state d (pass_time d.state n).state → P rs (step wp (wait n) d) → P (wait n ∷ rs) d) where
    step_ready : (r : Record) (d : Device) → Ready d → Ready (step wp r d)
    step_ready r d ready = rw (run_first wp r [] d, run_none wp (step wp r d)) at (run_ready wp (r ∷ []) d ready)

    pub by_turns : (rs : List Record) (d : Device) → AllFit rs → Ready d → P rs d
    by_turns [] d fit ready = none d
    by_turns (frame f ∷ rs) d fit ready =
        framed f rs d (step_by_frame wp d f (on_line f f) (frame_accepted_ready wp f d (on_line f f) fit.0 ready record { output_long = refl; driven_long = refl }))
        (by_turns rs (step wp (frame f) d) fit.1 (step_ready (frame f) d ready))
    by_turns (wait n ∷ rs) d fit ready =
        let granted = pass_time_granted d.state n ready.sound in
        waited n rs d (ap (λ (a : Answer). a.number) granted) (step_wait wp d n ∙ ap (λ (a : Answer). with_state d a.state) (sym granted))
        (by_turns rs (step wp (wait n) d) fit.1 (step_ready (wait n) d ready))

  in_turn : (rs : List Record) (d : Device) → AllFit rs → Ready d → InTurn wp rs d (run wp rs d) (shown_by_all wp rs d)
  in_turn =
      by_turns (λ (rs : List Record) (d : Device). InTurn wp rs d (run wp rs d) (shown_by_all wp rs d)) (λ d. rw (run_none wp d, shown_none wp d) ends)
      (λ f rs d one rest. rw (run_first wp (frame f) rs d, shown_frame wp f rs d, one.line_is, one.device_is)
      (runs (on_line f f) (refl, refl) (sym one.number_is) (rw one.device_is at rest)))
      (λ n rs d given same rest. rw (run_first wp (wait n) rs d, shown_wait wp n rs d, same) (waits given (rw same at rest)))

  -- the records of an accepted script, run
  pub run_rules : (script : List ℕ) (d : Device) (line : Line) (ran : Ran) (after : Device) (line_after : Line) → Bytes script
      → ScriptRun wp script d line ran after line_after → ran.number ≡ 0 → RunRules wp script d ran after line_after
  run_rules script d line ran after line_after bytes p e =
      let a = number_accepted wp script d line (sym p.number_is ∙ e) in
      let list_is : records_of script ≡ a.list = ap records_in a.decoded in
      let same = run_script_determined wp script d line ran _ after _ line_after _ p (script_ran wp script d line a) in
      let fit = (encode_decode script a.list bytes a.decoded).1 in
      let turn = in_turn a.list d fit record { sound = a.sound; sized = a.sized } in
      record {
        list = a.list;
        of_the_script = a.decoded;
        in_turn = rw (same.1.0, same.1.1, list_is) turn;
        state = p.state_is ∙ ap (λ (x : Device). x.state) (sym p.device_is);
        reported = rw (ap (λ (r : Ran). r.frames) same.0, ap (λ (r : Ran). r.microseconds) same.0, list_is) (counted a.list);
      }

  -- ---- which scripts are accepted

  module _ (d : Device) (ready : Ready d) where
    records_accepted : (rs : List Record) (line : Line) → AllFit rs → length (encode rs) ≤ longest_script → BothLong line (output_length rs)
        → script_number wp (encode rs) d line ≡ 0
    records_accepted rs line fit short same =
        accepted_number wp (encode rs) d line
        (encoded_accepted wp rs d line ready.sound ready.sized fit (rw (encoded_length rs) at short) (long_of_both same))

    sound_row : not (is_sound d.state) ≡ false
    sound_row = ap not (of_sound d.state ready.sound)

    sized_row : not (eqb (length d.array) (data_of d.state).size) ≡ false
    sized_row = rw (eq-eqb (length d.array) (data_of d.state).size ready.sized) refl

    wrong_length_13 : (rs : List Record) (bytes : List ℕ) (line : Line) → AllFit rs → length (encode rs ++ bytes) ≤ longest_script → front bytes ≡ malformed wrong_length
        → script_number wp (encode rs ++ bytes) d line ≡ 13
    wrong_length_13 rs bytes line fit short e =
        let bad = decode_bad_behind rs bytes fit e in
        (script_exactly wp (encode rs ++ bytes) d line 13 (omega arith)).only_when
        (sound_row, (sized_row, (le-ltb longest_script (length (encode rs ++ bytes)) short, (rw bad refl, rw bad refl))))

    pub script_rules : ScriptRules wp d
    script_rules = record {
      empty_is_a_script = rw encode_none at (records_accepted [] no_line tt (rw encode_none (omega arith)) (sym output_none, sym output_none));
      records_are_a_script = records_accepted;
      too_long_is_none = λ script line long.
          (script_exactly wp script d line 11 (omega arith)).only_when (sound_row, (sized_row, lt-ltb longest_script (length script) long));
      wrong_length_is_none = λ rs high low rest line fit short wrong.
          wrong_length_13 rs (0x5a ∷ 0x46 ∷ high ∷ low ∷ rest) line fit short (wrong_length_here high low rest (wrong_length_lem high low wrong));
      no_output = output_none;
      frame_output = output_frame;
      wait_output = output_wait;
    }
