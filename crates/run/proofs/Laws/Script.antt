-- The laws of the call: what a refused and what an accepted script leaves; no frame is refused inside; the state stays sound; two results are equal.
-- Assumes nothing.
use mathlib.Core.Path.{◌≡◌, refl, sym, ap, ◌∙◌}
use mathlib.Core.Bool.{Bool, true}
use mathlib.Core.List.{List, ◌∷◌, ◌++◌}
use Prim.Native.Nat.{ℕ, ◌<◌}
use native.Mathlib.Omega.{arith}
use lib.Dec.{eqb}
use lib.ListN.{length}
use borrow.Author.Tests.{eq-eqb, ne_eqb}
use Rattle.common.specs.Bits.{Bytes}
use Rattle.common.proofs.Laws.Choice.{cond_elim, yes, no}
use Rattle.state.specs.declared.State.{State}
use Rattle.state.specs.Soundness.{is_sound}
use Rattle.state.proofs.Laws.Soundness.{sound_of, of_sound}
use Rattle.script.specs.Record.{Record, frame, frames_in, microseconds_in}
use Rattle.script.specs.Decode.{records_in, records_of}
use Rattle.script.proofs.Laws.Decode.{encode_decode}
use Rattle.frame.specs.Device.{Device}
use Rattle.frame.specs.Line.{Line, Long}
use Rattle.frame.specs.Call.{Accepted}
use Rattle.run.specs.declared.Ran.{Ran}
use Rattle.run.specs.Run.{run, shown_by_all}
use Rattle.run.specs.Script.{script_number, ScriptAccepted, ScriptDone, script_device, script_line_after, script_count, carries_offset, script_offset, ScriptRun}
use Rattle.run.proofs.Laws.Accepted.{accepted_number, offset_only}
use Rattle.run.proofs.Laws.Run.{run_sound, frame_accepted_among}

-- the answer to a script that is run: the chip's state and the counts
abbrev pub ran_of : State → ℕ → ℕ → Ran
ran_of s frames microseconds = record { number = 0; state = s; frames = frames; microseconds = microseconds; offset = 0 }

-- and to a refused one: the number with its offset, the given state, "counts 0"
abbrev pub refused_ran : ℕ → State → ℕ → Ran
refused_ran number s offset = record { number = number; state = s; frames = 0; microseconds = 0; offset = offset }

module _ (wp : Bool) (script : List ℕ) (d : Device) (line : Line) where
  abbrev number : ℕ
  number = script_number wp script d line

  -- "A refusal changes no buffer and returns the given state, length and counts 0"
  pub script_refused : (number ≡ 0 → ⊥) → ScriptRun wp script d line (refused_ran number d.state (script_offset wp script d line)) d line
  unfolding script_device script_line_after script_count
  script_refused h =
      let t = ne_eqb number 0 h in
      let same : d ≡ script_device wp script d line = no _ t refl in
      record {
        number_is = refl;
        state_is = ap (λ (e : Device). e.state) same;
        frames_are = no _ t refl;
        microseconds_are = no _ t refl;
        offset_is = refl;
        device_is = same;
        line_is = no _ t refl;
      }

  pub script_refusal_keeps : {ran : Ran} {after : Device} {line_after : Line} → ScriptRun wp script d line ran after line_after → 0 < ran.number
      → (after ≡ d) × (line_after ≡ line)
  script_refusal_keeps p some =
      let r = script_refused (λ z. omega (arith, p.number_is, z, some)) in (p.device_is ∙ sym r.device_is, p.line_is ∙ sym r.line_is)

  pub script_accepted : {after : Device} {line_after : Line} → ScriptAccepted wp script d line → ScriptDone wp script d after line_after
      → ScriptRun wp script d line (ran_of after.state (frames_in (records_of script)) (microseconds_in (records_of script))) after line_after
  unfolding script_device script_line_after script_count
  script_accepted {after} a done =
      let e = accepted_number wp script d line a in
      let t = eq-eqb number 0 e in
      let ran : after ≡ script_device wp script d line = yes _ t done.device_is in
      record {
        number_is = sym e;
        state_is = ap (λ (x : Device). x.state) ran;
        frames_are = yes _ t refl;
        microseconds_are = yes _ t refl;
        offset_is = sym (offset_only wp script d line (ap carries_offset e));
        device_is = ran;
        line_is = yes _ t done.line_is;
      }

  pub script_ran : ScriptAccepted wp script d line
      → let e = run wp (records_of script) d in
      ScriptRun wp script d line (ran_of e.state (frames_in (records_of script)) (microseconds_in (records_of script))) e (shown_by_all wp (records_of script) d)
  script_ran a = script_accepted a record { device_is = refl; line_is = refl }

  -- inside an accepted script no frame is refused
  pub no_frame_refused : Bytes script → ScriptAccepted wp script d line → (rs ss : List Record) (f : List ℕ) → records_of script ≡ rs ++ (frame f ∷ ss)
      → (part : Line) → Long (length f) part → Accepted wp f (run wp rs d) part
  no_frame_refused bytes a rs ss f e =
      let list : a.list ≡ rs ++ (frame f ∷ ss) = sym (ap records_in a.decoded) ∙ e in
      frame_accepted_among wp rs ss f d (rw list at (encode_decode script a.list bytes a.decoded).1) record { sound = a.sound; sized = a.sized }

  -- "Every call returns a sound state from a sound one."
  pub script_sound : is_sound d.state ≡ true → is_sound (script_device wp script d line).state ≡ true
  unfolding script_device
  script_sound h =
      cond_elim (λ (e : Device). is_sound e.state ≡ true) (eqb number 0) (λ _. of_sound _ (run_sound wp (records_of script) d (sound_of d.state h))) (λ _. h)

  module _ (ran ran' : Ran) (after after' : Device) (line_after line_after' : Line) where
    pub run_script_determined : ScriptRun wp script d line ran after line_after → ScriptRun wp script d line ran' after' line_after'
        → (ran ≡ ran') × ((after ≡ after') × (line_after ≡ line_after'))
    run_script_determined p q = (
      λ i. record {
        number = (p.number_is ∙ sym q.number_is) i;
        state = (p.state_is ∙ sym q.state_is) i;
        frames = (p.frames_are ∙ sym q.frames_are) i;
        microseconds = (p.microseconds_are ∙ sym q.microseconds_are) i;
        offset = (p.offset_is ∙ sym q.offset_is) i;
      },
      (p.device_is ∙ sym q.device_is, p.line_is ∙ sym q.line_is),
    )
