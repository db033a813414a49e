-- The laws of `run` and `shown_by_all`: records one after another (`-append`), how long their line is, and what every run keeps.
-- Assumes nothing.
use mathlib.Core.Path.{◌≡◌, refl, sym, ap, ◌∙◌}
use mathlib.Core.Bool.{Bool}
use mathlib.Core.List.{List, [], ◌∷◌, ◌++◌}
use Prim.Native.Nat.{ℕ}
use lib.ListN.{length}
use Rattle.state.specs.State.{data_of}
use Rattle.state.specs.Answer.{granted}
use Rattle.state.specs.Soundness.{Sound}
use Rattle.state.specs.Time.{time_passed, pass_time}
use Rattle.state.proofs.Laws.Passed.{time_passed_chip, pass_time_granted}
use Rattle.state.proofs.Laws.Time.{time_passed_sound}
use Rattle.script.specs.Record.{Record, frame, wait, Fits, AllFit, output_length}
use Rattle.script.proofs.Laws.Records.{all_fit_right, output_none, output_frame, output_wait}
use Rattle.frame.specs.Device.{Device, with_state}
use Rattle.frame.specs.Line.{Line, Long, no_line, joined}
use Rattle.frame.specs.Ran.{ran_device}
use Rattle.frame.specs.Call.{Accepted, FrameRun}
use Rattle.frame.proofs.Laws.Call.{frame_accepted}
use Rattle.frame.proofs.Laws.Line.{joined_joined, joined_long}
use Rattle.frame.proofs.Laws.Ran.{ran_sound, ran_chip, ran_length, shown_long}
use Rattle.run.specs.Run.{step, shown_by, run, shown_by_all}

-- ---- one after another

module _ (wp : Bool) where
  pub run_none : (d : Device) → run wp [] d ≡ d
  unfolding run
  run_none d = refl

  pub run_first : (r : Record) (rs : List Record) (d : Device) → run wp (r ∷ rs) d ≡ run wp rs (step wp r d)
  unfolding run
  run_first r rs d = refl

  pub shown_none : (d : Device) → shown_by_all wp [] d ≡ no_line
  unfolding shown_by_all
  shown_none d = refl

  pub shown_frame : (f : List ℕ) (rs : List Record) (d : Device)
      → shown_by_all wp (frame f ∷ rs) d ≡ joined (shown_by wp (frame f) d) (shown_by_all wp rs (step wp (frame f) d))
  unfolding shown_by_all
  shown_frame f rs d = refl

  -- a wait shows nothing
  pub shown_wait : (n : ℕ) (rs : List Record) (d : Device) → shown_by_all wp (wait n ∷ rs) d ≡ shown_by_all wp rs (step wp (wait n) d)
  unfolding shown_by_all shown_by
  shown_wait n rs d = refl

  pub run_append : (rs ss : List Record) (d : Device) → run wp (rs ++ ss) d ≡ run wp ss (run wp rs d)
  unfolding run
  run_append [] ss d = refl
  run_append (r ∷ rs) ss d = run_append rs ss (step wp r d)

  pub shown_append : (rs ss : List Record) (d : Device)
      → shown_by_all wp (rs ++ ss) d ≡ joined (shown_by_all wp rs d) (shown_by_all wp ss (run wp rs d))
  unfolding run shown_by_all
  shown_append [] ss d = refl
  shown_append (r ∷ rs) ss d =
      ap (joined (shown_by wp r d)) (shown_append rs ss (step wp r d))
      ∙ sym (joined_joined (shown_by wp r d) (shown_by_all wp rs (step wp r d)) (shown_by_all wp ss (run wp rs (step wp r d))))

  -- a frame's line is as long as the frame
  pub shown_by_long : (f : List ℕ) (d : Device) → Long (length f) (shown_by wp (frame f) d)
  unfolding shown_by
  shown_by_long f d = shown_long wp f d

  pub shown_by_all_long : (rs : List Record) (d : Device) → Long (output_length rs) (shown_by_all wp rs d)
  shown_by_all_long [] d = rw (shown_none d, output_none) record { output_long = refl; driven_long = refl }
  shown_by_all_long (frame f ∷ rs) d =
      rw (shown_frame f rs d, output_frame f rs)
      (joined_long (shown_by wp (frame f) d) (shown_by_all wp rs (step wp (frame f) d)) (shown_by_long f d) (shown_by_all_long rs (step wp (frame f) d)))
  shown_by_all_long (wait n ∷ rs) d = rw (shown_wait n rs d, output_wait n rs) (shown_by_all_long rs (step wp (wait n) d))

-- ---- each record by its own call

module _ (wp : Bool) (d : Device) where
  -- a frame that its call accepts
  pub step_by_frame : (f : List ℕ) (line : Line) → Accepted wp f d line → FrameRun wp f d line 0 (step wp (frame f) d) (shown_by wp (frame f) d)
  unfolding step shown_by
  step_by_frame f line a = frame_accepted wp f d line a record { device_is = refl; line_is = refl }

  pub step_by_wait : (n : ℕ) → Sound d.state → pass_time d.state n ≡ granted (step wp (wait n) d).state
  unfolding step
  step_by_wait n h = pass_time_granted d.state n h

-- ---- what each frame and each wait keeps, every run keeps

module _ (P : Device → Type 0) (wp : Bool) (framed : (f : List ℕ) (d : Device) → P d → P (ran_device wp f d))
    (waited : (n : ℕ) (d : Device) → P d → P (with_state d (time_passed d.state n))) where
  pub run_keeps : (rs : List Record) (d : Device) → P d → P (run wp rs d)
  unfolding run step
  run_keeps [] d p = p
  run_keeps (frame f ∷ rs) d p = run_keeps rs (step wp (frame f) d) (framed f d p)
  run_keeps (wait n ∷ rs) d p = run_keeps rs (step wp (wait n) d) (waited n d p)

module _ (wp : Bool) (rs : List Record) (d : Device) where
  -- "Every call returns a sound state from a sound one."
  pub run_sound : Sound d.state → Sound (run wp rs d).state
  run_sound = run_keeps (λ (e : Device). Sound e.state) wp (λ f e. ran_sound wp f e) (λ n e. time_passed_sound e.state n) rs d

  pub run_chip : (run wp rs d).state.chip ≡ d.state.chip
  run_chip =
      run_keeps (λ (e : Device). e.state.chip ≡ d.state.chip) wp (λ f e h. ran_chip wp f e ∙ h) (λ n e h. time_passed_chip e.state n ∙ h) rs d refl

  pub run_array_length : length (run wp rs d).array ≡ length d.array
  run_array_length =
      run_keeps (λ (e : Device). length e.array ≡ length d.array) wp (λ f e h. ran_length wp f e ∙ h) (λ n e h. h) rs d refl

-- ---- a chip that accepts every frame that fits

-- "A chip is a state plus a lent array of exactly its size", and the state is sound
pub record Ready (d : Device) : Type 0 where
  pub sound : Sound d.state
  pub sized : length d.array ≡ (data_of d.state).size

pub run_ready : (wp : Bool) (rs : List Record) (d : Device) → Ready d → Ready (run wp rs d)
run_ready wp rs d h = record {
  sound = run_sound wp rs d h.sound;
  sized = rw (run_chip wp rs d) (run_array_length wp rs d ∙ h.sized);
}

-- with a line as long as the frame
pub frame_accepted_ready : (wp : Bool) (f : List ℕ) (d : Device) (line : Line) → Fits (frame f) → Ready d → Long (length f) line → Accepted wp f d line
frame_accepted_ready wp f d line k h same = record { sound = h.sound; sized = h.sized; some = k.0; short = k.1; same = same }

-- wherever it stands among records that fit
pub frame_accepted_among : (wp : Bool) (rs ss : List Record) (f : List ℕ) (d : Device) → AllFit (rs ++ (frame f ∷ ss)) → Ready d
    → (line : Line) → Long (length f) line → Accepted wp f (run wp rs d) line
frame_accepted_among wp rs ss f d k h line same =
    frame_accepted_ready wp f (run wp rs d) line (all_fit_right rs (frame f ∷ ss) k).0 (run_ready wp rs d h) same
