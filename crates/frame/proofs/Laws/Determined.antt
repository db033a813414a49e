-- Each call's statement determines its number, its chip and its line, both slices of it: two results that satisfy it are equal.
-- Assumes nothing.
use mathlib.Core.Path.{◌≡◌, sym, ◌∙◌}
use mathlib.Core.Bool.{Bool}
use mathlib.Core.List.{List}
use Prim.Native.Nat.{ℕ}
use Rattle.frame.specs.Device.{Device}
use Rattle.frame.specs.Line.{Line}
use Rattle.frame.specs.Call.{FrameRun, CutRun}

module _ (wp : Bool) (f : List ℕ) (d : Device) (line : Line) (number number' : ℕ) (after after' : Device) (line_after line_after' : Line) where
  pub run_frame_determined : FrameRun wp f d line number after line_after → FrameRun wp f d line number' after' line_after'
      → (number ≡ number') × ((after ≡ after') × (line_after ≡ line_after'))
  run_frame_determined p q = (p.number_is ∙ sym q.number_is, (p.device_is ∙ sym q.device_is, p.line_is ∙ sym q.line_is))

  pub run_cut_frame_determined : (mask : List ℕ) → CutRun wp f mask d line number after line_after → CutRun wp f mask d line number' after' line_after'
      → (number ≡ number') × ((after ≡ after') × (line_after ≡ line_after'))
  run_cut_frame_determined mask p q = (p.number_is ∙ sym q.number_is, (p.device_is ∙ sym q.device_is, p.line_is ∙ sym q.line_is))
