-- Every call returns a sound state from a sound one, also where it refuses.
-- Assumes nothing.
use mathlib.Core.Path.{◌≡◌}
use mathlib.Core.Bool.{Bool, true}
use mathlib.Core.List.{List}
use Prim.Native.Nat.{ℕ}
use Rattle.state.specs.Soundness.{is_sound}
use Rattle.state.proofs.Laws.Soundness.{of_sound}
use Rattle.frame.specs.Device.{Device}
use Rattle.frame.specs.Line.{Line}
use Rattle.frame.specs.Call.{frame_device, cut_device}
use Rattle.frame.proofs.Laws.Call.{frame_either, cut_either}
use Rattle.frame.proofs.Laws.Ran.{ran_sound, torn_sound}

module _ (wp : Bool) (f : List ℕ) (d : Device) (line : Line) where
  pub frame_sound : is_sound d.state ≡ true → is_sound (frame_device wp f d line).state ≡ true
  frame_sound h = frame_either wp f d line (λ (e : Device). is_sound e.state ≡ true) h (λ a. of_sound _ (ran_sound wp f d a.sound))

  pub cut_sound : (mask : List ℕ) → is_sound d.state ≡ true → is_sound (cut_device wp f mask d line).state ≡ true
  cut_sound mask h = cut_either wp f d line mask (λ (e : Device). is_sound e.state ≡ true) h (λ a. of_sound _ (torn_sound wp f d mask a.whole.sound))
