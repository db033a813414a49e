-- What an accepted frame leaves, whole or interrupted: its registers are sound, of the same chip; its array is as long as before; its line as long
-- as the frame.
-- Assumes nothing.
use mathlib.Core.Path.{◌≡◌, refl}
use mathlib.Core.Bool.{Bool}
use mathlib.Core.List.{List}
use Prim.Native.Nat.{ℕ}
use lib.ListN.{length}
use Rattle.common.specs.Lists.{mapi}
use Rattle.common.proofs.Laws.Lists.{length_mapi}
use Rattle.state.specs.Power.{powered_up}
use Rattle.state.specs.Soundness.{Sound}
use Rattle.state.proofs.Laws.Power.{powered_up_sound}
use Rattle.command.specs.Command.{command_of}
use Rattle.registers.proofs.Laws.After.{state_after_chip}
use Rattle.registers.proofs.Laws.Kept.{command_sound}
use Rattle.output.specs.Output.{memory, shown_at}
use Rattle.effect.specs.Effect.{changed}
use Rattle.effect.specs.Cut.{cut}
use Rattle.frame.specs.Device.{Device, device}
use Rattle.frame.specs.Line.{showing, Long}
use Rattle.frame.specs.Ran.{effect_at, state_at, ran_device, shown_line, cut_at, torn_device}
use Rattle.frame.proofs.Laws.Line.{showing_long}
use Rattle.frame.proofs.Laws.Cut.{cut_state_sound}

module _ (wp : Bool) (f : List ℕ) (d : Device) where
  pub ran_is : ran_device wp f d ≡ device (state_at d.state wp f) (mapi (changed (effect_at d.state wp f) f) d.array)
  unfolding ran_device
  ran_is = refl

  pub ran_sound : Sound d.state → Sound (ran_device wp f d).state
  unfolding ran_device
  ran_sound h = command_sound d.state wp f h

  pub ran_chip : (ran_device wp f d).state.chip ≡ d.state.chip
  unfolding ran_device
  ran_chip = state_after_chip d.state (command_of d.state wp f)

  pub ran_length : length (ran_device wp f d).array ≡ length d.array
  unfolding ran_device
  ran_length = length_mapi (changed (effect_at d.state wp f) f) d.array

  pub shown_is : shown_line wp f d ≡ showing (length f) (shown_at d.state (command_of d.state wp f) (memory d.array))
  unfolding shown_line
  shown_is = refl

  pub shown_long : Long (length f) (shown_line wp f d)
  unfolding shown_line
  shown_long = showing_long (length f) (shown_at d.state (command_of d.state wp f) (memory d.array))

  module _ (mask : List ℕ) where
    pub torn_is : torn_device wp f mask d ≡ device (powered_up (cut_at d.state wp f mask)) (mapi (cut (effect_at d.state wp f) f mask) d.array)
    unfolding torn_device
    torn_is = refl

    pub torn_sound : Sound d.state → Sound (torn_device wp f mask d).state
    unfolding torn_device
    torn_sound h =
        powered_up_sound (cut_at d.state wp f mask) (cut_state_sound d.state (command_of d.state wp f) mask (command_sound d.state wp f h))
