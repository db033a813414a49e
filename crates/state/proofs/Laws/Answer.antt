-- What a call that takes a state and nothing else answers: by soundness alone.
-- Assumes nothing.
use mathlib.Core.Path.{◌≡◌, refl}
use mathlib.Core.Bool.{true, false}
use Rattle.common.specs.Refusals.{state_not_sound}
use Rattle.state.specs.declared.State.{State}
use Rattle.state.specs.Answer.{granted, refused, answered}
use Rattle.state.specs.Soundness.{is_sound}
use Rattle.state.specs.Power.{state_refusal}

pub answer_sound : (s t : State) → is_sound s ≡ true → granted t ≡ answered (state_refusal s) s t
unfolding state_refusal
answer_sound s t e = rw e refl

pub answer_unsound : (s t : State) → is_sound s ≡ false → refused state_not_sound s ≡ answered (state_refusal s) s t
unfolding state_refusal
answer_unsound s t e = rw e refl
