-- A call's answer (01, "Refusal numbers"): "an accepted call's number is 0", "a refusal returns the given state".
use Rattle.std.specs.Prelude.{ℕ}
use Rattle.common.specs.Refusals.{accepted}
use Rattle.state.specs.declared.State.{State}
use Rattle.state.specs.declared.Answer.{Answer}
use Rattle.state.specs.declared.Planned.{Planned}
use Rattle.state.specs.declared.Told.{Told}

abbrev pub granted : State → Answer
granted s = record { number = 0; state = s }

abbrev pub refused : ℕ → State → Answer
refused number s = record { number = number; state = s }

-- by the refusal's number, 0 where there is none: the state before and the state after
abbrev pub answered : ℕ → State → State → Answer
answered number before after = accepted number (granted after) (refused number before)

-- a plan with nothing to do: the empty script
abbrev pub empty_plan : State → Planned
empty_plan s = record { number = 0; state = s; length = 0; frames = 0; microseconds = 0 }

-- a refused plan: "returns the given state, length and counts 0"
abbrev pub refused_plan : ℕ → State → Planned
refused_plan number s = record { number = number; state = s; length = 0; frames = 0; microseconds = 0 }

-- a question's answer, by the refusal's number: the value, and 0 with a refusal. A question changes no state
abbrev pub told_of : ℕ → State → ℕ → Told
told_of number s value = record { number = number; state = s; value = accepted number value 0 }
