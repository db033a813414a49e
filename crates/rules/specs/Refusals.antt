-- Refusal numbers, in the order checked (01): for each call its numbers with their conditions in words, as the table gives them.
-- Making a chip: `NewChips` (specs/Power.antt). The reader and the survey of a script: specs/BadRecords.antt.
use Rattle.std.specs.Prelude.{◌≡◌, Bool, List, [], ◌∷◌, ℕ, ◌<◌}
use Rattle.common.specs.Bits.{Bytes}
use Rattle.state.specs.declared.State.{State}
use Rattle.state.specs.Power.{power_up}
use Rattle.state.specs.Time.{pass_time}
use Rattle.frame.specs.Device.{Device}
use Rattle.frame.specs.Line.{Line}
use Rattle.frame.specs.Call.{FrameRun, CutRun}
use Rattle.run.specs.declared.Ran.{Ran}
use Rattle.run.specs.Script.{ScriptRun}
use Rattle.state.specs.declared.Planned.{Planned}
use Rattle.plan.specs.Update.{PlanUpdated}
use Rattle.rules.specs.Conditions.{
  NotSound,
  WrongArray,
  WrongFrame,
  WrongOutput,
  WrongSum,
  WrongMask,
  WrongRegion,
  NotAtRest,
  WantedRises,
  StatusLocked,
  BufferTooShort,
  ScriptTooLong,
}
use Rattle.rules.specs.Numbered.{◌when◌, Numbered}
use Rattle.rules.specs.BadRecords.{Bad, Located}

-- ---- the calls: "Order is by number, except that a script is checked 1, 2, 11, 12, 4."

-- power-up
pub record PowerUpRefusals (s : State) : Type 0 where
  pub numbers : Numbered (power_up s).number (1 when NotSound s ∷ [])
  -- "A refusal .. returns the given state"
  pub refusal_keeps : 0 < (power_up s).number → (power_up s).state ≡ s

-- time
pub record TimeRefusals (s : State) (n : ℕ) : Type 0 where
  pub numbers : Numbered (pass_time s n).number (1 when NotSound s ∷ [])
  -- "A refusal .. returns the given state"
  pub refusal_keeps : 0 < (pass_time s n).number → (pass_time s n).state ≡ s

-- a frame
pub record FrameRefusals (wp : Bool) (f : List ℕ) (d : Device) (line : Line) (number : ℕ) (after : Device) (line_after : Line)
    (run : FrameRun wp f d line number after line_after) : Type 0 where
  pub numbers : Numbered number
      (1 when NotSound d.state
      ∷ 2 when WrongArray d.state d.array
      ∷ 3 when WrongFrame f
      ∷ 4 when WrongOutput f line
      ∷ [])
  -- "A refusal changes no buffer and returns the given state"
  pub refusal_keeps : 0 < number → (after ≡ d) × (line_after ≡ line)

-- an interrupted frame
pub record CutRefusals (wp : Bool) (f mask : List ℕ) (d : Device) (line : Line) (number : ℕ) (after : Device) (line_after : Line)
    (run : CutRun wp f mask d line number after line_after) : Type 0 where
  pub numbers : Numbered number
      (1 when NotSound d.state
      ∷ 2 when WrongArray d.state d.array
      ∷ 3 when WrongFrame f
      ∷ 4 when WrongOutput f line
      ∷ 5 when WrongMask wp f mask d
      ∷ [])
  -- "A refusal changes no buffer and returns the given state"
  pub refusal_keeps : 0 < number → (after ≡ d) × (line_after ≡ line)

-- a plan
pub record PlanRefusals (s : State) (wp : Bool) (array : List ℕ) (start : ℕ) (wanted buffer after : List ℕ) (planned : Planned) (bytes : Bytes wanted)
    (run : PlanUpdated s wp array start wanted buffer after planned) : Type 0 where
  pub numbers : Numbered planned.number
      (1 when NotSound s
      ∷ 2 when WrongArray s array
      ∷ 6 when WrongRegion s start wanted
      ∷ 7 when NotAtRest s
      ∷ 8 when WantedRises array start wanted
      ∷ 9 when StatusLocked s wp array start wanted
      ∷ 10 when BufferTooShort s array start wanted buffer
      ∷ [])
  -- "A refusal changes no buffer and returns the given state, length and counts 0"
  pub refusal_keeps : 0 < planned.number
      → (planned ≡ record { number = planned.number; state = s; length = 0; frames = 0; microseconds = 0 }) × (after ≡ buffer)

-- a script: "checked 1, 2, 11, 12, 4" (01), and 12 split in three (02, A1)
pub record ScriptRefusals (wp : Bool) (script : List ℕ) (d : Device) (line : Line) (ran : Ran) (after : Device) (line_after : Line) (bytes : Bytes script)
    (run : ScriptRun wp script d line ran after line_after) : Type 0 where
  pub numbers : Numbered ran.number
      (1 when NotSound d.state
      ∷ 2 when WrongArray d.state d.array
      ∷ 11 when ScriptTooLong script
      ∷ 12 when Bad script 12
      ∷ 13 when Bad script 13
      ∷ 14 when Bad script 14
      ∷ 4 when WrongSum script line
      ∷ [])
  -- "A refusal changes no buffer and returns the given state, .. counts 0"; "nothing is run"
  pub refusal_keeps : 0 < ran.number
      → (ran ≡ record { number = ran.number; state = d.state; frames = 0; microseconds = 0; offset = ran.offset }) × ((after ≡ d) × (line_after ≡ line))
  -- "with the offset of the first bad record's mark"
  pub located : Located script ran.number ran.offset
