-- How long a save can take (02, A8), in the request's numbers. An erase's plan (02, A11) is no update's: these are of updates.
use Rattle.std.specs.Prelude.{◌≡◌, Bool, false, List, ℕ, ◌≤◌, ◌<◌, length, get_or, take, replicate}
use Rattle.common.specs.Bits.{Bytes}
use Rattle.state.specs.declared.State.{State}
use Rattle.state.specs.Power.{at_rest}
use Rattle.frame.specs.Device.{Device}
use Rattle.state.specs.declared.Planned.{Planned}
use Rattle.plan.specs.Update.{PlanUpdated}
use Rattle.rules.specs.Chips.{by_chip}
use Rattle.rules.specs.Driver.{CutAt}

-- "script bytes"
abbrev pub worst_bytes : ℕ → ℕ
worst_bytes number = by_chip number 26672 4453

-- what the answer to a plan reports, by the chip's number
pub record NotAbove (number : ℕ) (r : Planned) : Type 0 where
  pub frames : r.frames ≤ by_chip number 3079 38
  pub microseconds : r.microseconds ≤ by_chip number 14343 35500
  pub bytes : r.length ≤ worst_bytes number

pub record WorstRules : Type 0 where
  -- "a worst case over all accepted plans. On the 008A: at most 3,079 frames, 14,343 µs and 26,672 script bytes. On the page chips: at most 38 frames,
  -- 25,500 µs and 4,441 bytes, plus A4's waits on the 05PA": 10,000 µs and 12 bytes
  pub not_above : (s : State) (wp : Bool) (array : List ℕ) (start : ℕ) (wanted buffer after : List ℕ) (r : Planned)
      → PlanUpdated s wp array start wanted buffer after r → r.number ≡ 0 → NotAbove s.chip r
  -- so a buffer of these bytes is never too short
  pub enough : (s : State) (wp : Bool) (array : List ℕ) (start : ℕ) (wanted buffer after : List ℕ) (r : Planned)
      → PlanUpdated s wp array start wanted buffer after r → worst_bytes s.chip ≤ length buffer → r.number ≡ 10 → ⊥
  -- and planning again after a cut is accepted in one
  pub again : (wp : Bool) (chip : Device) (start : ℕ) (wanted buffer after : List ℕ) (planned : Planned) → Bytes chip.array
      → PlanUpdated chip.state wp chip.array start wanted buffer after planned → planned.number ≡ 0
      → (lost : Device) (room written : List ℕ) (answer : Planned) → CutAt wp (take planned.length after) chip lost
      → PlanUpdated lost.state wp lost.array start wanted room written answer → worst_bytes lost.state.chip ≤ length room → answer.number ≡ 0
  -- "Show for one of the chips a plan that reaches all its frame and byte limits": on an erased 05PA with BP 001, and the time too
  pub reached : (wp : Bool) (array buffer after : List ℕ) (r : Planned) → length array ≡ 65536 → ((k : ℕ) → k < 65536 → get_or array k 0 ≡ 0xff)
      → length buffer ≡ 4453 → PlanUpdated (at_rest 5 1 false false) wp array 1 (replicate 4096 0x00) buffer after r
      → (r.number ≡ 0) × ((r.frames ≡ 38) × ((r.microseconds ≡ 35500) × (r.length ≡ 4453)))
