-- How long a save can take (02, A8): "a worst case over all accepted plans", by the chip. An erase's plan (02, A11) is no update's and not among them.
use Rattle.std.specs.Prelude.{◌≡◌, Bool, cond, List, ℕ, suc, length}
use Rattle.common.specs.Refusals.{buffer_too_short}
use Rattle.chip.specs.declared.Chip.{Chip}
use Rattle.state.specs.declared.State.{State}
use Rattle.state.specs.State.{data_of}
use Rattle.script.specs.declared.measure.Measure.{Measure}
use Rattle.state.specs.declared.Planned.{Planned}
use Rattle.plan.specs.Plan.{with_waits}
use Rattle.plan.specs.Update.{PlanUpdated}

-- "On the 008A: at most 3,079 frames, 14,343 µs and 26,672 script bytes.
abbrev pub worst_by_words : Measure
worst_by_words = record { frames = 3079; microseconds = 14343; length = 26672 }

-- On the page chips: at most 38 frames, 25,500 µs and 4,441 bytes"
abbrev pub worst_by_pages : Measure
worst_by_pages = record { frames = 38; microseconds = 25500; length = 4441 }

-- of a chip, by its data: steps 1 and 4 are in it; "plus A4's waits on the 05PA"
abbrev pub worst_of : Chip → Measure
worst_of chip = with_waits chip.status_time (cond chip.word_plans worst_by_words worst_by_pages)

-- the bytes of it, which are room enough for any plan
unfoldable pub room_enough : State → ℕ
room_enough s = (worst_of (data_of s)).length

-- what a plan's answer reports of its script
abbrev pub reported : Planned → Measure
reported r = record { length = r.length; frames = r.frames; microseconds = r.microseconds }

-- "a plan that reaches" so much: in a buffer of exactly its bytes it is accepted and amounts to that, and in one byte less it is refused for its length
pub record Reaches (s : State) (wp : Bool) (array : List ℕ) (start : ℕ) (wanted : List ℕ) (m : Measure) : Type 0 where
  pub accepted : (buffer after : List ℕ) (r : Planned) → length buffer ≡ m.length → PlanUpdated s wp array start wanted buffer after r → r.number ≡ 0
  pub amounts : (buffer after : List ℕ) (r : Planned) → length buffer ≡ m.length → PlanUpdated s wp array start wanted buffer after r → reported r ≡ m
  pub needs_all : (buffer after : List ℕ) (r : Planned) → suc (length buffer) ≡ m.length → PlanUpdated s wp array start wanted buffer after r
      → r.number ≡ buffer_too_short
