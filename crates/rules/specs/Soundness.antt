-- Soundness (01, "State"; 02, A4): "A state is sound when", and who keeps it.
use Rattle.std.specs.Prelude.{◌≡◌, Bool, true, false, List, ◌⊎◌, ℕ, ◌%◌, ◌≤◌, ◌<◌}
use Rattle.common.specs.Refusals.{Exactly}
use Rattle.state.specs.declared.State.{State}
use Rattle.state.specs.declared.Answer.{Answer}
use Rattle.state.specs.Protection.{first_protected}
use Rattle.state.specs.Soundness.{is_sound}
use Rattle.state.specs.Power.{new_chip, power_up}
use Rattle.state.specs.Time.{pass_time}
use Rattle.frame.specs.Device.{Device}
use Rattle.frame.specs.Line.{Line}
use Rattle.frame.specs.Call.{FrameRun, CutRun}
use Rattle.run.specs.declared.Ran.{Ran}
use Rattle.run.specs.Script.{ScriptRun}
use Rattle.state.specs.declared.Planned.{Planned}
use Rattle.state.specs.declared.Told.{Told}
use Rattle.book.specs.Answers.{is_read_told, count_told, Marks}
use Rattle.flags.specs.declared.Returned.{Returned}
use Rattle.flags.specs.Answers.{name_told, NameMarks, BookMoves, BookReturns}
use Rattle.plan.specs.Update.{PlanUpdated}
use Rattle.rules.specs.Chips.{by_chip}
use Rattle.rules.specs.Status.{bits_in}

pub record SoundState (s : State) : Type 0 where
  -- "chip number 8 or 5"
  pub number_8_or_5 : (s.chip ≡ 8) ⊎ (s.chip ≡ 5)
  -- BP0 to BP2 are three bits (ours)
  pub bp_three_bits : s.bp < 8
  -- "left at most 8,000,000 (008A) or 1,000,000 (05PA)"
  pub left_at_most : s.left ≤ by_chip s.chip 8000000 1000000
  -- "BUSY is left above 0, and then WEL is 1
  pub busy_wel : 0 < s.left → s.wel ≡ true
  -- and neither armed
  pub busy_not_armed : 0 < s.left → s.armed ≡ false
  -- nor power-down holds"
  pub busy_not_power_down : 0 < s.left → s.power_down ≡ false
  -- "armed and power-down never hold together"
  pub never_together : s.armed ≡ true → s.power_down ≡ true → ⊥
  -- "on the 05PA armed needs WEL 1"
  pub armed_needs_wel : s.chip ≡ 5 → s.armed ≡ true → s.wel ≡ true
  -- "no TB
  pub no_tb : s.chip ≡ 8 → s.tb ≡ false
  -- or power-down on the 008A"
  pub no_power_down : s.chip ≡ 8 → s.power_down ≡ false
  -- "no AAI on the 05PA"
  pub no_aai : s.chip ≡ 5 → s.aai ≡ false
  -- "Without AAI the next address is 0."
  pub without_aai : s.aai ≡ false → s.next ≡ 0
  -- "With AAI: WEL 1,
  pub aai_wel : s.aai ≡ true → s.wel ≡ true
  -- not armed,
  pub aai_not_armed : s.aai ≡ true → s.armed ≡ false
  -- left at most 7,
  pub aai_left_at_most_7 : s.aai ≡ true → s.left ≤ 7
  -- next even,
  pub aai_next_even : s.aai ≡ true → s.next % 2 ≡ 0
  -- at least 2,
  pub aai_next_at_least_2 : s.aai ≡ true → 2 ≤ s.next
  -- at most the first protected address
  pub aai_next_at_most : s.aai ≡ true → s.next ≤ first_protected s
  -- and below it when left is 0."
  pub aai_next_below : s.aai ≡ true → s.left ≡ 0 → s.next < first_protected s
  -- "Pending bits join the state and its soundness, and it is then busy." (02, A4)
  pub pending_busy : s.pending ≡ true → 0 < s.left
  -- "The 008A keeps its rule."
  pub pending_05pa : s.pending ≡ true → s.chip ≡ 5
  -- without a status write that goes on there are no such bits (ours)
  pub without_pending : s.pending ≡ false → s.pending_bits ≡ 0
  -- and never others than it can set (ours)
  pub pending_writable : s.pending_bits ≡ bits_in s.pending_bits

pub record Soundness (s : State) : Type 0 where
  -- "A state is sound when": the calls' test says no more and no less
  pub sound_when : Exactly (is_sound s ≡ true) (SoundState s)

-- "Every call returns a sound state from a sound one."
abbrev pub IsSound : State → Type 0
IsSound s = is_sound s ≡ true

-- of what each call answers, accepted or refused
pub record EveryCallSound : Type 0 where
  -- making a chip "gets no state"
  pub new_chip_lem : (number : ℕ) (answer : Answer) → answer ≡ new_chip number → IsSound answer.state
  pub power_up_lem : (s : State) (answer : Answer) → answer ≡ power_up s → IsSound s → IsSound answer.state
  pub pass_time_lem : (s : State) (n : ℕ) (answer : Answer) → answer ≡ pass_time s n → IsSound s → IsSound answer.state
  pub run_frame : (wp : Bool) (f : List ℕ) (d : Device) (line : Line) (number : ℕ) (after : Device) (shown : Line)
      → FrameRun wp f d line number after shown → IsSound d.state → IsSound after.state
  pub run_cut_frame : (wp : Bool) (f mask : List ℕ) (d : Device) (line : Line) (number : ℕ) (after : Device) (shown : Line)
      → CutRun wp f mask d line number after shown → IsSound d.state → IsSound after.state
  pub run_script : (wp : Bool) (script : List ℕ) (d : Device) (line : Line) (ran : Ran) (after : Device) (shown : Line)
      → ScriptRun wp script d line ran after shown → IsSound d.state → IsSound ran.state × IsSound after.state
  pub plan_update : (s : State) (wp : Bool) (array : List ℕ) (start : ℕ) (wanted buffer after : List ℕ) (planned : Planned)
      → PlanUpdated s wp array start wanted buffer after planned → IsSound s → IsSound planned.state
  pub book_is_read : (s : State) (array : List ℕ) (sector scene : ℕ) (told : Told) → told ≡ is_read_told s array sector scene → IsSound s → IsSound told.state
  pub book_count : (s : State) (array : List ℕ) (sector : ℕ) (told : Told) → told ≡ count_told s array sector → IsSound s → IsSound told.state
  pub book_mark : (s : State) (wp : Bool) (array : List ℕ) (sector : ℕ) (scenes buffer after : List ℕ) (planned : Planned)
      → Marks s wp array sector scenes buffer after planned → IsSound s → IsSound planned.state
  pub names_is_read : (s : State) (array : List ℕ) (sector : ℕ) (name : List ℕ) (told : Told) → told ≡ name_told s array sector name → IsSound s
      → IsSound told.state
  pub names_mark : (s : State) (wp : Bool) (array : List ℕ) (sector : ℕ) (name buffer after : List ℕ) (planned : Planned)
      → NameMarks s wp array sector name buffer after planned → IsSound s → IsSound planned.state
  pub names_move : (s : State) (wp : Bool) (array : List ℕ) (book sector : ℕ) (list buffer after : List ℕ) (planned : Planned)
      → BookMoves s wp array book sector list buffer after planned → IsSound s → IsSound planned.state
  pub names_back : (s : State) (wp : Bool) (array : List ℕ) (sector book : ℕ) (list buffer after : List ℕ) (r : Returned)
      → BookReturns s wp array sector book list buffer after r → IsSound s → IsSound r.state
