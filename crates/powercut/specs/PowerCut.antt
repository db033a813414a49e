-- Demand 3 (00): a plan run on the chip it was made for, whole or with the power cut, and the plan made anew behind the cut.
use Rattle.std.specs.Prelude.{◌≡◌, Bool, true, false, cond, List, [], ◌∷◌, ◌++◌, ◌⊎◌, ℕ, ◌+◌, ◌-◌, ◌≤◌, length, get_or}
use Rattle.common.specs.Lists.{mapi, within}
use Rattle.state.specs.declared.State.{State}
use Rattle.state.specs.State.{data_of, with_wel, with_armed}
use Rattle.state.specs.Soundness.{is_sound}
use Rattle.state.specs.Power.{power_up}
use Rattle.state.specs.Time.{pass_time}
use Rattle.script.specs.Record.{Record, frame, wait, encode}
use Rattle.frame.specs.Device.{Device, with_state}
use Rattle.frame.specs.Line.{Line, Long}
use Rattle.frame.specs.Call.{frame_number, cut_number, cut_device}
use Rattle.common.specs.Bits.{Bytes, bit_at}
use Rattle.run.specs.declared.Ran.{Ran}
use Rattle.run.specs.Run.{run}
use Rattle.script.specs.Decode.{records_of}
use Rattle.state.specs.declared.Planned.{Planned}
use Rattle.plan.specs.Plan.{plan_records}
use Rattle.plan.specs.Refusals.{is_active, plan_refusal}

-- what plans: the records for a chip's state, its array, a start address and the wanted bytes
abbrev pub Planner : Type 0
Planner = State → List ℕ → ℕ → List ℕ → List Record

-- the planner's script as the runner reads it: the records of its bytes
abbrev pub script_records : Planner
script_records s array start wanted = records_of (encode (plan_records s array start wanted))

-- ---- what becomes of the array

-- "the region exactly as wanted and the rest as it was"
unfoldable pub updated : List ℕ → ℕ → List ℕ → List ℕ
updated array start wanted = mapi (λ k x. cond (within start (length wanted) k) (get_or wanted (k - start) 0) x) array

-- "each bit of the region is as before or as wanted, and nothing outside has moved"
pub record Partway (array : List ℕ) (start : ℕ) (wanted after : List ℕ) : Type 0 where
  pub same_length : length after ≡ length array
  pub region : (k b : ℕ) → within start (length wanted) k ≡ true
      → (bit_at (get_or after k 0) b ≡ bit_at (get_or array k 0) b) ⊎ (bit_at (get_or after k 0) b ≡ bit_at (get_or wanted (k - start) 0) b)
  pub outside : (k : ℕ) → within start (length wanted) k ≡ false → get_or after k 0 ≡ get_or array k 0

-- ---- a plan run to its end

-- the state behind it: the given one where there was nothing to do, else the given one with WEL and armed 0
abbrev pub state_after_plan : List Record → State → State
state_after_plan [] s = s
state_after_plan (r ∷ rs) s = with_armed (with_wel s false) false

-- the records run uncut on a chip leave this array, and no call on the way is refused: no frame with a line of its length, no part of a wait, and no
-- power-up where the power might go
pub record Completes (records : List Record) (wp : Bool) (chip : Device) (array : List ℕ) : Type 0 where
  pub array_is : (run wp records chip).array ≡ array
  pub state_is : (run wp records chip).state ≡ state_after_plan records chip.state
  pub frames_accepted : (before after : List Record) (f : List ℕ) → records ≡ before ++ (frame f ∷ after)
      → (line : Line) → Long (length f) line → frame_number wp f (run wp before chip) line ≡ 0
  pub waits_accepted : (before after : List Record) (n m : ℕ) → records ≡ before ++ (wait n ∷ after) → m ≤ n
      → (pass_time (run wp before chip).state m).number ≡ 0
  pub powers_up : (before after : List Record) → records ≡ before ++ after → (power_up (run wp before chip).state).number ≡ 0
  pub powers_up_in_wait : (before after : List Record) (n m : ℕ) → records ≡ before ++ (wait n ∷ after) → m ≤ n
      → (power_up (pass_time (run wp before chip).state m).state).number ≡ 0

-- ---- a plan cut short

-- the power goes and comes back: the call "power it up again"
abbrev pub powered : Device → Device
powered chip = with_state chip (power_up chip.state).state

-- some of a wait has passed: the call "let n microseconds pass"
abbrev pub waited : ℕ → Device → Device
waited m chip = with_state chip (pass_time chip.state m).state

-- "Cut the power between any two records, or inside any programming, with any part of the bits due to fall having fallen": the chip powered up.
-- Between: also before the first record and behind the last. Inside: the call "run an interrupted frame", for any frame, with any mask of bytes and any
-- line that the call accepts. During: when m of a wait's n microseconds have passed; before the last of them the chip is still busy with the word,
-- the page or the status write that it waits for
pub data CutShort (records : List Record) (wp : Bool) (chip : Device) : Device → Type 0 where
  between : (before after : List Record) → records ≡ before ++ after → CutShort records wp chip (powered (run wp before chip))
  inside : (before after : List Record) (f mask : List ℕ) (line : Line) → records ≡ before ++ (frame f ∷ after) → Bytes mask
      → cut_number wp f mask (run wp before chip) line ≡ 0 → CutShort records wp chip (cut_device wp f mask (run wp before chip) line)
  during : (before after : List Record) (n m : ℕ) → records ≡ before ++ (wait n ∷ after) → m ≤ n
      → CutShort records wp chip (powered (waited m (run wp before chip)))

-- "planning again is accepted", in so much room and in any more, "and that plan, run uncut, leaves the region exactly as wanted and the rest as it was"
pub record Recovers (plan : Planner) (wp : Bool) (array : List ℕ) (start : ℕ) (wanted : List ℕ) (room : ℕ) (chip : Device) : Type 0 where
  pub partway : Partway array start wanted chip.array
  pub accepted : (more : ℕ) → room ≤ more → plan_refusal chip.state wp chip.array start wanted more ≡ 0
  pub completes : Completes (plan chip.state chip.array start wanted) wp chip (updated array start wanted)

-- ---- demand 3

-- of the plan that is made for a chip, at a level of WP
pub record PowerCutSafe (plan : Planner) (wp : Bool) (chip : Device) (start : ℕ) (wanted : List ℕ) (room : ℕ) : Type 0 where
  -- "An uncut first run does so too."
  pub uncut : Completes (plan chip.state chip.array start wanted) wp chip (updated chip.array start wanted)
  -- "Powered up, at the same level and with 22 bytes more room"
  pub cut : (after : Device) → CutShort (plan chip.state chip.array start wanted) wp chip after
      → Recovers plan wp chip.array start wanted (room + 22) after

-- ---- for the layers above: the chip behind a plan

-- run to its end
unfoldable pub Finished : Bool → Device → ℕ → List ℕ → Device → Type 0
Finished wp chip start wanted after = after ≡ run wp (plan_records chip.state chip.array start wanted) chip

-- cut somewhere, and powered up
unfoldable pub PowerLost : Bool → Device → ℕ → List ℕ → Device → Type 0
PowerLost wp chip start wanted after = CutShort (plan_records chip.state chip.array start wanted) wp chip after

-- either of the two
abbrev pub BehindPlan : Bool → Device → ℕ → List ℕ → Device → Type 0
BehindPlan wp chip start wanted after = Finished wp chip start wanted after ⊎ PowerLost wp chip start wanted after

-- a chip of this number that the next plan can be made for: sound and at rest, with an array of its size and of bytes
pub record ReadyToPlan (number : ℕ) (chip : Device) : Type 0 where
  pub same_chip : chip.state.chip ≡ number
  pub sound : is_sound chip.state ≡ true
  pub at_rest : is_active chip.state ≡ false
  pub sized : length chip.array ≡ (data_of chip.state).size
  pub bytes : Bytes chip.array

-- ---- the same of the calls

-- A plan's answer and buffer, and what running that script answers and leaves: accepted, the update complete, the counts as planned.
pub record RunAsPlanned (chip : Device) (start : ℕ) (wanted : List ℕ) (planned : Planned) (ran : Ran) (after : Device) : Type 0 where
  pub number : ran.number ≡ 0
  pub state_is : ran.state ≡ state_after_plan (plan_records chip.state chip.array start wanted) chip.state
  pub array_is : after.array ≡ updated chip.array start wanted
  pub frames_are : ran.frames ≡ planned.frames
  pub microseconds_are : ran.microseconds ≡ planned.microseconds
