-- The planner's promises: all that a layer above may cite of a plan. The names that it passes on are shut above: they can be cited and not opened, so a
-- layer that lists this crate and none of the planner's leans on what is said here, and on the laws in proofs/Laws. No word of a script's records is in
-- it.
-- Not promised: "After a cut the 05PA may stand unprotected; demand 3 speaks of the array." (01)
use Rattle.std.specs.Prelude.{◌≡◌, Bool, true, false, List, [], ◌∷◌, ◌⊎◌, ℕ, ◌+◌, ◌≤◌, ◌<◌, ltb, length}
use Rattle.common.specs.Bits.{Bytes}
use Rattle.common.specs.Limits.{longest_wanted}
use Rattle.common.specs.Refusals.{not_at_rest, wanted_rises, status_locked, buffer_too_short, first_of, Exactly}
use Rattle.state.specs.declared.State.{State}
use Rattle.state.specs.declared.Planned.{Planned}
use Rattle.state.specs.State.{data_of, with_wel, with_armed}
use Rattle.state.specs.Answer.{empty_plan, refused_plan}
use Rattle.state.specs.Soundness.{is_sound}
-- ---- the names

-- a chip, its state with its array
pub use Rattle.frame.specs.Device.{Device}
-- every byte of the region is as wanted; a 1 is wanted where the array has 0, as a type and as a test
pub use Rattle.region.specs.Region.{NothingChanges, WantedRises, wants_rise}
-- the call: its answer, and the buffer before and after; the number of its first refusal that holds; of their conditions, that the chip is busy, in AAI or
-- in power-down, and that its status register has to be written and can't be; and the bytes of its script
pub use Rattle.plan.specs.Update.{Plans}
pub use Rattle.plan.specs.Refusals.{plan_refusal, is_active, is_locked, bytes_needed}
-- bytes that are room enough for every plan of a chip
pub use Rattle.worst.specs.Worst.{room_enough}
-- the array with the region as wanted and the rest as it was; each bit of the region as before or as wanted, and nothing outside moved
pub use Rattle.powercut.specs.PowerCut.{updated, Partway}
-- the chip behind a plan that was run to its end, that was cut somewhere and powered up, or either; a chip that the next plan can be made for
pub use Rattle.powercut.specs.PowerCut.{Finished, PowerLost, BehindPlan, ReadyToPlan}

-- ---- what the call answers

-- the region lies in the array of a sound chip: none of 1, 2 and 6
pub record Fitting (s : State) (array : List ℕ) (start : ℕ) (wanted : List ℕ) : Type 0 where
  pub sound : is_sound s ≡ true
  pub sized : length array ≡ (data_of s).size
  pub short : length wanted ≤ longest_wanted
  pub fits : start + length wanted ≤ (data_of s).size

-- a plan that is accepted
pub record PlanAccepted (s : State) (wp : Bool) (array : List ℕ) (start : ℕ) (wanted : List ℕ) (room : ℕ) : Type 0 where
  pub fitting : Fitting s array start wanted
  pub at_rest : is_active s ≡ false
  pub falls : WantedRises array start wanted → ⊥
  pub unlocked : is_locked s wp array start wanted ≡ false
  pub roomy : bytes_needed s array start wanted ≤ room

-- one that is refused for a wanted 1
pub record RiseRefused (s : State) (array : List ℕ) (start : ℕ) (wanted : List ℕ) : Type 0 where
  pub fitting : Fitting s array start wanted
  pub at_rest : is_active s ≡ false
  pub rises : WantedRises array start wanted

-- 7, 8, 9 and 10: what is left where the region fits
abbrev pub fitting_refusals : State → Bool → List ℕ → ℕ → List ℕ → ℕ → List (ℕ × Bool)
fitting_refusals s wp array start wanted room =
    (not_at_rest, is_active s)
    ∷ (wanted_rises, wants_rise array start wanted)
    ∷ (status_locked, is_locked s wp array start wanted)
    ∷ (buffer_too_short, ltb room (bytes_needed s array start wanted))
    ∷ []

-- 7, 9 and 10: all that is left where the region fits and no bit is to rise
abbrev pub later_refusals : State → Bool → List ℕ → ℕ → List ℕ → ℕ → List (ℕ × Bool)
later_refusals s wp array start wanted room =
    (not_at_rest, is_active s)
    ∷ (status_locked, is_locked s wp array start wanted)
    ∷ (buffer_too_short, ltb room (bytes_needed s array start wanted))
    ∷ []

pub record PlanAnswered (s : State) (wp : Bool) (array : List ℕ) (start : ℕ) (wanted buffer after : List ℕ) (r : Planned) : Type 0 where
  -- the first refusal that holds, 0 where none does
  pub number_is : r.number ≡ plan_refusal s wp array start wanted (length buffer)
  pub accepted_exactly : Bytes wanted → Exactly (r.number ≡ 0) (PlanAccepted s wp array start wanted (length buffer))
  pub eight_exactly : Bytes wanted → Exactly (r.number ≡ wanted_rises) (RiseRefused s array start wanted)
  -- where 1, 2 and 6 are ruled out, four are left,
  pub fitted : Fitting s array start wanted → r.number ≡ first_of (fitting_refusals s wp array start wanted (length buffer))
  -- and where 8 is too, three
  pub later : Bytes wanted → Fitting s array start wanted → (WantedRises array start wanted → ⊥)
      → r.number ≡ first_of (later_refusals s wp array start wanted (length buffer))
  -- 9 comes with BPL 1 and WP low, and never else
  pub nine_locked : r.number ≡ status_locked → (s.bpl ≡ true) × (wp ≡ false)
  -- a refusal says nothing but its number, and leaves every byte of the buffer
  pub refused_untouched : 0 < r.number → (r ≡ refused_plan r.number s) × (after ≡ buffer)
  -- planning runs nothing
  pub state_given : r.state ≡ s
  -- an accepted plan is the empty script exactly when nothing changes; then its counts are 0 and the buffer is as it was
  pub empty_exactly : r.number ≡ 0 → Exactly (r.length ≡ 0) (NothingChanges array start wanted)
  pub nothing_to_do : r.number ≡ 0 → NothingChanges array start wanted → (r ≡ empty_plan s) × (after ≡ buffer)
  -- 10 never comes with so much room
  pub room_enough_lem : room_enough s ≤ length buffer → r.number ≡ buffer_too_short → ⊥

-- a call that stands above the planner: its own refusal, 0 where there is none, or what the planner answers
pub record PlansUnless (own : ℕ) (s : State) (wp : Bool) (array : List ℕ) (start : ℕ) (wanted buffer after : List ℕ) (r : Planned) : Type 0 where
  pub refused : (number : ℕ) → 0 < number → own ≡ number → (r ≡ refused_plan number s) × (after ≡ buffer)
  pub planned : own ≡ 0 → Plans s wp array start wanted buffer after r

-- ---- the chip behind it

-- of an accepted plan that is made for a chip
pub record Promises (wp : Bool) (chip : Device) (start : ℕ) (wanted : List ℕ) (room : ℕ) : Type 0 where
  -- run to its end: the region is as wanted, the rest as it was, and the chip at rest with its protection as given
  pub finished : (after : Device) → Finished wp chip start wanted after → after.array ≡ updated chip.array start wanted
  pub rested : (after : Device) → Finished wp chip start wanted after
      → (after.state ≡ chip.state) ⊎ (after.state ≡ with_armed (with_wel chip.state false) false)
  -- run to its end or cut anywhere: each bit of the region is as before or as wanted, and nothing outside has moved
  pub partway : (after : Device) → BehindPlan wp chip start wanted after → Partway chip.array start wanted after.array
  -- and the chip is sound and at rest, of the same number, with an array of its size and of bytes
  pub ready : (after : Device) → BehindPlan wp chip start wanted after → ReadyToPlan chip.state.chip after
  -- planned again behind a cut, with 22 bytes more room or with more than that, or with the chip's worst case: accepted, and that plan completes the update
  pub again : (cut : Device) → PowerLost wp chip start wanted cut → (more : ℕ) → room + 22 ≤ more
      → plan_refusal cut.state wp cut.array start wanted more ≡ 0
  pub again_in_worst : (cut : Device) → PowerLost wp chip start wanted cut → (more : ℕ) → room_enough cut.state ≤ more
      → plan_refusal cut.state wp cut.array start wanted more ≡ 0
  pub completed : (cut after : Device) → PowerLost wp chip start wanted cut → Finished wp cut start wanted after
      → after.array ≡ updated chip.array start wanted
