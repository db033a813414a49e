-- Wrong readings that demand 3 turns away, each by a chip, a plan and a cut: a planner with an empty script, one without step 1, one that sends a byte
-- outside the region as 00; a mask that takes the data's bit and not the new byte's; a power-up that keeps AAI, and one that keeps BUSY.
-- Assumes nothing.
use mathlib.Core.Path.{◌≡◌, refl, sym, ◌∙◌}
use mathlib.Core.Bool.{Bool, true, false, cond}
use mathlib.Core.List.{List, [], ◌∷◌}
use Prim.Native.Nat.{ℕ, ◌-◌, ◌*◌, ◌/◌, ◌<◌}
use native.Mathlib.Omega.{arith}
use lib.ListN.{length, get_or}
use Rattle.common.specs.Refusals.{state_not_sound, not_at_rest}
use Rattle.common.specs.Lists.{mapi, within}
use Rattle.common.proofs.Laws.Lists.{get_d_mapi}
use Rattle.state.specs.declared.State.{State}
use Rattle.chip.specs.Chip.{is_known, chip_of, kind_of}
use Rattle.state.specs.State.{data_of, with_left, with_wel, with_aai}
use Rattle.state.specs.Protection.{first_protected}
use Rattle.state.specs.Power.{at_rest, new_state, state_refusal, powered_up}
use Rattle.state.specs.Soundness.{is_sound}
use Rattle.state.specs.Time.{cycle_ended, time_passed, pass_time}
use Rattle.command.specs.Command.{address, writable, by_kind, in_aai, command_of}
use Rattle.registers.specs.Registers.{state_after}
use Rattle.script.specs.Record.{Record, frame, wait}
use Rattle.effect.specs.declared.Effect.{Effect}
use Rattle.effect.specs.declared.Effect.TheVariants.{Program}
use Rattle.effect.specs.Effect.{touches, struck, changed}
use Rattle.effect.specs.Cut.{mixed, mask_place}
use Rattle.frame.specs.Device.{Device}
use Rattle.frame.specs.Ran.{effect_at}
use Rattle.effect.proofs.Laws.Effect.{mask_place_start}
use Rattle.run.specs.Run.{run}
use Rattle.region.specs.Region.{wanted_at, changes}
use Rattle.words.specs.Words.{changing_words, joined, runs_of, further_records, run_records, runs_records, words_step, words_in}
use Rattle.plan.specs.Plan.{program_step}
use Rattle.plan.specs.Refusals.{is_active, plan_refusal}
use Rattle.powercut.specs.PowerCut.{Planner, updated, Partway, Completes, PowerCutSafe}
use Rattle.powercut.proofs.Laws.States.{standing}
use Rattle.powercut.proofs.Laws.Updated.{updated_at}
use Rattle.samples.proofs.Laws.Plans.{fe, word_plan}
use Rattle.run.proofs.Laws.Run.{run_array_length}
use Rattle.run.proofs.Laws.Trace.{state_behind, byte_behind, traced}

-- a byte of the updated array
module _ (records : List Record) (wp : Bool) (chip : Device) (start : ℕ) (wanted : List ℕ) (c : Completes records wp chip (updated chip.array start wanted))
    (k : ℕ) (low : k < length chip.array) where
  wanted_there : within start (length wanted) k ≡ true → get_or (run wp records chip).array k 0 ≡ get_or wanted (k - start) 0
  wanted_there i = rw c.array_is (updated_at chip.array start wanted k low ∙ rw i refl)

  same_there : within start (length wanted) k ≡ false → get_or (run wp records chip).array k 0 ≡ get_or chip.array k 0
  same_there i = rw c.array_is (updated_at chip.array start wanted k low ∙ rw i refl)

-- ---- "a planner whose script is empty": turned away by the uncut run, wherever something is to change

abbrev pub nothing_planned : Planner
nothing_planned s array start wanted = []

pub empty_script_turned_away : (wp : Bool) (chip : Device) (start : ℕ) (wanted : List ℕ) (room k : ℕ) → k < length chip.array
    → within start (length wanted) k ≡ true → (get_or chip.array k 0 ≡ get_or wanted (k - start) 0 → ⊥) → PowerCutSafe nothing_planned wp chip start wanted room → ⊥
unfolding run
empty_script_turned_away wp chip start wanted room k low i differs h = differs (wanted_there [] wp chip start wanted h.uncut k low i)

-- ---- the F25L008A: 012345 is FF, wanted FE

-- a planner without steps 1 and 4
abbrev pub without_status : Planner
without_status s array start wanted = program_step (data_of s).word_plans array start wanted

-- a planner that sends a byte outside the region as 00
abbrev pub zero_outside : Planner
zero_outside s array start wanted =
    words_step (λ k. cond (within start (length wanted) k) (get_or wanted (k - start) 0) 0x00) (changes array start wanted) (words_in start (length wanted)) (start / 2 * 2)

-- its records at 012345
abbrev zero_records : List Record
zero_records = frame (0x06 ∷ []) ∷ frame (0xad ∷ 0x01 ∷ 0x23 ∷ 0x44 ∷ 0x00 ∷ 0xfe ∷ []) ∷ wait 7 ∷ frame (0x04 ∷ []) ∷ []

-- a mask that takes the bit of the data sent, not of old AND data
abbrev pub cut_by_data : Effect → List ℕ → List ℕ → ℕ → ℕ → ℕ
cut_by_data e f mask k x = cond (touches e k) (mixed (get_or mask (mask_place e k) 0) x (struck e f k 0xff)) x

-- a power-up that keeps AAI
abbrev pub aai_kept : State → State
aai_kept s = with_aai (powered_up s) s.aai s.next

-- and one that keeps BUSY: the write cycle goes on
abbrev pub busy_kept : State → State
busy_kept s = with_wel (with_left (powered_up s) s.left) s.wel

-- the plan's word, its first two records: behind them the chip is busy; and its first three: behind them it is in AAI
abbrev word_frame : List ℕ
word_frame = 0xad ∷ 0x01 ∷ 0x23 ∷ 0x44 ∷ 0xff ∷ 0xfe ∷ []

abbrev sent : List Record
sent = frame (0x06 ∷ []) ∷ frame word_frame ∷ []

abbrev begun : List Record
begun = frame (0x06 ∷ []) ∷ frame word_frame ∷ wait 7 ∷ []

module _ (wp : Bool) where
  -- on a new chip the word is ignored
  word_ignored : (k x : ℕ) → byte_behind wp word_plan (at_rest 8 7 false false) k x ≡ x
  unfolding chip_of first_protected command_of by_kind kind_of state_after time_passed cycle_ended changed touches writable address
  word_ignored k x = refl

  -- a byte sent as 00 is lost
  zero_sent : byte_behind wp zero_records (at_rest 8 0 false false) 0x12344 0xff ≡ 0x00
  unfolding chip_of first_protected command_of by_kind in_aai kind_of state_after time_passed cycle_ended changed touches struck writable address within
  zero_sent = refl

  word_sent : effect_at (state_behind wp (frame (0x06 ∷ []) ∷ []) (at_rest 8 0 false false)) wp word_frame ≡ Program 0x12344 2 4
  unfolding chip_of first_protected command_of by_kind kind_of state_after writable address
  word_sent = refl

  data_rises : cut_by_data (Program 0x12344 2 4) word_frame (0xff ∷ 0xff ∷ []) 0x12344 0x00 ≡ 0xff
  unfolding touches struck mixed within
  data_rises = rw (mask_place_start (Program 0x12344 2 4)) refl

  aai_unsound : (array : List ℕ) (room : ℕ) → plan_refusal (aai_kept (state_behind wp begun (at_rest 8 0 false false))) wp array 0x12345 fe room ≡ state_not_sound
  unfolding plan_refusal is_active is_sound is_known powered_up new_state chip_of first_protected command_of by_kind kind_of state_after time_passed cycle_ended writable address
  aai_unsound array room = refl

  still_busy : (array : List ℕ) (room : ℕ) → length array ≡ 1048576
      → plan_refusal (busy_kept (pass_time (state_behind wp sent (at_rest 8 0 false false)) 3).state) wp array 0x12345 fe room ≡ not_at_rest
  unfolding plan_refusal is_active pass_time state_refusal is_sound is_known powered_up new_state chip_of first_protected command_of by_kind kind_of state_after time_passed cycle_ended writable address
  still_busy array room sized = rw sized refl

  module _ (given : Device) (array : List ℕ) (sized : length array ≡ 1048576) (byte : get_or array 0x12345 0 ≡ 0xff) where
    -- a new chip, and one whose protection is off
    abbrev new : Device
    new = standing given (at_rest 8 7 false false) array

    abbrev unprotected : Device
    unprotected = standing given (at_rest 8 0 false false) array

    planned : without_status (at_rest 8 7 false false) array 0x12345 fe ≡ word_plan
    unfolding program_step changes wanted_at within chip_of words_step changing_words joined runs_of further_records run_records runs_records
    planned = rw byte refl

    zero_planned : zero_outside (at_rest 8 0 false false) array 0x12345 fe ≡ zero_records
    unfolding changes wanted_at within words_step changing_words joined runs_of further_records run_records runs_records
    zero_planned = rw byte refl

    -- step 1 missing, on a new chip: uncut, 012345 stays FF
    pub step_one_missing : (room : ℕ) → PowerCutSafe without_status wp new 0x12345 fe room → ⊥
    unfolding within
    step_one_missing room h =
        let low : 0x12345 < length array = rw sized (omega arith) in
        let c : Completes word_plan wp new (updated array 0x12345 fe) = rw planned at h.uncut in
        let is = (traced wp word_plan new).byte_is_lem 0x12345 low in
        omega (arith, is ∙ word_ignored 0x12345 (get_or array 0x12345 0) ∙ byte, wanted_there word_plan wp new 0x12345 fe c 0x12345 low refl)

    -- a byte outside the region sent as 00: uncut, 012344 becomes 00
    pub zero_outside_lem : get_or array 0x12344 0 ≡ 0xff → (room : ℕ) → PowerCutSafe zero_outside wp unprotected 0x12345 fe room → ⊥
    unfolding within
    zero_outside_lem neighbour room h =
        let low : 0x12344 < length array = rw sized (omega arith) in
        let c : Completes zero_records wp unprotected (updated array 0x12345 fe) = rw zero_planned at h.uncut in
        let is = (traced wp zero_records unprotected).byte_is_lem 0x12344 low in
        omega (arith, (rw neighbour at is) ∙ zero_sent, same_there zero_records wp unprotected 0x12345 fe c 0x12344 low refl, neighbour)

    -- the mask takes the data's bit: cut inside the word, 012344 rises from 00 to FF
    pub data_masked : get_or array 0x12344 0 ≡ 0x00
        → Partway array 0x12345 fe (mapi (cut_by_data (effect_at (state_behind wp (frame (0x06 ∷ []) ∷ []) (at_rest 8 0 false false)) wp word_frame) word_frame (0xff ∷ 0xff ∷ [])) array) → ⊥
    unfolding within
    data_masked neighbour h =
        let low : 0x12344 < length array = rw sized (omega arith) in
        let word : effect_at (state_behind wp (frame (0x06 ∷ []) ∷ []) (at_rest 8 0 false false)) wp word_frame ≡ Program 0x12344 2 4 = word_sent in
        let g : ℕ → ℕ → ℕ = cut_by_data (Program 0x12344 2 4) word_frame (0xff ∷ 0xff ∷ []) in
        let same : get_or (mapi g array) 0x12344 0 ≡ get_or array 0x12344 0 = (rw word at h).outside 0x12344 refl in
        let rises : g 0x12344 (get_or array 0x12344 0) ≡ 0xff = rw neighbour data_rises in
        omega (arith, sym (get_d_mapi g array 0x12344 0 low) ∙ same, rises, neighbour)

    -- power-up keeps AAI: planning again is refused, whatever the room
    pub aai_kept_lem : (room : ℕ)
        → plan_refusal (aai_kept (run wp begun unprotected).state) wp (run wp begun unprotected).array 0x12345 fe room ≡ state_not_sound
    aai_kept_lem room = rw (traced wp begun unprotected).state_is (aai_unsound (run wp begun unprotected).array room)

    -- power-up keeps BUSY: cut when 3 of the wait's 7 microseconds have passed, planning again is refused, whatever the room
    pub busy_kept_lem : (room : ℕ)
        → plan_refusal (busy_kept (pass_time (run wp sent unprotected).state 3).state) wp (run wp sent unprotected).array 0x12345 fe room ≡ not_at_rest
    busy_kept_lem room =
        rw (traced wp sent unprotected).state_is (still_busy (run wp sent unprotected).array room (run_array_length wp sent unprotected ∙ sized))
