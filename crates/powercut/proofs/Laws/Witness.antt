-- Demand 3 speaks of something, and its 22 bytes are needed: accepted plans on both chips, with step 1 and without it, each in a buffer of exactly
-- its length; a cut in a wait of each that finds the chip busy, and in that of a status write; a status write cut short, with the old bits and with the
-- new ones; and a cut after which 21 bytes more are too few.
-- Assumes nothing.
use mathlib.Core.Path.{◌≡◌, refl}
use mathlib.Core.Bool.{Bool, true, false}
use mathlib.Core.List.{List, [], ◌∷◌, ◌++◌}
use mathlib.Core.Logic.{◌⊎◌, inl, inr}
use Prim.Native.Nat.{ℕ, zero, suc, ◌+◌, ◌<◌}
use native.Mathlib.Omega.{arith}
use lib.ListN.{length, get_or}
use Rattle.common.specs.Refusals.{buffer_too_short}
use Rattle.common.specs.Bits.{Bytes}
use Rattle.common.specs.Lists.{tab, within}
use Rattle.common.proofs.Laws.Lists.{length_tab, get_d_tab}
use Rattle.state.specs.declared.State.{State}
use Rattle.chip.specs.Chip.{is_known, chip_of, kind_of}
use Rattle.state.specs.Protection.{first_protected}
use Rattle.state.specs.Power.{at_rest, new_state, state_refusal, powered_up, power_up}
use Rattle.state.specs.Soundness.{is_sound}
use Rattle.state.specs.Time.{cycle_ended, time_passed, pass_time}
use Rattle.command.specs.Command.{address, writable, by_kind, command_of}
use Rattle.registers.specs.Registers.{state_after}
use Rattle.script.specs.Record.{Record, frame, wait, encode_record, encode}
use Rattle.common.proofs.Laws.Bits.{bytes_within}
use Rattle.frame.specs.Device.{Device}
use Rattle.frame.specs.Cut.{Masked}
use Rattle.frame.specs.Ran.{cut_at, torn_device}
use Rattle.run.specs.Run.{run}
use Rattle.run.proofs.Laws.Trace.{state_behind, traced}
use Rattle.region.specs.Region.{wanted_at, changes, rises, any_of, wants_rise}
use Rattle.plan.specs.Plan.{step_one_needed, plan_records}
use Rattle.plan.specs.Refusals.{is_active, is_locked, bytes_needed, plan_refusal}
use Rattle.powercut.specs.PowerCut.{powered, waited, CutShort, between, during, PowerCutSafe}
use Rattle.powercut.proofs.Laws.States.{standing}
use Rattle.powercut.proofs.Laws.PowerCut.{power_cut_safe, cut_anywhere}
use Rattle.samples.proofs.Laws.Plans.{fe}
use Rattle.samples.proofs.Laws.Plans

-- accepted with a byte more room, and not with so much
pub record Just (s : State) (wp : Bool) (array : List ℕ) (start : ℕ) (wanted : List ℕ) (room : ℕ) : Type 0 where
  pub enough : plan_refusal s wp array start wanted (room + 1) ≡ 0
  pub too_little : plan_refusal s wp array start wanted room ≡ buffer_too_short

-- ---- the F25L008A

module _ (wp : Bool) (array : List ℕ) (sized : length array ≡ 1048576) (byte : get_or array 0x12345 0 ≡ 0xff) where
  -- 26 bytes
  pub words_open : Just (at_rest 8 0 false false) wp array 0x12345 fe 25
  unfolding plan_refusal is_active is_locked bytes_needed step_one_needed is_sound is_known chip_of first_protected wants_rise rises any_of changes wanted_at within encode encode_record
  words_open = let p = Plans.words_open array byte in record { enough = rw (p, sized, byte) refl; too_little = rw (p, sized, byte) refl }

  -- 48 bytes
  pub words_protected : Just (at_rest 8 7 false false) wp array 0x12345 fe 47
  unfolding plan_refusal is_active is_locked bytes_needed step_one_needed is_sound is_known chip_of first_protected wants_rise rises any_of changes wanted_at within encode encode_record
  words_protected = let p = Plans.words_protected array byte in record { enough = rw (p, sized, byte) refl; too_little = rw (p, sized, byte) refl }

-- ---- the F25L05PA

module _ (wp : Bool) (array : List ℕ) (sized : length array ≡ 65536) (byte : get_or array 0x1234 0 ≡ 0xff) where
  -- 20 bytes
  pub page_open : Just (at_rest 5 0 false false) wp array 0x1234 fe 19
  unfolding plan_refusal is_active is_locked bytes_needed step_one_needed is_sound is_known chip_of first_protected wants_rise rises any_of changes wanted_at within encode encode_record
  page_open = let p = Plans.page_open array byte in record { enough = rw (p, sized, byte) refl; too_little = rw (p, sized, byte) refl }

  -- 54 bytes
  pub page_protected : Just (at_rest 5 1 false false) wp array 0x1234 fe 53
  unfolding plan_refusal is_active is_locked bytes_needed step_one_needed is_sound is_known chip_of first_protected wants_rise rises any_of changes wanted_at within encode encode_record
  page_protected = let p = Plans.page_protected array byte in record { enough = rw (p, sized, byte) refl; too_little = rw (p, sized, byte) refl }

-- ---- erased chips

-- so many FF
pub erased : ℕ → List ℕ
erased n = tab n (λ k. 0xff)

pub erased_length : (n : ℕ) → length (erased n) ≡ n
unfolding erased
erased_length n = length_tab n (λ k. 0xff)

pub erased_at : (n k : ℕ) → k < n → get_or (erased n) k 0 ≡ 0xff
unfolding erased
erased_at n k h = get_d_tab n (λ k. 0xff) k 0 h

pub erased_bytes : (n : ℕ) → Bytes (erased n)
erased_bytes n = bytes_within (erased n) (λ k h. rw (erased_at n k (rw (erased_length n) at h)) (omega arith))

pub safe_008a : (given : Device) → PowerCutSafe plan_records true (standing given (at_rest 8 0 false false) (erased 1048576)) 0x12345 fe 26
safe_008a given =
    power_cut_safe true (standing given (at_rest 8 0 false false) (erased 1048576)) 0x12345 fe 26 (erased_bytes 1048576)
    (words_open true (erased 1048576) (erased_length 1048576) (erased_at 1048576 0x12345 (omega arith))).enough

pub safe_05pa : (given : Device) → PowerCutSafe plan_records true (standing given (at_rest 5 0 false false) (erased 65536)) 0x1234 fe 20
safe_05pa given =
    power_cut_safe true (standing given (at_rest 5 0 false false) (erased 65536)) 0x1234 fe 20 (erased_bytes 65536)
    (page_open true (erased 65536) (erased_length 65536) (erased_at 65536 0x1234 (omega arith))).enough

-- ---- a cut in a wait

-- the plan waits n microseconds; m into it so many are left of the write cycle, and there the power is cut
pub record CutInWait (wp : Bool) (chip : Device) (start : ℕ) (wanted : List ℕ) (n m left : ℕ) : Type 0 where
  pub before : List Record
  pub after : List Record
  pub there : plan_records chip.state chip.array start wanted ≡ before ++ (wait n ∷ after)
  pub busy : (pass_time (run wp before chip).state m).state.left ≡ left
  pub cut : CutShort (plan_records chip.state chip.array start wanted) wp chip (powered (waited m (run wp before chip)))

-- the two frames before a plan's wait
abbrev word_begun : List Record
word_begun = frame (0x06 ∷ []) ∷ frame (0xad ∷ 0x01 ∷ 0x23 ∷ 0x44 ∷ 0xff ∷ 0xfe ∷ []) ∷ []

abbrev page_begun : List Record
page_begun = frame (0x06 ∷ []) ∷ frame (0x02 ∷ 0x00 ∷ 0x12 ∷ 0x34 ∷ 0xfe ∷ []) ∷ []

abbrev status_begun : List Record
status_begun = frame (0x06 ∷ []) ∷ frame (0x01 ∷ 0x00 ∷ []) ∷ []

-- what follows the wait of step 1
abbrev behind_status : List Record
behind_status = page_begun ++ (wait 1500 ∷ frame (0x06 ∷ []) ∷ frame (0x01 ∷ 0x04 ∷ []) ∷ wait 5000 ∷ [])

module _ (wp : Bool) where
  word_busy : (pass_time (state_behind wp word_begun (at_rest 8 0 false false)) 3).state.left ≡ 4
  unfolding pass_time state_refusal is_sound is_known chip_of first_protected command_of by_kind kind_of state_after time_passed writable address
  word_busy = refl

  page_busy : (pass_time (state_behind wp page_begun (at_rest 5 0 false false)) 1000).state.left ≡ 500
  unfolding pass_time state_refusal is_sound is_known chip_of first_protected command_of by_kind kind_of state_after time_passed writable address
  page_busy = refl

  status_busy : (pass_time (state_behind wp status_begun (at_rest 5 1 false false)) 2000).state.left ≡ 3000
  unfolding pass_time state_refusal is_sound is_known chip_of first_protected command_of by_kind kind_of state_after time_passed writable address
  status_busy = refl

  module _ (given : Device) (array : List ℕ) where
    pub word_cut_in_wait : get_or array 0x12345 0 ≡ 0xff → CutInWait wp (standing given (at_rest 8 0 false false) array) 0x12345 fe 7 3 4
    word_cut_in_wait byte =
        let chip : Device = standing given (at_rest 8 0 false false) array in
        let is = Plans.words_open array byte in
        record {
          before = word_begun;
          after = frame (0x04 ∷ []) ∷ [];
          there = is;
          busy = rw (traced wp word_begun chip).state_is word_busy;
          cut = during word_begun (frame (0x04 ∷ []) ∷ []) 7 3 is (omega arith);
        }

    pub page_cut_in_wait : get_or array 0x1234 0 ≡ 0xff → CutInWait wp (standing given (at_rest 5 0 false false) array) 0x1234 fe 1500 1000 500
    page_cut_in_wait byte =
        let chip : Device = standing given (at_rest 5 0 false false) array in
        let is = Plans.page_open array byte in
        record {
          before = page_begun;
          after = [];
          there = is;
          busy = rw (traced wp page_begun chip).state_is page_busy;
          cut = during page_begun [] 1500 1000 is (omega arith);
        }

    pub status_cut_in_wait : get_or array 0x1234 0 ≡ 0xff → CutInWait wp (standing given (at_rest 5 1 false false) array) 0x1234 fe 5000 2000 3000
    status_cut_in_wait byte =
        let chip : Device = standing given (at_rest 5 1 false false) array in
        let is = Plans.page_protected array byte in
        record {
          before = status_begun;
          after = behind_status;
          there = is;
          busy = rw (traced wp status_begun chip).state_is status_busy;
          cut = during status_begun behind_status 5000 2000 is (omega arith);
        }

-- ---- a status write cut short

-- in step 1 of a plan for the F25L05PA with BP 001: it powers up with that, or with BP 000
module _ (wp : Bool) (given : Device) (array : List ℕ) (sized : length array ≡ 65536) (byte : get_or array 0x1234 0 ≡ 0xff) (bytes : Bytes array) where
  abbrev protected_chip : Device
  protected_chip = standing given (at_rest 5 1 false false) array

  abbrev enabled : List Record
  enabled = frame (0x06 ∷ []) ∷ []

  pub status_cut : List ℕ → Device
  status_cut mask = torn_device wp (0x01 ∷ 0x00 ∷ []) mask (run wp enabled protected_chip)

  takes : (x : ℕ) → (x ≡ 0x00) ⊎ (x ≡ 0xff) → Masked (command_of (state_behind wp enabled (at_rest 5 1 false false)) wp (0x01 ∷ 0x00 ∷ [])) (x ∷ [])
  unfolding is_known chip_of first_protected command_of by_kind kind_of state_after
  takes x which = record { bytes = refl; old_or_new = λ _. which }

  there : (x : ℕ) → x < 256 → (x ≡ 0x00) ⊎ (x ≡ 0xff) → CutShort (plan_records (at_rest 5 1 false false) array 0x1234 fe) wp protected_chip (status_cut (x ∷ []))
  unfolding status_cut
  there x small which =
      cut_anywhere wp protected_chip 0x1234 fe 54 bytes (page_protected wp array sized byte).enough enabled (wait 5000 ∷ behind_status) (0x01 ∷ 0x00 ∷ []) (x ∷ [])
      (Plans.page_protected array byte) (one_byte x small) (rw (traced wp enabled protected_chip).state_is (takes x which))
    where
      one_byte : (x : ℕ) → x < 256 → Bytes (x ∷ [])
      one_byte x small zero = small
      one_byte x small (suc k) = omega arith

  left : (x : ℕ) (bp : ℕ) → powered_up (cut_at (state_behind wp enabled (at_rest 5 1 false false)) wp (0x01 ∷ 0x00 ∷ []) (x ∷ [])) ≡ at_rest 5 bp false false
      → (status_cut (x ∷ [])).state ≡ at_rest 5 bp false false
  unfolding status_cut torn_device
  left x bp e = rw (traced wp enabled protected_chip).state_is e

  pub status_cut_old : CutShort (plan_records (at_rest 5 1 false false) array 0x1234 fe) wp protected_chip (status_cut (0x00 ∷ [])) × ((status_cut (0x00 ∷ [])).state ≡ at_rest 5 1 false false)
  unfolding is_known chip_of first_protected command_of by_kind kind_of state_after powered_up
  status_cut_old = (there 0x00 (omega arith) (inl refl), left 0x00 1 refl)

  pub status_cut_new : CutShort (plan_records (at_rest 5 1 false false) array 0x1234 fe) wp protected_chip (status_cut (0xff ∷ [])) × ((status_cut (0xff ∷ [])).state ≡ at_rest 5 0 false false)
  unfolding is_known chip_of first_protected command_of by_kind kind_of state_after cycle_ended powered_up
  status_cut_new = (there 0xff (omega arith) (inr refl), left 0xff 0 refl)

-- ---- 21 bytes more are too few

-- there is a cut after which planning again is refused
pub record TooFew (wp : Bool) (chip : Device) (start : ℕ) (wanted : List ℕ) (room : ℕ) : Type 0 where
  pub after : Device
  pub cut : CutShort (plan_records chip.state chip.array start wanted) wp chip after
  pub refused : plan_refusal after.state wp after.array start wanted room ≡ buffer_too_short

-- the F25L008A without protection, its power cut before the first record: BP is 111 then, and 48 bytes are needed in place of 26
pub twenty_one_too_few : (wp : Bool) (given : Device) (array : List ℕ) → length array ≡ 1048576 → get_or array 0x12345 0 ≡ 0xff
    → TooFew wp (standing given (at_rest 8 0 false false) array) 0x12345 fe (26 + 21)
unfolding run power_up state_refusal powered_up new_state is_sound is_known chip_of first_protected
twenty_one_too_few wp given array sized byte = record {
  after = standing given (at_rest 8 7 false false) array;
  cut = between [] (plan_records (at_rest 8 0 false false) array 0x12345 fe) refl;
  refused = (words_protected wp array sized byte).too_little;
}
