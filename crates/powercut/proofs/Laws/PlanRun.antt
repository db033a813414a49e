-- A plan runs from its first record to its last: steps 1 to 4 in their order, on a chip at rest. Wherever it is cut, the array is on its way.
-- Assumes nothing.
use mathlib.Core.Path.{◌≡◌, refl, sym}
use mathlib.Core.Bool.{Bool, true, false, not, ◌&&◌, ◌||◌}
use mathlib.Core.List.{List, ◌++◌}
use mathlib.Core.Logic.{◌⊎◌, inl, inr}
use Prim.Native.Nat.{ℕ, ◌+◌, ◌*◌, ◌/◌, ◌≤◌, ◌<◌}
use native.Mathlib.Omega.{arith}
use lib.ListN.{length}
use Rattle.common.proofs.Laws.Choice.{cases}
use Rattle.common.proofs.Laws.Places.{within_bounds, within_below}
use Rattle.state.specs.declared.State.{State}
use Rattle.state.specs.State.{data_of}
use Rattle.state.specs.Soundness.{Sound}
use Rattle.state.proofs.Laws.Protection.{first_by, open_at_0}
use Rattle.state.proofs.Laws.Soundness.{sound_of}
use Rattle.script.specs.Record.{Record}
use Rattle.common.specs.Bits.{Bytes}
use Rattle.frame.specs.Device.{Device}
use Rattle.region.specs.Region.{wanted_at, changes}
use Rattle.region.proofs.Laws.Region.{change_in_region}
use Rattle.words.specs.Words.{words_in}
use Rattle.pages.specs.Pages.{pages_in}
use Rattle.plan.specs.Plan.{step_one_needed, status_records, program_step, plan_records}
use Rattle.plan.specs.Refusals.{Accepted}
use Rattle.plan.proofs.Laws.Steps.{not_needed_free, status_records_lem, program_words, program_pages}
use Rattle.plan.proofs.Laws.Plan.{plan_with_status, plan_without_status, plan_fits}
use Rattle.powercut.specs.PowerCut.{state_after_plan}
use Rattle.powercut.proofs.Laws.States.{standing, rest, border, quiet_stays}
use Rattle.powercut.proofs.Laws.Near.{near_start}
use Rattle.powercut.proofs.Laws.Safe.{Task}
use Rattle.powercut.proofs.Laws.Run.{Done, Ran, Runs, OnItsWay, ran_append}
use Rattle.powercut.proofs.Laws.Status.{held_at, status_ran}
use Rattle.powercut.proofs.Laws.Words.{words_ran}
use Rattle.powercut.proofs.Laws.Pages.{pages_ran}
use Rattle.powercut.proofs.Laws.Region.{calm, settled_outside}

-- ---- the plan, on a chip at rest

-- step 1 is needed, and the status write is let through
let_through : (bpl wp : Bool) → bpl && not wp ≡ false → not bpl || wp ≡ true
let_through true true e = refl
let_through true false e = sym e
let_through false wp e = refl

module _ (given : Device) (bp : ℕ) (wel armed : Bool) (wp : Bool) (start : ℕ) (wanted : List ℕ) (room : ℕ) (bytes : Bytes given.array)
    (accepted : Accepted (rest given.state bp wel armed) wp given.array start wanted room) where
  abbrev pub s : State
  s = rest given.state bp wel armed

  abbrev array : List ℕ
  array = given.array

  abbrev pub chip : Device
  chip = standing given s array

  abbrev pub task : Task
  task = record { level = wp; chip = chip; want = wanted_at start wanted; bytes = bytes }

  abbrev pub end : ℕ
  end = start + length wanted

  -- before the region all is settled
  started : (z : ℕ) (now : List ℕ) → z ≤ start → OnItsWay task now → Done task z now
  started z now h near k i l = settled_outside array start wanted bytes now near k l (within_below start (length wanted) k (omega arith))

  -- steps 2 and 3, at the given level or at 000
  program_ran : (to : ℕ) → (to ≡ bp) ⊎ (to ≡ 0) → ((k : ℕ) → changes array start wanted k ≡ true → k < border s to)
      → (wel armed : Bool) (now : List ℕ) → OnItsWay task now
      → Runs task (state_after_plan (program_step (data_of s).word_plans array start wanted) (rest s to wel armed)) end
      (program_step (data_of s).word_plans array start wanted) (rest s to wel armed) now
  program_ran to level free wel armed now near =
      cases (data_of s).word_plans
      (λ w. rw (program_words (data_of s).word_plans array start wanted w)
      (words_ran task (changes array start wanted) to (held_at s to level) w (calm array start wanted bytes) free (words_in start (length wanted)) (start / 2 * 2) end wel armed now
      (omega arith) (omega arith) near (started (start / 2 * 2) now (omega arith) near)))
      (λ w. rw (program_pages (data_of s).word_plans array start wanted w)
      (pages_ran task (changes array start wanted) to (held_at s to level) w (calm array start wanted bytes) free (pages_in start (length wanted)) (start / 256 * 256) end wel armed now
      (omega arith) (omega arith) near (started (start / 256 * 256) now (omega arith) near)))

  abbrev programs : List Record
  programs = program_step (data_of s).word_plans array start wanted

  sound : Sound s
  sound = sound_of s accepted.region.sound

  -- behind a status write WEL and armed are 0
  behind_status_lem : (rs : List Record) → state_after_plan (status_records s 0 ++ rs) s ≡ rest s bp false false
  behind_status_lem rs = rw (status_records_lem s 0) refl

  -- with step 1 everything is free
  with_status : step_one_needed s array start wanted ≡ true → Runs task (rest s bp false false) end (status_records s 0 ++ (programs ++ status_records s bp)) s array
  with_status needed =
      let through : not s.bpl || wp ≡ true = let_through s.bpl wp (rw needed at accepted.writable) in
      let free : (k : ℕ) → changes array start wanted k ≡ true → k < border s 0 =
      λ k c. let b = within_bounds start (length wanted) k (change_in_region array start wanted k c) in
      omega (arith, open_at_0 (rest s 0 false false) refl, accepted.region.fits) in
      ran_append task
      (status_ran task sound.tb_had through bp 0 (inl refl) (inr refl) (omega arith) 0 array (near_start array (wanted_at start wanted)) (λ k h. absurd (omega arith)) wel armed)
      (λ now near done.
      ran_append task (rw (quiet_stays s 0 programs) at (program_ran 0 (inr refl) free false false now near))
      (λ now near done. status_ran task sound.tb_had through 0 bp (inr refl) (inl refl) sound.bp_le_7 end now near done false false))

  without_status_lem : step_one_needed s array start wanted ≡ false → Runs task (state_after_plan programs s) end programs s array
  without_status_lem needed =
      program_ran bp (inl refl)
      (λ k c. rw (first_by (rest s bp false false) s refl refl) (not_needed_free s array start wanted needed k c)) wel armed array (near_start array (wanted_at start wanted))

  pub plan_ran : Ran task (state_after_plan (plan_records s array start wanted) s) end (plan_records s array start wanted) chip
  plan_ran =
      let runs : Runs task (state_after_plan (plan_records s array start wanted) s) end (plan_records s array start wanted) s array =
      cases (step_one_needed s array start wanted)
      (λ needed. rw (plan_with_status s array start wanted needed, behind_status_lem (programs ++ status_records s bp)) (with_status needed))
      (λ needed. rw (plan_without_status s array start wanted needed) (without_status_lem needed)) in
      runs sound (plan_fits s array start wanted)
