-- Every place where the power can be cut while records are run, and what a cut may meet there: a sound state, its protection held, the array on its way.
-- Over any chip, and any byte wanted at each address.
-- Assumes nothing.
use mathlib.Core.Path.{◌≡◌}
use mathlib.Core.Bool.{Bool, true, ◌&&◌, false≢true}
use mathlib.Core.List.{List, [], ◌∷◌, ◌++◌}
use mathlib.Core.Logic.{◌⊎◌, ⊎_elim}
use Prim.Native.Nat.{ℕ, ◌/◌, ◌%◌}
use native.Mathlib.Omega.{arith}
use Rattle.common.specs.Lists.{mapi}
use Rattle.common.proofs.Laws.Choice.{cases}
use Rattle.common.proofs.Laws.Lists.{split}
use Rattle.chip.specs.Chip.{chip_of}
use Rattle.state.specs.declared.State.{State}
use Rattle.state.specs.Status.{has}
use Rattle.state.specs.Protection.{first_protected}
use Rattle.state.specs.Soundness.{Sound}
use Rattle.state.specs.Time.{time_passed}
use Rattle.state.proofs.Laws.Passed.{time_goes_on, time_idle, time_ends_written, time_ends, time_ends_in_aai, time_ends_aai}
use Rattle.state.proofs.Laws.Time.{time_passed_sound}
use Rattle.script.specs.Record.{Record, frame, wait}
use Rattle.effect.specs.Cut.{cut}
use Rattle.frame.specs.Device.{Device, with_state}
use Rattle.frame.specs.Ran.{effect_at, cut_at}
use Rattle.common.specs.Bits.{Bytes}
use Rattle.run.specs.Run.{step, run}
use Rattle.run.proofs.Laws.Run.{run_none, run_first}
use Rattle.powercut.proofs.Laws.Near.{Near}
use Rattle.powercut.proofs.Laws.States.{standing}

-- a chip as it was given, the level, and the byte that is wanted at each address
pub record Task : Type 0 where
  pub level : Bool
  pub chip : Device
  pub want : ℕ → ℕ
  pub bytes : Bytes chip.array

-- protection bits that are the given ones, or with BP 000
pub record Bits (given : State) (bp : ℕ) (tb bpl : Bool) : Type 0 where
  pub level_held : (bp ≡ given.bp) ⊎ (bp ≡ 0)
  pub same_tb : tb ≡ given.tb
  pub same_bpl : bpl ≡ given.bpl

-- they are a chip's, and so are those that a status write sets when its cycle ends
pub record Held (given : State) (chip bp : ℕ) (tb bpl pending : Bool) (bits : ℕ) : Type 0 where
  pub same_chip : chip ≡ given.chip
  pub now : Bits given bp tb bpl
  pub coming : pending ≡ true → Bits given (bits / 4 % 8) ((chip_of chip).top_bottom && has bits 32) (has bits 128)

abbrev pub HeldBy : State → State → Type 0
HeldBy given s = Held given s.chip s.bp s.tb s.bpl s.pending s.pending_bits

-- "Time changes nothing else": however a cycle goes on or ends, the protection bits stay, or are those that were coming
held_in_time : (given s : State) (n : ℕ) → HeldBy given s → HeldBy given (time_passed s n)
held_in_time given s n held =
    ⊎_elim (λ on. rw (time_goes_on s n on) held)
    (λ over. ⊎_elim
    (λ busy. cases s.pending
    (λ p. rw (time_ends_written s n busy over p) (record { same_chip = held.same_chip; now = held.coming p; coming = λ e. absurd (false≢true e) }))
    (λ o. cases s.aai
    (λ a. ⊎_elim (λ h. rw (time_ends_in_aai s n busy over o a h) held) (λ h. rw (time_ends_aai s n busy over o a h) held) (split s.next (first_protected s)))
    (λ a. rw (time_ends s n busy over o a) held)))
    (λ idle. rw (time_idle s n (omega arith)) held) (split 0 s.left))
    (split n s.left)

module _ (t : Task) where
  -- what a cut may meet: the array is on its way
  pub record Safe (d : Device) : Type 0 where
    pub sound : Sound d.state
    pub held : HeldBy t.chip.state d.state
    pub near : Near t.chip.array t.want d.array

  -- and so it is when some time has passed
  pub safe_in_time : (n : ℕ) (d : Device) → Safe d → Safe (with_state d (time_passed d.state n))
  safe_in_time n d h = record {
    sound = time_passed_sound d.state n h.sound;
    held = held_in_time t.chip.state d.state n h.held;
    near = h.near;
  }

  -- an interrupted frame, before the power is back
  abbrev pub torn : List ℕ → List ℕ → Device → Device
  torn f mask d =
      standing d (cut_at d.state t.level f mask) (mapi (cut (effect_at d.state t.level f) f mask) d.array)

  abbrev pub Inside : Record → Device → Type 0
  Inside (frame f) d = (mask : List ℕ) → Bytes mask → Safe (torn f mask d)
  Inside (wait n) d = Unit {0}

  -- before each record, inside each frame, and at the end
  abbrev pub Always : List Record → Device → Type 0
  Always [] d = Safe d
  Always (r ∷ rs) d = Safe d × (Inside r d × Always rs (step t.level r d))

  pub always_append : (rs ss : List Record) (d : Device) → Always rs d → Always ss (run t.level rs d) → Always (rs ++ ss) d
  always_append [] ss d h k = rw (run_none t.level d) at k
  always_append (r ∷ rs) ss d h k =
      (h.0, (h.1.0, always_append rs ss (step t.level r d) h.1.1 (rw (run_first t.level r rs d) at k)))

  pub always_now : (rs : List Record) (d : Device) → Always rs d → Safe d
  always_now [] d h = h
  always_now (r ∷ rs) d h = h.0

  -- a cut between two records, and one inside a frame
  pub always_between : (rs ss : List Record) (d : Device) → Always (rs ++ ss) d → Safe (run t.level rs d)
  always_between [] ss d h = rw (run_none t.level d) (always_now ss d h)
  always_between (r ∷ rs) ss d h = rw (run_first t.level r rs d) (always_between rs ss (step t.level r d) h.1.1)

  pub always_inside : (rs ss : List Record) (f : List ℕ) (d : Device) → Always (rs ++ (frame f ∷ ss)) d → Inside (frame f) (run t.level rs d)
  always_inside [] ss f d h = rw (run_none t.level d) h.1.0
  always_inside (r ∷ rs) ss f d h = rw (run_first t.level r rs d) (always_inside rs ss f (step t.level r d) h.1.1)
