-- The three clauses of any records, run from a sound state: each of one record first, then of a run by one induction.
-- Assumes nothing.
use mathlib.Core.Path.{◌≡◌, refl, sym, ◌∙◌}
use mathlib.Core.Bool.{Bool, false, true≢false}
use mathlib.Core.List.{List, [], ◌∷◌}
use Prim.Native.Nat.{ℕ, ◌≤◌}
use lib.ListN.{get_or}
use Rattle.common.specs.Refusals.{Exactly}
use Rattle.common.proofs.Laws.Bits.{NoRise, no_rise_refl, no_rise_trans, no_rise_bit}
use Rattle.state.specs.Protection.{first_protected}
use Rattle.state.specs.Soundness.{Sound}
use Rattle.state.proofs.Laws.Passed.{time_idle}
use Rattle.script.specs.Record.{Record, frame, wait}
use Rattle.effect.specs.declared.Effect.{Effect}
use Rattle.effect.specs.declared.Effect.TheVariants.{Keep, Fill, Program, Round}
use Rattle.effect.proofs.Laws.Rise.{NoErase}
use Rattle.effect.proofs.Laws.Straight.{keep_array}
use Rattle.frame.specs.Device.{Device}
use Rattle.frame.specs.Ran.{effect_at, ran_device}
use Rattle.frame.proofs.Laws.Array.{ran_array_protected, ran_no_bit_rises}
use Rattle.frame.proofs.Laws.Ran.{ran_is}
use Rattle.run.specs.Run.{step, run}
use Rattle.run.proofs.Laws.Run.{run_none, run_first, run_sound}
use Rattle.run.proofs.Laws.Trace.{step_frame, step_wait}
use Rattle.unread.specs.Unread.{Throughout, is_erase, is_erase_taken, NoEraseTaken, AlwaysProtected, is_write_enable, NoWriteEnable, NothingTurnsUnread}
use Rattle.unread.proofs.Laws.Disabled.{not_busy, frame_harmless}

-- the test, and the laws' word for it
pub erase_told : (e : Effect) → Exactly (is_erase e ≡ false) (NoErase e)
erase_told Keep = record { when = λ _. tt; only_when = λ _. refl }
erase_told (Fill a n) = record { when = λ e. true≢false e; only_when = λ never. absurd never }
erase_told (Program a n i) = record { when = λ _. tt; only_when = λ _. refl }
erase_told (Round a n) = record { when = λ _. tt; only_when = λ _. refl }

module _ (wp : Bool) where
  -- ---- one record

  step_ran : (f : List ℕ) (d : Device) → step wp (frame f) d ≡ ran_device wp f d
  step_ran f d = step_frame wp d f ∙ sym (ran_is wp f d)

  step_sound : (r : Record) (d : Device) → Sound d.state → Sound (step wp r d).state
  step_sound r d h = rw (run_first wp r [] d, run_none wp (step wp r d)) at (run_sound wp (r ∷ []) d h)

  step_no_rise : (k : ℕ) (r : Record) (d : Device) → is_erase_taken wp r d ≡ false → NoRise (get_or d.array k 0) (get_or (step wp r d).array k 0)
  step_no_rise k (frame f) d none = rw (step_ran f d) (ran_no_bit_rises wp f d ((erase_told (effect_at d.state wp f)).when none) k)
  step_no_rise k (wait n) d none = rw (step_wait wp d n) (no_rise_refl (get_or d.array k 0))

  step_protected : (k : ℕ) (r : Record) (d : Device) → Sound d.state → first_protected d.state ≤ k → get_or (step wp r d).array k 0 ≡ get_or d.array k 0
  step_protected k (frame f) d h above = rw (step_ran f d) (ran_array_protected wp f d h k above)
  step_protected k (wait n) d h above = rw (step_wait wp d n) refl

  -- WEL 0 before the record, and the record is no 06
  abbrev Disabled : Record → Device → Type 0
  Disabled r d = (d.state.wel ≡ false) × (is_write_enable r ≡ false)

  step_off : (r : Record) (d : Device) → Sound d.state → Disabled r d → ((step wp r d).array ≡ d.array) × ((step wp r d).state.wel ≡ false)
  step_off (frame f) d h off =
      let quiet = frame_harmless d.state off.0 wp f off.1 h in
      rw (step_frame wp d f) (rw quiet.keeps (keep_array f d.array), quiet.stays_off)
  -- time changes nothing of a chip that is not busy
  step_off (wait n) d h off = rw (step_wait wp d n) (refl, rw (time_idle d.state n (not_busy d.state off.0 h)) off.0)

  -- ---- any records

  -- what every record does to a sound chip that fulfils P before it, a run does that fulfils P throughout
  module _ (P : Record → Device → Type 0) (R : Device → Device → Type 0) (same : (d : Device) → R d d)
      (then : (x y z : Device) → R x y → R y z → R x z) (one : (r : Record) (d : Device) → Sound d.state → P r d → R d (step wp r d)) where
    run_by : (rs : List Record) (d : Device) → Sound d.state → Throughout P wp rs d → R d (run wp rs d)
    run_by [] d h t = rw (run_none wp d) (same d)
    run_by (r ∷ rs) d h t =
        rw (run_first wp r rs d)
        (then d (step wp r d) (run wp rs (step wp r d)) (one r d h t.0) (run_by rs (step wp r d) (step_sound r d h) t.1))

  -- ---- the clauses

  module _ (rs : List Record) (d : Device) (h : Sound d.state) where
    pub run_no_rise : NoEraseTaken wp rs d → (k : ℕ) → NoRise (get_or d.array k 0) (get_or (run wp rs d).array k 0)
    run_no_rise none k =
        run_by _ (λ x y. NoRise (get_or x.array k 0) (get_or y.array k 0)) (λ x. no_rise_refl (get_or x.array k 0))
        (λ x y z. no_rise_trans (get_or x.array k 0) (get_or y.array k 0) (get_or z.array k 0)) (λ r e _. step_no_rise k r e) rs d h none

    pub run_protected : (k : ℕ) → AlwaysProtected k wp rs d → get_or (run wp rs d).array k 0 ≡ get_or d.array k 0
    run_protected k always =
        run_by _ (λ x y. get_or y.array k 0 ≡ get_or x.array k 0) (λ x. refl) (λ x y z p q. q ∙ p) (step_protected k) rs d h always

  -- from the start on: no record but a 06 sets WEL
  disabled_throughout : (rs : List Record) (d : Device) → Sound d.state → d.state.wel ≡ false → NoWriteEnable rs → Throughout Disabled wp rs d
  disabled_throughout [] d h off none = tt
  disabled_throughout (r ∷ rs) d h off none =
      ((off, none.0), disabled_throughout rs (step wp r d) (step_sound r d h) (step_off r d h (off, none.0)).1 none.1)

  pub run_off : (rs : List Record) (d : Device) → Sound d.state → d.state.wel ≡ false → NoWriteEnable rs → (run wp rs d).array ≡ d.array
  run_off rs d h off none =
      run_by _ (λ x y. y.array ≡ x.array) (λ x. refl) (λ x y z p q. q ∙ p) (λ r e s off. (step_off r e s off).0) rs d h (disabled_throughout rs d h off none)

  pub run_unread : (rs : List Record) (d : Device) → Sound d.state → NothingTurnsUnread wp rs d (run wp rs d)
  run_unread rs d h = record {
    no_bit_rises = λ none k b zero. no_rise_bit _ _ b (run_no_rise rs d h none k) zero;
    protected_stays = run_protected rs d h;
    disabled_stays = run_off rs d h;
  }
