-- A chip that a cut has met, powered up: planning again is accepted with 22 bytes more room or more than that, and that plan completes the update.
-- Assumes nothing.
use mathlib.Core.Path.{◌≡◌, refl, sym, ◌∙◌}
use mathlib.Core.Bool.{Bool, true, false, not, ◌&&◌, true≢false}
use mathlib.Core.List.{List}
use mathlib.Core.Logic.{◌⊎◌, inl, inr, ⊎_elim}
use Prim.Native.Nat.{ℕ, ◌+◌, ◌≤◌, ◌<◌}
use native.Mathlib.Nat.{le_refl}
use native.Mathlib.Omega.{arith}
use lib.ListN.{length}
use Rattle.common.proofs.Laws.Choice.{cases}
use Rattle.common.proofs.Laws.Places.{within_bounds}
use Rattle.chip.proofs.Laws.Chip.{Timed, timed_or_at_once}
use Rattle.state.specs.declared.State.{State}
use Rattle.state.specs.State.{data_of}
use Rattle.state.specs.Power.{at_rest, powered_up}
use Rattle.state.specs.Protection.{first_protected}
use Rattle.state.proofs.Laws.Power.{powered_up_sound, powered_up_keeps, powered_up_new}
use Rattle.state.proofs.Laws.Protection.{first_by, open_at_0}
use Rattle.state.proofs.Laws.Soundness.{of_sound}
use Rattle.common.specs.Bits.{Bytes}
use Rattle.frame.specs.Device.{Device, with_state}
use Rattle.region.specs.Region.{wanted_at, changes}
use Rattle.region.proofs.Laws.Region.{change_in_region}
use Rattle.plan.specs.Plan.{step_one_needed, plan_records}
use Rattle.plan.specs.Refusals.{is_active, Accepted}
use Rattle.plan.proofs.Laws.Steps.{not_needed_free, free_not_needed}
use Rattle.plan.proofs.Laws.Refusals.{of_accepted}
use Rattle.powercut.specs.PowerCut.{Recovers, ReadyToPlan}
use Rattle.powercut.proofs.Laws.States.{standing, rest}
use Rattle.powercut.proofs.Laws.Near.{near_bytes}
use Rattle.powercut.proofs.Laws.Safe.{Task, Safe}
use Rattle.powercut.proofs.Laws.Region.{partway, changes_fewer, falls_still, updated_same}
use Rattle.powercut.proofs.Laws.Length.{plan_22_longer}
use Rattle.powercut.proofs.Laws.Completes.{completes}
use Rattle.powercut.proofs.Laws.PlanRun.{task}

-- what power-up leaves: a chip at rest, whose BPL is 0, or whose bits are those of the moment
record Awake (s now : State) : Type 0 where
  bp : ℕ
  tb : Bool
  bpl : Bool
  is : now ≡ at_rest s.chip bp tb bpl
  lock : (bpl ≡ false) ⊎ ((bp ≡ s.bp) × (bpl ≡ s.bpl))
  kept : (data_of s).keeps ≡ true → bp ≡ s.bp

awake : (s : State) → Awake s (powered_up s)
awake s =
    cases (data_of s).keeps
    (λ k. record { bp = s.bp; tb = s.tb; bpl = s.bpl; is = powered_up_keeps s k; lock = inr (refl, refl); kept = λ _. refl })
    (λ k. record { bp = (data_of s).new_level; tb = false; bpl = false; is = powered_up_new s k; lock = inl refl; kept = λ e. absurd (true≢false (sym e ∙ k)) })

-- of three, the last two don't hold together
off : (a b c : Bool) → b && c ≡ false → a && b && c ≡ false
off true b c e = e
off false b c e = refl

module _ (given : Device) (bp : ℕ) (wel armed : Bool) (wp : Bool) (start : ℕ) (wanted : List ℕ) (room : ℕ) (bytes : Bytes given.array)
    (accepted : Accepted (rest given.state bp wel armed) wp given.array start wanted room) where
  abbrev s : State
  s = rest given.state bp wel armed

  abbrev array : List ℕ
  array = given.array

  abbrev t : Task
  t = task given bp wel armed wp start wanted room bytes accepted

  fits : start + length wanted ≤ length array
  fits = rw accepted.region.sized accepted.region.fits

  module _ (d : Device) (safe : Safe t d) where
    abbrev woken : Awake d.state (powered_up d.state)
    woken = awake d.state

    abbrev again : State
    again = at_rest d.state.chip woken.bp woken.tb woken.bpl

    abbrev now : List ℕ
    now = d.array

    fewer : (k : ℕ) → changes now start wanted k ≡ true → changes array start wanted k ≡ true
    fewer = changes_fewer array start wanted bytes now safe.near fits

    -- refusal 9: BPL is 0, or the bits are the given ones and fewer bytes change, or BP is 000
    free_again : (k : ℕ) → step_one_needed s array start wanted ≡ false → woken.bp ≡ d.state.bp → changes now start wanted k ≡ true → k < first_protected again
    free_again k needed e c =
        ⊎_elim (λ h. rw (first_by again s safe.held.same_chip (e ∙ h)) (not_needed_free s array start wanted needed k (fewer k c)))
        (λ h. let b = within_bounds start (length wanted) k (change_in_region now start wanted k c) in
        rw (open_at_0 again (e ∙ h), safe.held.same_chip) (omega (arith, accepted.region.fits))) safe.held.now.level_held

    writable_again : step_one_needed again now start wanted && again.bpl && not wp ≡ false
    writable_again =
        ⊎_elim (λ e. off (step_one_needed again now start wanted) woken.bpl (not wp) (rw e refl))
        (λ e. cases (step_one_needed s array start wanted)
        (λ needed. off (step_one_needed again now start wanted) woken.bpl (not wp) (rw (e.1, safe.held.now.same_bpl) (rw needed at accepted.writable)))
        (λ needed. rw (free_not_needed again now start wanted (λ k c. free_again k needed e.0 c)) refl)) woken.lock

    -- refusal 10: a chip whose status write takes time keeps its bits, so it needs step 1 now only if it did before
    needed_before : Timed (data_of again) → step_one_needed again now start wanted ≡ true → step_one_needed s array start wanted ≡ true
    needed_before timed needed =
        cases (step_one_needed s array start wanted) (λ e. e)
        (λ e. let kept = woken.kept timed.keeps_bits in
        absurd (true≢false (sym needed ∙ free_not_needed again now start wanted (λ k c. free_again k e kept c))))

    accepted_again : (more : ℕ) → room + 22 ≤ more → Accepted again wp now start wanted more
    accepted_again more enough = record {
      region = record {
        sound = of_sound again (rw woken.is at (powered_up_sound d.state safe.sound));
        sized = safe.near.same_length ∙ rw safe.held.same_chip accepted.region.sized;
        short = accepted.region.short;
        fits = rw safe.held.same_chip accepted.region.fits;
        ready = refl;
        no_aai = refl;
        awake = refl;
        falls = falls_still array start wanted bytes now safe.near fits accepted.region.falls;
      };
      writable = writable_again;
      roomy = omega (
        arith,
        accepted.roomy,
        plan_22_longer now array start wanted fewer again s safe.held.same_chip
            (⊎_elim (λ timed. inr (needed_before timed)) inl (timed_or_at_once again.chip)),
      );
    }

    pub recovers : Recovers plan_records wp array start wanted (room + 22) (with_state d (powered_up d.state))
    recovers =
        rw woken.is
        record {
          partway = partway array start wanted bytes now safe.near fits;
          accepted = λ more enough. of_accepted again now start wanted wp more (accepted_again more enough);
          completes = rw (← (updated_same array start wanted bytes now safe.near))
              (completes (standing d again now) woken.bp false false wp start wanted (room + 22) (near_bytes array (wanted_at start wanted) now safe.near bytes)
              (accepted_again (room + 22) (le_refl (room + 22))));
        }

    -- and the chip is ready for any other plan
    pub ready_again : ReadyToPlan s.chip (with_state d (powered_up d.state))
    unfolding is_active
    ready_again =
        let a = (accepted_again (room + 22) (le_refl (room + 22))).region in
        rw woken.is
        record {
          same_chip = safe.held.same_chip;
          sound = a.sound;
          at_rest = refl;
          sized = a.sized;
          bytes = near_bytes array (wanted_at start wanted) now safe.near bytes;
        }
