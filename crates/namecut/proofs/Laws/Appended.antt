-- An accepted plan that appends records to a sector of a chip: from the planner's promises alone.
-- Assumes nothing.
use mathlib.Core.Path.{◌≡◌, ap, ◌∙◌}
use mathlib.Core.Bool.{Bool, true}
use mathlib.Core.List.{List}
use Prim.Native.Nat.{ℕ, ◌+◌, ◌≤◌, ◌<◌}
use native.Mathlib.Omega.{arith}
use lib.ListN.{length}
use Rattle.common.specs.Bits.{Bytes, bit_at}
use Rattle.state.specs.declared.Planned.{Planned}
use Rattle.promises.specs.Promises.{Device, WantedRises, BehindPlan, PlanAnswered, PlansUnless, Promises}
use Rattle.promises.proofs.Laws.Unless.{unless_none, unless_answered, unless_kept}
use Rattle.names.specs.Records.{records_bytes}
use Rattle.sectors.specs.Images.{sector_part, wanted_names}
use Rattle.namecut.specs.Leaves.{BesideSector}
use Rattle.sectors.proofs.Laws.Images.{sector_long, sector_at}
use Rattle.namecut.proofs.Laws.Between.{Between, same_size, between}
use Rattle.namecut.proofs.Laws.Grown.{Appending, Grown, grown}
use Rattle.namecut.proofs.Laws.Again.{wanted_long, wanted_bytes, again_falls}

-- ---- a plan of a whole sector

module _ (own : ℕ) (wp : Bool) (chip : Device) (sector : ℕ) (wanted buffer after : List ℕ) (r : Planned) (bytes : Bytes chip.array)
    (plans : PlansUnless own chip.state wp chip.array sector wanted buffer after r) (good : r.number ≡ 0)
    (fits : sector + 4096 ≤ length chip.array) (long : length wanted ≡ 4096) (wanted_are : Bytes wanted) where
  pub kept : Promises wp chip sector wanted (length buffer)
  kept = unless_kept own wp chip sector wanted buffer after r bytes plans good

  pub answered : PlanAnswered chip.state wp chip.array sector wanted buffer after r
  answered = unless_answered own chip.state wp chip.array sector wanted buffer after r plans (unless_none own chip.state wp chip.array sector wanted buffer after r plans good)

  pub nothing_rises : WantedRises chip.array sector wanted → ⊥
  nothing_rises = ((answered.accepted_exactly wanted_are).when good).falls

  module _ (done : Device) (behind : BehindPlan wp chip sector wanted done) where
    pub sector_between : Between (sector_part chip.array sector) wanted (sector_part done.array sector)
    sector_between = between kept fits long bytes wanted_are nothing_rises done behind

    pub fits_behind : sector + 4096 ≤ length done.array
    fits_behind = rw (same_size kept fits long done behind) fits

    pub sector_beside : BesideSector sector chip.array done.array
    sector_beside = record { same_length = same_size kept fits long done behind; same_beside = rw long at (kept.partway done behind).outside }

-- ---- that appends records

module _ (own : ℕ) (wp : Bool) (chip : Device) (sector : ℕ) (old new : List (List ℕ)) (buffer after : List ℕ) (r : Planned) (bytes : Bytes chip.array)
    (plans : PlansUnless own chip.state wp chip.array sector (wanted_names (sector_part chip.array sector) (records_bytes true old) new) buffer after r)
    (good : r.number ≡ 0) (fits : sector + 4096 ≤ length chip.array) (a : Appending (sector_part chip.array sector) old new)
    (done : Device) (behind : BehindPlan wp chip sector (wanted_names (sector_part chip.array sector) (records_bytes true old) new) done) where
  abbrev image : List ℕ
  image = sector_part chip.array sector

  abbrev wanted : List ℕ
  wanted = wanted_names image (records_bytes true old) new

  here : Between image wanted (sector_part done.array sector)
  here = sector_between own wp chip sector wanted buffer after r bytes plans good fits (wanted_long image old new a) (wanted_bytes image old new a) done behind

  inside : sector + 4096 ≤ length done.array
  inside = fits_behind own wp chip sector wanted buffer after r bytes plans good fits (wanted_long image old new a) (wanted_bytes image old new a) done behind

  pub appended : Grown image (sector_part done.array sector) old new
  appended = grown image (sector_part done.array sector) old new a (sector_long done.array sector inside) here

  pub appended_between : Between image wanted (sector_part done.array sector)
  appended_between = here

  pub appended_beside : BesideSector sector chip.array done.array
  appended_beside = sector_beside own wp chip sector wanted buffer after r bytes plans good fits (wanted_long image old new a) (wanted_bytes image old new a) done behind

  -- wanted again, no bit has to rise
  pub appended_falls : WantedRises done.array sector (wanted_names (sector_part done.array sector) (records_bytes true old) new) → length (wanted_names (sector_part done.array sector) (records_bytes true old) new) ≡ 4096 → ⊥
  appended_falls w long =
      let k : ℕ = w.place in
      let h : k < 4096 = omega (arith, w.inside, long) in
      again_falls image (sector_part done.array sector) old new a (sector_long done.array sector inside) here k w.bit h w.wanted_1
      (ap (λ (x : ℕ). bit_at x w.bit) (sector_at done.array sector inside k h) ∙ w.array_0)
