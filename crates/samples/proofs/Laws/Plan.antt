-- The planner's sample sessions hold: only the byte that is to change is looked at, and the rest computes.
-- Assumes nothing.
use mathlib.Core.Path.{◌≡◌, refl}
use native.Mathlib.Omega.{arith}
use lib.ListN.{get_or}
use Rattle.chip.specs.Chip.{chip_of, is_known}
use Rattle.state.specs.Protection.{first_protected}
use Rattle.state.specs.Soundness.{is_sound}
use Rattle.script.specs.Record.{encode_record, encode, frames_in, microseconds_in}
use Rattle.region.specs.Region.{wanted_at, changes, rises, any_of, wants_rise}
use Rattle.common.specs.Lists.{within}
use Rattle.plan.specs.Plan.{step_one_needed}
use Rattle.plan.specs.Refusals.{is_active, is_locked, bytes_needed, plan_refusal}
use Rattle.plan.specs.Update.{given_records}
use Rattle.samples.specs.Session.{Holds}
use Rattle.samples.specs.Table.{plan_session, protected_session}
use Rattle.samples.proofs.Laws.Plans.{words_open, page_protected}

pub plan_holds : Holds plan_session
unfolding chip_of is_known first_protected is_sound encode_record encode frames_in microseconds_in within wanted_at changes rises any_of wants_rise step_one_needed is_active is_locked bytes_needed plan_refusal given_records
plan_holds array n h =
    let e : get_or array 0x012345 0 ≡ 0xff = h 0x012345 (omega (arith, n)) in
    rw (words_open array e, n, e) ((refl, refl, refl, refl), tt)

pub protected_holds : Holds protected_session
unfolding chip_of is_known first_protected is_sound encode_record encode frames_in microseconds_in within wanted_at changes rises any_of wants_rise step_one_needed is_active is_locked bytes_needed plan_refusal given_records
protected_holds array n h =
    let e : get_or array 0x1234 0 ≡ 0xff = h 0x1234 (omega (arith, n)) in
    rw (page_protected array e, n, e) ((refl, refl, refl, refl), tt)
