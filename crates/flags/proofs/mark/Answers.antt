-- `flags::mark` meets its contract: a refusal, or the planner's answer for the sector as it stands where a record has the name, and with its record behind
-- the others where none has.
use mathlib.Core.Path.{◌≡◌, sym, ap, ◌∙◌}
use mathlib.Core.List.{List, [], ◌∷◌}
use Prim.Native.Nat.{ℕ, ◌+◌, ◌-◌, ◌≤◌, ◌<◌}
use native.Mathlib.Omega.{arith}
use lib.ListN.{length, take}
use Rattle.std.specs.Prelude.{Ok, Err}
use Rattle.common.proofs.Laws.Refusals.{number_some}
use Rattle.common.specs.Refusals.{records_too_long, first_of}
use Rattle.state.specs.declared.State.{State}
use Rattle.names.specs.Search.{Searched}
use Rattle.sectors.specs.Images.{sector_part, wanted_names, wanted_mark}
use Rattle.sectors.proofs.Laws.Images.{sector_long}
use Rattle.namechecks.specs.Refusals.{name_refusals, name_refusal, mark_refusal}
use Rattle.namechecks.proofs.Laws.Opened.{name_refusal_of}
use Rattle.flags.proofs.Laws.Answers.{
  mark_own,
  name_inside,
  name_short,
  mark_none_there,
  mark_full,
  mark_none_roomy,
  records_inside,
  found_wanted,
  appended_wanted,
  appended_long,
  name_marks_refused,
  name_marks_planned,
}
use Rattle.flags.proofs.mark.Goals as goal

-- behind the first test: no refusal about the name holds
module _ (s : State) (array : List ℕ) (sector : ℕ) (name : List ℕ) (told : 0 ≡ first_of (name_refusals s (length array) sector name)) where
  clear : name_refusal s array sector name ≡ 0
  clear = name_refusal_of s array sector name ∙ sym told

  inside : sector + 4096 ≤ length array
  inside = name_inside s array sector name clear

  -- the search in the sector
  module _ (image : List ℕ) (is : image ≡ sector_part array sector) where
    long : length image ≡ 4096
    long = ap length is ∙ sector_long array sector inside

    -- finds none that has the name
    module _ (end : ℕ) (found : Searched image name (Err end)) where
      none : Searched (sector_part array sector) name (Err end)
      none = rw is at found

      end_most : end ≤ 4096
      end_most = omega (arith, none.1, records_inside (sector_part array sector), sector_long array sector inside)

      full : 4096 - end < 3 + length name → mark_refusal s array sector name ≡ records_too_long
      full over = mark_full s array sector name clear none.0 (omega (arith, over, none.1, end_most))

      -- the sector with its record
      laid : (after : List ℕ) → after ≡ wanted_names image (take end image) (name ∷ []) → after ≡ wanted_mark (sector_part array sector) name
      laid after e = appended_wanted (sector_part array sector) name end none after (rw is at e)

      -- and it fits
      module _ (fits : 3 + length name ≤ 4096 - end) where
        roomy : end + (3 + length name) ≤ 4096
        roomy = omega (arith, fits, end_most)

        accepted : mark_refusal s array sector name ≡ 0
        accepted = mark_none_roomy s array sector name clear none.0 (omega (arith, roomy, none.1))

        laid_long : (after : List ℕ) → after ≡ wanted_names image (take end image) (name ∷ []) → length after ≡ 4096
        laid_long after e = ap length (laid after e) ∙ appended_long (sector_part array sector) name end none roomy

pub returns-in-Err : goal.returns-in-Err
returns-in-Err c =
    rw (c.refuse_plan.ensures, c.number.ensures)
    (name_marks_refused _ _ _ _ _ _ _ (number_some c.in-Err.refusal)
    (mark_own _ _ _ _ _ (number_some c.in-Err.refusal) (name_refusal_of _ _ _ _ ∙ sym c.in-Err.ensures)))

pub sector_at-image-requires : goal.sector_at-image-requires
sector_at-image-requires c = inside _ _ _ _ c.in_default.ensures

pub returns-in_default-find : goal.returns-in_default-find
returns-in_default-find c =
    let found : Searched (sector_part c.args.array.now c.args.sector) c.args.name.now (Ok c.in_default-find.field-0) = rw c.sector_at-image.ensures at c.in_default-find.ensures in
    name_marks_planned _ _ _ _ _ _ _ _ (mark_none_there _ _ _ _ (clear _ _ _ _ c.in_default.ensures) found.0)
    (rw (c.sector_at-image.ensures ∙ found_wanted _ _ _ found) at c.plan_update.ensures)

pub overflow_sub-records_end : goal.overflow_sub-records_end
overflow_sub-records_end c = end_most _ _ _ _ c.in_default.ensures _ c.sector_at-image.ensures _ c.in-Err-find.ensures

pub returns-then-records_end-name : goal.returns-then-records_end-name
returns-then-records_end-name c =
    rw (c.refuse_plan-then-records_end-name.ensures, c.number-then-records_end-name.ensures)
    (name_marks_refused _ _ _ _ _ _ _ (omega arith)
    (full _ _ _ _ c.in_default.ensures _ c.sector_at-image.ensures _ c.in-Err-find.ensures c.if-records_end-name.true))

pub append-requires : goal.append-requires
append-requires c = (
  c.blank-wanted.ensures,
  long _ _ _ _ c.in_default.ensures _ c.sector_at-image.ensures,
  name_short _ _ _ _ (clear _ _ _ _ c.in_default.ensures),
  roomy _ _ _ _ c.in_default.ensures _ c.sector_at-image.ensures _ c.in-Err-find.ensures c.if-records_end-name.false,
)

pub returns : goal.returns
returns c =
    name_marks_planned _ _ _ _ _ _ _ _ (accepted _ _ _ _ c.in_default.ensures _ c.sector_at-image.ensures _ c.in-Err-find.ensures c.if-records_end-name.false)
    (rw (laid _ _ _ _ c.in_default.ensures _ c.sector_at-image.ensures _ c.in-Err-find.ensures _ c.append.ensures) at c.plan_update-2.ensures)
