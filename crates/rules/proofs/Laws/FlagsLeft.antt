-- Flags by name: what a marking leaves, sent to the chip as a driver does or cut on the way, by the places of the sector.
-- Assumes nothing.
use mathlib.Core.Path.{◌≡◌, sym, ap, ◌∙◌}
use mathlib.Core.Bool.{Bool, true, false, not}
use mathlib.Core.List.{List, [], ◌∷◌, ◌++◌}
use mathlib.Core.Logic.{inl, inr, ⊎_elim}
use Prim.Native.Nat.{ℕ, ◌+◌, ◌≤◌}
use native.Mathlib.Omega.{arith}
use lib.Dec.{ltb}
use lib.ListN.{length, get_or}
use borrow.Author.Tests.{ltb-false}
use Rattle.common.specs.Bits.{Bytes}
use Rattle.common.specs.Refusals.{Exactly}
use Rattle.common.proofs.Laws.Booleans.{and_off, not_i}
use Rattle.common.proofs.Laws.Choice.{cases}
use Rattle.state.specs.declared.Planned.{Planned}
use Rattle.frame.specs.Device.{Device}
use Rattle.worst.specs.Worst.{room_enough}
use Rattle.powercut.specs.PowerCut.{Finished, BehindPlan}
use Rattle.names.specs.Records.{names_of, records_bytes}
use Rattle.names.specs.Search.{is_on}
use Rattle.names.proofs.Laws.Walk.{records_one}
use Rattle.sectors.specs.Images.{sector_part, wanted_mark}
use Rattle.sectors.proofs.Laws.Images.{sector_long, sector_at, mark_there}
use Rattle.namechecks.specs.Refusals.{mark_refusal}
use Rattle.namecut.specs.Leaves.{is_first_mark, MarkLeaves, NameAdded}
use Rattle.flags.proofs.Laws.Answers.{is_read_is}
use Rattle.namecut.proofs.Laws.Marking.{opened, inside, mark_leaves, mark_goes_on, want_long, on_last, mark_answered}
use Rattle.namecut.proofs.Laws.Added.{mark_adds, mark_done}
use Rattle.rules.specs.FlagsWanted.{sector_bytes, Member, NamesAre, records_length, Laid, Whole, MarkWants}
use Rattle.rules.specs.FlagsLeft.{Marking, MarkSent, MarkBehind, MarkLeft, MarkAgain, MarkAdded}
use Rattle.rules.specs.FlagsCalls.{WantedAnd}
use Rattle.rules.proofs.Laws.Worst.{worst_bytes_lem}
use Rattle.rules.proofs.Laws.FlagsRead.{sector_part_lem, means_member, means_no_member, sector_names_are, sector_names_only, records_measure, names_only}
use Rattle.rules.proofs.Laws.FlagsLaid.{padded_laid}
use Rattle.rules.proofs.Laws.FlagsWanted.{whole_exactly}
use Rattle.rules.proofs.Laws.FlagsPlans.{measure_more}
use Rattle.rules.proofs.Laws.FlagsCalls.{mark_it}
use Rattle.rules.proofs.Laws.FlagsSent.{Went, sent_went, behind_went, finished_behind, went_ready, went_sector, beside_names, beside_both, names_now}

-- ---- a marking

module _ (wp : Bool) (chip : Device) (sector : ℕ) (name : List ℕ) (bytes : Bytes chip.array) where
  abbrev before : List ℕ
  before = chip.array

  abbrev image : List ℕ
  image = sector_part before sector

  abbrev names : List (List ℕ)
  names = names_of image

  abbrev own : ℕ
  own = mark_refusal chip.state before sector name

  abbrev want : List ℕ
  want = wanted_mark image name

  module _ (done : Device) (w : Went own wp chip sector want (BehindPlan wp chip sector want done)) where
    leaves : MarkLeaves sector name before done.array
    leaves = mark_leaves wp chip sector name w.buffer w.after w.planned bytes w.unless w.accepted done w.behind

    room : is_on name names ≡ false → records_length names + (3 + length name) ≤ 4096
    room absent =
        let o = opened wp chip sector name w.buffer w.after w.planned bytes w.unless w.accepted in
        let long : ℕ = length (records_bytes true (names ++ (name ∷ []))) in
        omega (arith, ltb-false 4096 long (and_off (not (is_on name names)) (ltb 4096 long) o.roomy (not_i (is_on name names) absent)), measure_more names name)

    -- a byte is missing: it is the first plan
    torn_first : is_on name names ≡ false → (Whole (sector_bytes before sector) (records_length names) (name ∷ []) → ⊥) → is_first_mark before sector name ≡ true
    torn_first absent torn =
        let o = opened wp chip sector name w.buffer w.after w.planned bytes w.unless w.accepted in
        let sized = sector_long before sector (inside wp chip sector name w.buffer w.after w.planned bytes w.unless w.accepted) in
        let fits : length (records_bytes true names) + length (records_bytes false (name ∷ [])) ≤ length image =
        omega (arith, room absent, sized, records_measure names, ap length (records_one false name)) in
        cases (is_first_mark before sector name) (λ t. t)
        (λ f. absurd (torn (rw (sector_part_lem before sector, ← records_measure names) ((whole_exactly image (length (records_bytes true names)) (name ∷ []) (o.good, tt) fits).when f))))

    unchanged : Member name names → sector_bytes done.array sector ≡ sector_bytes before sector
    unchanged m =
        sector_part_lem done.array sector ∙ leaves.there_already (is_read_is before sector name ∙ (means_member name names).only_when m) ∙ sym (sector_part_lem before sector)

    mark_left : MarkLeft sector name before done.array
    mark_left = record {
      names = names;
      names_were = sector_names_are before sector;
      names_are = ⊎_elim (λ e. inl (names_now done.array sector names e)) (λ e. inr (names_now done.array sector (names ++ (name ∷ [])) e)) leaves.names_are;
      first_plan = λ never torn.
          let absent = (means_no_member name names).only_when never in
          names_now done.array sector names (leaves.first_plan (is_read_is before sector name ∙ absent) (torn_first absent torn));
      there = unchanged;
      beside = beside_names sector before done.array leaves.beside;
    }

    mark_again : MarkAgain sector name done
    unfolding room_enough
    mark_again =
        let on = mark_goes_on wp chip sector name w.buffer w.after w.planned bytes w.unless w.accepted done w.behind in
        record {
          never_8 = on.never_8;
          never_20 = on.never_20;
          accepted = λ wp₂ buffer after planned marks free enough.
              on.accepted wp₂ buffer after planned marks free (rw (worst_bytes_lem done.state (went_ready own wp chip sector want bytes w).sound) enough);
        }

  -- ---- both plans

  module _ (wp₂ : Bool) (mid done : Device) (first : Went own wp chip sector want (Finished wp chip sector want mid))
      (second : Went (mark_refusal mid.state mid.array sector name) wp₂ mid sector (wanted_mark (sector_part mid.array sector) name)
      (Finished wp₂ mid sector (wanted_mark (sector_part mid.array sector) name) done)) where
    abbrev first_behind : Went own wp chip sector want (BehindPlan wp chip sector want mid)
    first_behind = finished_behind own wp chip sector want mid first

    bytes_mid : Bytes mid.array
    bytes_mid = (went_ready own wp chip sector want bytes first_behind).bytes

    added : is_on name names ≡ false → NameAdded sector name before done.array
    added absent =
        mark_adds wp chip sector name first.buffer first.after first.planned bytes first.unless first.accepted mid first.behind absent
        wp₂ second.buffer second.after second.planned bytes_mid second.unless second.accepted done second.behind

    laid_now : is_on name names ≡ false → Laid (sector_bytes done.array sector) 0x4e 0x52 0 (names ++ (name ∷ []))
    laid_now absent =
        rw (sector_part_lem done.array sector, (added absent).sector_is)
        (padded_laid true [] (names ++ (name ∷ [])) (omega (arith, room mid first_behind absent, measure_more names name)))

-- sent twice
pub mark_added : (wp wp₂ : Bool) (chip mid done : Device) (sector : ℕ) (name : List ℕ) → Bytes chip.array
    → MarkSent wp chip sector name mid
    → MarkSent wp₂ mid sector name done → MarkAdded sector name chip.array done.array
mark_added wp wp₂ chip mid done sector name bytes p q =
    let names : List (List ℕ) = names_of (sector_part chip.array sector) in
    let first = sent_went (mark_refusal chip.state chip.array sector name) wp chip sector (wanted_mark (sector_part chip.array sector) name) p in
    let second = sent_went (mark_refusal mid.state mid.array sector name) wp₂ mid sector (wanted_mark (sector_part mid.array sector) name) q in
    let behind = finished_behind (mark_refusal chip.state chip.array sector name) wp chip sector (wanted_mark (sector_part chip.array sector) name) mid first in
    let behind₂ = finished_behind (mark_refusal mid.state mid.array sector name) wp₂ mid sector (wanted_mark (sector_part mid.array sector) name) done second in
    let between = bytes_mid wp chip sector name bytes wp₂ mid done first second in
    record {
      names = names;
      names_were = sector_names_are chip.array sector;
      appended = λ never.
          names_now done.array sector (names ++ (name ∷ []))
          (added wp chip sector name bytes wp₂ mid done first second ((means_no_member name names).only_when never)).names_are;
      there = λ m.
          let same = unchanged wp chip sector name bytes mid behind m in
          let still : Member name (names_of (sector_part mid.array sector)) =
          rw (ap names_of (sym (sector_part_lem mid.array sector) ∙ same ∙ sector_part_lem chip.array sector)) m in
          unchanged wp₂ mid sector name between done behind₂ still ∙ same;
      beside = beside_both (mark_left wp chip sector name bytes mid behind).beside (mark_left wp₂ mid sector name between done behind₂).beside;
    }

-- sent or cut
module _ (wp : Bool) (chip : Device) (sector : ℕ) (name : List ℕ) (after : Device) (bytes : Bytes chip.array)
    (b : MarkBehind wp chip sector name after) where
  went : Went (mark_refusal chip.state chip.array sector name) wp chip sector (wanted_mark (sector_part chip.array sector) name)
      (BehindPlan wp chip sector (wanted_mark (sector_part chip.array sector) name) after)
  went = behind_went (mark_refusal chip.state chip.array sector name) wp chip sector (wanted_mark (sector_part chip.array sector) name) b

  pub marking_left : MarkLeft sector name chip.array after.array
  marking_left = mark_left wp chip sector name bytes after went

  pub marking_again : MarkAgain sector name after
  marking_again = mark_again wp chip sector name bytes after went

-- an accepted one is the empty script exactly where a record has the name
pub mark_empty : (wp : Bool) (chip : Device) (sector : ℕ) (name buffer after : List ℕ) (planned : Planned) → Bytes chip.array
    → Marking wp chip sector name buffer after planned → planned.number ≡ 0 → (names : List (List ℕ)) → NamesAre (sector_bytes chip.array sector) 0 names
    → Exactly (planned.length ≡ 0) (Member name names)
mark_empty wp chip sector name buffer after planned bytes marks good names are =
    let image : List ℕ = sector_part chip.array sector in
    let fits = inside wp chip sector name buffer after planned bytes marks good in
    let sized = sector_long chip.array sector fits in
    rw (sector_names_only chip.array sector names are)
    record {
      when = λ empty. (means_member name (names_of image)).when (mark_done wp chip sector name buffer after planned bytes marks good empty);
      only_when = λ m.
          let is = mark_there image name ((means_member name (names_of image)).only_when m) in
          ((mark_answered wp chip sector name buffer after planned bytes marks good).empty_exactly good).only_when
          (λ k h. sym (sector_at chip.array sector fits k (omega (arith, h, ap length is, sized))) ∙ ap (λ (l : List ℕ). get_or l k 0) (sym is));
    }

pub mark_laid : (wp wp₂ : Bool) (chip mid done : Device) (sector : ℕ) (name : List ℕ) → Bytes chip.array → MarkSent wp chip sector name mid
    → MarkSent wp₂ mid sector name done → (names : List (List ℕ)) → NamesAre (sector_bytes chip.array sector) 0 names → (Member name names → ⊥)
    → Laid (sector_bytes done.array sector) 0x4e 0x52 0 (names ++ (name ∷ []))
mark_laid wp wp₂ chip mid done sector name bytes p q names are never =
    let is = sector_names_only chip.array sector names are in
    let there : List (List ℕ) = names_of (sector_part chip.array sector) in
    let new : Member name there → ⊥ = rw is at never in
    let first = sent_went (mark_refusal chip.state chip.array sector name) wp chip sector (wanted_mark (sector_part chip.array sector) name) p in
    let second = sent_went (mark_refusal mid.state mid.array sector name) wp₂ mid sector (wanted_mark (sector_part mid.array sector) name) q in
    rw is (laid_now wp chip sector name bytes wp₂ mid done first second ((means_no_member name there).only_when new))

-- one plan sent: the sector is as wanted
pub mark_sent : (wp : Bool) (chip done : Device) (sector : ℕ) (name : List ℕ) → Bytes chip.array → MarkSent wp chip sector name done
    → WantedAnd (MarkWants (sector_bytes chip.array sector) name) (λ wanted. sector_bytes done.array sector ≡ wanted)
mark_sent wp chip done sector name bytes s =
    let want : List ℕ = wanted_mark (sector_part chip.array sector) name in
    let own : ℕ = mark_refusal chip.state chip.array sector name in
    let w = sent_went own wp chip sector want s in
    record {
      wanted = want;
      wants = mark_it chip.state chip.array sector name (opened wp chip sector name w.buffer w.after w.planned bytes w.unless w.accepted);
      holds = went_sector own wp chip sector want done bytes (inside wp chip sector name w.buffer w.after w.planned bytes w.unless w.accepted)
          (want_long wp chip sector name w.buffer w.after w.planned bytes w.unless w.accepted) w;
    }

-- cut, and then both plans sent
pub mark_finishes : (wp wp₂ wp₃ : Bool) (chip lost mid done : Device) (sector : ℕ) (name : List ℕ) → Bytes chip.array → MarkBehind wp chip sector name lost
    → MarkSent wp₂ lost sector name mid → MarkSent wp₃ mid sector name done → MarkAdded sector name chip.array done.array
mark_finishes wp wp₂ wp₃ chip lost mid done sector name bytes b p q =
    let own : ℕ = mark_refusal chip.state chip.array sector name in
    let want : List ℕ = wanted_mark (sector_part chip.array sector) name in
    let left = marking_left wp chip sector name lost bytes b in
    let behind = (went_ready own wp chip sector want bytes (behind_went own wp chip sector want b)).bytes in
    let more = mark_added wp₂ wp₃ lost mid done sector name behind p q in
    let same_names : (names : List (List ℕ)) → NamesAre (sector_bytes lost.array sector) 0 names → more.names ≡ names =
    λ names are. names_only (sector_bytes lost.array sector) 0 more.names names more.names_were are in
    record {
      names = left.names;
      names_were = left.names_were;
      appended = λ never.
          ⊎_elim
          (λ are. let is = same_names left.names are in
          let new : Member name more.names → ⊥ = rw is never in
          let now : NamesAre (sector_bytes done.array sector) 0 (left.names ++ (name ∷ [])) = rw is at (more.appended new) in
          now)
          (λ are. let is = same_names (left.names ++ (name ∷ [])) are in
          let on : Member name (left.names ++ (name ∷ [])) = (means_member name (left.names ++ (name ∷ []))).when (on_last name left.names) in
          let old : Member name more.names = rw is on in
          rw (more.there old) are)
          left.names_are;
      there = λ m.
          let unmoved = left.there m in
          let are : NamesAre (sector_bytes lost.array sector) 0 left.names = rw unmoved left.names_were in
          let old : Member name more.names = rw (same_names left.names are) m in
          more.there old ∙ unmoved;
      beside = beside_both left.beside more.beside;
    }
