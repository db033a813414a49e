-- Flags by name: a call's script, sent to the chip as a driver does or cut on the way: the chips that the planner's promises speak of.
-- Assumes nothing.
use mathlib.Core.Path.{◌≡◌, ◌∙◌}
use mathlib.Core.Bool.{Bool}
use mathlib.Core.List.{List}
use mathlib.Core.Logic.{inl, inr}
use Prim.Native.Nat.{ℕ, ◌+◌, ◌≤◌}
use lib.ListN.{length, take}
use Rattle.common.specs.Bits.{Bytes}
use Rattle.common.proofs.Laws.Places.{within_below, within_above}
use Rattle.state.specs.declared.Planned.{Planned}
use Rattle.frame.specs.Device.{Device}
use Rattle.plan.specs.Update.{PlanUpdated, Plans}
use Rattle.powercut.specs.PowerCut.{Finished, PowerLost, BehindPlan}
use Rattle.powercut.proofs.Laws.Calls.{accepted_run_finished}
use Rattle.promises.specs.Promises.{ReadyToPlan, PlansUnless}
use Rattle.promises.proofs.Laws.Unless.{unless_none, unless_kept}
use Rattle.names.specs.Records.{names_of}
use Rattle.sectors.specs.Images.{sector_part}
use Rattle.namecut.specs.Leaves.{BesideSector}
use Rattle.namecut.proofs.Laws.Between.{finished_sector}
use Rattle.rules.specs.Driver.{CutAt}
use Rattle.rules.specs.FlagsWanted.{sector_bytes, NamesAre}
use Rattle.rules.specs.FlagsLeft.{Done, sent, run, Sent, Behind, BesideNames}
use Rattle.rules.proofs.Laws.Driver.{sent_finished, cut_lost}
use Rattle.rules.proofs.Laws.FlagsRead.{sector_part_lem, sector_names_are}

-- a call's accepted plan for a chip, and the chip behind its script
pub record Went (own : ℕ) (wp : Bool) (chip : Device) (start : ℕ) (wanted : List ℕ) (Behind : Type 0) : Type 0 where
  pub buffer : List ℕ
  pub after : List ℕ
  pub planned : Planned
  pub unless : PlansUnless own chip.state wp chip.array start wanted buffer after planned
  pub accepted : planned.number ≡ 0
  pub behind : Behind

module _ (own : ℕ) (wp : Bool) (chip : Device) (start : ℕ) (wanted : List ℕ) where
  abbrev Answer : List ℕ → List ℕ → Planned → Type 0
  Answer buffer after planned = PlansUnless own chip.state wp chip.array start wanted buffer after planned

  module _ (buffer after : List ℕ) (planned : Planned) (u : Answer buffer after planned) (good : planned.number ≡ 0) where
    plan_of : PlanUpdated chip.state wp chip.array start wanted buffer after planned
    unfolding Plans
    plan_of = u.planned (unless_none own chip.state wp chip.array start wanted buffer after planned u good)

    pub done_finished : {done : Device} → Done wp (take planned.length after) chip done → Finished wp chip start wanted done
    done_finished (sent to end) = sent_finished wp chip start wanted buffer after planned plan_of good to end
    done_finished (run {line = line} ran accepted) = accepted_run_finished wp chip start wanted buffer after planned plan_of good line ran accepted

    pub lost_power : {lost : Device} → CutAt wp (take planned.length after) chip lost → PowerLost wp chip start wanted lost
    lost_power cut = cut_lost wp chip start wanted buffer after planned plan_of good cut

  pub sent_went : {done : Device} → Sent (λ buffer after planned. Answer buffer after planned) wp chip done → Went own wp chip start wanted (Finished wp chip start wanted done)
  sent_went s = record {
    buffer = s.buffer;
    after = s.after;
    planned = s.planned;
    unless = s.answers;
    accepted = s.accepted;
    behind = done_finished s.buffer s.after s.planned s.answers s.accepted s.finished;
  }

  pub behind_went : {done : Device} → Behind (λ buffer after planned. Answer buffer after planned) wp chip done
      → Went own wp chip start wanted (BehindPlan wp chip start wanted done)
  behind_went (inl s) = record {
    buffer = s.buffer;
    after = s.after;
    planned = s.planned;
    unless = s.answers;
    accepted = s.accepted;
    behind = inl (done_finished s.buffer s.after s.planned s.answers s.accepted s.finished);
  }
  behind_went (inr l) = record {
    buffer = l.buffer;
    after = l.after;
    planned = l.planned;
    unless = l.answers;
    accepted = l.accepted;
    behind = inr (lost_power l.buffer l.after l.planned l.answers l.accepted l.cut);
  }

  pub finished_behind : (done : Device) → Went own wp chip start wanted (Finished wp chip start wanted done)
      → Went own wp chip start wanted (BehindPlan wp chip start wanted done)
  finished_behind done w = record {
    buffer = w.buffer;
    after = w.after;
    planned = w.planned;
    unless = w.unless;
    accepted = w.accepted;
    behind = inl w.behind;
  }

  -- the chip is one that the next plan can be made for
  pub went_ready : {done : Device} → Bytes chip.array → Went own wp chip start wanted (BehindPlan wp chip start wanted done) → ReadyToPlan chip.state.chip done
  went_ready {done} bytes w = (unless_kept own wp chip start wanted w.buffer w.after w.planned bytes w.unless w.accepted).ready done w.behind

-- sent to its end, the sector is as wanted
pub went_sector : (own : ℕ) (wp : Bool) (chip : Device) (sector : ℕ) (wanted : List ℕ) (done : Device) → Bytes chip.array → sector + 4096 ≤ length chip.array
    → length wanted ≡ 4096 → Went own wp chip sector wanted (Finished wp chip sector wanted done) → sector_bytes done.array sector ≡ wanted
went_sector own wp chip sector wanted done bytes fits long w =
    sector_part_lem done.array sector
    ∙ finished_sector (unless_kept own wp chip sector wanted w.buffer w.after w.planned bytes w.unless w.accepted) fits long done w.behind

-- ---- a sector

pub beside_names : (sector : ℕ) (before after : List ℕ) → BesideSector sector before after → BesideNames sector before after
beside_names sector before after b = record {
  same_length = b.same_length;
  below = λ k h. b.same_beside k (within_below sector 4096 k h);
  above = λ k h. b.same_beside k (within_above sector 4096 k h);
}

pub beside_both : {sector : ℕ} {first second third : List ℕ} → BesideNames sector first second → BesideNames sector second third → BesideNames sector first third
beside_both p q = record {
  same_length = q.same_length ∙ p.same_length;
  below = λ k h. q.below k h ∙ p.below k h;
  above = λ k h. q.above k h ∙ p.above k h;
}

-- the names of a sector, where they are known
pub names_now : (array : List ℕ) (sector : ℕ) (names : List (List ℕ)) → names_of (sector_part array sector) ≡ names → NamesAre (sector_bytes array sector) 0 names
names_now array sector names e = rw e at (sector_names_are array sector)
