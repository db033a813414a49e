-- A script sent record by record, and cut: the chips that the planner's promises speak of.
-- Assumes nothing.
use mathlib.Core.Path.{◌≡◌, refl, sym, ◌∙◌}
use mathlib.Core.Bool.{Bool}
use mathlib.Core.List.{List}
use mathlib.Core.Logic.{inr}
use Prim.Native.Nat.{ℕ}
use lib.ListN.{length, take}
use Rattle.common.specs.Bits.{Bytes}
use Rattle.std.specs.Prelude.{None, Ok}
use Rattle.script.specs.Reader.{record_at}
use Rattle.frame.specs.Device.{Device}
use Rattle.run.proofs.Laws.Prefix.{RunTo, run_to_frame, run_to_wait}
use Rattle.state.specs.declared.Planned.{Planned}
use Rattle.plan.specs.Update.{PlanUpdated}
use Rattle.powercut.specs.PowerCut.{Finished, PowerLost}
use Rattle.powercut.proofs.Laws.Calls.{plan_begun, accepted_run_finished, next_is_read, next_frame_accepted, all_run_finished, power_up_lost, cut_frame_lost, cut_wait_lost}
use Rattle.promises.proofs.Laws.Promises.{promises_kept}
use Rattle.rules.proofs.Laws.Lines.{long_of_both}
use Rattle.rules.specs.Driver.{SentTo, none, sends, waits, CutAt, between, inside, during}
use Rattle.rules.specs.Demands.{NoCutHurts}

module _ (wp : Bool) (chip : Device) (start : ℕ) (wanted buffer after : List ℕ) (planned : Planned)
    (plans : PlanUpdated chip.state wp chip.array start wanted buffer after planned) (good : planned.number ≡ 0) where
  abbrev script : List ℕ
  script = take planned.length after

  run_to : {at : ℕ} {met : Device} → SentTo wp script chip at met → RunTo wp script chip at met
  run_to none = plan_begun wp chip start wanted buffer after planned plans good
  run_to (sends before e ran) = run_to_frame (run_to before) e ran refl
  run_to (waits before e) = run_to_wait (run_to before) e refl

  -- sent to its end
  pub sent_finished : {at : ℕ} {met : Device} → SentTo wp script chip at met → record_at script at ≡ Ok None → Finished wp chip start wanted met
  sent_finished {at} {met} sent e = all_run_finished wp chip start wanted buffer after planned plans good at met (run_to sent) e

  -- cut on the way
  pub cut_lost : {lost : Device} → CutAt wp script chip lost → PowerLost wp chip start wanted lost
  cut_lost (between {at} {met} sent) = power_up_lost wp chip start wanted buffer after planned plans good at met (run_to sent) _ refl
  cut_lost (inside {at} {met = met} {mask = mask} {line = line} sent e bytes ran) =
      cut_frame_lost wp chip start wanted buffer after planned plans good at met (run_to sent) e mask line bytes ran refl
  cut_lost (during {at} {m = m} {met = met} sent e part) =
      cut_wait_lost wp chip start wanted buffer after planned plans good at met (run_to sent) e m part _ _ refl refl

-- demand 3, from what the calls answer
pub no_cut_hurts : (wp : Bool) (chip : Device) (start : ℕ) (wanted buffer after : List ℕ) (planned : Planned) → Bytes chip.array
    → PlanUpdated chip.state wp chip.array start wanted buffer after planned → planned.number ≡ 0
    → NoCutHurts wp chip start wanted (length buffer) (take planned.length after)
no_cut_hurts wp chip start wanted buffer after planned bytes plans good =
    let kept = promises_kept wp chip start wanted (length buffer) bytes (sym plans.number ∙ good) in
    let lost_by : (lost : Device) → CutAt wp (take planned.length after) chip lost → PowerLost wp chip start wanted lost =
    λ lost c. cut_lost wp chip start wanted buffer after planned plans good c in
    record {
      each_read = λ at met sent.
          next_is_read wp chip start wanted buffer after planned plans good at met (run_to wp chip start wanted buffer after planned plans good sent);
      each_accepted = λ at begin n next met line sent e long.
          next_frame_accepted wp chip start wanted buffer after planned plans good at met (run_to wp chip start wanted buffer after planned plans good sent) e line (long_of_both long);
      cut = λ lost c. kept.partway lost (inr (lost_by lost c));
      again = λ lost room written answer c enough again. again.number ∙ kept.again lost (lost_by lost c) (length room) enough;
      finished = λ lost room written answer at met c again accepted sent e.
          kept.completed lost met (lost_by lost c) (sent_finished wp lost start wanted room written answer again accepted sent e);
      uncut = λ at met sent e. kept.finished met (sent_finished wp chip start wanted buffer after planned plans good sent e);
      run_uncut = λ line ran left shown runs accepted.
          kept.finished left (accepted_run_finished wp chip start wanted buffer after planned plans good line runs accepted);
    }
