-- What an accepted frame does, by the command that it is; and the four modes of a chip.
-- Assumes nothing.
use mathlib.Core.Path.{◌≡◌, refl, sym, ap, ap₂, ◌∙◌}
use mathlib.Core.Bool.{Bool, true, false, cond}
use mathlib.Core.List.{List}
use Prim.Native.Nat.{ℕ, ◌<◌}
use native.Mathlib.Omega.{arith}
use lib.ListN.{length, get_or}
use borrow.Author.Tests.{ltb-true, ltb-false}
use Rattle.std.specs.Prelude.{Option, Some, None}
use Rattle.common.specs.Lists.{mapi}
use Rattle.common.proofs.Laws.Choice.{cases}
use Rattle.common.proofs.Laws.Lists.{tab_cong, mapi_cong}
use Rattle.state.specs.declared.State.{State}
use Rattle.state.specs.Soundness.{is_busy}
use Rattle.command.specs.declared.Command.{Command}
use Rattle.command.specs.Command.{command_of}
use Rattle.command.specs.Fits.{Resting}
use Rattle.registers.specs.Registers.{state_after}
use Rattle.registers.proofs.Laws.After.{after_ignored}
use Rattle.output.specs.Output.{byte_of, driven_of, memory, shown_at}
use Rattle.output.proofs.Laws.Shown.{shows_ignored}
use Rattle.effect.specs.declared.Effect.{Effect}
use Rattle.effect.specs.declared.Effect.TheVariants.{Keep}
use Rattle.effect.specs.Effect.{touches, changed}
use Rattle.effect.proofs.Laws.Effect.{changed_other}
use Rattle.effect.proofs.Laws.Straight.{keep_untouched}
use Rattle.frame.specs.Device.{Device, device}
use Rattle.frame.specs.Line.{Line, showing}
use Rattle.frame.specs.Effect.{effect_of}
use Rattle.frame.specs.Ran.{ran_device, shown_line}
use Rattle.frame.specs.Call.{Accepted, FrameRun}
use Rattle.frame.proofs.Laws.Call.{frame_accepted}
use Rattle.frame.proofs.Laws.Line.{line_same}
use Rattle.frame.proofs.Laws.Ran.{ran_is, shown_is}
use Rattle.rules.specs.Frames.{Change, unchanged, reads_as, marked_as, Does, Ignored}

-- ---- what a command does to the array

pub record Changes (c : Command) (f : List ℕ) (change : Change) : Type 0 where
  pub touched_is : (k : ℕ) → touches (effect_of c) k ≡ change.touched k
  pub byte_is_lem : (k x : ℕ) → changed (effect_of c) f k x ≡ cond (change.touched k) (change.becomes k x) x

pub changes_nothing : {c : Command} (f : List ℕ) → effect_of c ≡ Keep → Changes c f unchanged
changes_nothing {c} f e = record {
  touched_is = λ k. ap (λ (e : Effect). touches e k) e ∙ keep_untouched k;
  byte_is_lem = λ k x. ap (λ (e : Effect). changed e f k x) e ∙ changed_other Keep f k x (keep_untouched k);
}

-- ---- the two slices

reads_same : (shown : Option ℕ) → byte_of shown ≡ reads_as shown
reads_same None = refl
reads_same (Some byte) = refl

marks_same : (shown : Option ℕ) → driven_of shown ≡ marked_as shown
marks_same None = refl
marks_same (Some byte) = refl

-- ---- an accepted frame

module _ {wp : Bool} {f : List ℕ} {d : Device} {line : Line} (a : Accepted wp f d line) where
  pub done : FrameRun wp f d line 0 (ran_device wp f d) (shown_line wp f d)
  done = frame_accepted wp f d line a record { device_is = refl; line_is = refl }

  -- by the command that it is
  pub does : {c : Command} {shows : ℕ → Option ℕ} {registers : State} {change : Change} → command_of d.state wp f ≡ c
      → ((i : ℕ) → shown_at d.state c (memory d.array) i ≡ shows i) → state_after d.state c ≡ registers → Changes c f change
      → Does wp f d line shows registers change
  does {c} {shows} e shows_is registers_are changes = record {
    line_is =
        sym done.line_is
        ∙ shown_is wp f d
        ∙ ap (λ (c : Command). showing (length f) (shown_at d.state c (memory d.array))) e
        ∙ line_same (tab_cong (length f) _ _ (λ i. ap byte_of (shows_is i) ∙ reads_same (shows i)))
        (tab_cong (length f) _ _ (λ i. ap driven_of (shows_is i) ∙ marks_same (shows i)));
    device_is =
        sym done.device_is
        ∙ ran_is wp f d
        ∙ ap (λ (c : Command). device (state_after d.state c) (mapi (changed (effect_of c) f) d.array)) e
        ∙ ap₂ device registers_are (mapi_cong _ _ d.array (λ k _. changes.byte_is_lem k (get_or d.array k 0)));
    touched_are = λ k. ap (λ (c : Command). touches (effect_of c) k) e ∙ changes.touched_is k;
  }

  pub ignored : command_of d.state wp f ≡ Rattle.command.specs.declared.Command.TheVariants.Ignored → Ignored wp f d line
  ignored e = does e (λ i. shows_ignored d.state (memory d.array) i) (after_ignored d.state) (changes_nothing f refl)

  -- ---- which it is, by mode

  -- a sound chip is in one of four modes
  pub by_mode : {P : Type 0} → (0 < d.state.left → P) → (d.state.left ≡ 0 → d.state.aai ≡ true → P)
      → (d.state.left ≡ 0 → d.state.aai ≡ false → d.state.power_down ≡ true → P) → (Resting d.state → P) → P
  by_mode busy running asleep resting =
      cases (is_busy d.state) (λ e. busy (ltb-true 0 d.state.left e))
      (λ e. let still : d.state.left ≡ 0 = let l = ltb-false 0 d.state.left e in omega arith in
      cases d.state.aai (running still)
      (λ single. cases d.state.power_down (asleep still single) (λ awake. resting record { still = still; single = single; awake = awake })))
