-- What a refused and what an accepted call leaves: nothing changed, or what the accepted frame does.
-- Assumes nothing.
use mathlib.Core.Path.{◌≡◌, refl, sym, ◌∙◌}
use mathlib.Core.Bool.{Bool}
use mathlib.Core.List.{List}
use Prim.Native.Nat.{ℕ, ◌<◌}
use native.Mathlib.Omega.{arith}
use lib.Dec.{eqb}
use borrow.Author.Tests.{eqb-true, eq-eqb, ne_eqb}
use Rattle.common.specs.declared.refusals.Refusal.{Refusal}
use Rattle.common.specs.Refusals.{number_of}
use Rattle.common.proofs.Laws.Choice.{cond_elim, yes, no}
use Rattle.frame.specs.Device.{Device}
use Rattle.frame.specs.Line.{Line}
use Rattle.frame.specs.Ran.{ran_device, FrameDone, torn_device, CutDone}
use Rattle.frame.specs.Call.{frame_number, Accepted, frame_device, frame_line_after, FrameRun, cut_number, CutAccepted, cut_device, cut_line_after, CutRun}
use Rattle.frame.proofs.Laws.Accepted.{number_accepted, accepted_number, cut_number_accepted, cut_accepted_number}

module _ (wp : Bool) (f : List ℕ) (d : Device) (line : Line) where
  pub frame_refused : (frame_number wp f d line ≡ 0 → ⊥) → FrameRun wp f d line (frame_number wp f d line) d line
  unfolding frame_device frame_line_after
  frame_refused h = let t = ne_eqb (frame_number wp f d line) 0 h in record { number_is = refl; device_is = no _ t refl; line_is = no _ t refl }

  pub frame_accepted : {after : Device} {line_after : Line} → Accepted wp f d line → FrameDone wp f d after line_after → FrameRun wp f d line 0 after line_after
  unfolding frame_device frame_line_after
  frame_accepted a done =
      let e = accepted_number wp f d line a in
      let t = eq-eqb (frame_number wp f d line) 0 e in
      record { number_is = sym e; device_is = yes _ t done.device_is; line_is = yes _ t done.line_is }

  -- "A refusal changes no buffer and returns the given state"
  pub frame_refusal_keeps : {number : ℕ} {after : Device} {line_after : Line} → FrameRun wp f d line number after line_after → 0 < number → (after ≡ d) × (line_after ≡ line)
  frame_refusal_keeps p some =
      let r = frame_refused (λ z. omega (arith, p.number_is, z, some)) in (p.device_is ∙ sym r.device_is, p.line_is ∙ sym r.line_is)

  -- what holds of the chip as it was, and of what an accepted frame leaves, holds of what the call leaves
  pub frame_either : (P : Device → Type 0) → P d → (Accepted wp f d line → P (ran_device wp f d)) → P (frame_device wp f d line)
  unfolding frame_device
  frame_either P same ran =
      cond_elim P (eqb (frame_number wp f d line) 0) (λ t. ran (number_accepted wp f d line (eqb-true (frame_number wp f d line) 0 t))) (λ _. same)

  module _ (mask : List ℕ) where
    pub cut_refused : (cut_number wp f mask d line ≡ 0 → ⊥) → CutRun wp f mask d line (cut_number wp f mask d line) d line
    unfolding cut_device cut_line_after
    cut_refused h = let t = ne_eqb (cut_number wp f mask d line) 0 h in record { number_is = refl; device_is = no _ t refl; line_is = no _ t refl }

    pub cut_accepted : {after : Device} {line_after : Line} → CutAccepted wp f mask d line → CutDone wp f mask d after line_after → CutRun wp f mask d line 0 after line_after
    unfolding cut_device cut_line_after
    cut_accepted a done =
        let e = cut_accepted_number wp f d line mask a in
        let t = eq-eqb (cut_number wp f mask d line) 0 e in
        record { number_is = sym e; device_is = yes _ t done.device_is; line_is = yes _ t done.line_is }

    pub cut_refusal_keeps : {number : ℕ} {after : Device} {line_after : Line} → CutRun wp f mask d line number after line_after → 0 < number → (after ≡ d) × (line_after ≡ line)
    cut_refusal_keeps p some =
        let r = cut_refused (λ z. omega (arith, p.number_is, z, some)) in (p.device_is ∙ sym r.device_is, p.line_is ∙ sym r.line_is)

    pub cut_either : (P : Device → Type 0) → P d → (CutAccepted wp f mask d line → P (torn_device wp f mask d)) → P (cut_device wp f mask d line)
    unfolding cut_device
    cut_either P same torn =
        cond_elim P (eqb (cut_number wp f mask d line) 0) (λ t. torn (cut_number_accepted wp f d line mask (eqb-true (cut_number wp f mask d line) 0 t)))
        (λ _. same)
