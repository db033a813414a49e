-- An interrupted frame, from what the whole one does.
-- Assumes nothing.
use mathlib.Core.Path.{◌≡◌, refl, sym, ap, ◌∙◌}
use mathlib.Core.Bool.{Bool, true, false, cond}
use mathlib.Core.List.{List}
use Prim.Native.Nat.{ℕ, ◌+◌, ◌<◌}
use native.Mathlib.Omega.{arith}
use lib.Dec.{eqb}
use lib.ListN.{length, get_or}
use borrow.Author.Tests.{ne_eqb}
use Rattle.std.specs.Prelude.{Option}
use Rattle.common.specs.Bits.{Bytes, bit_at}
use Rattle.common.specs.Lists.{count_below}
use Rattle.common.specs.Refusals.{wrong_mask}
use Rattle.common.proofs.Laws.Lists.{length_mapi, get_d_mapi}
use Rattle.common.proofs.Laws.Places.{count_sum, count_none}
use Rattle.state.specs.declared.State.{State}
use Rattle.state.specs.declared.Answer.{Answer}
use Rattle.state.specs.Power.{powered_up}
use Rattle.state.proofs.Laws.Power.{power_up_granted}
use Rattle.command.specs.Command.{command_of}
use Rattle.command.proofs.Laws.Fits.{fits}
use Rattle.effect.specs.declared.Effect.{Effect}
use Rattle.effect.specs.Effect.{touches, changed}
use Rattle.effect.specs.Cut.{cut}
use Rattle.effect.proofs.Laws.Effect.{cut_other}
use Rattle.effect.proofs.Laws.Mask.{mask_length_counts}
use Rattle.effect.proofs.Laws.Cut.{cut_bit}
use Rattle.frame.specs.Device.{Device}
use Rattle.frame.specs.Line.{Line}
use Rattle.frame.specs.Cut.{is_status_cycle, Masked}
use Rattle.frame.proofs.Laws.Cut.{cut_of_other}
use Rattle.frame.specs.Ran.{effect_at, state_at, ran_device, shown_line, mask_wanted, torn_device}
use Rattle.frame.specs.Call.{Accepted, cut_number, cut_device, FrameRun, CutRun}
use Rattle.frame.proofs.Laws.Inside.{effect_inside}
use Rattle.frame.proofs.Laws.Accepted.{cut_number_unmasked}
use Rattle.frame.proofs.Laws.Call.{frame_accepted, cut_accepted}
use Rattle.frame.proofs.Laws.Ran.{ran_is, ran_sound, torn_is}
use Rattle.rules.specs.Frames.{Change, Does}
use Rattle.rules.specs.Interrupted.{mask_needed, mask_byte, Interrupted}

same_count : (one other : ℕ → Bool) → ((k : ℕ) → one k ≡ other k) → (n : ℕ) → count_below one n ≡ count_below other n
same_count one other same n =
    let none = count_none (λ k. false) n (λ k _. refl) in
    let sum = count_sum one other (λ k. false) (λ k. ap (λ (t : Bool). cond t 1 0) (same k) ∙ plus_none (cond (other k) 1 0)) n in
    omega (arith, none, sum)
  where
    plus_none : (n : ℕ) → n ≡ n + 0
    plus_none n = omega arith

module _ {wp : Bool} {f : List ℕ} {d : Device} {line : Line} {shows : ℕ → Option ℕ} {registers : State} {change : Change} (a : Accepted wp f d line)
    (whole : Does wp f d line shows registers change) (other : is_status_cycle (command_of d.state wp f) ≡ false) where
  abbrev effect : Effect
  effect = effect_at d.state wp f

  ran : FrameRun wp f d line 0 (ran_device wp f d) (shown_line wp f d)
  ran = frame_accepted wp f d line a record { device_is = refl; line_is = refl }

  mask_wanted_lem : mask_wanted wp f d ≡ mask_needed change d
  mask_wanted_lem =
      rw other refl
      ∙ mask_length_counts effect (length d.array)
      (rw a.sized (effect_inside d.state (command_of d.state wp f) (fits d.state wp f a.sound)).within)
      ∙ same_count (touches effect) change.touched whole.touched_are (length d.array)

  -- "mask length wrong"
  pub wrong_mask_lem : (mask : List ℕ) → (length mask ≡ mask_needed change d → ⊥) → cut_number wp f mask d line ≡ wrong_mask
  wrong_mask_lem mask wrong =
      cut_number_unmasked wp f d line mask a (rw (ne_eqb (length mask) (mask_wanted wp f d) (λ e. wrong (e ∙ mask_wanted_lem))) refl)

  registers_are : state_at d.state wp f ≡ registers
  registers_are = ap (λ (e : Device). e.state) (sym (ran_is wp f d) ∙ ran.device_is ∙ whole.device_is)

  byte_becomes : (k : ℕ) → k < length d.array → change.touched k ≡ true
      → changed effect f k (get_or d.array k 0) ≡ change.becomes k (get_or d.array k 0)
  byte_becomes k b t =
      sym (get_d_mapi (changed effect f) d.array k 0 b)
      ∙ ap (λ (e : Device). get_or e.array k 0) (sym (ran_is wp f d) ∙ ran.device_is ∙ whole.device_is)
      ∙ get_d_mapi _ d.array k 0 b
      ∙ ap (λ (t : Bool). cond t (change.becomes k (get_or d.array k 0)) (get_or d.array k 0)) t

  module _ (mask : List ℕ) (bytes : Bytes mask) (masked : Masked (command_of d.state wp f) mask) where
    torn : CutRun wp f mask d line 0 (torn_device wp f mask d) (shown_line wp f d)
    torn = cut_accepted wp f d line mask record { whole = a; masked = masked } record { device_is = refl; line_is = refl }

    torn_byte : (k : ℕ) → k < length d.array → get_or (cut_device wp f mask d line).array k 0 ≡ cut effect f mask k (get_or d.array k 0)
    torn_byte k b =
        ap (λ (e : Device). get_or e.array k 0) (sym torn.device_is ∙ torn_is wp f d mask) ∙ get_d_mapi (cut effect f mask) d.array k 0 b

    pub interrupted : Interrupted wp f mask d line shows registers change
    interrupted = record {
      line_is = sym torn.line_is ∙ ran.line_is ∙ whole.line_is;
      mask_length_lem = masked.bytes ∙ mask_wanted_lem;
      touched = λ k b i l t.
          ap (λ (x : ℕ). bit_at x b) (torn_byte k i)
          ∙ cut_bit effect f mask k (get_or d.array k 0) b (whole.touched_are k ∙ t) (bytes _) l
          ∙ ap (λ (place : ℕ). cond (eqb (bit_at (get_or mask place 0) b) 1) (bit_at (changed effect f k (get_or d.array k 0)) b) (bit_at (get_or d.array k 0) b))
          (same_count (touches effect) change.touched whole.touched_are k)
          ∙ ap (λ (x : ℕ). cond (eqb (bit_at (mask_byte change mask k) b) 1) (bit_at x b) (bit_at (get_or d.array k 0) b)) (byte_becomes k i t);
      untouched = λ k i t. torn_byte k i ∙ cut_other effect f k (get_or d.array k 0) mask (whole.touched_are k ∙ t);
      same_length = ap (λ (e : Device). length e.array) (sym torn.device_is ∙ torn_is wp f d mask) ∙ length_mapi (cut effect f mask) d.array;
      state_is = ap (λ (e : Device). e.state) (sym torn.device_is ∙ torn_is wp f d mask) ∙ ap powered_up (cut_of_other d.state (command_of d.state wp f) mask other ∙ registers_are)
          ∙ ap (λ (x : Answer). x.state) (sym (power_up_granted registers (rw registers_are at (rw (ran_is wp f d) at (ran_sound wp f d a.sound)))));
    }
