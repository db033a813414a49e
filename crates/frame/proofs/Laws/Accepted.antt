-- When a call is accepted, in words, and when it gets which refusal: from the number, and back.
-- Assumes nothing.
use mathlib.Core.Path.{◌≡◌, refl, sym, ap, ◌∙◌}
use mathlib.Core.Bool.{Bool, false, not}
use mathlib.Core.List.{List}
use Prim.Native.Nat.{ℕ, ◌<◌}
use native.Mathlib.Omega.{arith}
use lib.Dec.{ltb, eqb}
use lib.ListN.{length}
use borrow.Author.Tests.{eqb-true, eqb-false, eq-eqb, ne_eqb, ltb-false, le-ltb, not-false}
use Rattle.common.specs.Limits.{longest_frame}
use Rattle.common.specs.Refusals.{wrong_mask, first_of, Exactly}
use Rattle.common.proofs.Laws.Booleans.{or_none_l, or_none_r}
use Rattle.common.proofs.Laws.Choice.{cases}
use Rattle.common.proofs.Laws.Refusals.{Clear, clear, first_of_clear, Given, given_exactly, first_behind, first_before}
use Rattle.state.specs.State.{data_of}
use Rattle.state.specs.Soundness.{is_sound}
use Rattle.state.proofs.Laws.Soundness.{sound_of, of_sound}
use Rattle.command.specs.declared.Command.{Command}
use Rattle.command.specs.Command.{command_of}
use Rattle.frame.specs.Device.{Device}
use Rattle.frame.specs.Line.{Line}
use Rattle.frame.specs.Cut.{takes_mask, Masked}
use Rattle.frame.proofs.Laws.Cut.{masked_of, of_masked}
use Rattle.frame.proofs.Laws.Line.{long_of, of_long}
use Rattle.frame.specs.Call.{frame_refusals, frame_number, Accepted, mask_refusals, cut_refusals, cut_number, CutAccepted}

-- ---- run a frame

module _ (wp : Bool) (f : List ℕ) (d : Device) (line : Line) where
  abbrev rows : List (ℕ × Bool)
  rows = frame_refusals wp f d line

  -- each number exactly when its own condition holds and no earlier one does
  pub frame_exactly : (number : ℕ) → 0 < number → Exactly (frame_number wp f d line ≡ number) (Given number (frame_refusals wp f d line))
  unfolding frame_number
  frame_exactly number h = given_exactly rows number h

  clear_words : Clear rows → Accepted wp f d line
  clear_words c =
      let three = c.1.1.0 in
      let z = eqb-false (length f) 0 (or_none_l (eqb (length f) 0) (ltb longest_frame (length f)) three) in
      record {
        sound = sound_of d.state (not-false (is_sound d.state) c.0);
        sized = eqb-true _ _ (not-false (eqb (length d.array) (data_of d.state).size) c.1.0);
        some = omega (arith, z);
        short = ltb-false longest_frame (length f) (or_none_r (eqb (length f) 0) (ltb longest_frame (length f)) three);
        same = long_of (length f) line c.1.1.1.0;
      }

  words_clear : Accepted wp f d line → Clear rows
  words_clear a = (
    ap not (of_sound d.state a.sound),
    (
      rw (eq-eqb _ _ a.sized) refl,
      (rw (ne_eqb (length f) 0 (λ z. omega (arith, z, a.some)), le-ltb longest_frame (length f) a.short) refl, (of_long (length f) line a.same, tt)),
    ),
  )

  -- number 0 is accepted
  pub number_accepted : frame_number wp f d line ≡ 0 → Accepted wp f d line
  unfolding frame_number
  number_accepted e = clear_words (clear rows refl e)

  pub accepted_number : Accepted wp f d line → frame_number wp f d line ≡ 0
  unfolding frame_number
  accepted_number a = first_of_clear rows (words_clear a)

  -- ---- run an interrupted frame: the frame's own refusals, then the mask's

  abbrev command : Command
  command = command_of d.state wp f

  module _ (mask : List ℕ) where
    pub cut_exactly : (number : ℕ) → 0 < number → Exactly (cut_number wp f mask d line ≡ number) (Given number (cut_refusals wp f mask d line))
    unfolding cut_number
    cut_exactly number h = given_exactly (cut_refusals wp f mask d line) number h

    -- what the whole frame is refused for, the interrupted one is
    pub cut_number_refused : (frame_number wp f d line ≡ 0 → ⊥) → cut_number wp f mask d line ≡ frame_number wp f d line
    unfolding cut_number frame_number
    cut_number_refused h = first_before rows (mask_refusals wp f mask d) _ (omega (arith, h)) refl

    -- and where it would be accepted, the mask alone counts
    mask_alone : Accepted wp f d line → cut_number wp f mask d line ≡ first_of (mask_refusals wp f mask d)
    unfolding cut_number
    mask_alone a = first_behind rows (mask_refusals wp f mask d) (words_clear a)

    pub cut_accepted_number : CutAccepted wp f mask d line → cut_number wp f mask d line ≡ 0
    cut_accepted_number a = mask_alone a.whole ∙ rw (of_masked command mask a.masked) refl

    pub cut_number_unmasked : Accepted wp f d line → takes_mask (command_of d.state wp f) mask ≡ false → cut_number wp f mask d line ≡ wrong_mask
    cut_number_unmasked a m = mask_alone a ∙ rw m refl

    -- a mask that the frame takes is no reason
    pub cut_number_whole : Masked (command_of d.state wp f) mask → cut_number wp f mask d line ≡ frame_number wp f d line
    cut_number_whole m =
        cases (eqb (frame_number wp f d line) 0)
        (λ t. let z = eqb-true (frame_number wp f d line) 0 t in cut_accepted_number record { whole = number_accepted z; masked = m } ∙ sym z)
        (λ t. cut_number_refused (eqb-false (frame_number wp f d line) 0 t))

    -- number 0 is accepted
    pub cut_number_accepted : cut_number wp f mask d line ≡ 0 → CutAccepted wp f mask d line
    unfolding cut_number
    cut_number_accepted e =
        let c = clear (cut_refusals wp f mask d line) refl e in
        record {
          whole = clear_words (c.0, (c.1.0, (c.1.1.0, (c.1.1.1.0, tt))));
          masked = masked_of command mask (not-false (takes_mask command mask) c.1.1.1.1.0);
        }
