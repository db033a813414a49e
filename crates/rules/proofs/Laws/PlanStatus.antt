-- Steps 1 and 4 read off their records: needed exactly where a byte that changes is protected, two frames each, and no others.
-- Assumes nothing.
use mathlib.Core.Path.{◌≡◌, sym, ◌∙◌, ap₂}
use mathlib.Core.Bool.{true, false, cond, true≢false}
use mathlib.Core.List.{List, [], ◌∷◌}
use mathlib.Core.Logic.{⊎_elim, ◌⊎◌, inl, inr}
use Prim.Native.Nat.{ℕ, ◌+◌, ◌*◌, ◌/◌, ◌≤◌}
use native.Mathlib.Nat.{div-div-eq-div-mul}
use native.Mathlib.Omega.{arith}
use lib.Dec.{leb}
use lib.ListN.{length}
use borrow.Author.Tests.{le-leb, leb-true}
use Rattle.common.specs.Bits.{bit}
use Rattle.common.proofs.Laws.Booleans.{and_l, and_r, and_i}
use Rattle.common.proofs.Laws.Choice.{cases}
use Rattle.common.proofs.Laws.Flags.{bit_le}
use Rattle.common.proofs.Laws.Lists.{split}
use Rattle.common.proofs.Laws.Places.{some_passes}
use Rattle.chip.specs.declared.Chip.{Chip}
use Rattle.chip.specs.Chip.{is_known}
use Rattle.state.specs.declared.State.{State}
use Rattle.state.specs.Protection.{first_protected}
use Rattle.script.specs.Record.{Record, frame}
use Rattle.region.specs.Region.{changes}
use Rattle.plan.specs.Plan.{is_protected_change, step_one_needed, status_byte, settle, status_records}
use Rattle.plan.proofs.Laws.Steps.{not_needed_free, free_not_needed, status_byte_digits, status_records_lem}
use Rattle.rules.specs.PlanStatus.{ProtectedChange, StatusFrames}
use Rattle.rules.proofs.Laws.Chips.{data_by_chip}
use Rattle.rules.proofs.Laws.Sent.{changing_of, of_changing}

module _ (s : State) (array : List ℕ) (start : ℕ) (wanted : List ℕ) where
  pub protected_needed : ProtectedChange s array start wanted → step_one_needed s array start wanted ≡ true
  protected_needed p =
      cases (step_one_needed s array start wanted) (λ t. t)
      (λ f. absurd (omega (arith, p.protected, not_needed_free s array start wanted f p.address (of_changing array start wanted p.address p.changing))))

  pub none_not_needed : (ProtectedChange s array start wanted → ⊥) → step_one_needed s array start wanted ≡ false
  none_not_needed h =
      free_not_needed s array start wanted
      (λ k c. ⊎_elim (λ l. l) (λ l. absurd (h record { address = k; changing = changing_of array start wanted k c; protected = l })) (split k (first_protected s)))

  -- which of the two holds can be told
  pub protected_or_not : ProtectedChange s array start wanted ⊎ (ProtectedChange s array start wanted → ⊥)
  protected_or_not =
      ⊎_elim
      (λ found. inl record {
        address = found.place;
        changing = changing_of array start wanted found.place (and_l _ (leb (first_protected s) found.place) found.passes);
        protected = leb-true (first_protected s) found.place (and_r (changes array start wanted found.place) _ found.passes);
      })
      (λ none. inr (λ p. true≢false
      (sym (and_i (of_changing array start wanted p.address p.changing) (le-leb (first_protected s) p.address p.protected))
      ∙ none p.address p.changing.below)))
      (some_passes (is_protected_change (first_protected s) array start wanted) (start + length wanted))

pub status_frames : (s : State) (bp : ℕ) → bp ≤ 7 → is_known s.chip ≡ true → StatusFrames s bp (status_records s bp)
status_frames s bp h known =
    let byte : ℕ = status_byte bp s.tb s.bpl in
    let digits : byte ≡ bp * 4 + bit s.tb 1 * 32 + bit s.bpl 1 * 128 = status_byte_digits bp s.tb s.bpl in
    let t = bit_le s.tb 1 in
    let l = bit_le s.bpl 1 in
    record {
      byte = byte;
      two_frames = status_records_lem s bp
          ∙ ap₂ (λ (op : ℕ) (rs : List Record). frame (op ∷ []) ∷ frame (0x01 ∷ byte ∷ []) ∷ rs)
          (data_by_chip s.chip known (λ (c : Chip). cond c.ewsr 0x50 0x06)) (data_by_chip s.chip known (λ (c : Chip). settle c.status_time));
      bits_2_to_4 = omega arith;
      bit_5 = omega arith;
      bit_7 = omega arith;
      bits_0_and_1 = omega arith;
      bit_6 = omega arith;
    }

-- its bits fix the byte
status_byte_is : {s : State} {bp : ℕ} {rs : List Record} (p : StatusFrames s bp rs) → p.byte ≡ bp * 4 + bit s.tb 1 * 32 + bit s.bpl 1 * 128
status_byte_is p =
    let b : ℕ = p.byte in
    let by_32 : b / 4 / 8 ≡ b / 32 = div-div-eq-div-mul b 4 8 in
    let by_64 : b / 32 / 2 ≡ b / 64 = div-div-eq-div-mul b 32 2 in
    let by_128 : b / 64 / 2 ≡ b / 128 = div-div-eq-div-mul b 64 2 in
    omega arith

pub status_frames_determined : {s : State} {bp : ℕ} {rs ss : List Record} → StatusFrames s bp rs → StatusFrames s bp ss → rs ≡ ss
status_frames_determined p q = let same : p.byte ≡ q.byte = status_byte_is p ∙ sym (status_byte_is q) in cc
