-- Which frames are ignored: by mode, and unknown ones.
-- Assumes nothing.
use mathlib.Core.Path.{◌≡◌, refl, sym, ap, ◌∙◌}
use mathlib.Core.Bool.{Bool, true, false, ◌&&◌, true≢false}
use mathlib.Core.List.{List, [], ◌∷◌}
use mathlib.Core.Logic.{⊎_elim}
use Prim.Native.Nat.{ℕ, ◌<◌}
use lib.Dec.{eqb}
use borrow.Author.Tests.{ltb-true}
use Rattle.common.proofs.Laws.Booleans.{or_none_l, or_none_i, and_l, and_r}
use Rattle.common.proofs.Laws.Lists.{mapi_id}
use Rattle.chip.specs.declared.Chip.{Chip}
use Rattle.chip.specs.declared.kinds.Kind.{Kind}
use Rattle.chip.specs.declared.kinds.Kind.TheVariants.{Unknown}
use Rattle.chip.specs.Instructions.{instructions_008a, instructions_05pa, kind_in}
use Rattle.chip.specs.Chip.{kind_of}
use Rattle.chip.proofs.Laws.Chip.{regular, known_number}
use Rattle.command.specs.Command.{by_kind}
use Rattle.command.proofs.Laws.Modes.{seen_busy, seen_in_aai, seen_asleep, seen_at_rest}
use Rattle.frame.specs.Device.{Device}
use Rattle.frame.specs.Line.{Line}
use Rattle.frame.specs.Call.{Accepted}
use Rattle.rules.specs.Chips.{by_chip}
use Rattle.rules.specs.Frames.{opcode, Ignored, is_among, opcodes_008a, opcodes_05pa, FrameRules}
use Rattle.rules.proofs.Laws.Chips.{data_by_chip, kind_by_chip}
use Rattle.rules.proofs.Laws.Among.{among_not}
use Rattle.rules.proofs.Laws.Does.{ignored, by_mode}
use Rattle.rules.proofs.Laws.Armed.{armed_is}

-- ---- opcodes among others

-- all instructions have their opcodes among some
abbrev are_among : List (ℕ × Kind) → List ℕ → Bool
are_among [] list = true
are_among (i ∷ is) list = is_among i.0 list && are_among is list

kind_unknown : (is : List (ℕ × Kind)) (list : List ℕ) (op : ℕ) → are_among is list ≡ true → is_among op list ≡ false → kind_in is op ≡ Unknown
kind_unknown [] list op all other = refl
kind_unknown (i ∷ is) list op all other =
    rw (among_not op i.0 list other (and_l (is_among i.0 list) (are_among is list) all))
    (kind_unknown is list op (and_r (is_among i.0 list) (are_among is list) all) other)

module _ {wp : Bool} {f : List ℕ} {d : Device} {line : Line} (a : Accepted wp f d line) where
  -- ---- which are ignored a, by mode

  ignored_busy : 0 < d.state.left → is_among (opcode f) (0x05 ∷ []) ≡ false → Ignored wp f d line
  ignored_busy busy other = ignored a (seen_busy d.state f wp busy ∙ rw (or_none_l (eqb (opcode f) 0x05) false other) refl)

  ignored_in_aai : d.state.left ≡ 0 → d.state.aai ≡ true → is_among (opcode f) (0xad ∷ 0x05 ∷ 0x04 ∷ []) ≡ false → Ignored wp f d line
  ignored_in_aai still aai other =
      let word = among_not (opcode f) 0xad (0xad ∷ 0x05 ∷ 0x04 ∷ []) other refl in
      let status = among_not (opcode f) 0x05 (0xad ∷ 0x05 ∷ 0x04 ∷ []) other refl in
      let disable = among_not (opcode f) 0x04 (0xad ∷ 0x05 ∷ 0x04 ∷ []) other refl in
      ignored a (seen_in_aai d.state f wp still aai ∙ rw (word, status, disable) refl)

  ignored_asleep : d.state.left ≡ 0 → d.state.aai ≡ false → d.state.power_down ≡ true → is_among (opcode f) (0xab ∷ []) ≡ false
      → Ignored wp f d line
  ignored_asleep still single asleep other =
      ignored a (seen_asleep d.state f wp still single asleep ∙ rw (or_none_l (eqb (opcode f) 0xab) false other) refl)

  -- ---- unknown opcodes

  unknown_among : (list : List ℕ) → is_among 0x05 list ≡ true → is_among 0x04 list ≡ true → is_among 0xab list ≡ true
      → (d.state.aai ≡ true → is_among 0xad list ≡ true) → (is_among (opcode f) list ≡ false → kind_of d.state.chip (opcode f) ≡ Unknown)
      → is_among (opcode f) list ≡ false → Ignored wp f d line
  unfolding by_kind
  unknown_among list status disable wake word kind other =
      let none : (known : ℕ) → is_among known list ≡ true → eqb (opcode f) known ≡ false = λ known listed. among_not (opcode f) known list other listed in
      by_mode a (λ busy. ignored_busy busy (or_none_i (none 0x05 status) refl))
      (λ still aai. ignored_in_aai still aai (or_none_i (none 0xad (word aai)) (or_none_i (none 0x05 status) (or_none_i (none 0x04 disable) refl))))
      (λ still single asleep. ignored_asleep still single asleep (or_none_i (none 0xab wake) refl))
      (λ r. ignored a (seen_at_rest d.state f wp r ∙ ap (by_kind d.state wp f) (kind other)))

  ignored_unknown : is_among (opcode f) (by_chip d.state.chip opcodes_008a opcodes_05pa) ≡ false → Ignored wp f d line
  ignored_unknown other =
      let known = a.sound.chip_known in
      ⊎_elim
      (λ e. unknown_among opcodes_008a refl refl refl (λ _. refl)
      (λ n. kind_by_chip d.state.chip known (opcode f) ∙ rw e (kind_unknown instructions_008a opcodes_008a (opcode f) refl n)) (rw e at other))
      (λ e. unknown_among opcodes_05pa refl refl refl
      (λ aai. absurd (true≢false (sym (a.sound.aai_had aai) ∙ data_by_chip d.state.chip known (λ (c : Chip). c.aai) ∙ rw e refl)))
      (λ n. kind_by_chip d.state.chip known (opcode f) ∙ rw e (kind_unknown instructions_05pa opcodes_05pa (opcode f) refl n)) (rw e at other))
      (known_number d.state.chip known)

  pub frame_rules : FrameRules wp f d line
  frame_rules = record {
    kept = mapi_id (λ k x. x) d.array (λ k _. refl);
    unknown = ignored_unknown;
    while_busy = λ busy other. ignored_busy (ltb-true 0 d.state.left busy) other;
    in_aai_lem = λ aai other. by_mode a
        (λ busy. ignored_busy busy (or_none_i (among_not (opcode f) 0x05 (0xad ∷ 0x05 ∷ 0x04 ∷ []) other refl) refl))
        (λ still _. ignored_in_aai still aai other) (λ _ single _. absurd (true≢false (sym aai ∙ single)))
        (λ r. absurd (true≢false (sym aai ∙ r.single)));
    in_power_down = λ asleep other. by_mode a
        (λ busy. absurd (true≢false (sym asleep ∙ (a.sound.while_busy busy).awake)))
        (λ _ aai. absurd ((regular d.state.chip).aai_without_power_down (a.sound.aai_had aai) (a.sound.power_down_had asleep)))
        (λ still single _. ignored_asleep still single asleep other) (λ r. absurd (true≢false (sym asleep ∙ r.awake)));
    armed = armed_is a;
  }
