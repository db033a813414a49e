-- No accepted frame is left without a rule: by mode, and at rest by its opcode.
-- Assumes nothing.
use mathlib.Core.Path.{◌≡◌, refl}
use mathlib.Core.Bool.{Bool, true, false, false≢true}
use mathlib.Core.List.{List, [], ◌∷◌}
use mathlib.Core.Logic.{⊎_elim}
use Prim.Native.Nat.{ℕ}
use lib.Dec.{eqb}
use borrow.Author.Tests.{lt-ltb, eqb-true}
use Rattle.common.proofs.Laws.Booleans.{or_imp}
use Rattle.common.proofs.Laws.Choice.{cases}
use Rattle.chip.proofs.Laws.Chip.{regular, known_number}
use Rattle.command.specs.Fits.{Resting}
use Rattle.frame.specs.Device.{Device}
use Rattle.frame.specs.Line.{Line}
use Rattle.frame.specs.Call.{Accepted}
use Rattle.rules.specs.Chips.{by_chip}
use Rattle.rules.specs.Frames.{opcode, is_among, shared_opcodes, opcodes_008a, opcodes_05pa}
use Rattle.rules.specs.Opcodes.{
  Ruled,
  unknown,
  while_busy,
  in_aai_lem,
  in_power_down,
  read_status,
  signature,
  write_disable,
  next_word,
  at_rest,
  on_008a_lem,
  on_05pa_lem,
}
use Rattle.rules.proofs.Laws.Does.{by_mode}
use Rattle.rules.proofs.Laws.Tests.{off}
use Rattle.rules.proofs.Laws.Among.{either}

module _ {wp : Bool} {f : List ℕ} {d : Device} {line : Line} (a : Accepted wp f d line) where
  one_of : (op : ℕ) → is_among (opcode f) (op ∷ []) ≡ true → opcode f ≡ op
  one_of op listed =
      cases (eqb (opcode f) op) (eqb-true (opcode f) op) (λ other. absurd (false≢true (or_imp (eqb (opcode f) op) false listed other)))

  -- ---- in AAI

  running : d.state.left ≡ 0 → d.state.aai ≡ true → is_among (opcode f) (0xad ∷ 0x05 ∷ 0x04 ∷ []) ≡ true → Ruled f d
  running still aai listed =
      let awake = off d.state.power_down (λ asleep. (regular d.state.chip).aai_without_power_down (a.sound.aai_had aai) (a.sound.power_down_had asleep)) in
      either (opcode f) 0xad (next_word still aai)
      (λ no_word. either (opcode f) 0x05 (read_status awake)
      (λ no_status. write_disable still awake (one_of 0x04 (or_imp (eqb (opcode f) 0x05) _ (or_imp (eqb (opcode f) 0xad) _ listed no_word) no_status))))

  -- ---- at rest

  module _ (r : Resting d.state) where
    shared : is_among (opcode f) shared_opcodes ≡ true → eqb (opcode f) 0x02 ≡ false → Ruled f d
    shared listed no_program =
        either (opcode f) 0x05 (read_status r.awake)
        (λ no_status. either (opcode f) 0xab (signature r.still r.single)
        (λ no_signature. either (opcode f) 0x04 (write_disable r.still r.awake)
        (λ no_disable. at_rest r (rw (no_status, no_signature, no_disable, no_program) at listed))))

    resting_008a : d.state.chip ≡ 8 → is_among (opcode f) opcodes_008a ≡ true → Ruled f d
    resting_008a is listed =
        either (opcode f) 0x50 (λ e. on_008a_lem r is (rw e refl))
        (λ no_enable. either (opcode f) 0xad (λ e. on_008a_lem r is (rw e refl))
        (λ no_word. either (opcode f) 0x02 (λ e. on_008a_lem r is (rw e refl))
        (shared (or_imp (eqb (opcode f) 0xad) _ (or_imp (eqb (opcode f) 0x50) _ listed no_enable) no_word))))

    resting_05pa : d.state.chip ≡ 5 → is_among (opcode f) opcodes_05pa ≡ true → Ruled f d
    resting_05pa is listed =
        either (opcode f) 0xb9 (λ e. on_05pa_lem r is (rw e refl))
        (λ no_power_down. either (opcode f) 0x02 (λ e. on_05pa_lem r is (rw e refl))
        (shared (or_imp (eqb (opcode f) 0xb9) _ listed no_power_down)))

    resting : is_among (opcode f) (by_chip d.state.chip opcodes_008a opcodes_05pa) ≡ true → Ruled f d
    resting listed =
        ⊎_elim (λ e. resting_008a e (rw e at listed)) (λ e. resting_05pa e (rw e at listed)) (known_number d.state.chip a.sound.chip_known)

  pub ruled : Ruled f d
  ruled =
      by_mode a
      (λ busy. cases (is_among (opcode f) (0x05 ∷ [])) (λ e. read_status (a.sound.while_busy busy).awake (one_of 0x05 e))
      (while_busy (lt-ltb 0 d.state.left busy)))
      (λ still aai. cases (is_among (opcode f) (0xad ∷ 0x05 ∷ 0x04 ∷ [])) (running still aai) (in_aai_lem aai))
      (λ still single asleep. cases (is_among (opcode f) (0xab ∷ [])) (λ e. signature still single (one_of 0xab e)) (in_power_down asleep))
      (λ r. cases (is_among (opcode f) (by_chip d.state.chip opcodes_008a opcodes_05pa)) (resting r) unknown)
