-- What the frames that a plan sends are, in any state that is at rest or idle in AAI. By the chip's data, never by its number.
-- Assumes nothing.
use mathlib.Core.Path.{◌≡◌, refl, ap, ◌∙◌}
use mathlib.Core.Bool.{Bool, true, false, ◌||◌, not}
use mathlib.Core.List.{List, [], ◌∷◌, ◌++◌}
use Prim.Native.Nat.{ℕ, ◌+◌, ◌-◌, ◌*◌, ◌/◌, ◌%◌, ◌≤◌, ◌<◌}
use native.Mathlib.Nat.{div-div-eq-div-mul, mod-eq_of_lt}
use native.Mathlib.Omega.{arith}
use lib.ListN.{length}
use borrow.Author.Tests.{le-leb}
use Rattle.common.specs.Numbers.{address_bytes}
use Rattle.common.proofs.Laws.Booleans.{and_i}
use Rattle.chip.proofs.Laws.Chip.{regular}
use Rattle.state.specs.declared.State.{State}
use Rattle.state.specs.State.{data_of}
use Rattle.state.specs.Protection.{first_protected}
use Rattle.state.proofs.Laws.Protection.{first_border}
use Rattle.command.specs.declared.Command.TheVariants.{WriteEnable, WriteDisable, Arm, WriteStatus, ProgramPage, ProgramWord}
use Rattle.command.specs.Command.{address, writable, by_kind, command_of}
use Rattle.command.specs.Fits.{Resting, Open}
use Rattle.command.proofs.Laws.Modes.{seen_at_rest, seen_in_aai}

-- three bytes, high byte first, of an address of the chip
address_sent : (s : State) (op a : ℕ) (sent : List ℕ) → a < (data_of s).size → address s (op ∷ (address_bytes a ++ sent)) ≡ a
unfolding address
address_sent s op a sent h =
    let small : (data_of s).size ≤ 1048576 = (regular s.chip).size_le_mebibyte in
    let e : a / 256 / 256 ≡ a / 65536 = div-div-eq-div-mul a 256 256 in
    let t : a / 65536 % 256 ≡ a / 65536 = omega arith in
    let whole : a / 65536 % 256 * 65536 + a / 256 % 256 * 256 + a % 256 ≡ a = omega arith in
    ap (λ (n : ℕ). n % (data_of s).size) whole ∙ mod-eq_of_lt h

is_open : (s : State) (end : ℕ) → Open s end → writable s end ≡ true
unfolding writable
is_open s end o = and_i o.enabled (le-leb end (first_protected s) o.free)

module _ (s : State) (wp : Bool) where
  -- ---- at rest: the opcode's kind decides

  module _ (r : Resting s) where
    pub wren_taken : command_of s wp (0x06 ∷ []) ≡ WriteEnable
    unfolding by_kind
    wren_taken = rw (seen_at_rest s (0x06 ∷ []) wp r, (regular s.chip).wren_is_06) refl

    pub wrdi_taken : command_of s wp (0x04 ∷ []) ≡ WriteDisable
    unfolding by_kind
    wrdi_taken = rw (seen_at_rest s (0x04 ∷ []) wp r, (regular s.chip).wrdi_is_04) refl

    pub ewsr_taken : (data_of s).ewsr ≡ true → command_of s wp (0x50 ∷ []) ≡ Arm
    unfolding by_kind
    ewsr_taken e = rw (seen_at_rest s (0x50 ∷ []) wp r, (regular s.chip).ewsr_is_50 e) refl

    -- armed, and not with BPL 1 while WP is low
    pub wrsr_taken : (byte : ℕ) → s.armed ≡ true → not s.bpl || wp ≡ true → command_of s wp (0x01 ∷ byte ∷ []) ≡ WriteStatus byte (data_of s).status_time
    unfolding by_kind
    wrsr_taken byte a e = rw (seen_at_rest s (0x01 ∷ byte ∷ []) wp r, (regular s.chip).wrsr_is_01, a, e) refl

    pub first_word_taken : (a x y : ℕ) → (data_of s).word_plans ≡ true → a % 2 ≡ 0 → Open s (a + 2)
        → command_of s wp (0xad ∷ (address_bytes a ++ (x ∷ y ∷ []))) ≡ ProgramWord a 4
    unfolding by_kind
    first_word_taken a x y words even o =
        let low : a < (data_of s).size = omega (arith, (first_border s).in_size, o.free) in
        let same : a / 2 * 2 ≡ a = omega arith in
        rw (
          seen_at_rest s (0xad ∷ (address_bytes a ++ (x ∷ y ∷ []))) wp r,
          (regular s.chip).aai_program_is_ad words,
          address_sent s 0xad a (x ∷ y ∷ []) low,
          same,
          is_open s (a + 2) o,
        )
        refl

    pub page_taken : (a x : ℕ) (sent : List ℕ) → (data_of s).word_plans ≡ false → Open s (a + 1)
        → command_of s wp (0x02 ∷ (address_bytes a ++ (x ∷ sent))) ≡ ProgramPage a (length (x ∷ sent))
    unfolding by_kind
    page_taken a x sent pages o =
        let low : a < (data_of s).size = omega (arith, (first_border s).in_size, o.free) in
        let f : List ℕ = 0x02 ∷ (address_bytes a ++ (x ∷ sent)) in
        let count : length f - 4 ≡ length (x ∷ sent) = omega arith in
        rw (
          seen_at_rest s f wp r,
          (regular s.chip).page_program_is_02 pages,
          address_sent s 0x02 a (x ∷ sent) low,
          le-leb 5 (length f) (omega arith),
          is_open s (a + 1) o,
        )
        (ap (ProgramPage a) count)

  -- ---- idle in AAI: the opcode itself

  module _ (still : s.left ≡ 0) (aai : s.aai ≡ true) where
    pub next_word_taken : (x y : ℕ) → Open s (s.next + 2) → command_of s wp (0xad ∷ x ∷ y ∷ []) ≡ ProgramWord s.next 1
    next_word_taken x y o = rw (seen_in_aai s (0xad ∷ x ∷ y ∷ []) wp still aai, is_open s (s.next + 2) o) refl

    pub wrdi_taken_in_aai : command_of s wp (0x04 ∷ []) ≡ WriteDisable
    wrdi_taken_in_aai = seen_in_aai s (0x04 ∷ []) wp still aai
