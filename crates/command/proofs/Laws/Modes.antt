-- Where a frame is looked up, by what the chip is doing; and what the tests of a row say.
-- Assumes nothing.
use mathlib.Core.Path.{◌≡◌, refl}
use mathlib.Core.Bool.{Bool, true, false, ◌&&◌}
use mathlib.Core.List.{List, [], ◌∷◌}
use Prim.Native.Nat.{ℕ, ◌%◌, ◌<◌}
use lib.Dec.{leb}
use lib.ListN.{get_or}
use borrow.Author.Tests.{lt-ltb}
use Rattle.common.specs.Numbers.{three_bytes}
use Rattle.chip.specs.Chip.{kind_of}
use Rattle.state.specs.declared.State.{State}
use Rattle.state.specs.State.{data_of}
use Rattle.state.specs.Protection.{first_protected}
use Rattle.command.specs.declared.Command.TheVariants.{ReadStatus, ReadSignature}
use Rattle.command.specs.Command.{address, writable, look, by_kind, aai_rows, in_aai, command_of}
use Rattle.command.specs.Fits.{Resting}

module _ (s : State) (f : List ℕ) where
  pub address_is : address s f ≡ three_bytes (get_or f 1 0) (get_or f 2 0) (get_or f 3 0) % (data_of s).size
  unfolding address
  address_is = refl

  pub writable_is : (end : ℕ) → writable s end ≡ (s.wel && leb end (first_protected s))
  unfolding writable
  writable_is end = refl

  module _ (wp : Bool) where
    pub seen_busy : 0 < s.left → command_of s wp f ≡ look ((0x05, ReadStatus) ∷ []) (get_or f 0 0)
    unfolding command_of
    seen_busy busy = rw (lt-ltb 0 s.left busy) refl

    pub seen_in_aai : s.left ≡ 0 → s.aai ≡ true → command_of s wp f ≡ look (aai_rows s f) (get_or f 0 0)
    unfolding command_of in_aai
    seen_in_aai still aai = rw (still, aai) refl

    pub seen_asleep : s.left ≡ 0 → s.aai ≡ false → s.power_down ≡ true → command_of s wp f ≡ look ((0xab, ReadSignature) ∷ []) (get_or f 0 0)
    unfolding command_of
    seen_asleep still single asleep = rw (still, single, asleep) refl

    -- the opcode's kind decides
    pub seen_at_rest : Resting s → command_of s wp f ≡ by_kind s wp f (kind_of s.chip (get_or f 0 0))
    unfolding command_of
    seen_at_rest r = rw (r.still, r.single, r.awake) refl
