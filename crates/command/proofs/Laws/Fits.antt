-- What `command_of` gives fits the state that the frame was read at.
-- Assumes nothing.
use mathlib.Core.Path.{◌≡◌, refl}
use mathlib.Core.Bool.{Bool, true, false, ◌||◌, not}
use mathlib.Core.List.{List, [], ◌∷◌}
use Prim.Native.Nat.{ℕ, ◌+◌, ◌-◌, ◌*◌, ◌/◌, ◌≤◌, ◌<◌}
use native.Mathlib.Omega.{arith}
use native.Mathlib.Nat.{mod-lt}
use lib.Dec.{leb, ltb}
use lib.ListN.{get_or, length}
use borrow.Author.Tests.{leb-true, ltb-false}
use Rattle.common.proofs.Laws.Choice.{cond_elim, cases}
use Rattle.common.proofs.Laws.Booleans.{and_l, and_r}
use Rattle.common.proofs.Laws.Pairs.{◌▹◌}
use Rattle.state.specs.declared.State.{State}
use Rattle.chip.specs.declared.kinds.Kind.{Kind}
use Rattle.chip.specs.declared.kinds.Kind.TheVariants.{
  Unknown,
  Read,
  FastRead,
  SectorErase,
  BlockErase,
  ChipErase,
  ByteProgram,
  PageProgram,
  AaiProgram,
  Rdsr,
  Ewsr,
  Wrsr,
  Wren,
  Wrdi,
  DeepPowerDown,
  Res,
  JedecId,
  Rdid,
}
use Rattle.chip.specs.Chip.{kind_of}
use Rattle.state.specs.State.{data_of}
use Rattle.state.specs.Protection.{first_protected}
use Rattle.state.specs.Soundness.{Sound}
use Rattle.chip.proofs.Laws.Chip.{regular}
use Rattle.state.proofs.Laws.Protection.{first_le}
use Rattle.command.specs.declared.Command.{Command}
use Rattle.command.specs.declared.Command.TheVariants.{
  ReadStatus,
  ReadSignature,
  WriteEnable,
  WriteDisable,
  Arm,
  WriteStatus,
  Erase,
  ProgramByte,
  ProgramPage,
  ProgramWord,
  Sleep,
}
use Rattle.command.specs.Command.{when, long, address, writable, erase, aai_rows, by_kind, in_aai, command_of}
use Rattle.command.specs.Fits.{Resting, Open, Fits}
use Rattle.command.proofs.Laws.Rows.{AllRows, look_elim}

-- ---- each row fits

pub address_lt : (s : State) (f : List ℕ) → address s f < (data_of s).size
unfolding address
address_lt s f = mod-lt _ (regular s.chip).size_positive

pub open_of : (s : State) (end : ℕ) → writable s end ≡ true → Open s end
unfolding writable
open_of s end e = record {
  enabled = and_l s.wel (leb end (first_protected s)) e;
  free = leb-true end (first_protected s) (and_r s.wel (leb end (first_protected s)) e);
}

module _ (s : State) (wp : Bool) (f : List ℕ) where
  -- a row that is taken when a test holds
  given : (c : Command) (t : Bool) → (t ≡ true → Fits s c) → Fits s (when t c)
  given c t h = cond_elim (Fits s) t h (λ _. tt)

  erase_fits : (a n t : ℕ) → Resting s → t ≤ (data_of s).chip_time → Fits s (erase s a n t)
  erase_fits a n t r h = given (Erase a n t) (writable s (a + n)) (λ w. (r, (open_of s (a + n) w, h)))

  kind_fits : Resting s → (op : ℕ) (kind : Kind) → kind_of s.chip op ≡ kind → Fits s (by_kind s wp f kind)
  unfolding by_kind
  kind_fits r op Unknown e = tt
  kind_fits r op Read e = address_lt s f
  kind_fits r op FastRead e = address_lt s f
  kind_fits r op SectorErase e = given _ (long f 4) (λ _. erase_fits (address s f / 4096 * 4096) 4096 90000 r (regular s.chip).sector_le_chip_time)
  kind_fits r op BlockErase e = given _ (long f 4) (λ _. erase_fits (address s f / 65536 * 65536) 65536 (data_of s).block_time r (regular s.chip).block_le_chip_time)
  kind_fits r op ChipErase e = given _ (long f 1) (λ _. erase_fits 0 (data_of s).size (data_of s).chip_time r (omega arith))
  kind_fits r op ByteProgram e = given _ (long f 5) (λ _. given (ProgramByte (address s f)) (writable s (address s f + 1)) (λ w. (r, open_of s (address s f + 1) w)))
  kind_fits r op PageProgram e =
      given _ (leb 5 (length f)) (λ _. given (ProgramPage (address s f) (length f - 4)) (writable s (address s f + 1)) (λ w. (r, open_of s (address s f + 1) w)))
  kind_fits r op AaiProgram e =
      let even = address s f / 2 * 2 in
      given _ (long f 6) (λ _. given (ProgramWord even 4) (writable s (even + 2))
      (λ w. (record { aai_had = (regular s.chip).aai_program_needs_aai op e; still = r.still; awake = r.awake; even = omega arith }, open_of s (even + 2) w)))
  kind_fits r op Rdsr e = tt
  kind_fits r op Ewsr e = given Arm (long f 1) (λ _. (r, (regular s.chip).ewsr_needs_ewsr op e))
  kind_fits r op Wrsr e =
      given _ (long f 2) (λ _. given _ s.armed (λ a. given (WriteStatus (get_or f 1 0) (data_of s).status_time) (not s.bpl || wp) (λ _. (r, (a, refl)))))
  kind_fits r op Wren e = given WriteEnable (long f 1) (λ _. r)
  kind_fits r op Wrdi e = given WriteDisable (long f 1) (λ _. r.still)
  kind_fits r op DeepPowerDown e = given Sleep (long f 1) (λ _. (r, (regular s.chip).power_down_needs_sleeps op e))
  kind_fits r op Res e = tt
  kind_fits r op JedecId e = tt
  kind_fits r op Rdid e = tt

  -- no chip with AAI has power-down
  awake_in_aai : Sound s → s.aai ≡ true → s.power_down ≡ false
  awake_in_aai h a = cases s.power_down (λ d. absurd ((regular s.chip).aai_without_power_down (h.aai_had a) (h.power_down_had d))) (λ d. d)

  aai_fits : Sound s → s.left ≡ 0 → s.aai ≡ true → (op : ℕ) → AllRows (Fits s) op (aai_rows s f)
  aai_fits h z a op =
      (λ _. given _ (long f 3) (λ _. given (ProgramWord s.next 1) (writable s (s.next + 2))
      (λ w. (record { aai_had = h.aai_had a; still = z; awake = awake_in_aai h a; even = (h.in_aai_lem a).next_even }, open_of s (s.next + 2) w))))
      ▹ (λ _. tt)
      ▹ (λ _. given WriteDisable (long f 1) (λ _. z))
      ▹ tt

  pub fits : Sound s → Fits s (command_of s wp f)
  unfolding command_of in_aai
  fits h =
      let op = get_or f 0 0 in
      cond_elim (Fits s) (ltb 0 s.left) (λ _. look_elim (Fits s) tt ((0x05, ReadStatus) ∷ []) op ((λ _. tt), tt))
      (λ e. let z : s.left ≡ 0 = let l = ltb-false 0 s.left e in omega arith in
      cond_elim (Fits s) s.aai (λ a. look_elim (Fits s) tt (aai_rows s f) op (aai_fits h z a op))
      (λ a. cond_elim (Fits s) s.power_down (λ _. look_elim (Fits s) tt ((0xab, ReadSignature) ∷ []) op ((λ _. tt), tt))
      (λ d. kind_fits record { still = z; single = a; awake = d } op (kind_of s.chip op) refl)))

-- AAI's next address leaves room for a word
pub next_low : (s : State) → Sound s → s.next < 2097152
next_low s h = cases s.aai (λ a. omega (arith, (h.in_aai_lem a).next_le_first, first_le s)) (λ a. omega (arith, h.next_0_without_aai a))
