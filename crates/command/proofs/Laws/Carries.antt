-- The frame has the data bytes that its command speaks of.
-- Assumes nothing.
use mathlib.Core.Path.{◌≡◌}
use mathlib.Core.Bool.{Bool, true, ◌||◌, not}
use mathlib.Core.List.{List, [], ◌∷◌}
use Prim.Native.Nat.{ℕ, ◌+◌, ◌-◌, ◌*◌, ◌/◌}
use native.Mathlib.Omega.{arith}
use lib.Dec.{leb, ltb}
use lib.ListN.{get_or, length}
use borrow.Author.Tests.{leb-true, eqb-true}
use Rattle.common.proofs.Laws.Choice.{cond_elim}
use Rattle.common.proofs.Laws.Pairs.{◌▹◌}
use Rattle.state.specs.declared.State.{State}
use Rattle.state.specs.State.{data_of}
use Rattle.chip.specs.declared.kinds.Kind.{Kind}
use Rattle.chip.specs.declared.kinds.Kind.TheVariants.{
  Unknown,
  Read,
  FastRead,
  SectorErase,
  BlockErase,
  ChipErase,
  ByteProgram,
  PageProgram,
  AaiProgram,
  Rdsr,
  Ewsr,
  Wrsr,
  Wren,
  Wrdi,
  DeepPowerDown,
  Res,
  JedecId,
  Rdid,
}
use Rattle.chip.specs.Chip.{kind_of}
use Rattle.command.specs.declared.Command.{Command}
use Rattle.command.specs.declared.Command.TheVariants.{
  ReadStatus,
  ReadSignature,
  WriteEnable,
  WriteDisable,
  Arm,
  WriteStatus,
  Erase,
  ProgramByte,
  ProgramPage,
  ProgramWord,
  Sleep,
}
use Rattle.command.specs.Command.{when, long, address, writable, erase, aai_rows, by_kind, in_aai, command_of}
use Rattle.command.specs.Fits.{Carries}
use Rattle.command.proofs.Laws.Rows.{AllRows, look_elim}

module _ (s : State) (wp : Bool) (f : List ℕ) where
  given : (c : Command) (t : Bool) → (t ≡ true → Carries f c) → Carries f (when t c)
  given c t h = cond_elim (Carries f) t h (λ _. tt)

  -- a frame of n bytes
  long_is : (n : ℕ) → long f n ≡ true → length f ≡ n
  long_is n e = eqb-true (length f) n e

  erase_carries : (a n t : ℕ) → Carries f (erase s a n t)
  erase_carries a n t = given (Erase a n t) (writable s (a + n)) (λ _. tt)

  kind_carries : (kind : Kind) → Carries f (by_kind s wp f kind)
  unfolding by_kind
  kind_carries Unknown = tt
  kind_carries Read = tt
  kind_carries FastRead = tt
  kind_carries SectorErase = given _ (long f 4) (λ _. erase_carries (address s f / 4096 * 4096) 4096 90000)
  kind_carries BlockErase = given _ (long f 4) (λ _. erase_carries (address s f / 65536 * 65536) 65536 _)
  kind_carries ChipErase = given _ (long f 1) (λ _. erase_carries 0 _ _)
  kind_carries ByteProgram = given _ (long f 5) (λ e. given (ProgramByte (address s f)) (writable s (address s f + 1)) (λ _. long_is 5 e))
  kind_carries PageProgram =
      given _ (leb 5 (length f)) (λ e. given (ProgramPage (address s f) (length f - 4)) (writable s (address s f + 1)) (λ _. let h = leb-true 5 (length f) e in omega arith))
  kind_carries AaiProgram =
      let even = address s f / 2 * 2 in
      given _ (long f 6) (λ e. given (ProgramWord even 4) (writable s (even + 2)) (λ _. let h = long_is 6 e in omega arith))
  kind_carries Rdsr = tt
  kind_carries Ewsr = given Arm (long f 1) (λ _. tt)
  kind_carries Wrsr = given _ (long f 2) (λ _. given _ s.armed (λ _. given (WriteStatus (get_or f 1 0) (data_of s).status_time) (not s.bpl || wp) (λ _. tt)))
  kind_carries Wren = given WriteEnable (long f 1) (λ _. tt)
  kind_carries Wrdi = given WriteDisable (long f 1) (λ _. tt)
  kind_carries DeepPowerDown = given Sleep (long f 1) (λ _. tt)
  kind_carries Res = tt
  kind_carries JedecId = tt
  kind_carries Rdid = tt

  aai_carry : (n : ℕ) → AllRows (Carries f) n (aai_rows s f)
  aai_carry n =
      (λ _. given _ (long f 3) (λ e. given (ProgramWord s.next 1) (writable s (s.next + 2)) (λ _. let h = long_is 3 e in omega arith)))
      ▹ (λ _. tt)
      ▹ (λ _. given WriteDisable (long f 1) (λ _. tt))
      ▹ tt

  pub carries : Carries f (command_of s wp f)
  unfolding command_of in_aai
  carries =
      let op = get_or f 0 0 in
      cond_elim (Carries f) (ltb 0 s.left) (λ _. look_elim (Carries f) tt ((0x05, ReadStatus) ∷ []) op ((λ _. tt), tt))
      (λ _. cond_elim (Carries f) s.aai (λ _. look_elim (Carries f) tt (aai_rows s f) op (aai_carry op))
      (λ _. cond_elim (Carries f) s.power_down (λ _. look_elim (Carries f) tt ((0xab, ReadSignature) ∷ []) op ((λ _. tt), tt))
      (λ _. kind_carries (kind_of s.chip op))))
