-- Steps 1 and 4 of a plan: the two frames that write the protection bits, and the wait for them. The byte sent is read back as it was meant.
-- Assumes nothing.
use mathlib.Core.Path.{◌≡◌, refl, ap, ◌∙◌}
use mathlib.Core.Bool.{Bool, true, false, ◌&&◌, ◌||◌, not, false≢true}
use mathlib.Core.List.{List, [], ◌∷◌}
use mathlib.Core.Logic.{◌⊎◌, ⊎_elim}
use Prim.Native.Nat.{ℕ, ◌+◌, ◌*◌, ◌/◌, ◌%◌, ◌≤◌, ◌<◌}
use native.Mathlib.Omega.{arith}
use lib.Dec.{eqb}
use Rattle.common.proofs.Laws.Choice.{cases}
use Rattle.common.proofs.Laws.Lists.{split}
use Rattle.chip.proofs.Laws.Chip.{ewsr_at_once}
use Rattle.state.specs.declared.State.{State}
use Rattle.state.specs.State.{data_of, with_left, with_wel, with_bits, with_pending}
use Rattle.common.specs.Bits.{bit}
use Rattle.command.specs.declared.Command.TheVariants.{WriteEnable, Arm, WriteStatus}
use Rattle.state.specs.Status.{has, writable_bits, with_status_byte}
use Rattle.state.specs.Time.{time_passed}
use Rattle.state.proofs.Laws.Passed.{time_ends_written}
use Rattle.registers.specs.Registers.{disarm, state_after}
use Rattle.registers.proofs.Laws.After.{after_arm, after_write_enable, after_write_status, after_status_begun}
use Rattle.script.specs.Record.{frame}
use Rattle.common.proofs.Laws.Flags.{bit_le}
use Rattle.plan.proofs.Laws.Steps.{status_records_lem, status_byte_digits, settle_none, settle_some}
use Rattle.plan.specs.Plan.{status_byte, settle, status_records}
use Rattle.powercut.proofs.Laws.States.{rest, writing}
use Rattle.powercut.proofs.Laws.Safe.{Task, Bits, HeldBy}
use Rattle.powercut.proofs.Laws.Run.{Done, Runs, OnItsWay, ran_nil, ran_quiet, ran_wait}
use Rattle.powercut.proofs.Laws.Frames.{write_enable, arm, write_status_lem}

-- ---- the byte

flag : (b : Bool) → eqb (bit b 1) 1 ≡ b
flag true = refl
flag false = refl

module _ (bp : ℕ) (tb bpl : Bool) (low : bp ≤ 7) where
  abbrev byte : ℕ
  byte = status_byte bp tb bpl

  level_back : byte / 4 % 8 ≡ bp
  level_back = omega (arith, status_byte_digits bp tb bpl, bit_le tb 1, bit_le bpl 1)

  tb_back : has byte 32 ≡ tb
  tb_back = let e : byte / 32 % 2 ≡ bit tb 1 = omega (arith, status_byte_digits bp tb bpl, bit_le tb 1, bit_le bpl 1) in ap (λ (n : ℕ). eqb n 1) e ∙ flag tb

  bpl_back : has byte 128 ≡ bpl
  bpl_back = let e : byte / 128 % 2 ≡ bit bpl 1 = omega (arith, status_byte_digits bp tb bpl, bit_le tb 1, bit_le bpl 1) in ap (λ (n : ℕ). eqb n 1) e ∙ flag bpl

-- TB is written on a chip that has it
has_tb : (t tb : Bool) → (tb ≡ true → t ≡ true) → t && tb ≡ tb
has_tb true tb h = refl
has_tb false true h = h refl
has_tb false false h = refl

module _ (s : State) (to : ℕ) (low : to ≤ 7) (topped : s.tb ≡ true → (data_of s).top_bottom ≡ true) where
  abbrev sent : ℕ
  sent = status_byte to s.tb s.bpl

  -- the bits that the byte sets
  written : (x : State) → x.chip ≡ s.chip → with_status_byte x sent ≡ with_bits x to s.tb s.bpl
  written x same =
      rw (level_back to s.tb s.bpl low, tb_back to s.tb s.bpl low, bpl_back to s.tb s.bpl low, same, has_tb (data_of s).top_bottom s.tb topped) refl

  -- all of them can be written
  bits_back : writable_bits sent ≡ sent
  bits_back =
      let digits = status_byte_digits to s.tb s.bpl in
      let tb = bit_le s.tb 1 in
      let bpl = bit_le s.bpl 1 in
      let four : sent / 4 % 16 ≡ to + bit s.tb 1 * 8 = omega arith in
      let one : sent / 128 ≡ bit s.bpl 1 = omega arith in
      let same : bit s.bpl 1 % 2 ≡ bit s.bpl 1 = omega arith in
      rw (four, one, same) (omega arith)

  module _ (bp : ℕ) where
    -- at once
    written_at_once : (wel : Bool) → (data_of s).status_time ≡ 0 → state_after (rest s bp wel true) (WriteStatus sent (data_of s).status_time) ≡ rest s to false false
    written_at_once wel none =
        rw none (after_write_status (rest s bp wel true) sent ∙ ap (λ (x : State). with_wel x false) (written (disarm (rest s bp wel true)) refl))

    -- or by a cycle of its own
    begun : 0 < (data_of s).status_time → state_after (rest s bp true true) (WriteStatus sent (data_of s).status_time) ≡ writing s bp sent
    begun some = after_status_begun (rest s bp true true) sent (data_of s).status_time some ∙ rw bits_back refl

    ended : 0 < (data_of s).status_time → time_passed (writing s bp sent) (data_of s).status_time ≡ rest s to false false
    ended some =
        time_ends_written (writing s bp sent) (data_of s).status_time some (omega arith) refl
        ∙ ap (λ (x : State). with_wel (with_pending x false 0) false) (written (with_left (writing s bp sent) 0) refl)

-- ---- the two frames

-- the bits as they were given, at a level that is the given one or 000
bits_at : (given : State) (bp : ℕ) → (bp ≡ given.bp) ⊎ (bp ≡ 0) → Bits given bp given.tb given.bpl
bits_at given bp l = record { level_held = l; same_tb = refl; same_bpl = refl }

pub held_at : (given : State) (bp : ℕ) → (bp ≡ given.bp) ⊎ (bp ≡ 0) → HeldBy given (rest given bp false false)
held_at given bp l = record { same_chip = refl; now = bits_at given bp l; coming = λ e. absurd (false≢true e) }

module _ (t : Task) (topped : t.chip.state.tb ≡ true → (data_of t.chip.state).top_bottom ≡ true) (free : not t.chip.state.bpl || t.level ≡ true) where
  abbrev s : State
  s = t.chip.state

  abbrev time : ℕ
  time = (data_of s).status_time

  -- from one level to another
  module _ (bp to : ℕ) (held : (bp ≡ s.bp) ⊎ (bp ≡ 0)) (held_to : (to ≡ s.bp) ⊎ (to ≡ 0)) (low : to ≤ 7)
      (z : ℕ) (array : List ℕ) (near : OnItsWay t array) (done : Done t z array) where
    abbrev byte_sent : ℕ
    byte_sent = status_byte to s.tb s.bpl

    -- while the cycle goes on the old bits hold, and the new ones are coming
    held_writing : HeldBy s (writing s bp byte_sent)
    held_writing = record {
      same_chip = refl;
      now = bits_at s bp held;
      coming = λ _. rw (level_back to s.tb s.bpl low, tb_back to s.tb s.bpl low, bpl_back to s.tb s.bpl low, has_tb (data_of s).top_bottom s.tb topped)
          (bits_at s to held_to);
    }

    ends : Runs t (rest s to false false) z [] (rest s to false false) array
    ends = ran_nil t z (held_at s to held_to) near done

    at_once : (wel : Bool) → time ≡ 0 → Runs t (rest s to false false) z (frame (0x01 ∷ byte_sent ∷ []) ∷ settle time) (rest s bp wel true) array
    at_once wel none =
        rw (settle_none time none)
        (ran_quiet t (WriteStatus byte_sent time) (write_status_lem t.level s bp wel true byte_sent free) refl (held_at s bp held) near
        (rw (written_at_once s to low topped bp wel none) ends))

    in_time : 0 < time → Runs t (rest s to false false) z (frame (0x01 ∷ byte_sent ∷ []) ∷ settle time) (rest s bp true true) array
    in_time some =
        rw (settle_some time some)
        (ran_quiet t (WriteStatus byte_sent time) (write_status_lem t.level s bp true true byte_sent free) refl (held_at s bp held) near
        (rw (begun s to low topped bp some) (ran_wait t (rest s to false false) (ended s to low topped bp some) held_writing near ends)))

    pub status_ran : (wel armed : Bool) → Runs t (rest s to false false) z (status_records s to) (rest s bp wel armed) array
    status_ran wel armed =
        rw (status_records_lem s to)
        (cases (data_of s).ewsr
        (λ e. rw e
        (ran_quiet t Arm (arm t.level s bp wel armed e) refl (held_at s bp held) near (rw (after_arm (rest s bp wel armed)) (at_once wel (ewsr_at_once s.chip e)))))
        (λ e. rw e
        (ran_quiet t WriteEnable (write_enable t.level s bp wel armed) refl (held_at s bp held) near
        (rw (after_write_enable (rest s bp wel armed)) (⊎_elim in_time (λ none. at_once true (omega arith)) (split 0 time))))))
