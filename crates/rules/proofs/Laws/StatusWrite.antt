-- The F25L05PA's status write: which frames begin one, what becomes of the chip in its time, and where the power is cut.
-- Assumes nothing.
use mathlib.Core.Path.{◌≡◌, refl, sym, ap, ap₂, ◌∙◌}
use mathlib.Core.Bool.{Bool, true, false, ◌&&◌, ◌||◌, not, false≢true}
use mathlib.Core.List.{List, [], ◌∷◌}
use mathlib.Core.Logic.{◌⊎◌, inl, inr, ⊎_elim}
use Prim.Native.Nat.{ℕ, ◌+◌, ◌-◌, ◌≤◌, ◌<◌}
use native.Mathlib.Omega.{arith}
use lib.Dec.{ltb, eqb}
use lib.ListN.{length, get_or}
use borrow.Author.Tests.{eqb-true, eqb-false, not-true, ltb-true, ltb-false, lt-ltb, le-ltb}
use Rattle.common.proofs.Laws.Booleans.{and_l, and_r, and_true, or_none_l, or_none_r, or_false}
use Rattle.common.proofs.Laws.Choice.{cases}
use Rattle.chip.specs.declared.Chip.{Chip}
use Rattle.chip.specs.declared.kinds.Kind.{Kind}
use Rattle.chip.specs.declared.kinds.Kind.TheVariants.{
  Unknown,
  Read,
  FastRead,
  SectorErase,
  BlockErase,
  ChipErase,
  ByteProgram,
  PageProgram,
  AaiProgram,
  Rdsr,
  Ewsr,
  Wrsr,
  Wren,
  Wrdi,
  DeepPowerDown,
  Res,
  JedecId,
  Rdid,
}
use Rattle.chip.specs.Chip.{kind_of}
use Rattle.chip.proofs.Laws.Chip.{chip_of_5, known_number}
use Rattle.state.specs.declared.State.{State}
use Rattle.state.specs.declared.Answer.{Answer}
use Rattle.state.specs.State.{data_of}
use Rattle.state.specs.Soundness.{is_busy, Sound}
use Rattle.state.specs.Status.{status_of}
use Rattle.state.specs.Power.{powered_up, power_up}
use Rattle.state.specs.Time.{time_passed, pass_time}
use Rattle.state.proofs.Laws.Power.{powered_up_keeps}
use Rattle.state.proofs.Laws.Protection.{first_by}
use Rattle.state.proofs.Laws.Soundness.{of_sound}
use Rattle.state.proofs.Laws.Status.{status_sum}
use Rattle.state.proofs.Laws.Time.{time_passed_sound}
use Rattle.state.proofs.Laws.Passed.{time_goes_on, time_ends_written, pass_time_granted}
use Rattle.command.specs.declared.Command.TheVariants.{WriteStatus}
use Rattle.command.specs.Command.{when, long, by_kind, command_of}
use Rattle.command.specs.Fits.{Resting}
use Rattle.command.proofs.Laws.Modes.{seen_at_rest}
use Rattle.registers.specs.Registers.{state_after}
use Rattle.effect.proofs.Laws.Straight.{keep_array_cut}
use Rattle.frame.specs.Device.{Device, device}
use Rattle.frame.specs.Line.{Line}
use Rattle.frame.specs.Cut.{status_time, is_status_cycle, takes_mask, state_cut}
use Rattle.frame.specs.Call.{Accepted, frame_device, cut_number, CutAccepted, cut_device}
use Rattle.frame.proofs.Laws.Accepted.{number_accepted, cut_number_accepted, cut_accepted_number, cut_number_unmasked}
use Rattle.frame.proofs.Laws.Call.{cut_accepted}
use Rattle.frame.proofs.Laws.Cut.{cycle_keeps, cycle_left, cut_new, cut_old, masked_of}
use Rattle.frame.proofs.Laws.Ran.{ran_is, ran_sound, torn_is}
use Rattle.rules.specs.Chips.{by_chip}
use Rattle.rules.specs.Power.{kept_05pa, written_05pa}
use Rattle.rules.specs.Frames.{opcode, is_resting, is_among, silent, unchanged, Does}
use Rattle.rules.specs.Opcodes.{is_status_taken, status_begun}
use Rattle.rules.specs.StatusWrite.{begins_cycle, writing_05pa, StatusWrite, StatusWriteRules}
use Rattle.rules.proofs.Laws.Chips.{data_by_chip, same_by_chip}
use Rattle.rules.proofs.Laws.StatusByte.{written_again}
use Rattle.rules.proofs.Laws.Soundness.{soundness}
use Rattle.rules.proofs.Laws.Power.{power_up_lem}
use Rattle.rules.proofs.Laws.Time.{written_is}
use Rattle.rules.proofs.Laws.Kinds.{is_status_write, kind_exactly}
use Rattle.rules.proofs.Laws.Does.{done}
use Rattle.rules.proofs.Laws.AtRest.{bare, kind_fails, at_rest_alone}
use Rattle.rules.proofs.Laws.Frames.{frame_rules}
use Rattle.rules.proofs.Laws.Switches.{not_locked, switches}

-- ---- which frames begin one

-- a status write, by its row's tests
by_tests : (a b c : Bool) (byte time : ℕ) → is_status_cycle (when a (when b (when c (WriteStatus byte time)))) ≡ ((a && (b && c)) && ltb 0 time)
by_tests true true true byte time = refl
by_tests true true false byte time = refl
by_tests true false c byte time = refl
by_tests false b c byte time = refl

module _ (s : State) (wp : Bool) (f : List ℕ) where
  -- a kind whose command begins no status write, taken or not
  quiet : (kind : Kind) → is_status_cycle (bare s f kind) ≡ false → is_status_cycle (by_kind s wp f kind) ≡ false
  quiet kind fails = kind_fails is_status_cycle refl s wp f kind fails

  cycle_by_kind : (kind : Kind) → is_status_cycle (by_kind s wp f kind)
      ≡ (is_status_write kind && ((long f 2 && (s.armed && (not s.bpl || wp))) && ltb 0 (data_of s).status_time))
  unfolding by_kind
  cycle_by_kind Unknown = quiet Unknown refl
  cycle_by_kind Read = quiet Read refl
  cycle_by_kind FastRead = quiet FastRead refl
  cycle_by_kind SectorErase = quiet SectorErase refl
  cycle_by_kind BlockErase = quiet BlockErase refl
  cycle_by_kind ChipErase = quiet ChipErase refl
  cycle_by_kind ByteProgram = quiet ByteProgram refl
  cycle_by_kind PageProgram = quiet PageProgram refl
  cycle_by_kind AaiProgram = quiet AaiProgram refl
  cycle_by_kind Rdsr = quiet Rdsr refl
  cycle_by_kind Ewsr = quiet Ewsr refl
  cycle_by_kind Wrsr = by_tests (long f 2) s.armed (not s.bpl || wp) (get_or f 1 0) (data_of s).status_time
  cycle_by_kind Wren = quiet Wren refl
  cycle_by_kind Wrdi = quiet Wrdi refl
  cycle_by_kind DeepPowerDown = quiet DeepPowerDown refl
  cycle_by_kind Res = quiet Res refl
  cycle_by_kind JedecId = quiet JedecId refl
  cycle_by_kind Rdid = quiet Rdid refl

-- on the one chip alone
small_alone : (number op : ℕ) (taken : Bool) → (is_among op (0x01 ∷ []) && (taken && by_chip number false true)) ≡ (is_among op (by_chip number [] (0x01 ∷ [])) && taken)
small_alone number op taken =
    cases (eqb number 8) (λ t. rw t (none (is_among op (0x01 ∷ [])) taken)) (λ t. rw t (ap (λ (b : Bool). is_among op (0x01 ∷ []) && b) (and_true taken)))
  where
    none : (a b : Bool) → (a && (b && false)) ≡ false
    none true true = refl
    none true false = refl
    none false b = refl

module _ {wp : Bool} {f : List ℕ} {d : Device} {line : Line} (a : Accepted wp f d line) where
  abbrev s : State
  s = d.state

  at_rest : Resting s → is_status_cycle (command_of s wp f) ≡ (is_among (opcode f) (by_chip s.chip [] (0x01 ∷ [])) && is_status_taken wp f d)
  at_rest r =
      ap is_status_cycle (seen_at_rest s f wp r)
      ∙ cycle_by_kind s wp f (kind_of s.chip (opcode f))
      ∙ rw (
        kind_exactly is_status_write (0x01 ∷ []) (0x01 ∷ []) refl refl s.chip a.sound.chip_known (opcode f),
        same_by_chip {A = List ℕ} s.chip (0x01 ∷ []),
        not_locked a s.bpl,
        data_by_chip s.chip a.sound.chip_known (λ (c : Chip). ltb 0 c.status_time),
      ) (small_alone s.chip (opcode f) (is_status_taken wp f d))

  pub cycle_exactly : is_status_cycle (command_of s wp f) ≡ begins_cycle wp f d
  cycle_exactly =
      at_rest_alone is_status_cycle refl a refl refl refl (λ _ _. refl) (λ e. rw e refl) (λ r. at_rest r ∙ rw (r.still, r.single, r.awake) refl)

  -- ---- one that does

  module _ (begun : begins_cycle wp f d ≡ true) where
    abbrev byte : ℕ
    byte = get_or f 1 0

    resting : Resting s
    resting =
        let none = not-true (is_busy s || s.aai || s.power_down) (and_l (is_resting s) _ begun) in
        let two = or_none_l (is_busy s || s.aai) s.power_down none in
        let still = ltb-false 0 s.left (or_none_l (is_busy s) s.aai two) in
        record { still = omega arith; single = or_none_r (is_busy s) s.aai two; awake = or_none_r (is_busy s || s.aai) s.power_down none }

    listed : is_among (opcode f) (by_chip s.chip [] (0x01 ∷ [])) ≡ true
    listed = and_l (is_among (opcode f) (by_chip s.chip [] (0x01 ∷ []))) (is_status_taken wp f d) (and_r (is_resting s) _ begun)

    taken : is_status_taken wp f d ≡ true
    taken = and_r (is_among (opcode f) (by_chip s.chip [] (0x01 ∷ []))) (is_status_taken wp f d) (and_r (is_resting s) _ begun)

    not_big : eqb s.chip 8 ≡ false
    not_big = cases (eqb s.chip 8) (λ t. absurd (false≢true (rw t at listed))) (λ t. t)

    small : s.chip ≡ 5
    small = ⊎_elim (λ e. absurd (eqb-false s.chip 8 not_big e)) (λ e. e) (known_number s.chip a.sound.chip_known)

    is_01 : opcode f ≡ 0x01
    is_01 = eqb-true (opcode f) 0x01 (sym (or_false (eqb (opcode f) 0x01)) ∙ rw not_big at listed)

    enabled : s.wel ≡ true
    enabled =
        let armed = and_l s.armed (not (s.bpl && not wp)) (and_r (eqb (length f) 2) _ taken) in
        ((soundness s).sound_when.when (of_sound s a.sound)).armed_needs_wel small armed

    whole : Does wp f d line silent (status_begun byte d) unchanged
    whole = rw not_big at (((switches a).write_status_lem resting is_01).then taken)

    -- every field
    begun_is : status_begun byte d ≡ writing_05pa s byte 5000
    begun_is = rw (small, enabled, resting.single, resting.awake, a.sound.next_0_without_aai resting.single) refl

    begins : frame_device wp f d line ≡ device (writing_05pa s byte 5000) d.array
    begins = whole.device_is ∙ ap₂ device begun_is (frame_rules a).kept

    after_is : state_after s (command_of s wp f) ≡ writing_05pa s byte 5000
    after_is = ap (λ (e : Device). e.state) (sym (ran_is wp f d) ∙ (done a).device_is ∙ begins)

    writing_sound : Sound (writing_05pa s byte 5000)
    writing_sound = rw after_is at (rw (ran_is wp f d) at (ran_sound wp f d a.sound))

    -- ---- its time

    later : (m : ℕ) → (pass_time (frame_device wp f d line).state m).state ≡ time_passed (writing_05pa s byte 5000) m
    later m = rw begins (ap (λ (x : Answer). x.state) (pass_time_granted (writing_05pa s byte 5000) m writing_sound))

    goes_on : (m : ℕ) → m < 5000 → (pass_time (frame_device wp f d line).state m).state ≡ writing_05pa s byte (5000 - m)
    goes_on m h = later m ∙ time_goes_on (writing_05pa s byte 5000) m h

    ended : (m : ℕ) → 5000 ≤ m → time_passed (writing_05pa s byte 5000) m ≡ written_05pa byte
    ended m h =
        time_ends_written (writing_05pa s byte 5000) m (omega arith) h refl
        ∙ written_is (writing_05pa s byte 5000) ((soundness (writing_05pa s byte 5000)).sound_when.when (of_sound (writing_05pa s byte 5000) writing_sound)) refl
        ∙ written_again byte

    shows : (left : ℕ) → 0 < left → status_of (writing_05pa s byte left) ≡ status_of s + 1
    shows left some =
        status_sum (writing_05pa s byte left)
        ∙ rw (lt-ltb 0 left some, status_sum s, le-ltb 0 s.left (omega (arith, resting.still)), enabled, resting.single, small, chip_of_5) (omega arith)

    -- ---- power-up

    kept : powered_up (writing_05pa s byte 5000) ≡ kept_05pa s
    kept = powered_up_keeps (writing_05pa s byte 5000) (rw chip_of_5 refl)

    powers_up : (m : ℕ) → m < 5000 → power_up (pass_time (frame_device wp f d line).state m).state ≡ record { number = 0; state = kept_05pa s }
    powers_up m h =
        let sound = rw (time_goes_on (writing_05pa s byte 5000) m h) at (time_passed_sound (writing_05pa s byte 5000) m writing_sound) in
        rw (goes_on m h) ((power_up_lem (writing_05pa s byte (5000 - m)) (of_sound (writing_05pa s byte (5000 - m)) sound)).up_05pa refl)

    -- ---- cut short

    timed : is_status_cycle (command_of s wp f) ≡ true
    timed = cycle_exactly ∙ begun

    module _ (mask : List ℕ) (long : length mask ≡ 1) (old_or_new : (get_or mask 0 0 ≡ 0x00) ⊎ (get_or mask 0 0 ≡ 0xff)) where
      accepted : CutAccepted wp f mask d line
      accepted = record { whole = a; masked = record { bytes = long ∙ sym (rw timed refl); old_or_new = λ _. old_or_new } }

      torn : {after : State} → powered_up (state_cut s (command_of s wp f) mask) ≡ after → (cut_number wp f mask d line ≡ 0) × (cut_device wp f mask d line ≡ device after d.array)
      torn after_is =
          let run = cut_accepted wp f d line mask accepted record { device_is = refl; line_is = refl } in (
            cut_accepted_number wp f d line mask accepted,
            sym run.device_is ∙ torn_is wp f d mask ∙ ap₂ device after_is (rw (cycle_keeps (command_of s wp f) timed) (keep_array_cut f d.array mask)),
          )

    torn_old : (cut_number wp f (0x00 ∷ []) d line ≡ 0) × (cut_device wp f (0x00 ∷ []) d line ≡ device (kept_05pa s) d.array)
    torn_old = torn (0x00 ∷ []) refl (inl refl) (rw (cut_old s (command_of s wp f) (0x00 ∷ []) refl, after_is) kept)

    torn_new : (cut_number wp f (0xff ∷ []) d line ≡ 0) × (cut_device wp f (0xff ∷ []) d line ≡ device (written_05pa byte) d.array)
    torn_new =
        let time : 5000 ≤ status_time (command_of s wp f) = omega (arith, rw after_is at (cycle_left s (command_of s wp f) (ltb-true 0 (status_time (command_of s wp f)) timed))) in
        torn (0xff ∷ []) refl (inr refl)
        (rw (cut_new s (command_of s wp f) (0xff ∷ []) timed refl, after_is, ended (status_time (command_of s wp f)) time) (powered_up_keeps (written_05pa byte) (rw chip_of_5 refl)))

    -- a mask of one byte
    one_byte : (mask : List ℕ) (x : ℕ) → length mask ≡ 1 → get_or mask 0 0 ≡ x → mask ≡ x ∷ []
    one_byte [] x long e = absurd (omega arith)
    one_byte (y ∷ []) x long e = rw e refl
    one_byte (y ∷ z ∷ mask) x long e = absurd (omega arith)

    other_mask : (mask : List ℕ) → (mask ≡ 0x00 ∷ [] → ⊥) → (mask ≡ 0xff ∷ [] → ⊥) → cut_number wp f mask d line ≡ 5
    other_mask mask not_old not_new =
        cut_number_unmasked wp f d line mask a
        (cases (takes_mask (command_of s wp f) mask)
        (λ t. let m = masked_of (command_of s wp f) mask t in
        let long : length mask ≡ 1 = m.bytes ∙ rw timed refl in
        absurd (⊎_elim (λ e. not_old (one_byte mask 0x00 long e)) (λ e. not_new (one_byte mask 0xff long e)) (m.old_or_new timed)))
        (λ t. t))

    pub status_write : StatusWrite wp f d line
    status_write = record {
      begins = begins;
      goes_on = goes_on;
      shows = shows;
      protects = λ left. first_by (writing_05pa s byte left) s (sym small) refl;
      ends = λ m h. later m ∙ ended m h;
      powers_up = powers_up;
      cut_old = torn_old;
      cut_new = torn_new;
      cut_other = other_mask;
      cut_shows = λ mask good.
          sym (cut_accepted wp f d line mask (cut_number_accepted wp f d line mask good) record { device_is = refl; line_is = refl }).line_is
          ∙ (done a).line_is ∙ whole.line_is;
    }

pub status_write_rules : StatusWriteRules
status_write_rules = record { every_frame = λ wp f d line good begun. status_write (number_accepted wp f d line good) begun }
