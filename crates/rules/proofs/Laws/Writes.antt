-- The opcodes that program and erase: what they need, what becomes of the array, and how long they take.
-- Assumes nothing.
use mathlib.Core.Path.{◌≡◌, refl, sym, ap, ap₂, ◌∙◌}
use mathlib.Core.Bool.{Bool, true, ◌&&◌, cond}
use mathlib.Core.List.{List}
use mathlib.Core.Logic.{◌⊎◌, inl, inr, ⊎_elim}
use Prim.Native.Nat.{ℕ, zero, suc, ◌+◌, ◌-◌, ◌*◌, ◌/◌, ◌%◌, ◌≤◌}
use native.Mathlib.Omega.{arith}
use lib.Bits.{bit_and}
use lib.Dec.{leb, ltb, eqb}
use lib.ListN.{length, get_or, drop, length-drop}
use borrow.Author.Tests.{lt-leb, le-leb, eq-eqb, ne_eqb, eqb-true}
use Rattle.common.proofs.Laws.Choice.{cases}
use Rattle.common.proofs.Laws.Booleans.{and_l, and_r}
use Rattle.common.proofs.Laws.Lists.{split}
use Rattle.chip.specs.declared.Chip.{Chip}
use Rattle.chip.specs.declared.kinds.Kind.TheVariants.{SectorErase, BlockErase, ChipErase, ByteProgram, PageProgram, AaiProgram}
use Rattle.chip.proofs.Laws.Chip.{known_number}
use Rattle.state.specs.State.{data_of, with_left, with_aai}
use Rattle.state.specs.Protection.{first_protected_by_level, first_protected}
use Rattle.state.proofs.Laws.Protection.{first_border, first_graded, level_some}
use Rattle.command.specs.declared.Command.{Command}
use Rattle.command.specs.declared.Command.TheVariants.{Erase, ProgramByte, ProgramPage, ProgramWord}
use Rattle.command.specs.Command.{when, long, address, writable, erase, look, aai_rows, by_kind, command_of}
use Rattle.command.proofs.Laws.Carries.{carries}
use Rattle.command.proofs.Laws.Modes.{writable_is, seen_in_aai}
use Rattle.registers.proofs.Laws.After.{after_erase, after_program_byte, after_program_page, after_program_word}
use Rattle.output.specs.Output.{memory}
use Rattle.output.proofs.Laws.Shown.{shows_erase, shows_program_byte, shows_program_page, shows_program_word}
use Rattle.effect.specs.declared.Effect.{Effect}
use Rattle.effect.specs.declared.Effect.TheVariants.{Fill, Program}
use Rattle.effect.specs.Effect.{page_effect, turn, touches, changed}
use Rattle.effect.specs.Page.{lay_down, blank}
use Rattle.effect.proofs.Laws.Effect.{changed_is, changed_other}
use Rattle.effect.proofs.Laws.Straight.{fill_touches, fill_struck, program_touches_is, program_struck}
use Rattle.effect.proofs.Laws.Page.{page_struck, page_touches}
use Rattle.frame.specs.Device.{Device}
use Rattle.frame.specs.Line.{Line}
use Rattle.frame.specs.Effect.{effect_of}
use Rattle.frame.specs.Call.{Accepted}
use Rattle.rules.specs.Chips.{by_chip, bytes_of}
use Rattle.rules.specs.Frames.{Does, silent, disarmed}
use Rattle.rules.specs.Opcodes.{size_of, address_in, sector_in, block_in, word_in, is_open, erases, programs, programs_page, TakenIf, Writes}
use Rattle.rules.proofs.Laws.Chips.{data_by_chip}
use Rattle.rules.proofs.Laws.Does.{Changes, does}
use Rattle.rules.proofs.Laws.Rows.{when_both, size_is, address_in_lem, kind_of_both, kind_of_one, seen, row}

-- ---- the whole array

all_or_less : (first : ℕ) → first ≤ 65536 → leb 65536 first ≡ eqb first 65536
all_or_less first h =
    ⊎_elim (λ l. rw (lt-leb 65536 first l, ne_eqb first 65536 (λ e. absurd (omega (arith, e, l)))) refl)
    (λ l. rw (le-leb 65536 first l, eq-eqb first 65536 (omega (arith, h, l))) refl) (split first 65536)

-- with BP 000, and at no other level
level_open : (level : ℕ) → leb 1048576 (get_or first_protected_by_level level 0) ≡ eqb level 0
level_open zero = refl
level_open (suc k) = lt-leb 1048576 _ (level_some (suc k) (omega arith)) ∙ sym (ne_eqb (suc k) 0 (λ e. absurd (omega arith)))

whole_by : (number first : ℕ) (level : Bool) → (number ≡ 8 → leb 1048576 first ≡ level) → (number ≡ 5 → first ≤ 65536) → (number ≡ 8) ⊎ (number ≡ 5)
    → leb (0 + bytes_of number) first ≡ by_chip number level (eqb first 65536)
whole_by number first level on008a on05pa (inl e) = rw e (on008a e)
whole_by number first level on008a on05pa (inr e) = rw e (all_or_less first (on05pa e))

-- ---- what each command does to the array

changes_erased : (address n time : ℕ) (f : List ℕ) → Changes (Erase address n time) f (erases address n)
changes_erased address n time f = record {
  touched_is = fill_touches address n;
  byte_is_lem = λ k x. changed_is (Fill address n) f k x ∙ ap₂ (λ (t : Bool) (y : ℕ). cond t y x) (fill_touches address n k) (fill_struck address n f k x);
}

changes_programmed : {c : Command} (address n i : ℕ) (f : List ℕ) → effect_of c ≡ Program address n i → Changes c f (programs address n i f)
changes_programmed address n i f e = record {
  touched_is = λ k. ap (λ (e : Effect). touches e k) e ∙ program_touches_is address n i k;
  byte_is_lem = λ k x. ap (λ (e : Effect). changed e f k x) e
      ∙ changed_is (Program address n i) f k x
      ∙ ap₂ (λ (t : Bool) (y : ℕ). cond t y x) (program_touches_is address n i k) (program_struck address n i k f x);
}

changes_page : (address : ℕ) (f : List ℕ) → 4 + (length f - 4) ≡ length f → Changes (ProgramPage address (length f - 4)) f (programs_page address (drop 4 f))
changes_page address f carried = record { touched_is = touched; byte_is_lem = byte }
  where
    sent : length (drop 4 f) ≡ length f - 4
    sent = length-drop 4 f

    touched : (k : ℕ) → touches (page_effect address (length f - 4)) k ≡ (programs_page address (drop 4 f)).touched k
    touched k = page_touches address (length f - 4) k ∙ ap (λ (n : ℕ). eqb (k / 256) (address / 256) && ltb (turn address k) n) (sym sent)

    byte : (k x : ℕ) → changed (page_effect address (length f - 4)) f k x
        ≡ cond ((programs_page address (drop 4 f)).touched k) ((programs_page address (drop 4 f)).becomes k x) x
    byte k x =
        cases (touches (page_effect address (length f - 4)) k)
        (λ t. let both = sym (page_touches address (length f - 4) k) ∙ t in
        page_struck address (length f - 4) k f carried x (eqb-true (k / 256) (address / 256) (and_l (eqb (k / 256) (address / 256)) _ both)) (and_r (eqb (k / 256) (address / 256)) _ both)
        ∙ ap (λ (b : Bool). cond b (bit_and x (lay_down blank address (drop 4 f) (k % 256))) x) (sym (sym (touched k) ∙ t)))
        (λ t. changed_other (page_effect address (length f - 4)) f k x t
        ∙ ap (λ (b : Bool). cond b (bit_and x (lay_down blank address (drop 4 f) (k % 256))) x) (sym (sym (touched k) ∙ t)))

module _ {wp : Bool} {f : List ℕ} {d : Device} {line : Line} (a : Accepted wp f d line) where
  -- a test on the length, and one on the target
  row_open : {c : Command} {outcome : Type 0} (long : Bool) (address n : ℕ)
      → command_of d.state wp f ≡ when long (when (writable d.state (address + n)) c) → (command_of d.state wp f ≡ c → outcome)
      → TakenIf wp f d line (long && is_open d address n) outcome
  row_open {c} long address n e =
      row a (e ∙ when_both long (writable d.state (address + n)) c) (ap (λ (b : Bool). long && b) (writable_is d.state f (address + n)))

  erase_does : (address n time : ℕ) → command_of d.state wp f ≡ Erase address n time
      → Does wp f d line silent (with_left (disarmed d) time) (erases address n)
  erase_does address n time e =
      does a e (λ i. shows_erase d.state (memory d.array) i address n time) (after_erase d.state address n time) (changes_erased address n time f)

  word_does : (address i : ℕ) → command_of d.state wp f ≡ ProgramWord address i
      → Does wp f d line silent (with_aai (with_left (disarmed d) 7) true (address + 2)) (programs address 2 i f)
  word_does address i e =
      does a e (λ j. shows_program_word d.state (memory d.array) j address i) (after_program_word d.state address i)
      (changes_programmed address 2 i f refl)

  -- the whole array is open: "BP 000 on the 008A and nothing protected on the 05PA"
  whole_open : leb (0 + size_of d) (first_protected d.state) ≡ by_chip d.state.chip (eqb d.state.bp 0) (eqb (first_protected d.state) 65536)
  whole_open =
      let known = a.sound.chip_known in
      whole_by d.state.chip (first_protected d.state) (eqb d.state.bp 0)
      (λ e. ap (leb 1048576) (first_graded d.state (data_by_chip d.state.chip known (λ (c : Chip). c.graded) ∙ rw e refl)) ∙ level_open d.state.bp)
      (λ e. let size : (data_of d.state).size ≡ 65536 = size_is a ∙ rw e refl in rw size at (first_border d.state).in_size)
      (known_number d.state.chip known)

  pub writes : Writes wp f d line
  unfolding by_kind
  writes = record {
    sector_erase_lem = λ r e. row_open (long f 4) (sector_in f d) 4096
        (seen a r (kind_of_both a 0x20 SectorErase refl refl e)
        ∙ ap (λ (x : ℕ). when (long f 4) (erase d.state (x / 4096 * 4096) 4096 90000)) (address_in_lem a))
        (erase_does (sector_in f d) 4096 90000);
    block_erase_lem = λ r e. row_open (long f 4) (block_in f d) 65536
        (seen a r (kind_of_both a 0xd8 BlockErase refl refl e)
        ∙ ap₂ (λ (x time : ℕ). when (long f 4) (erase d.state (x / 65536 * 65536) 65536 time)) (address_in_lem a)
        (data_by_chip d.state.chip a.sound.chip_known (λ (c : Chip). c.block_time)))
        (erase_does (block_in f d) 65536 (by_chip d.state.chip 1000000 750000));
    chip_erase_lem = λ r op which e. row a
        (seen a r (⊎_elim (λ is. kind_of_both a 0x60 ChipErase refl refl (e ∙ is)) (λ is. kind_of_both a 0xc7 ChipErase refl refl (e ∙ is)) which)
        ∙ ap₂ (λ (n time : ℕ). when (long f 1) (erase d.state 0 n time)) (size_is a)
        (data_by_chip d.state.chip a.sound.chip_known (λ (c : Chip). c.chip_time))
        ∙ when_both (long f 1) (writable d.state (0 + size_of d)) (Erase 0 (size_of d) (by_chip d.state.chip 8000000 1000000)))
        (ap (λ (b : Bool). long f 1 && b) (writable_is d.state f (0 + size_of d) ∙ ap (λ (b : Bool). d.state.wel && b) whole_open))
        (erase_does 0 (size_of d) (by_chip d.state.chip 8000000 1000000));
    byte_program_lem = λ r n e. row_open (long f 5) (address_in f d) 1
        (seen a r (kind_of_one a 8 0x02 ByteProgram n refl e)
        ∙ ap (λ (x : ℕ). when (long f 5) (when (writable d.state (x + 1)) (ProgramByte x))) (address_in_lem a))
        (λ c. does a c (λ i. shows_program_byte d.state (memory d.array) i (address_in f d)) (after_program_byte d.state (address_in f d))
        (changes_programmed (address_in f d) 1 4 f refl));
    page_program_lem = λ r n e. row_open (leb 5 (length f)) (address_in f d) 1
        (seen a r (kind_of_one a 5 0x02 PageProgram n refl e)
        ∙ ap (λ (x : ℕ). when (leb 5 (length f)) (when (writable d.state (x + 1)) (ProgramPage x (length f - 4)))) (address_in_lem a))
        (λ c. does a c (λ i. shows_program_page d.state (memory d.array) i (address_in f d) (length f - 4))
        (after_program_page d.state (address_in f d) (length f - 4))
        (changes_page (address_in f d) f (rw c at (carries d.state wp f))));
    first_word = λ r n e. row_open (long f 6) (word_in f d) 2
        (seen a r (kind_of_one a 8 0xad AaiProgram n refl e)
        ∙ ap (λ (x : ℕ). when (long f 6) (when (writable d.state (x / 2 * 2 + 2)) (ProgramWord (x / 2 * 2) 4))) (address_in_lem a))
        (word_does (word_in f d) 4);
    next_word = λ still aai e. row_open (long f 3) d.state.next 2
        (seen_in_aai d.state f wp still aai ∙ ap (look (aai_rows d.state f)) e)
        (word_does d.state.next 1);
  }
