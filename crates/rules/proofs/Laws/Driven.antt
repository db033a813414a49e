-- Which bytes are driven: from what each rule says that the frame shows to the request's own sentence.
-- Assumes nothing.
use mathlib.Core.Path.{◌≡◌, refl, sym, ap, ◌∙◌}
use mathlib.Core.Bool.{Bool, true, false, false≢true, true≢false, ◌&&◌, ◌||◌, not, cond}
use mathlib.Core.List.{List, [], ◌∷◌}
use mathlib.Core.Logic.{inl, inr, ⊎_elim}
use Prim.Native.Nat.{ℕ, zero, suc, ◌+◌, ◌%◌}
use native.Mathlib.Omega.{arith}
use lib.Dec.{leb, eqb}
use lib.ListN.{length, get_or}
use borrow.Author.Tests.{lt-ltb, le-ltb, le-leb, lt-leb, ne_eqb}
use Rattle.std.specs.Prelude.{Option, Some, None}
use Rattle.common.proofs.Laws.Booleans.{imp_or, or_none_l, or_none_r}
use Rattle.common.proofs.Laws.Choice.{cases}
use Rattle.common.proofs.Laws.Lists.{split, get_d_tab, length_tab}
use Rattle.state.specs.declared.State.{State}
use Rattle.state.specs.Soundness.{is_busy}
use Rattle.state.specs.Status.{status_of}
use Rattle.command.specs.Fits.{Resting}
use Rattle.frame.specs.Device.{Device}
use Rattle.frame.specs.Line.{Line}
use Rattle.frame.specs.Call.{Accepted, frame_line_after}
use Rattle.frame.proofs.Laws.Accepted.{number_accepted, cut_number_accepted}
use Rattle.frame.proofs.Laws.Call.{cut_accepted}
use Rattle.rules.specs.Chips.{by_chip}
use Rattle.rules.specs.Frames.{opcode, reads_as, marked_as, both_slices, silent, Change, Does, is_resting, is_among, opcodes_008a, opcodes_05pa}
use Rattle.rules.specs.Opcodes.{
  address_in,
  bytes_from,
  three_bytes,
  array_up,
  TakenIf,
  Ruled,
  unknown,
  while_busy,
  in_aai_lem,
  in_power_down,
  read_status,
  signature,
  write_disable,
  next_word,
  at_rest,
  on_008a_lem,
  on_05pa_lem,
}
use Rattle.rules.specs.Driven.{is_answered, is_named, is_driven, DrivenBytes, DrivenRules}
use Rattle.rules.proofs.Laws.Does.{done}
use Rattle.rules.proofs.Laws.Tests.{off}
use Rattle.rules.proofs.Laws.Among.{each, among, among_not, either}
use Rattle.rules.proofs.Laws.Frames.{frame_rules}
use Rattle.rules.proofs.Laws.Reads.{reads}
use Rattle.rules.proofs.Laws.Switches.{switches}
use Rattle.rules.proofs.Laws.Writes.{writes}
use Rattle.rules.proofs.Laws.Ruled.{ruled}

-- ---- a byte that is shown

abbrev drives : Option ℕ → Bool
drives None = false
drives (Some byte) = true

marked : (shown : Option ℕ) → marked_as shown ≡ cond (drives shown) 0x01 0x00
marked None = refl
marked (Some byte) = refl

silent_reads : (shown : Option ℕ) → drives shown ≡ false → reads_as shown ≡ 0xff
silent_reads None e = refl
silent_reads (Some byte) e = absurd (true≢false e)

from_byte : (n : ℕ) (bytes : ℕ → ℕ) (i : ℕ) → drives (bytes_from n bytes i) ≡ leb n i
from_byte n bytes i = ⊎_elim (λ l. rw (lt-ltb i n l, lt-leb n i l) refl) (λ l. rw (le-ltb i n l, le-leb n i l) refl) (split i n)

three : (a b c i : ℕ) → drives (three_bytes a b c i) ≡ (leb 1 i && not (leb 4 i))
three a b c zero = refl
three a b c (suc zero) = refl
three a b c (suc (suc zero)) = refl
three a b c (suc (suc (suc zero))) = refl
three a b c (suc (suc (suc (suc i)))) =
    let n : ℕ = suc (suc (suc (suc i))) in
    rw (ne_eqb n 1 (λ e. absurd (omega arith)), ne_eqb n 2 (λ e. absurd (omega arith)), ne_eqb n 3 (λ e. absurd (omega arith)), le-leb 1 n (omega arith), le-leb 4 n (omega arith)) refl

-- the opcodes that read
abbrev reading : List ℕ
reading = 0x05 ∷ 0xab ∷ 0x03 ∷ 0x0b ∷ 0x9f ∷ 0x90 ∷ []

-- while busy or in AAI AB is not answered, and no read at rest; nor the latter in power-down, where 05 is not either
none_active : (signature read busy aai asleep : Bool) → busy || aai ≡ true → cond signature (not (busy || aai)) (read && not (busy || aai || asleep)) ≡ false
none_active true read busy aai asleep e = rw e refl
none_active false true true aai asleep e = refl
none_active false true false true asleep e = refl
none_active false true false false asleep e = absurd (false≢true e)
none_active false false busy aai asleep e = refl

none_asleep : (status read busy aai : Bool) → cond status (not true) (read && not (busy || aai || true)) ≡ false
none_asleep true read busy aai = refl
none_asleep false true true aai = refl
none_asleep false true false true = refl
none_asleep false true false false = refl
none_asleep false false busy aai = refl

unanswered : (op : ℕ) (s : State) → is_among op reading ≡ false → is_answered op s ≡ false
unanswered op s none =
    let no : (known : ℕ) → is_among known reading ≡ true → eqb op known ≡ false = λ known listed. among_not op known reading none listed in
    rw (no 0x05 refl, no 0xab refl, no 0x03 refl, no 0x0b refl, no 0x9f refl, no 0x90 refl) refl

module _ {wp : Bool} {f : List ℕ} {d : Device} {line : Line} (a : Accepted wp f d line) where
  abbrev s : State
  s = d.state

  -- what the frame shows, and that this is what the request says
  record Told : Type 0 where
    shows : ℕ → Option ℕ
    line_is : frame_line_after wp f d line ≡ both_slices (length f) shows
    driven_is : (i : ℕ) → drives (shows i) ≡ is_driven f d i

  -- it shows nothing, and is not answered
  mute : {registers : State} {change : Change} → Does wp f d line silent registers change → is_answered (opcode f) s ≡ false → Told
  mute does none = record { shows = silent; line_is = does.line_is; driven_is = λ i. rw none refl }

  mute_if : {registers : State} {change : Change} {taken : Bool} → TakenIf wp f d line taken (Does wp f d line silent registers change)
      → is_answered (opcode f) s ≡ false → Told
  mute_if {taken = taken} row none = cases taken (λ t. mute (row.then t) none) (λ t. mute (row.else t) none)

  -- it shows bytes from one on
  shown_from : (n : ℕ) (bytes : ℕ → ℕ) {registers : State} {change : Change} → Does wp f d line (bytes_from n bytes) registers change
      → is_answered (opcode f) s ≡ true → ((i : ℕ) → is_named (opcode f) s.chip i ≡ leb n i) → Told
  shown_from n bytes does answered named = record {
    shows = bytes_from n bytes;
    line_is = does.line_is;
    driven_is = λ i. from_byte n bytes i ∙ sym (named i) ∙ rw answered refl;
  }

  at_rest_now : Resting s → is_resting s ≡ true
  at_rest_now r = rw (r.still, r.single, r.awake) refl

  always : (b : Bool) → b && true ≡ b
  always true = refl
  always false = refl

  -- ---- the opcodes that read

  status_told : s.power_down ≡ false → opcode f ≡ 0x05 → Told
  status_told awake e = shown_from 1 (λ j. status_of s) ((reads a).read_status awake e) (rw (e, awake) refl) (λ i. rw e (always (leb 1 i)))

  signature_told : s.left ≡ 0 → s.aai ≡ false → opcode f ≡ 0xab → Told
  signature_told still single e =
      shown_from (by_chip s.chip 1 4) (λ j. by_chip s.chip 0x13 0x05) ((reads a).signature still single e) (rw (e, still, single) refl) (λ i. rw e (always (leb (by_chip s.chip 1 4) i)))

  module _ (r : Resting s) where
    read_told : opcode f ≡ 0x03 → Told
    read_told e = shown_from 4 (array_up f d) ((reads a).read r e) (rw (e, at_rest_now r) refl) (λ i. rw e (always (leb 4 i)))

    fast_read_told : opcode f ≡ 0x0b → Told
    fast_read_told e = shown_from 5 (array_up f d) ((reads a).fast_read_lem r e) (rw (e, at_rest_now r) refl) (λ i. rw e (always (leb 5 i)))

    identity_told : opcode f ≡ 0x90 → Told
    identity_told e = shown_from 4 (λ j. cond (eqb ((address_in f d + j) % 2) 0) 0x8c (by_chip s.chip 0x13 0x05)) ((reads a).identity r e) (rw (e, at_rest_now r) refl) (λ i. rw e (always (leb 4 i)))

    jedec_told : opcode f ≡ 0x9f → Told
    jedec_told e =
        let family : ℕ = by_chip s.chip 0x20 0x30 in
        let capacity : ℕ = by_chip s.chip 0x14 0x10 in
        record {
          shows = three_bytes 0x8c family capacity;
          line_is = ((reads a).jedec r e).line_is;
          driven_is = λ i. three 0x8c family capacity i ∙ rw (e, at_rest_now r) refl;
        }

  -- ---- by the rule that the frame falls under

  -- an opcode that does not read
  quiet : {registers : State} {change : Change} {taken : Bool} (op : ℕ) → TakenIf wp f d line taken (Does wp f d line silent registers change)
      → opcode f ≡ op → is_among op reading ≡ false → Told
  quiet op row e none = mute_if row (rw e (unanswered op s none))

  resting_told : Resting s → is_among (opcode f) (0x03 ∷ 0x0b ∷ 0x9f ∷ 0x90 ∷ 0x06 ∷ 0x01 ∷ 0x20 ∷ 0xd8 ∷ 0x60 ∷ 0xc7 ∷ []) ≡ true → Told
  resting_told r listed =
      either (opcode f) 0x03 (read_told r)
      (λ no_read. either (opcode f) 0x0b (fast_read_told r)
      (λ no_fast_read. either (opcode f) 0x9f (jedec_told r)
      (λ no_jedec. either (opcode f) 0x90 (identity_told r)
      (λ no_identity. either (opcode f) 0x06 (λ e. quiet 0x06 ((switches a).write_enable r e) e refl)
      (λ no_enable. either (opcode f) 0x01 (λ e. quiet 0x01 ((switches a).write_status_lem r e) e refl)
      (λ no_status. either (opcode f) 0x20 (λ e. quiet 0x20 ((writes a).sector_erase_lem r e) e refl)
      (λ no_sector. either (opcode f) 0xd8 (λ e. quiet 0xd8 ((writes a).block_erase_lem r e) e refl)
      (λ no_block. either (opcode f) 0x60 (λ e. quiet 0x60 ((writes a).chip_erase_lem r 0x60 (inl refl) e) e refl)
      (λ no_60. either (opcode f) 0xc7 (λ e. quiet 0xc7 ((writes a).chip_erase_lem r 0xc7 (inr refl) e) e refl)
      (λ no_c7. absurd (false≢true (rw (no_read, no_fast_read, no_jedec, no_identity, no_enable, no_status, no_sector, no_block, no_60, no_c7) at listed))))))))))))

  on_008a_told : Resting s → s.chip ≡ 8 → is_among (opcode f) (0x50 ∷ 0xad ∷ 0x02 ∷ []) ≡ true → Told
  on_008a_told r is listed =
      either (opcode f) 0x50 (λ e. quiet 0x50 ((switches a).enable_status r is e) e refl)
      (λ no_enable. either (opcode f) 0xad (λ e. quiet 0xad ((writes a).first_word r is e) e refl)
      (λ no_word. either (opcode f) 0x02 (λ e. quiet 0x02 ((writes a).byte_program_lem r is e) e refl)
      (λ no_program. absurd (false≢true (rw (no_enable, no_word, no_program) at listed)))))

  on_05pa_told : Resting s → s.chip ≡ 5 → is_among (opcode f) (0xb9 ∷ 0x02 ∷ []) ≡ true → Told
  on_05pa_told r is listed =
      either (opcode f) 0xb9 (λ e. quiet 0xb9 ((switches a).power_down_lem r is e) e refl)
      (λ no_power_down. either (opcode f) 0x02 (λ e. quiet 0x02 ((writes a).page_program_lem r is e) e refl)
      (λ no_program. absurd (false≢true (rw (no_power_down, no_program) at listed))))

  -- an opcode that reads is known on either chip
  unknown_told : is_among (opcode f) (by_chip s.chip opcodes_008a opcodes_05pa) ≡ false → Told
  unknown_told none =
      mute ((frame_rules a).unknown none)
      (unanswered (opcode f) s
      (off (is_among (opcode f) reading)
      (λ listed. true≢false (sym (among (λ op. is_among op (by_chip s.chip opcodes_008a opcodes_05pa)) reading (opcode f) known listed) ∙ none))))
    where
      known : each (λ op. is_among op (by_chip s.chip opcodes_008a opcodes_05pa)) reading ≡ true
      known = cases (eqb s.chip 8) (λ t. rw t refl) (λ t. rw t refl)

  -- busy or in AAI, only 05 is answered
  in_cycle : eqb (opcode f) 0x05 ≡ false → is_busy s || s.aai ≡ true → is_answered (opcode f) s ≡ false
  in_cycle no_status active =
      rw no_status (none_active (is_among (opcode f) (0xab ∷ [])) (is_among (opcode f) (0x03 ∷ 0x0b ∷ 0x9f ∷ 0x90 ∷ [])) (is_busy s) s.aai s.power_down active)

  told : Ruled f d → Told
  told (unknown none) = unknown_told none
  told (while_busy busy none) = mute ((frame_rules a).while_busy busy none) (in_cycle (or_none_l (eqb (opcode f) 0x05) _ none) (rw busy refl))
  told (in_aai_lem aai none) =
      mute ((frame_rules a).in_aai_lem aai none)
      (in_cycle (or_none_l (eqb (opcode f) 0x05) _ (or_none_r (eqb (opcode f) 0xad) _ none)) (imp_or (is_busy s) s.aai (λ _. aai)))
  told (in_power_down asleep none) =
      mute ((frame_rules a).in_power_down asleep none)
      (rw (or_none_l (eqb (opcode f) 0xab) _ none, asleep)
      (none_asleep (is_among (opcode f) (0x05 ∷ [])) (is_among (opcode f) (0x03 ∷ 0x0b ∷ 0x9f ∷ 0x90 ∷ [])) (is_busy s) s.aai))
  told (read_status awake e) = status_told awake e
  told (signature still single e) = signature_told still single e
  told (write_disable still awake e) = quiet 0x04 ((switches a).write_disable still awake e) e refl
  told (next_word still aai e) = quiet 0xad ((writes a).next_word still aai e) e refl
  told (at_rest r listed) = resting_told r listed
  told (on_008a_lem r is listed) = on_008a_told r is listed
  told (on_05pa_lem r is listed) = on_05pa_told r is listed

  pub driven_bytes : DrivenBytes wp f d line
  driven_bytes =
      let t = told (ruled a) in
      record {
        exactly = λ i inside.
            ap (λ (l : Line). get_or l.driven i 0) t.line_is
            ∙ get_d_tab (length f) (λ k. marked_as (t.shows k)) i 0 inside
            ∙ marked (t.shows i)
            ∙ ap (λ (b : Bool). cond b 0x01 0x00) (t.driven_is i);
        silent_is_ff = λ i inside none.
            ap (λ (l : Line). get_or l.output i 0) t.line_is
            ∙ get_d_tab (length f) (λ k. reads_as (t.shows k)) i 0 inside
            ∙ silent_reads (t.shows i) (t.driven_is i ∙ none);
        as_long = (
          ap (λ (l : Line). length l.output) t.line_is ∙ length_tab (length f) (λ k. reads_as (t.shows k)),
          ap (λ (l : Line). length l.driven) t.line_is ∙ length_tab (length f) (λ k. marked_as (t.shows k)),
        );
        interrupted = λ mask taken.
            sym (cut_accepted wp f d line mask (cut_number_accepted wp f d line mask taken) record { device_is = refl; line_is = refl }).line_is ∙ (done a).line_is;
      }

pub driven_rules : DrivenRules
driven_rules = record { every_frame = λ wp f d line e. driven_bytes (number_accepted wp f d line e) }
