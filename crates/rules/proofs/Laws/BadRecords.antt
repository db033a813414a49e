-- What is wrong with the record at an offset, and with a script: the number that a call gives, and the request's words.
-- Assumes nothing.
use mathlib.Core.Path.{◌≡◌, refl, sym, ap, ◌∙◌}
use mathlib.Core.Bool.{Bool, true, false, true≢false, false≢true, ◌&&◌, ◌||◌, not}
use mathlib.Core.List.{List, [], ◌∷◌}
use mathlib.Core.Logic.{⊎_elim}
use Prim.Native.Nat.{ℕ, ◌+◌, ◌≤◌, ◌<◌}
use native.Mathlib.Omega.{arith}
use lib.Dec.{ltb, eqb}
use lib.ListN.{length, get_or, drop, length-drop, get_or-eq_default}
use borrow.Author.Tests.{eqb-true, eq-eqb, ne_eqb, ltb-true, ltb-false, lt-ltb, le-ltb}
use Rattle.common.specs.Bits.{Bytes}
use Rattle.common.specs.Limits.{longest_frame, longest_script}
use Rattle.common.specs.Refusals
use Rattle.common.specs.Refusals.{script_too_long, first_of, Exactly}
use Rattle.common.proofs.Laws.Booleans.{and_l, and_r}
use Rattle.common.proofs.Laws.Choice.{cases}
use Rattle.common.proofs.Laws.Lists.{split}
use Rattle.script.specs.Record.{frame, wait, script_mark, frame_mark, wait_mark, output_length}
use Rattle.script.specs.Decode.{
  Fault,
  unknown_mark,
  wrong_length,
  cut_short,
  is_unknown_mark,
  is_wrong_length,
  is_cut_short,
  fault_number,
  Front,
  end,
  item,
  malformed,
  front_frame,
  front,
  Decoded,
  records,
  bad_at,
  is_bad,
  decode,
  records_in,
  records_of,
}
use Rattle.script.specs.Answers.{number_of}
use Rattle.script.specs.Reader.{two_bytes_at, answer, record_at}
use Rattle.script.proofs.Laws.Answers.{refusal_number}
use Rattle.script.proofs.Laws.Places.{front_frame_lem, front_wait_lem, front_unknown, front_at_end, front_short}
use Rattle.script.proofs.Laws.Reader.{record_at_long, record_at_past, record_at_inside, frame_no_length, frame_wrong_length, frame_cut_short, frame_whole, wait_cut_short, wait_whole}
use Rattle.script.proofs.Laws.Decode.{decode_encode, encode_decode}
use Rattle.script.proofs.Laws.Bad as bad
use Rattle.script.proofs.Laws.Survey.{fault_numbered, fault_same}
use Rattle.frame.specs.Line.{Line, is_not_long}
use Rattle.rules.specs.Conditions.{WrongSum}
use Rattle.rules.proofs.Laws.Lines.{means_not_long}
use Rattle.rules.specs.Numbered.{Numbered}
use Rattle.rules.specs.BadRecords.{Marked, length_field, UnknownMark, LengthCut, WrongLength, RestCut, in_one_record, ReaderRefusals, FirstBad, Bad}
use Rattle.rules.proofs.Laws.Tests.{means_equal, means_less, means_not, means_and, means_or}
use Rattle.rules.proofs.Laws.Numbered.{row, AllMeant, numbered}

-- ---- the record at an offset

-- the answer's number where the offset lies in the script
abbrev number_there : List ℕ → ℕ → ℕ
number_there script offset = number_of (answer offset (front (drop offset script)))

module _ (script : List ℕ) (offset : ℕ) where
  abbrev n : ℕ
  n = length_field script offset

  -- the tests, each as the request's words have it
  abbrev is_marked : ℕ → Bool
  is_marked second = eqb (get_or script offset 0) script_mark && eqb (get_or script (offset + 1) 0) second

  abbrev record_rows : List (ℕ × Bool)
  record_rows =
      (Refusals.cut_short, eqb (length script) (offset + 1))
      ∷ (Refusals.unknown_mark, ltb (offset + 1) (length script) && (not (is_marked frame_mark) && not (is_marked wait_mark)))
      ∷ (Refusals.cut_short, is_marked frame_mark && ltb (length script) (offset + 4))
      ∷ (Refusals.wrong_length, is_marked frame_mark && (ltb n 1 || ltb longest_frame n))
      ∷ (Refusals.cut_short, is_marked frame_mark && ltb (length script) (offset + 4 + n) || is_marked wait_mark && ltb (length script) (offset + 6))
      ∷ []

  n_is : n ≡ two_bytes_at script (offset + 2)
  n_is = let e : offset + 2 + 1 ≡ offset + 3 = omega arith in rw e refl

  there_is : {f : Front} → front (drop offset script) ≡ f → number_there script offset ≡ number_of (answer offset f)
  there_is e = ap (λ (f : Front). number_of (answer offset f)) e

  -- the end
  end_first : length script ≤ offset → number_there script offset ≡ first_of record_rows
  end_first past =
      let none : get_or script offset 0 ≡ 0 = get_or-eq_default script 0 past in
      there_is (front_at_end script offset past)
      ∙ rw (ne_eqb (length script) (offset + 1) (λ e. omega (arith, past, e)), le-ltb (offset + 1) (length script) (omega (arith, past)), none) refl

  module _ (two : offset + 2 ≤ length script) where
    more : eqb (length script) (offset + 1) ≡ false
    more = ne_eqb (length script) (offset + 1) (λ e. omega (arith, two, e))

    both : ltb (offset + 1) (length script) ≡ true
    both = lt-ltb (offset + 1) (length script) (omega (arith, two))

    -- a frame's mark
    module _ (mark : is_marked frame_mark ≡ true) where
      at : number_there script offset ≡ number_of (answer offset (front_frame (drop (offset + 2) script)))
      at = there_is (front_frame_lem script offset two mark)

      no_wait : is_marked wait_mark ≡ false
      no_wait =
          let five = and_l (eqb (get_or script offset 0) script_mark) (eqb (get_or script (offset + 1) 0) frame_mark) mark in
          let second = eqb-true (get_or script (offset + 1) 0) frame_mark (and_r (eqb (get_or script offset 0) script_mark) (eqb (get_or script (offset + 1) 0) frame_mark) mark) in
          rw (five, second) refl

      length_first : length script < offset + 4 → number_there script offset ≡ first_of record_rows
      length_first few =
          at ∙ ap number_of (frame_no_length script offset (offset + 2) (omega (arith, length-drop (offset + 2) script, few))) ∙ rw (more, both, mark, lt-ltb (length script) (offset + 4) few) refl

      module _ (four : offset + 4 ≤ length script) where
        wrong_first : ltb n 1 || ltb longest_frame n ≡ true → number_there script offset ≡ first_of record_rows
        wrong_first wrong =
            at ∙ ap number_of (frame_wrong_length script offset (offset + 2) n (omega (arith, four)) n_is wrong)
            ∙ rw (more, both, mark, le-ltb (length script) (offset + 4) four, wrong) refl

        rest_first : ltb n 1 || ltb longest_frame n ≡ false → length script < offset + 4 + n → number_there script offset ≡ first_of record_rows
        rest_first right few =
            at ∙ ap number_of (frame_cut_short script offset (offset + 2) n (omega (arith, four)) n_is right (omega (arith, few)))
            ∙ rw (more, both, mark, le-ltb (length script) (offset + 4) four, right, lt-ltb (length script) (offset + 4 + n) few) refl

        whole_first : ltb n 1 || ltb longest_frame n ≡ false → offset + 4 + n ≤ length script → number_there script offset ≡ first_of record_rows
        whole_first right enough =
            at ∙ ap number_of (frame_whole script offset (offset + 2) n (omega (arith, four)) n_is right (omega (arith, enough)))
            ∙ rw (more, both, mark, no_wait, le-ltb (length script) (offset + 4) four, right, le-ltb (length script) (offset + 4 + n) enough) refl

      frame_first : number_there script offset ≡ first_of record_rows
      frame_first =
          ⊎_elim length_first
          (λ four. cases (ltb n 1 || ltb longest_frame n) (wrong_first four)
          (λ right. ⊎_elim (rest_first four right) (whole_first four right) (split (length script) (offset + 4 + n)))) (split (length script) (offset + 4))

    -- a wait's
    wait_first : is_marked frame_mark ≡ false → is_marked wait_mark ≡ true → number_there script offset ≡ first_of record_rows
    wait_first other mark =
        there_is (front_wait_lem script offset two other mark)
        ∙ ⊎_elim (λ few. ap number_of (wait_cut_short script offset (offset + 2) (omega (arith, length-drop (offset + 2) script, few))) ∙ rw (more, both, other, mark, lt-ltb (length script) (offset + 6) few) refl)
        (λ enough. ap number_of (wait_whole script offset (offset + 2) (omega (arith, enough))) ∙ rw (more, both, other, mark, le-ltb (length script) (offset + 6) enough) refl)
        (split (length script) (offset + 6))

    -- none of them
    unknown_first : is_marked frame_mark ≡ false → is_marked wait_mark ≡ false → number_there script offset ≡ first_of record_rows
    unknown_first other neither = there_is (front_unknown script offset two other neither) ∙ rw (more, both, other, neither) refl

    two_first : number_there script offset ≡ first_of record_rows
    two_first = cases (is_marked frame_mark) frame_first (λ other. cases (is_marked wait_mark) (wait_first other) (unknown_first other))

  one_first : offset < length script → length script < offset + 2 → number_there script offset ≡ first_of record_rows
  one_first some few =
      there_is (front_short (drop offset script) (omega (arith, length-drop offset script)) (omega (arith, length-drop offset script)))
      ∙ rw (eq-eqb (length script) (offset + 1) (omega (arith, some, few))) refl

  there_first : number_there script offset ≡ first_of record_rows
  there_first =
      ⊎_elim (λ some. ⊎_elim (one_first some) two_first (split (length script) (offset + 2))) end_first (split offset (length script))

  -- ---- in words

  means_marked : (second : ℕ) → Exactly (is_marked second ≡ true) (Marked script offset second)
  means_marked second =
      means_and (eqb (get_or script offset 0) script_mark) (eqb (get_or script (offset + 1) 0) second) (means_equal (get_or script offset 0) script_mark)
      (means_equal (get_or script (offset + 1) 0) second)

  means_shorter : (n : ℕ) → Exactly (ltb (length script) n ≡ true) (length script < n)
  means_shorter n = means_less (length script) n

  means_unknown : Exactly (ltb (offset + 1) (length script) && (not (is_marked frame_mark) && not (is_marked wait_mark)) ≡ true) (UnknownMark script offset)
  means_unknown =
      means_and (ltb (offset + 1) (length script)) (not (is_marked frame_mark) && not (is_marked wait_mark)) (means_less (offset + 1) (length script))
      (means_and (not (is_marked frame_mark)) (not (is_marked wait_mark)) (means_not (is_marked frame_mark) (means_marked frame_mark))
      (means_not (is_marked wait_mark) (means_marked wait_mark)))

  means_length_cut : Exactly (is_marked frame_mark && ltb (length script) (offset + 4) ≡ true) (LengthCut script offset)
  means_length_cut = means_and (is_marked frame_mark) (ltb (length script) (offset + 4)) (means_marked frame_mark) (means_shorter (offset + 4))

  means_wrong_length : Exactly (is_marked frame_mark && (ltb n 1 || ltb longest_frame n) ≡ true) (WrongLength script offset)
  means_wrong_length =
      means_and (is_marked frame_mark) (ltb n 1 || ltb longest_frame n) (means_marked frame_mark)
      (means_or (ltb n 1) (ltb longest_frame n)
      record { when = λ e. omega (arith, ltb-true n 1 e); only_when = λ e. lt-ltb n 1 (omega (arith, e)) } (means_less 4101 n))

  means_rest_cut : Exactly (is_marked frame_mark && ltb (length script) (offset + 4 + n) || is_marked wait_mark && ltb (length script) (offset + 6) ≡ true)
      (RestCut script offset)
  means_rest_cut =
      means_or (is_marked frame_mark && ltb (length script) (offset + 4 + n)) (is_marked wait_mark && ltb (length script) (offset + 6))
      (means_and (is_marked frame_mark) (ltb (length script) (offset + 4 + n)) (means_marked frame_mark) (means_shorter (offset + 4 + n)))
      (means_and (is_marked wait_mark) (ltb (length script) (offset + 6)) (means_marked wait_mark) (means_shorter (offset + 6)))

  record_meant : AllMeant record_rows (in_one_record script offset)
  record_meant =
      row (means_equal (length script) (offset + 1)) (λ _. refl)
      (λ _. row means_unknown (λ _. refl)
      (λ _. row means_length_cut (λ _. refl) (λ _. row means_wrong_length (λ _. refl) (λ _. row means_rest_cut (λ _. refl) (λ _. tt)))))

  there_numbered : Numbered (number_there script offset) (in_one_record script offset)
  there_numbered = numbered record_rows (in_one_record script offset) (number_there script offset) refl there_first record_meant

  -- the reader
  abbrev reader_rows : List (ℕ × Bool)
  reader_rows = (script_too_long, ltb longest_script (length script)) ∷ (Refusals.cut_short, ltb (length script) offset) ∷ record_rows

  reader_first : number_of (record_at script offset) ≡ first_of reader_rows
  reader_first =
      cases (ltb longest_script (length script)) (λ t. ap number_of (record_at_long script offset (ltb-true longest_script (length script) t)) ∙ rw t refl)
      (λ t. let short = ltb-false longest_script (length script) t in
      cases (ltb (length script) offset) (λ u. ap number_of (record_at_past script offset short (ltb-true (length script) offset u)) ∙ rw (t, u) refl)
      (λ u. ap number_of (record_at_inside script offset short (ltb-false (length script) offset u)) ∙ there_first ∙ rw (t, u) refl))

  pub reader_refusals : ReaderRefusals script offset
  reader_refusals = record {
    numbers = numbered reader_rows _ (number_of (record_at script offset)) refl reader_first
        (row (means_less 32768 (length script)) (λ _. refl) (λ _. row (means_less (length script) offset) (λ _. refl) (λ _. record_meant)));
  }

  -- the fault and its number tell the same
  means_fault : (fault : Fault) → Exactly (front (drop offset script) ≡ malformed fault) (number_there script offset ≡ fault_number fault)
  means_fault fault = record { when = λ e. there_is e ∙ refusal_number fault; only_when = by_front (front (drop offset script)) }
    where
      by_front : (f : Front) → number_of (answer offset f) ≡ fault_number fault → f ≡ malformed fault
      by_front end e = absurd (omega (arith, fault_numbered fault, e))
      by_front (item (frame bytes) rest) e = absurd (omega (arith, fault_numbered fault, e))
      by_front (item (wait microseconds) rest) e = absurd (omega (arith, fault_numbered fault, e))
      by_front (malformed other) e = ap malformed (fault_same other fault (sym (refusal_number other) ∙ e))

-- ---- a script

module _ (script : List ℕ) (bytes : Bytes script) where
  -- "the first bad record", with its fault and in words
  pub means_first : (fault : Fault) (offset : ℕ) → Exactly (decode script ≡ bad_at fault offset) (FirstBad script offset (fault_number fault))
  means_first fault offset =
      let found = bad.bad_at_first script bytes in
      let there = means_fault script offset fault in
      let words = (there_numbered script offset).given (fault_number fault) (fault_numbered fault) in
      record {
        when = λ e.
            let b = found.when e in
            record { list = b.list; good = b.fit; before = b.before; inside = b.inside; number_is = words.when (there.when b.here) };
        only_when = λ w.
            found.only_when
            record { inside = w.inside; here = there.only_when (words.only_when w.number_is); list = w.list; fit = w.good; before = w.before };
      }

  -- a test of the fault
  module _ (is : Fault → Bool) (fault : Fault) (own : is fault ≡ true) (alone : (other : Fault) → is other ≡ true → other ≡ fault) where
    bad_by : (d : Decoded) → decode script ≡ d → Exactly (is_bad is d ≡ true) (Bad script (fault_number fault))
    bad_by (records rs) e = record {
      when = λ f. absurd (false≢true f);
      only_when = λ b. let both : records rs ≡ bad_at fault b.offset = sym e ∙ (means_first fault b.offset).only_when b.first in
          let z : ◌≡◌ {A = ℕ} 0 1 = cc in absurd (omega arith);
    }
    bad_by (bad_at other offset) e = record {
      when = λ t. record { offset = offset; first = (means_first fault offset).when (e ∙ ap (λ (f : Fault). bad_at f offset) (alone other t)) };
      only_when = λ b.
          let both : bad_at other offset ≡ bad_at fault b.offset = sym e ∙ (means_first fault b.offset).only_when b.first in
          let same : other ≡ fault = cc in
          ap is same ∙ own;
    }

    means_bad : Exactly (is_bad is (decode script) ≡ true) (Bad script (fault_number fault))
    means_bad = bad_by (decode script) refl

  pub means_bad_mark : Exactly (is_bad is_unknown_mark (decode script) ≡ true) (Bad script 12)
  means_bad_mark = means_bad is_unknown_mark unknown_mark refl alone
    where
      alone : (other : Fault) → is_unknown_mark other ≡ true → other ≡ unknown_mark
      alone unknown_mark t = refl
      alone wrong_length t = absurd (false≢true t)
      alone cut_short t = absurd (false≢true t)

  pub means_bad_length : Exactly (is_bad is_wrong_length (decode script) ≡ true) (Bad script 13)
  means_bad_length = means_bad is_wrong_length wrong_length refl alone
    where
      alone : (other : Fault) → is_wrong_length other ≡ true → other ≡ wrong_length
      alone unknown_mark t = absurd (false≢true t)
      alone wrong_length t = refl
      alone cut_short t = absurd (false≢true t)

  pub means_bad_cut : Exactly (is_bad is_cut_short (decode script) ≡ true) (Bad script 14)
  means_bad_cut = means_bad is_cut_short cut_short refl alone
    where
      alone : (other : Fault) → is_cut_short other ≡ true → other ≡ cut_short
      alone unknown_mark t = absurd (false≢true t)
      alone wrong_length t = absurd (false≢true t)
      alone cut_short t = refl

  -- the records of a script that is not bad are its own
  sum_by : (line : Line) (d : Decoded) → decode script ≡ d → is_bad is_unknown_mark d ≡ false → is_bad is_wrong_length d ≡ false → is_bad is_cut_short d ≡ false
      → Exactly (is_not_long (output_length (records_in d)) line ≡ true) (WrongSum script line)
  sum_by line (records rs) e mark long cut = record {
    when = λ f qs fit is same.
        let both : records qs ≡ records rs = sym (decode_encode qs fit) ∙ ap decode (sym is) ∙ e in
        let one : qs ≡ rs = cc in
        (means_not_long line (output_length rs)).when f (rw one at same);
    only_when = λ wrong.
        let read = encode_decode script rs bytes e in
        (means_not_long line (output_length rs)).only_when (wrong rs read.1 (sym read.0));
  }
  sum_by line (bad_at unknown_mark offset) e mark long cut = absurd (true≢false mark)
  sum_by line (bad_at wrong_length offset) e mark long cut = absurd (true≢false long)
  sum_by line (bad_at cut_short offset) e mark long cut = absurd (true≢false cut)

  pub means_wrong_sum : (line : Line) → is_bad is_unknown_mark (decode script) ≡ false → is_bad is_wrong_length (decode script) ≡ false
      → is_bad is_cut_short (decode script) ≡ false → Exactly (is_not_long (output_length (records_of script)) line ≡ true) (WrongSum script line)
  means_wrong_sum line = sum_by line (decode script) refl
