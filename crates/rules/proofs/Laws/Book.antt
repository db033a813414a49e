-- The flag book: its numbers are its table's, its answers say what the bits say, and what its scripts leave, run by the calls.
-- Assumes nothing.
use mathlib.Core.Path.{◌≡◌, refl, sym, ap, ◌∙◌}
use mathlib.Core.Bool.{Bool, true, false, not, ◌||◌}
use mathlib.Core.List.{List, [], ◌∷◌}
use mathlib.Core.Logic.{inr, ⊎_elim}
use Prim.Native.Nat.{ℕ, ◌+◌, ◌/◌, ◌%◌, ◌<◌}
use native.Mathlib.Omega.{arith}
use lib.Dec.{eqb}
use lib.ListN.{length, get_or, take}
use borrow.Author.Tests.{not-false, eq-eqb, ne_eqb, eqb-true, eqb-false, ltb-true}
use Rattle.common.specs.Bits.{Bytes, bit}
use Rattle.common.specs.Refusals.{Exactly}
use Rattle.common.proofs.Laws.Bits.{bit_lt}
use Rattle.common.proofs.Laws.Booleans.{or_true, or_false}
use Rattle.common.proofs.Laws.Choice.{cases}
use Rattle.common.proofs.Laws.Lists.{split}
use Rattle.common.proofs.Laws.Places.{within_below, within_above, count_cong}
use Rattle.state.specs.declared.State.{State}
use Rattle.state.specs.declared.Planned.{Planned}
use Rattle.state.specs.declared.Told.{Told}
use Rattle.state.specs.State.{data_of}
use Rattle.state.specs.Soundness.{is_sound}
use Rattle.state.specs.Answer.{told_of}
use Rattle.state.proofs.Laws.Told.{told_value, told_refused}
use Rattle.frame.specs.Device.{Device}
use Rattle.plan.specs.Refusals.{bytes_needed}
use Rattle.plan.specs.Update.{PlanUpdated, Plans}
use Rattle.worst.specs.Worst.{room_enough}
use Rattle.powercut.specs.PowerCut.{Finished, PowerLost, ReadyToPlan}
use Rattle.powercut.proofs.Laws.Calls.{accepted_run_finished}
use Rattle.book.specs.Book.{is_read, count_read, wanted_part, is_listed}
use Rattle.book.specs.Refusals.{has_over, is_sector, book_refusals, book_refusal, mark_refusals}
use Rattle.book.specs.Answers.{is_read_told, count_told, Marks}
use Rattle.book.specs.Marking.{BesideKept, AllMarked, OnlyListed, MarkedAgain}
use Rattle.book.proofs.Laws.Listed.{none_over, over_stands, is_listed_exactly}
use Rattle.book.proofs.Laws.Read.{read_is, count_is}
use Rattle.book.proofs.Laws.Refusals.{refusal_of, sector_exactly}
use Rattle.book.proofs.Laws.Answers.{marks_untouched}
use Rattle.book.proofs.Laws.Numbers.{mark_number}
use Rattle.book.proofs.Laws.Marking.{opened, plan_of, kept, mark_finished, mark_behind, mark_again}
use Rattle.book.proofs.Laws.History.{only_asked_read}
use Rattle.rules.specs.Conditions.{NotSound, size, WrongArray}
use Rattle.rules.specs.Numbered.{◌when◌, Numbered}
use Rattle.rules.specs.Driver.{CutAt}
use Rattle.rules.specs.Book.{flag, SceneOver, WrongBook, IsReadRules, CountRules, MarkRefusals, Beside, Unlisted, BookMarked, BookCut, MarkingRules, BookRules}
use Rattle.rules.proofs.Laws.Tests.{means_less, means_not, means_or}
use Rattle.rules.proofs.Laws.Numbered.{row, numbered}
use Rattle.rules.proofs.Laws.Conditions.{size_is, means_not_sound, means_wrong_array, means_not_at_rest, means_locked}
use Rattle.rules.proofs.Laws.Driver.{sent_finished, cut_lost}
use Rattle.rules.proofs.Laws.Worst.{worst_bytes_lem}

-- ---- the refusals

means_over : (scenes : List ℕ) → Exactly (has_over scenes ≡ true) (SceneOver scenes)
means_over scenes = record {
  when = λ e. let o = over_stands scenes e in record { place = o.place; inside = o.below; over = ltb-true 4095 (get_or scenes o.place 0) o.passes };
  only_when = λ w. cases (has_over scenes) (λ t. t) (λ f. absurd (omega (arith, none_over scenes f w.place w.inside, w.over)));
}

module _ (s : State) (sector : ℕ) (scenes : List ℕ) where
  means_wrong_book : is_sound s ≡ true → Exactly (has_over scenes || not (is_sector (data_of s).size sector) ≡ true) (WrongBook s sector scenes)
  means_wrong_book sound =
      rw (size_is s sound)
      (means_or (has_over scenes) (not (is_sector (size s) sector)) (means_over scenes) (means_not (is_sector (size s) sector) (sector_exactly (size s) sector)))

  -- of a question
  own_numbers : (array : List ℕ) (number : ℕ) → number ≡ book_refusal s array sector scenes
      → Numbered number (1 when NotSound s ∷ 2 when WrongArray s array ∷ 15 when WrongBook s sector scenes ∷ [])
  own_numbers array number e =
      numbered (book_refusals s (length array) sector (has_over scenes)) _ number refl (e ∙ refusal_of s array sector scenes)
      (row (means_not_sound s) (λ _. refl)
      (λ sound. row (means_wrong_array s (not-false (is_sound s) sound) array) (λ _. refl)
      (λ _. row (means_wrong_book (not-false (is_sound s) sound)) (λ _. refl) (λ _. tt))))

mark_refusals_lem : (s : State) (wp : Bool) (array : List ℕ) (sector : ℕ) (scenes buffer after : List ℕ) (planned : Planned) → Bytes array
    → Marks s wp array sector scenes buffer after planned → MarkRefusals s wp array sector scenes buffer after planned
unfolding bytes_needed
mark_refusals_lem s wp array sector scenes buffer after planned bytes marks =
    let want : List ℕ = wanted_part array sector scenes in
    record {
      numbers = numbered (mark_refusals s wp array sector scenes (length buffer)) _ planned.number refl (mark_number s wp array sector scenes buffer after planned bytes marks)
          (row (means_not_sound s) (λ _. refl)
          (λ sound. row (means_wrong_array s (not-false (is_sound s) sound) array) (λ _. refl)
          (λ _. row (means_wrong_book s sector scenes (not-false (is_sound s) sound)) (λ _. refl)
          (λ _. row (means_not_at_rest s) (λ _. refl)
          (λ _. row (means_locked array sector want s wp) (λ _. refl)
          (λ _. row (means_less (length buffer) (bytes_needed s array sector want)) (λ _. refl) (λ _. tt)))))));
      refusal_keeps = marks_untouched s wp array sector scenes buffer after planned marks;
    }

-- ---- the questions

-- a flag is 0 or 1, and read is 0
module _ (array : List ℕ) (sector scene : ℕ) where
  pub read_exactly : Exactly (is_read array sector scene ≡ true) (flag array sector scene ≡ 0)
  read_exactly = record {
    when = λ e. eqb-true (flag array sector scene) 0 (sym (read_is array sector scene) ∙ e);
    only_when = λ e. read_is array sector scene ∙ eq-eqb (flag array sector scene) 0 e;
  }

  unread_exactly : Exactly (is_read array sector scene ≡ false) (flag array sector scene ≡ 1)
  unread_exactly = record {
    when = λ e. let differ = eqb-false (flag array sector scene) 0 (sym (read_is array sector scene) ∙ e) in
        ⊎_elim (λ l. absurd (differ (omega arith))) (λ l. omega (arith, bit_lt (get_or array (sector + scene / 8) 0) (scene % 8))) (split (flag array sector scene) 1);
    only_when = λ e. read_is array sector scene ∙ ne_eqb (flag array sector scene) 0 (λ z. omega (arith, e, z));
  }

-- a question's value, where it is accepted and where it is refused
told_number : (number value : ℕ) (s : State) (r : Told) → r ≡ told_of number s value → r.number ≡ number
told_number number value s r e = ap (λ (t : Told). t.number) e

told_state : (number value : ℕ) (s : State) (r : Told) → r ≡ told_of number s value → r.state ≡ s
told_state number value s r e = ap (λ (t : Told). t.state) e

value_refused : (number value : ℕ) (s : State) (r : Told) → r ≡ told_of number s value → 0 < r.number → r.value ≡ 0
value_refused number value s r e h =
    ap (λ (t : Told). t.value) (e ∙ told_refused number s value (omega (arith, told_number number value s r e, h)))

value_told : (number value : ℕ) (s : State) (r : Told) → r ≡ told_of number s value → r.number ≡ 0 → r.value ≡ value
value_told number value s r e z =
    ap (λ (t : Told). t.value) (e ∙ told_value number s value (sym (told_number number value s r e) ∙ z))

is_read_rules : (s : State) (array : List ℕ) (sector scene : ℕ) (r : Told) → r ≡ is_read_told s array sector scene → IsReadRules s array sector scene r
unfolding is_read_told
is_read_rules s array sector scene r e =
    let n : ℕ = book_refusal s array sector (scene ∷ []) in
    let v : ℕ = bit (is_read array sector scene) 1 in
    record {
      numbers = own_numbers s sector (scene ∷ []) array r.number (told_number n v s r e);
      state_given = told_state n v s r e;
      refused_0 = value_refused n v s r e;
      read = λ z. record {
        when = λ q. (read_exactly array sector scene).when (set_of (is_read array sector scene) (sym (value_told n v s r e z) ∙ q));
        only_when = λ q. value_told n v s r e z ∙ rw ((read_exactly array sector scene).only_when q) refl;
      };
      unread = λ z. record {
        when = λ q. (unread_exactly array sector scene).when (off_of (is_read array sector scene) (sym (value_told n v s r e z) ∙ q));
        only_when = λ q. value_told n v s r e z ∙ rw ((unread_exactly array sector scene).only_when q) refl;
      };
    }
  where
    set_of : (t : Bool) → bit t 1 ≡ 1 → t ≡ true
    set_of true e = refl
    set_of false e = absurd (omega arith)

    off_of : (t : Bool) → bit t 1 ≡ 0 → t ≡ false
    off_of true e = absurd (omega arith)
    off_of false e = refl

count_rules : (s : State) (array : List ℕ) (sector : ℕ) (r : Told) → r ≡ count_told s array sector → CountRules s array sector r
unfolding count_told
count_rules s array sector r e =
    let n : ℕ = book_refusal s array sector [] in
    let v : ℕ = count_read array sector in
    record {
      numbers = own_numbers s sector [] array r.number (told_number n v s r e);
      state_given = told_state n v s r e;
      refused_0 = value_refused n v s r e;
      counts = λ z. value_told n v s r e z ∙ count_is array sector
          ∙ count_cong (is_read array sector) (λ scene. eqb (flag array sector scene) 0) 4096 (λ scene h. read_is array sector scene);
    }

-- ---- what a script leaves

-- flags by their bits
pub same_flag : (before after : List ℕ) (was sector scene : ℕ) → is_read after sector scene ≡ is_read before was scene → flag after sector scene ≡ flag before was scene
same_flag before after was sector scene e =
    cases (is_read before was scene)
    (λ t. (read_exactly after sector scene).when (e ∙ t) ∙ sym ((read_exactly before was scene).when t))
    (λ f. (unread_exactly after sector scene).when (e ∙ f) ∙ sym ((unread_exactly before was scene).when f))

beside_of : (sector : ℕ) (before after : List ℕ) → BesideKept sector before after → Beside sector before after
beside_of sector before after b = record {
  same_length = b.same_length;
  below = λ k h. b.same_beside k (within_below sector 512 k h);
  above = λ k h. b.same_beside k (within_above sector 512 k h);
}

not_listed : (scene : ℕ) (scenes : List ℕ) → Unlisted scene scenes → is_listed scene scenes ≡ false
not_listed scene scenes none =
    cases (is_listed scene scenes) (λ t. let at = (is_listed_exactly scene scenes).when t in absurd (none at.index at.inside at.there)) (λ f. f)

module _ (sector : ℕ) (scenes before after : List ℕ) where
  book_marked : has_over scenes ≡ false → AllMarked sector scenes before after → BookMarked sector scenes before after
  book_marked kept all = record {
    listed_read = λ i h.
        let scene = get_or scenes i 0 in
        let listed = (is_listed_exactly scene scenes).only_when record { index = i; inside = h; there = refl } in
        (read_exactly after sector scene).when (all.flags scene (none_over scenes kept i h) ∙ rw listed (or_true (is_read before sector scene)));
    others_kept = λ scene h none.
        same_flag before after sector sector scene (all.flags scene h ∙ rw (not_listed scene scenes none) (or_false (is_read before sector scene)));
    beside = beside_of sector before after all.beside;
  }

  book_cut : OnlyListed sector scenes before after → BookCut sector scenes before after
  book_cut only = record {
    others_kept = λ scene h none. same_flag before after sector sector scene (only.unlisted scene h (not_listed scene scenes none));
    read_stays = λ scene h e. (read_exactly after sector scene).when (only.stays_read scene h ((read_exactly before sector scene).only_when e));
    beside = beside_of sector before after only.beside;
  }

module _ (wp : Bool) (chip : Device) (sector : ℕ) (scenes buffer after : List ℕ) (planned : Planned) (bytes : Bytes chip.array)
    (marks : Marks chip.state wp chip.array sector scenes buffer after planned) (good : planned.number ≡ 0) where
  abbrev want : List ℕ
  want = wanted_part chip.array sector scenes

  plans : PlanUpdated chip.state wp chip.array sector want buffer after planned
  unfolding Plans
  plans = plan_of wp chip sector scenes buffer after planned bytes marks good

  scenes_kept : has_over scenes ≡ false
  scenes_kept = (opened wp chip sector scenes buffer after planned bytes marks good).scenes_kept

  lost_by : (lost : Device) → CutAt wp (take planned.length after) chip lost → PowerLost wp chip sector want lost
  lost_by lost c = cut_lost wp chip sector want buffer after planned plans good c

  finished_marked : (done : Device) → Finished wp chip sector want done → BookMarked sector scenes chip.array done.array
  finished_marked done f =
      book_marked sector scenes chip.array done.array scenes_kept (mark_finished wp chip sector scenes buffer after planned bytes marks good done f)

  marking_rules : MarkingRules wp chip sector scenes (length buffer) (take planned.length after)
  unfolding Plans room_enough
  marking_rules = record {
    sent = λ at met sent e. finished_marked met (sent_finished wp chip sector want buffer after planned plans good sent e);
    run = λ line ran left shown runs accepted.
        finished_marked left (accepted_run_finished wp chip sector want buffer after planned plans good line runs accepted);
    cut = λ lost c.
        book_cut sector scenes chip.array lost.array (mark_behind wp chip sector scenes buffer after planned bytes marks good lost (inr (lost_by lost c)));
    again = λ lost room written answer c again enough. (again_of lost c).accepted room written answer again enough;
    again_in_worst = λ lost room written answer c again enough.
        (again_of lost c).accepted_in_worst room written answer again (rw (worst_bytes_lem lost.state (ready_of lost c).sound) enough);
    finishes = λ lost room written answer at met c again accepted sent e.
        let plans_again = plan_of wp lost sector scenes room written answer (ready_of lost c).bytes again accepted in
        book_marked sector scenes chip.array met.array scenes_kept
        ((again_of lost c).finishes met (sent_finished wp lost sector (wanted_part lost.array sector scenes) room written answer plans_again accepted sent e));
  }
    where
      again_of : (lost : Device) → CutAt wp (take planned.length after) chip lost → MarkedAgain wp chip sector scenes (length buffer) lost
      again_of lost c = mark_again wp chip sector scenes buffer after planned bytes marks good lost (lost_by lost c)

      ready_of : (lost : Device) → CutAt wp (take planned.length after) chip lost → ReadyToPlan chip.state.chip lost
      ready_of lost c = (kept wp chip sector scenes buffer after planned bytes marks good).ready lost (inr (lost_by lost c))

pub book_rules : BookRules
book_rules = record {
  is_read = is_read_rules;
  count = count_rules;
  mark = mark_refusals_lem;
  marking = marking_rules;
  over_history = only_asked_read;
}
