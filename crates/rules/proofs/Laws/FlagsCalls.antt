-- Flags by name: the numbers of the question and of a marking are their tables', and a marking's answer is the planner's for the sector that is wanted.
-- Assumes nothing.
use mathlib.Core.Path.{◌≡◌, refl, sym, ap, ◌∙◌}
use mathlib.Core.Bool.{Bool, false, not}
use mathlib.Core.List.{List, ◌++◌}
use mathlib.Core.Logic.{⊎_elim}
use Prim.Native.Nat.{ℕ, ◌+◌, ◌≤◌, ◌<◌}
use native.Mathlib.Omega.{arith}
use lib.Dec.{eqb}
use lib.ListN.{length}
use borrow.Author.Tests.{eqb-true, not-false}
use Rattle.common.specs.Bits.{Bytes, bit}
use Rattle.common.proofs.Laws.Choice.{cases}
use Rattle.common.proofs.Laws.Lists.{split}
use Rattle.state.specs.declared.State.{State}
use Rattle.state.specs.declared.Planned.{Planned}
use Rattle.state.specs.declared.Told.{Told}
use Rattle.state.specs.State.{data_of}
use Rattle.state.specs.Soundness.{is_sound}
use Rattle.plan.specs.Update.{Plans}
use Rattle.promises.specs.Promises.{fitting_refusals}
use Rattle.promises.proofs.Laws.Unless.{unless_none}
use Rattle.book.specs.Refusals.{is_sector}
use Rattle.names.specs.Records.{is_name, names_of}
use Rattle.names.specs.Search.{is_on}
use Rattle.sectors.specs.Images.{sector_part, wanted_mark}
use Rattle.sectors.proofs.Laws.Images.{sector_long, sector_bytes_lem}
use Rattle.namechecks.specs.Refusals.{name_refusals, name_refusal, is_full, mark_refusals, mark_refusal}
use Rattle.namechecks.specs.Opened.{MarkOpened}
use Rattle.flags.specs.Answers.{name_told, NameMarks}
use Rattle.namechecks.proofs.Laws.Opened.{name_refusal_of, mark_opened, marked_inside}
use Rattle.flags.proofs.Laws.Answers.{is_read_is, name_refused, name_told_lem, name_state, name_marks_untouched, name_marks_state}
use Rattle.namecut.proofs.Laws.Marking.{mark_bytes}
use Rattle.flags.proofs.Laws.Numbers.{mark_number}
use Rattle.rules.specs.FlagsWanted.{sector_bytes, MarkWants}
use Rattle.rules.specs.FlagsCalls.{NameReadCall, NameMarkCall}
use Rattle.rules.proofs.Laws.Tests.{means_not}
use Rattle.rules.proofs.Laws.Numbered.{row, numbered}
use Rattle.rules.proofs.Laws.Conditions.{means_not_sound, means_wrong_array}
use Rattle.rules.proofs.Laws.FlagsRead.{sector_part_lem, means_name, means_member, means_no_member, sector_names_are}
use Rattle.rules.proofs.Laws.FlagsPlans.{mark_wants, mark_wants_only}
use Rattle.rules.proofs.Laws.FlagsRefused.{means_wrong_sector, means_mark_long, planner_rows}

-- ---- a question

module _ (s : State) (array : List ℕ) (sector : ℕ) (name : List ℕ) where
  abbrev told : Told
  told = name_told s array sector name

  told_number : told.number ≡ name_refusal s array sector name
  told_number =
      let n : ℕ = name_refusal s array sector name in
      ⊎_elim (λ h. ap (λ (t : Told). t.number) (name_refused s array sector name n h refl))
      (λ h. let none : n ≡ 0 = omega arith in ap (λ (t : Told). t.number) (name_told_lem s array sector name none) ∙ sym none) (split 0 n)

  told_value : told.number ≡ 0 → told.value ≡ bit (is_on name (names_of (sector_part array sector))) 1
  told_value z = ap (λ (t : Told). t.value) (name_told_lem s array sector name (sym told_number ∙ z)) ∙ ap (λ (t : Bool). bit t 1) (is_read_is array sector name)

  told_refused : 0 < told.number → told.value ≡ 0
  told_refused h =
      ap (λ (t : Told). t.value) (name_refused s array sector name (name_refusal s array sector name) (omega (arith, h, told_number)) refl)

  told_call : NameReadCall s array sector name told
  told_call =
      let there : List (List ℕ) = names_of (sector_part array sector) in
      record {
        numbers = numbered (name_refusals s (length array) sector name) _ told.number refl (told_number ∙ name_refusal_of s array sector name)
            (row (means_not_sound s) (λ _. refl)
            (λ sound. row (means_wrong_array s (not-false (is_sound s) sound) array) (λ _. refl)
            (λ _. row (means_wrong_sector s (not-false (is_sound s) sound) sector) (λ _. refl)
            (λ _. row (means_not (is_name name) (means_name name)) (λ _. refl) (λ _. tt)))));
        state_given = name_state s array sector name;
        refused_0 = told_refused;
        told = λ z. record {
          names = there;
          names_are = sector_names_are array sector;
          read = record {
            when = λ q. cases (is_on name there) (λ t. (means_member name there).when t) (λ f. absurd (omega (arith, q, told_value z ∙ ap (λ (t : Bool). bit t 1) f)));
            only_when = λ m. told_value z ∙ ap (λ (t : Bool). bit t 1) ((means_member name there).only_when m);
          };
          unread = record {
            when = λ q. (means_no_member name there).when
                (cases (is_on name there) (λ t. absurd (omega (arith, q, told_value z ∙ ap (λ (t : Bool). bit t 1) t))) (λ f. f));
            only_when = λ never. told_value z ∙ ap (λ (t : Bool). bit t 1) ((means_no_member name there).only_when never);
          };
        };
      }

pub name_read_call : (s : State) (array : List ℕ) (sector : ℕ) (name : List ℕ) (r : Told) → r ≡ name_told s array sector name → NameReadCall s array sector name r
name_read_call s array sector name r e = rw e (told_call s array sector name)

-- ---- a marking

module _ (s : State) (array : List ℕ) (sector : ℕ) (name : List ℕ) (o : MarkOpened s array sector name) where
  abbrev pub mark_want : List ℕ
  mark_want = wanted_mark (sector_part array sector) name

  mark_fits : sector + 4096 ≤ length array
  mark_fits = marked_inside s array sector name o

  pub mark_it : MarkWants (sector_bytes array sector) name mark_want
  mark_it = rw (sector_part_lem array sector) (mark_wants (sector_part array sector) name (sector_long array sector mark_fits) o.good o.roomy)

  mark_only : (w : List ℕ) → MarkWants (sector_bytes array sector) name w → w ≡ mark_want
  mark_only w p = mark_wants_only (sector_bytes array sector) name w mark_want p mark_it

  mark_want_bytes : Bytes array → Bytes mark_want
  mark_want_bytes bytes = mark_bytes (sector_part array sector) name (sector_long array sector mark_fits) (sector_bytes_lem array sector mark_fits bytes) o.good o.roomy

module _ (s : State) (wp : Bool) (array : List ℕ) (sector : ℕ) (name buffer after : List ℕ) (planned : Planned) (bytes : Bytes array)
    (marks : NameMarks s wp array sector name buffer after planned) where
  pub mark_call : NameMarkCall s wp array sector name buffer after planned
  unfolding Plans
  mark_call =
      let want : List ℕ = wanted_mark (sector_part array sector) name in
      record {
        numbers = numbered (mark_refusals s array sector name ++ fitting_refusals s wp array sector want (length buffer)) _ planned.number refl
            (mark_number s wp array sector name buffer after planned marks)
            (row (means_not_sound s) (λ _. refl)
            (λ sound. row (means_wrong_array s (not-false (is_sound s) sound) array) (λ _. refl)
            (λ sized. row (means_wrong_sector s (not-false (is_sound s) sound) sector) (λ _. refl)
            (λ inside. row (means_not (is_name name) (means_name name)) (λ _. refl)
            (λ good. row (means_mark_long array sector name) (λ _. refl)
            (λ roomy. let o = opened sound sized inside good roomy in
            planner_rows (MarkWants (sector_bytes array sector) name) want (mark_it s array sector name o) (mark_only s array sector name o) s wp array sector buffer
            (mark_want_bytes s array sector name o bytes)))))));
        refusal_keeps = name_marks_untouched s wp array sector name buffer after planned marks;
        state_given = name_marks_state s wp array sector name buffer after planned marks;
        wanted = λ z.
            let none = unless_none (mark_refusal s array sector name) s wp array sector want buffer after planned marks z in
            record { wanted = want; wants = mark_it s array sector name (mark_opened s array sector name none); holds = marks.planned none };
      }
    where
      opened : not (is_sound s) ≡ false → not (eqb (length array) (data_of s).size) ≡ false → not (is_sector (data_of s).size sector) ≡ false
          → not (is_name name) ≡ false → is_full (names_of (sector_part array sector)) name ≡ false → MarkOpened s array sector name
      opened sound sized inside good roomy = record {
        sound = not-false (is_sound s) sound;
        sized = eqb-true (length array) (data_of s).size (not-false (eqb (length array) (data_of s).size) sized);
        a_sector = not-false (is_sector (data_of s).size sector) inside;
        good = not-false (is_name name) good;
        roomy = roomy;
      }
