-- Flags by name: there and back, back and there, and over a history, by the places of the sectors.
-- Assumes nothing.
use mathlib.Core.Path.{◌≡◌, sym, ap, ◌∙◌}
use mathlib.Core.Bool.{Bool, true}
use mathlib.Core.List.{List}
use mathlib.Core.Logic.{inl, inr}
use Prim.Native.Nat.{ℕ, ◌<◌}
use Rattle.common.specs.Bits.{Bytes}
use Rattle.common.specs.Refusals.{Exactly}
use Rattle.common.proofs.Laws.Booleans.{or_imp}
use Rattle.common.proofs.Laws.Choice.{cases}
use Rattle.frame.specs.Device.{Device}
use Rattle.powercut.specs.PowerCut.{Finished}
use Rattle.names.specs.Records.{names_of}
use Rattle.names.specs.Search.{is_on}
use Rattle.namelist.specs.Listed.{listed, names_in}
use Rattle.sectors.specs.Images.{sector_part, wanted_mark}
use Rattle.namechecks.specs.Refusals.{mark_refusal}
use Rattle.flags.specs.Answers.{is_name_read}
use Rattle.namecut.specs.Leaves.{History, begins, marks, moves, aside}
use Rattle.flags.proofs.Laws.Answers.{is_read_is}
use Rattle.namecut.proofs.Laws.Restored.{there_and_back, none_unlisted, back_and_there}
use Rattle.namecut.proofs.Laws.History.{only_asked_names}
use Rattle.rules.specs.Book.{flag}
use Rattle.rules.specs.FlagsWanted.{sector_bytes, Member, NamesAre, GoodList, picked_names}
use Rattle.rules.specs.FlagsLeft.{MoveSent, BackSent, NamesHistory, begun, marked, moved, untouched, NamesSince}
use Rattle.rules.proofs.Laws.Book.{same_flag}
use Rattle.rules.proofs.Laws.FlagsRead.{sector_part_lem, means_member, sector_names_are, sector_names_only, list_names}
use Rattle.rules.proofs.Laws.FlagsPlans.{moved_is}
use Rattle.rules.proofs.Laws.FlagsSent.{behind_went}
use Rattle.rules.proofs.Laws.FlagsMoved.{move_own, move_want, MoveWent, move_went, bytes_mid, bytes_done, back_want, answer_of, Back, back_went, back_bytes}

-- ---- there and back

module _ (wp wp₂ wp₃ : Bool) (chip mid there last : Device) (book sector third : ℕ) (list : List ℕ) (count : ℕ) (bytes : Bytes chip.array)
    (p : MoveSent wp chip book sector list mid) (q : MoveSent wp₂ mid book sector list there) (r : BackSent wp₃ there sector third list count last) where
  one : MoveWent wp chip book sector list mid
  one = move_went wp chip mid book sector list p

  two : MoveWent wp₂ mid book sector list there
  two = move_went wp₂ mid there book sector list q

  back : Back wp₃ there sector third list count (Finished wp₃ there third (back_want wp₃ there sector third list count) last)
  back = back_went wp₃ there sector third list count last r

  pub flags_restored : (scene : ℕ) → scene < 4096 → flag last.array third scene ≡ flag chip.array book scene
  flags_restored scene h =
      same_flag chip.array last.array book third scene
      (there_and_back wp chip book sector list one.buffer one.after one.planned bytes one.unless one.accepted mid one.behind
      wp₂ two.buffer two.after two.planned (bytes_mid wp wp₂ chip mid there book sector list bytes one two) two.unless two.accepted there two.behind
      third wp₃ back.buffer back.after (answer_of wp₃ there sector third list count back.planned) (bytes_done wp wp₂ chip mid there book sector list bytes one two)
      back.answers back.accepted last back.behind scene h)

  pub all_listed : count ≡ 0
  all_listed =
      none_unlisted wp chip book sector list one.buffer one.after one.planned bytes one.unless one.accepted mid one.behind
      wp₂ two.buffer two.after two.planned (bytes_mid wp wp₂ chip mid there book sector list bytes one two) two.unless two.accepted there two.behind
      third wp₃ back.buffer back.after (answer_of wp₃ there sector third list count back.planned) (bytes_done wp wp₂ chip mid there book sector list bytes one two)
      back.answers back.accepted

-- back and there: of the names on the list
pub names_restored : (wp wp₂ wp₃ : Bool) (chip there mid last : Device) (sector book third : ℕ) (list : List ℕ) (count : ℕ) → Bytes chip.array
    → BackSent wp chip sector book list count there → MoveSent wp₂ there book third list mid → MoveSent wp₃ mid book third list last
    → (names records now : List (List ℕ)) → GoodList list names → NamesAre (sector_bytes chip.array sector) 0 records
    → NamesAre (sector_bytes last.array third) 0 now → (name : List ℕ) → Member name names → Exactly (Member name now) (Member name records)
names_restored wp wp₂ wp₃ chip there mid last sector book third list count bytes r p q names records now good were are name m =
    let back = back_went wp chip sector book list count there r in
    let between = back_bytes wp chip sector book list count bytes there back in
    let one = move_went wp₂ there mid book third list p in
    let two = move_went wp₃ mid last book third list q in
    let on : is_on name (names_in (listed list)) ≡ true = (means_member name (names_in (listed list))).only_when (rw (list_names list names good) at m) in
    let same : is_on name (names_of (sector_part last.array third)) ≡ is_on name (names_of (sector_part chip.array sector)) =
    sym (is_read_is last.array third name)
    ∙ back_and_there wp chip sector book list back.buffer back.after (answer_of wp chip sector book list count back.planned) bytes back.answers back.accepted there back.behind
    third wp₂ one.buffer one.after one.planned between one.unless one.accepted mid one.behind
    wp₃ two.buffer two.after two.planned (bytes_mid wp₂ wp₃ there mid last book third list between one two) two.unless two.accepted last two.behind name on
    ∙ is_read_is chip.array sector name in
    rw (sector_names_only last.array third now are, sector_names_only chip.array sector records were)
    record {
      when = λ x. (means_member name (names_of (sector_part chip.array sector))).when (sym same ∙ (means_member name (names_of (sector_part last.array third))).only_when x);
      only_when = λ x. (means_member name (names_of (sector_part last.array third))).when (same ∙ (means_member name (names_of (sector_part chip.array sector))).only_when x);
    }

-- ---- over a history

history_of : (sector : ℕ) {first last : Device} {asked : List (List ℕ)} → NamesHistory sector first asked last → History sector first asked last
history_of sector begun = begins
history_of sector {last = last} (marked {chip = chip} h wp name b) =
    let w = behind_went (mark_refusal chip.state chip.array sector name) wp chip sector (wanted_mark (sector_part chip.array sector) name) b in
    marks (history_of sector h) wp name w.buffer w.after w.planned w.unless w.accepted w.behind
history_of sector {last = last} (moved {chip = chip} h wp book list names good b) =
    let w = behind_went (move_own wp chip book sector list) wp chip sector (move_want wp chip book sector list) b in
    rw (ap (picked_names (flag chip.array book) 0) (list_names list names good) ∙ moved_is chip.array book list)
    (moves (history_of sector h) wp book list w.buffer w.after w.planned w.unless w.accepted w.behind)
history_of sector {last = last} (untouched {chip = chip} h same bytes) =
    aside (history_of sector h) (sym (sector_part_lem last.array sector) ∙ same ∙ sector_part_lem chip.array sector) bytes

pub names_since : (sector : ℕ) (first last : Device) (asked : List (List ℕ)) → Bytes first.array → NamesHistory sector first asked last
    → NamesSince sector first asked last
names_since sector first last asked bytes h =
    let only = only_asked_names sector first last asked bytes (history_of sector h) in
    let were : List (List ℕ) = names_of (sector_part first.array sector) in
    let are : List (List ℕ) = names_of (sector_part last.array sector) in
    record {
      names = were;
      names_were = sector_names_are first.array sector;
      now = are;
      now_are = sector_names_are last.array sector;
      not_made_up = λ name m.
          let either = only.not_made_up name (is_read_is last.array sector name ∙ (means_member name are).only_when m) in
          cases (is_name_read first.array sector name)
          (λ t. inl ((means_member name were).when (sym (is_read_is first.array sector name) ∙ t)))
          (λ f. inr ((means_member name asked).when (or_imp (is_name_read first.array sector name) (is_on name asked) either f)));
      not_lost = λ name m.
          (means_member name are).when
          (sym (is_read_is last.array sector name) ∙ only.not_lost name (is_read_is first.array sector name ∙ (means_member name were).only_when m));
    }
