-- Flags by name: what a move and the way back leave, sent or cut, by the places of the sectors.
-- Assumes nothing.
use mathlib.Core.Path.{◌≡◌, sym, ◌∙◌}
use mathlib.Core.Bool.{Bool, true, false}
use mathlib.Core.List.{List, []}
use mathlib.Core.Logic.{inl, inr}
use Prim.Native.Nat.{ℕ, ◌≤◌}
use native.Mathlib.Omega.{arith}
use lib.ListN.{length, get_or}
use borrow.Author.Tests.{ltb-false}
use Rattle.common.specs.Bits.{Bytes}
use Rattle.common.proofs.Laws.Booleans.{or_imp}
use Rattle.common.proofs.Laws.Choice.{cases}
use Rattle.state.specs.declared.Planned.{Planned}
use Rattle.frame.specs.Device.{Device}
use Rattle.powercut.specs.PowerCut.{Finished, BehindPlan}
use Rattle.book.specs.Book.{is_read}
use Rattle.names.specs.Records.{names_of, records_bytes}
use Rattle.names.proofs.Laws.Walk.{records_long}
use Rattle.namelist.specs.Listed.{listed, names_in}
use Rattle.sectors.specs.Images.{sector_part}
use Rattle.sectors.specs.Moves.{moved_names, wanted_move, wanted_back}
use Rattle.sectors.proofs.Laws.Images.{sector_long}
use Rattle.sectors.proofs.Laws.Back.{back_long}
use Rattle.flags.specs.declared.Returned.{Returned}
use Rattle.namechecks.specs.Refusals.{move_refusal, back_refusal}
use Rattle.namechecks.specs.Opened.{MoveOpened}
use Rattle.flags.specs.Answers.{is_name_read, BookReturns}
use Rattle.namecut.specs.Leaves.{is_first_move, MoveLeaves}
use Rattle.flags.proofs.Laws.Answers.{is_read_is, move_want_long}
use Rattle.namechecks.proofs.Laws.Opened.{book_fits}
use Rattle.namecut.proofs.Laws.Moved.{opened, inside, new_good, move_leaves, book_stays, moved_sector, moved_names_lem, moved_flags}
use Rattle.namecut.proofs.Laws.Restored.{back_opened, back_leaves}
use Rattle.rules.specs.FlagsWanted.{MoveWants, BackWants, sector_bytes, GoodList, Whole, picked_names}
use Rattle.rules.specs.FlagsCalls.{WantedAnd}
use Rattle.rules.specs.Book.{flag}
use Rattle.rules.specs.FlagsLeft.{MoveSent, MoveBehind, BackSent, BackBehind, MoveLeft, MoveDone, BackLeft}
use Rattle.rules.proofs.Laws.FlagsPlans.{back_wants, moved_is}
use Rattle.rules.proofs.Laws.FlagsLists.{move_it}
use Rattle.rules.proofs.Laws.Book.{read_exactly, same_flag}
use Rattle.rules.proofs.Laws.FlagsRead.{sector_part_lem, means_member, sector_names_are, list_exactly}
use Rattle.rules.proofs.Laws.FlagsLaid.{padded_laid}
use Rattle.rules.proofs.Laws.FlagsWanted.{whole_exactly}
use Rattle.rules.proofs.Laws.FlagsSent.{Went, done_finished, lost_power, sent_went, behind_went, finished_behind, went_ready, went_sector, beside_names, names_now}

-- ---- a move

module _ (wp : Bool) (chip : Device) (book sector : ℕ) (list : List ℕ) where
  abbrev pub before : List ℕ
  before = chip.array

  abbrev pub move_own : ℕ
  move_own = move_refusal chip.state before book sector list

  abbrev pub move_want : List ℕ
  move_want = wanted_move (sector_part before sector) (is_read before book) (names_in (listed list))

  abbrev pub MoveWent : Device → Type 0
  MoveWent done = Went move_own wp chip sector move_want (Finished wp chip sector move_want done)

  module _ (bytes : Bytes before) (done : Device) (w : Went move_own wp chip sector move_want (BehindPlan wp chip sector move_want done)) where
    is_open : MoveOpened chip.state before book sector list
    is_open = opened wp chip book sector list w.buffer w.after w.planned bytes w.unless w.accepted

    leaves : MoveLeaves book sector list before done.array
    leaves = move_leaves wp chip book sector list w.buffer w.after w.planned bytes w.unless w.accepted done w.behind

    fits : length (records_bytes true (moved_names before book list)) ≤ 4096
    fits = ltb-false 4096 (length (records_bytes true (moved_names before book list))) is_open.roomy

    good_names : GoodList list (names_in (listed list))
    good_names = (list_exactly list (names_in (listed list))).only_when is_open.opened.good

    torn_first : (Whole (sector_bytes before sector) 0 (picked_names (flag before book) 0 (names_in (listed list))) → ⊥) → is_first_move before book sector list ≡ true
    torn_first torn =
        let sized = sector_long before sector (inside wp chip book sector list w.buffer w.after w.planned bytes w.unless w.accepted) in
        let good = new_good wp chip book sector list w.buffer w.after w.planned bytes w.unless w.accepted in
        let new : List (List ℕ) = moved_names before book list in
        cases (is_first_move before book sector list) (λ t. t)
        (λ f. absurd (torn (rw (sector_part_lem before sector, moved_is before book list)
        ((whole_exactly (sector_part before sector) 0 new good (omega (arith, fits, sized, records_long true false new))).when f))))

    move_left : MoveLeft book sector list before done.array
    move_left = record {
      names = names_in (listed list);
      good_list = good_names;
      moved = names_of (sector_part done.array sector);
      moved_are = sector_names_are done.array sector;
      moved_first = rw (moved_is before book list) leaves.names_are;
      first_plan = λ torn. names_now done.array sector [] (leaves.first_plan (torn_first torn));
      book_stays = λ scene h. same_flag before done.array book book scene
          (book_stays wp chip book sector list w.buffer w.after w.planned bytes w.unless w.accepted done w.behind scene h);
      beside = beside_names sector before done.array leaves.beside;
    }

pub moving_left : (wp : Bool) (chip : Device) (book sector : ℕ) (list : List ℕ) (after : Device) → Bytes chip.array
    → MoveBehind wp chip book sector list after → MoveLeft book sector list chip.array after.array
moving_left wp chip book sector list after bytes b =
    move_left wp chip book sector list bytes after
    (behind_went (move_own wp chip book sector list) wp chip sector (move_want wp chip book sector list) b)

-- both plans
module _ (wp wp₂ : Bool) (chip mid done : Device) (book sector : ℕ) (list : List ℕ) (bytes : Bytes chip.array)
    (first : MoveWent wp chip book sector list mid) (second : MoveWent wp₂ mid book sector list done) where
  first_behind : Went (move_own wp chip book sector list) wp chip sector (move_want wp chip book sector list)
      (BehindPlan wp chip sector (move_want wp chip book sector list) mid)
  first_behind = finished_behind (move_own wp chip book sector list) wp chip sector (move_want wp chip book sector list) mid first

  pub bytes_mid : Bytes mid.array
  bytes_mid = (went_ready (move_own wp chip book sector list) wp chip sector (move_want wp chip book sector list) bytes first_behind).bytes

  pub bytes_done : Bytes done.array
  bytes_done =
      (went_ready (move_own wp₂ mid book sector list) wp₂ mid sector (move_want wp₂ mid book sector list) bytes_mid
      (finished_behind (move_own wp₂ mid book sector list) wp₂ mid sector (move_want wp₂ mid book sector list) done second)).bytes

  move_done : MoveDone book sector list chip.array done.array
  move_done =
      let new : List (List ℕ) = moved_names chip.array book list in
      let is = moved_sector wp chip book sector list first.buffer first.after first.planned bytes first.unless first.accepted mid first.behind
      wp₂ second.buffer second.after second.planned bytes_mid second.unless second.accepted done second.behind in
      let are = moved_names_lem wp chip book sector list first.buffer first.after first.planned bytes first.unless first.accepted mid first.behind
      wp₂ second.buffer second.after second.planned bytes_mid second.unless second.accepted done second.behind in
      record {
        names = names_in (listed list);
        good_list = good_names wp chip book sector list bytes mid first_behind;
        moved_are = names_now done.array sector (picked_names (flag chip.array book) 0 (names_in (listed list))) (are ∙ sym (moved_is chip.array book list));
        laid = rw (sector_part_lem done.array sector, is, moved_is chip.array book list)
            (padded_laid true [] new (omega (arith, fits wp chip book sector list bytes mid first_behind)));
        book_stays = λ scene h. same_flag chip.array done.array book book scene
            (moved_flags wp chip book sector list first.buffer first.after first.planned bytes first.unless first.accepted mid first.behind
            wp₂ second.buffer second.after second.planned bytes_mid second.unless second.accepted done second.behind scene h);
      }

pub move_went : (wp : Bool) (chip done : Device) (book sector : ℕ) (list : List ℕ)
    → MoveSent wp chip book sector list done → MoveWent wp chip book sector list done
move_went wp chip done book sector list s = sent_went (move_own wp chip book sector list) wp chip sector (move_want wp chip book sector list) s

pub moving_done : (wp wp₂ : Bool) (chip mid done : Device) (book sector : ℕ) (list : List ℕ) → Bytes chip.array
    → MoveSent wp chip book sector list mid
    → MoveSent wp₂ mid book sector list done → MoveDone book sector list chip.array done.array
moving_done wp wp₂ chip mid done book sector list bytes p q =
    move_done wp wp₂ chip mid done book sector list bytes (move_went wp chip mid book sector list p) (move_went wp₂ mid done book sector list q)

-- one plan sent: the sector is as wanted
pub move_sent : (wp : Bool) (chip done : Device) (book sector : ℕ) (list : List ℕ) → Bytes chip.array → MoveSent wp chip book sector list done
    → WantedAnd (MoveWants chip.array book sector list) (λ wanted. sector_bytes done.array sector ≡ wanted)
move_sent wp chip done book sector list bytes s =
    let own : ℕ = move_own wp chip book sector list in
    let want : List ℕ = move_want wp chip book sector list in
    let w = move_went wp chip done book sector list s in
    let o = opened wp chip book sector list w.buffer w.after w.planned bytes w.unless w.accepted in
    record {
      wanted = want;
      wants = move_it chip.state chip.array book sector list o;
      holds = went_sector own wp chip sector want done bytes (inside wp chip book sector list w.buffer w.after w.planned bytes w.unless w.accepted)
          (move_want_long (sector_part chip.array sector) chip.array book list o.roomy) w;
    }

-- ---- the way back

module _ (wp : Bool) (chip : Device) (sector book : ℕ) (list : List ℕ) (count : ℕ) where
  abbrev pub back_own : ℕ
  back_own = back_refusal chip.state chip.array sector book list

  abbrev pub back_want : List ℕ
  back_want = wanted_back (names_of (sector_part chip.array sector)) (names_in (listed list))

  abbrev pub answer_of : Planned → Returned
  answer_of planned = record {
    number = planned.number;
    state = planned.state;
    length = planned.length;
    frames = planned.frames;
    microseconds = planned.microseconds;
    unlisted = count;
  }

  -- an accepted one, and the chip behind its script
  pub record Back (Behind : Type 0) : Type 0 where
    pub buffer : List ℕ
    pub after : List ℕ
    pub planned : Planned
    pub answers : BookReturns chip.state wp chip.array sector book list buffer after (answer_of planned)
    pub accepted : planned.number ≡ 0
    pub behind : Behind

  pub back_went : (done : Device) → BackSent wp chip sector book list count done → Back (Finished wp chip book back_want done)
  back_went done s = record {
    buffer = s.buffer;
    after = s.after;
    planned = s.planned;
    answers = s.answers;
    accepted = s.accepted;
    behind = done_finished back_own wp chip book back_want s.buffer s.after s.planned s.answers.plan s.accepted s.finished;
  }

  back_behind : (done : Device) → BackBehind wp chip sector book list count done
      → Back (BehindPlan wp chip book back_want done)
  back_behind done (inl s) =
      let b = back_went done s in
      record { buffer = b.buffer; after = b.after; planned = b.planned; answers = b.answers; accepted = b.accepted; behind = inl b.behind }
  back_behind done (inr l) = record {
    buffer = l.buffer;
    after = l.after;
    planned = l.planned;
    answers = l.answers;
    accepted = l.accepted;
    behind = inr (lost_power back_own wp chip book back_want l.buffer l.after l.planned l.answers.plan l.accepted l.cut);
  }

  pub back_bytes : Bytes chip.array → (done : Device) → Back (Finished wp chip book back_want done) → Bytes done.array
  back_bytes bytes done b =
      (went_ready back_own wp chip book back_want bytes
      record { buffer = b.buffer; after = b.after; planned = b.planned; unless = b.answers.plan; accepted = b.accepted; behind = inl b.behind }).bytes

pub back_left : (wp : Bool) (chip : Device) (sector book : ℕ) (list : List ℕ) (count : ℕ) (after : Device) → Bytes chip.array
    → BackBehind wp chip sector book list count after
    → BackLeft sector book list chip.array after.array
back_left wp chip sector book list count after bytes b =
    let w = back_behind wp chip sector book list count after b in
    let names : List (List ℕ) = names_in (listed list) in
    let records : List (List ℕ) = names_of (sector_part chip.array sector) in
    let leaves = back_leaves wp chip sector book list w.buffer w.after (answer_of wp chip sector book list count w.planned) bytes w.answers w.accepted after w.behind in
    let o = back_opened wp chip sector book list w.buffer w.after (answer_of wp chip sector book list count w.planned) bytes w.answers w.accepted in
    record {
      names = names;
      good_list = (list_exactly list names).only_when o.good;
      records = records;
      records_are = sector_names_are chip.array sector;
      only_listed = λ scene h e.
          let either = leaves.only_listed scene h ((read_exactly after.array book scene).only_when e) in
          cases (is_read chip.array book scene) (λ t. inl ((read_exactly chip.array book scene).when t))
          (λ f. inr ((means_member (get_or names scene []) records).when
          (sym (is_read_is chip.array sector (get_or names scene [])) ∙ or_imp (is_read chip.array book scene) (is_name_read chip.array sector (get_or names scene [])) either f)));
      beside = beside_names book chip.array after.array leaves.beside;
    }

pub back_sent : (wp : Bool) (chip done : Device) (sector book : ℕ) (list : List ℕ) (count : ℕ) → Bytes chip.array → BackSent wp chip sector book list count done
    → WantedAnd (BackWants chip.array sector list) (λ wanted. sector_bytes done.array book ≡ wanted)
back_sent wp chip done sector book list count bytes s =
    let own : ℕ = back_own wp chip sector book list count in
    let want : List ℕ = back_want wp chip sector book list count in
    let w = back_went wp chip sector book list count done s in
    let o = back_opened wp chip sector book list w.buffer w.after (answer_of wp chip sector book list count w.planned) bytes w.answers w.accepted in
    record {
      wanted = want;
      wants = back_wants chip.array sector list o.good;
      holds = went_sector own wp chip book want done bytes (book_fits chip.state chip.array book sector list false o)
          (back_long (names_in (listed list)) (names_of (sector_part chip.array sector)))
          record { buffer = w.buffer; after = w.after; planned = w.planned; unless = w.answers.plan; accepted = w.accepted; behind = w.behind };
    }
