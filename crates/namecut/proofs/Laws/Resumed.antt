-- Moves and ways back that are planned again behind a cut: from the planner's promises alone.
-- Assumes nothing.
use mathlib.Core.Path.{◌≡◌, refl, sym, ap, ◌∙◌}
use mathlib.Core.Bool.{Bool, true, false}
use mathlib.Core.List.{List, []}
use mathlib.Core.Logic.{◌⊎◌, inr}
use Prim.Native.Nat.{ℕ, ◌+◌, ◌≤◌}
use native.Mathlib.Omega.{arith}
use lib.ListN.{length}
use Rattle.common.specs.Bits.{Bytes}
use Rattle.state.specs.declared.Planned.{Planned}
use Rattle.promises.specs.Promises.{Device, WantedRises, ReadyToPlan, Fitting, PlanAnswered, room_enough, plan_refusal}
use Rattle.promises.proofs.Laws.Unless.{unless_answered, unless_accepted, fitting_few}
use Rattle.book.specs.Book.{is_read}
use Rattle.names.specs.Records.{names_of, records_bytes}
use Rattle.names.proofs.Laws.Walk.{records_none}
use Rattle.namelist.specs.Listed.{listed, names_in}
use Rattle.sectors.specs.Images.{sector_part, wanted_names}
use Rattle.sectors.specs.Moves.{are_too_long, moved_names, wanted_move, wanted_back}
use Rattle.sectors.proofs.Laws.Images.{sector_at, sector_is, sector_long}
use Rattle.sectors.proofs.Laws.There.{past_cong, move_wants}
use Rattle.flags.specs.declared.Returned.{Returned}
use Rattle.namechecks.specs.Refusals.{move_refusal, back_refusal}
use Rattle.namechecks.specs.Opened.{ListOpened, MoveOpened}
use Rattle.flags.specs.Answers.{BookMoves, planned_of, BookReturns}
use Rattle.namecut.specs.Leaves.{sector_names, BehindMove, MoveGoesOn, BackLost, BackGoesOn}
use Rattle.namecut.proofs.Laws.Again.{wanted_long, wanted_bytes}
use Rattle.namechecks.proofs.Laws.Opened.{move_open, back_refusal_of, list_open, names_fit}
use Rattle.namecut.proofs.Laws.Appended.{appended_falls}
use Rattle.namecut.proofs.Laws.Moved.{sectors_apart, opened, inside, appending_to, appending, wanted_is, plans, move_ready, book_stays, moved_same}
use Rattle.namecut.proofs.Laws.Restored.{back_opened, back_kept, back_beside, back_completed, names_inside}

-- ---- a move

module _ (wp : Bool) (chip : Device) (book sector : ℕ) (list buffer after : List ℕ) (r : Planned) (bytes : Bytes chip.array)
    (moves : BookMoves chip.state wp chip.array book sector list buffer after r) (good : r.number ≡ 0)
    (done : Device) (behind : BehindMove wp chip book sector list done) where
  abbrev now_image : List ℕ
  now_image = sector_part done.array sector

  abbrev names : List (List ℕ)
  names = names_in (listed list)

  abbrev new : List (List ℕ)
  new = moved_names chip.array book list

  abbrev want : List ℕ
  want = wanted_move now_image (is_read done.array book) names

  same_new : moved_names done.array book list ≡ new
  same_new = moved_same wp chip book sector list buffer after r bytes moves good done behind

  ready : ReadyToPlan chip.state.chip done
  ready = move_ready wp chip book sector list buffer after r bytes moves good done behind

  opened_now : MoveOpened done.state done.array book sector list
  opened_now =
      let o = opened wp chip book sector list buffer after r bytes moves good in
      record {
        opened = record {
          sound = ready.sound;
          sized = ready.sized;
          a_book = rw ready.same_chip o.opened.a_book;
          a_sector = rw ready.same_chip o.opened.a_sector;
          apart = o.opened.apart;
          good = o.opened.good;
          none_past = past_cong (is_read done.array book) (is_read chip.array book) (length names)
              (book_stays wp chip book sector list buffer after r bytes moves good done behind) ∙ o.opened.none_past;
          once = o.opened.once;
        };
        roomy = ap are_too_long same_new ∙ o.roomy;
      }

  fits_now : sector + 4096 ≤ length done.array
  fits_now = names_fit done.state done.array book sector list true opened_now.opened

  -- what is wanted now
  want_is : want ≡ wanted_names now_image (records_bytes true []) new
  want_is =
      move_wants now_image (is_read done.array book) names
      ∙ ap (wanted_names now_image []) same_new ∙ ap (λ (l : List ℕ). wanted_names now_image l new) (sym (records_none true))

  want_long : length want ≡ 4096
  want_long =
      ap length want_is
      ∙ wanted_long now_image [] new (appending_to wp chip book sector list buffer after r bytes moves good now_image (sector_long done.array sector fits_now))

  want_bytes : Bytes want
  want_bytes =
      rw want_is (wanted_bytes now_image [] new (appending_to wp chip book sector list buffer after r bytes moves good now_image (sector_long done.array sector fits_now)))

  falls : WantedRises done.array sector want → ⊥
  falls w =
      appended_falls (move_refusal chip.state chip.array book sector list) wp chip sector [] new buffer after r bytes
      (plans wp chip book sector list buffer after r bytes moves good) good (inside wp chip book sector list buffer after r bytes moves good)
      (appending wp chip book sector list buffer after r bytes moves good) done
      (rw (wanted_is wp chip book sector list buffer after r bytes moves good) at behind) (rw want_is at w) (sym (ap length want_is) ∙ want_long)

  module _ (wp' : Bool) (buffer' after' : List ℕ) (r' : Planned) (again : BookMoves done.state wp' done.array book sector list buffer' after' r') where
    abbrev own' : ℕ
    own' = move_refusal done.state done.array book sector list

    none' : own' ≡ 0
    none' = move_open done.state done.array book sector list opened_now

    fitting' : Fitting done.state done.array sector want
    fitting' = record { sound = ready.sound; sized = ready.sized; short = omega (arith, want_long); fits = omega (arith, want_long, fits_now, ready.sized) }

    answered' : PlanAnswered done.state wp' done.array sector want buffer' after' r'
    answered' = unless_answered own' done.state wp' done.array sector want buffer' after' r' again none'

    no_8 : r'.number ≡ 8 → ⊥
    no_8 e = falls ((answered'.eight_exactly want_bytes).when e).rises

    no_20 : r'.number ≡ 20 → ⊥
    no_20 e = omega (arith, e, answered'.fitted fitting', fitting_few done.state wp' done.array sector want (length buffer'))

    accepted_again : (done.state.bpl ≡ false) ⊎ (wp' ≡ true) → room_enough done.state ≤ length buffer' → r'.number ≡ 0
    accepted_again = unless_accepted own' done.state wp' done.array sector want buffer' after' r' again none' want_bytes fitting' falls ready.at_rest

  pub move_goes_on : MoveGoesOn book sector list done
  move_goes_on = record { never_8 = no_8; never_20 = no_20; accepted = accepted_again }

-- ---- the way back

module _ (wp : Bool) (chip : Device) (sector book : ℕ) (list buffer after : List ℕ) (r : Returned) (bytes : Bytes chip.array)
    (returns : BookReturns chip.state wp chip.array sector book list buffer after r) (good : r.number ≡ 0)
    (cut : Device) (lost : BackLost wp chip sector book list cut) where
  abbrev records : List (List ℕ)
  records = sector_names chip.array sector

  o : ListOpened chip.state chip.array book sector list false
  o = back_opened wp chip sector book list buffer after r bytes returns good

  ready_cut : ReadyToPlan chip.state.chip cut
  ready_cut = (back_kept wp chip sector book list buffer after r bytes returns good).ready cut (inr lost)

  -- the records are untouched, so the same book is wanted
  same_sector : sector_part cut.array sector ≡ sector_part chip.array sector
  same_sector =
      let beside = back_beside wp chip sector book list buffer after r bytes returns good cut (inr lost) in
      let fits = names_inside wp chip sector book list buffer after r bytes returns good in
      sector_is cut.array sector (rw beside.same_length fits) (sector_part chip.array sector) (sector_long chip.array sector fits)
      (λ k h. beside.same_beside (sector + k) (sectors_apart chip.state sector book k o.a_sector o.a_book (λ e. o.apart (sym e)) h)
      ∙ sym (sector_at chip.array sector fits k h))

  opened_cut : ListOpened cut.state cut.array book sector list false
  opened_cut = record {
    sound = ready_cut.sound;
    sized = ready_cut.sized;
    a_book = rw ready_cut.same_chip o.a_book;
    a_sector = rw ready_cut.same_chip o.a_sector;
    apart = o.apart;
    good = o.good;
    none_past = refl;
    once = o.once;
  }

  number_0 : (buffer' after' : List ℕ) (r' : Returned) → BookReturns cut.state wp cut.array sector book list buffer' after' r'
      → plan_refusal cut.state wp cut.array book (wanted_back records (names_in (listed list))) (length buffer') ≡ 0 → r'.number ≡ 0
  number_0 buffer' after' r' again e =
      let none = back_refusal_of cut.state cut.array sector book list ∙ list_open cut.state cut.array book sector list false opened_cut in
      (unless_answered (back_refusal cut.state cut.array sector book list) cut.state wp cut.array book (wanted_back (sector_names cut.array sector) (names_in (listed list)))
      buffer' after' (planned_of r') again.plan none).number_is
      ∙ ap (λ (l : List ℕ). plan_refusal cut.state wp cut.array book (wanted_back (names_of l) (names_in (listed list))) (length buffer')) same_sector ∙ e

  pub back_goes_on : BackGoesOn wp chip sector book list (length buffer) cut
  back_goes_on =
      let kept = back_kept wp chip sector book list buffer after r bytes returns good in
      record {
        accepted = λ buffer' after' r' again enough. number_0 buffer' after' r' again (kept.again cut lost (length buffer') enough);
        accepted_in_worst = λ buffer' after' r' again enough. number_0 buffer' after' r' again (kept.again_in_worst cut lost (length buffer') enough);
        finishes = λ done finished scene h.
            back_completed wp chip sector book list buffer after r bytes returns good cut done lost
            (rw (ap (λ (l : List ℕ). wanted_back (names_of l) (names_in (listed list))) same_sector) at finished) scene h;
      }
