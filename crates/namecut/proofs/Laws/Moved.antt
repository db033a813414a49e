-- What an accepted move leaves: from the planner's promises alone.
-- Assumes nothing.
use mathlib.Core.Path.{◌≡◌, refl, sym, ap, ◌∙◌}
use mathlib.Core.Bool.{Bool, true, false}
use mathlib.Core.List.{List, []}
use mathlib.Core.Logic.{inl, ⊎_elim}
use Prim.Native.Nat.{ℕ, ◌+◌, ◌/◌, ◌≤◌, ◌<◌}
use native.Mathlib.Omega.{arith}
use lib.ListN.{length, drop}
use lib.Seq.{ext_get_or}
use borrow.Author.Tests.{ltb-false}
use Rattle.common.specs.Bits.{Bytes}
use Rattle.common.specs.Lists.{within}
use Rattle.common.proofs.Laws.Lists.{split}
use Rattle.common.proofs.Laws.Places.{within_below, within_above}
use Rattle.state.specs.declared.State.{State}
use Rattle.state.specs.declared.Planned.{Planned}
use Rattle.state.specs.State.{data_of}
use Rattle.promises.specs.Promises.{Device, NothingChanges, ReadyToPlan, PlansUnless, Promises}
use Rattle.promises.proofs.Laws.Unless.{unless_none}
use Rattle.book.specs.Book.{is_read}
use Rattle.book.specs.Refusals.{is_sector}
use Rattle.book.proofs.Laws.Read.{read_by_byte}
use Rattle.book.proofs.Laws.Refusals.{sector_exactly}
use Rattle.names.specs.Records.{AllNames, names_of, records_bytes, padded}
use Rattle.names.proofs.Laws.Padded.{padded_reads_back}
use Rattle.names.proofs.Laws.Walk.{records_none}
use Rattle.namelist.specs.Listed.{listed, names_in}
use Rattle.sectors.specs.Images.{sector_part, second_image, is_missing, wanted_names}
use Rattle.sectors.specs.Moves.{wanted_move}
use Rattle.sectors.specs.Moves.{moved_names}
use Rattle.namechecks.specs.Refusals.{move_refusal}
use Rattle.namechecks.specs.Opened.{MoveOpened}
use Rattle.flags.specs.Answers.{BookMoves}
use Rattle.namecut.specs.Leaves.{sector_names, BesideSector, MoveFinished, BehindMove, is_first_move, MoveLeaves}
use Rattle.sectors.proofs.Laws.Images.{sector_long, sector_at, wanted_first, wanted_second}
use Rattle.sectors.proofs.Laws.There.{read_names_good, read_names_cong, move_wants}
use Rattle.namecut.proofs.Laws.Between.{finished_sector}
use Rattle.namecut.proofs.Laws.Grown.{Appending, Grown, first_after}
use Rattle.namecut.proofs.Laws.Again.{wanted_long, wanted_bytes, wanted_whole}
use Rattle.namechecks.proofs.Laws.Opened.{move_opened, names_fit}
use Rattle.namecut.proofs.Laws.Appended.{kept, answered, fits_behind, appended, appended_between, appended_beside}

-- ---- two sectors

-- a byte of one is not in the other
pub sectors_apart : (s : State) (book sector k : ℕ) → is_sector (data_of s).size book ≡ true → is_sector (data_of s).size sector ≡ true → (book ≡ sector → ⊥)
    → k < 4096 → within sector 4096 (book + k) ≡ false
sectors_apart s book sector k a b differ h =
    let p = ((sector_exactly (data_of s).size book).when a).0 in
    let q = ((sector_exactly (data_of s).size sector).when b).0 in
    ⊎_elim (λ below. within_below sector 4096 (book + k) (omega (arith, p, q)))
    (λ above. ⊎_elim (λ l. within_above sector 4096 (book + k) (omega (arith, p, q))) (λ l. absurd (differ (omega arith))) (split sector book)) (split book sector)

-- so a book's flags stay
pub flags_beside : (s : State) (book sector : ℕ) (before after : List ℕ) → is_sector (data_of s).size book ≡ true → is_sector (data_of s).size sector ≡ true
    → (book ≡ sector → ⊥) → BesideSector sector before after → (scene : ℕ) → scene < 4096 → is_read after book scene ≡ is_read before book scene
flags_beside s book sector before after a b differ beside scene h =
    read_by_byte after before book scene (beside.same_beside (book + scene / 8) (sectors_apart s book sector (scene / 8) a b differ (omega arith)))

-- ---- an accepted move

-- its records begin at the sector's start
no_front : (l : List ℕ) → drop (length (records_bytes true [])) l ≡ l
no_front l = ap (λ (f : List ℕ). drop (length f) l) (records_none true)

module _ (wp : Bool) (chip : Device) (book sector : ℕ) (list buffer after : List ℕ) (r : Planned) (bytes : Bytes chip.array)
    (moves : BookMoves chip.state wp chip.array book sector list buffer after r) (good : r.number ≡ 0) where
  abbrev before : List ℕ
  before = chip.array

  abbrev image : List ℕ
  image = sector_part before sector

  abbrev names : List (List ℕ)
  names = names_in (listed list)

  abbrev new : List (List ℕ)
  new = moved_names before book list

  abbrev own : ℕ
  own = move_refusal chip.state before book sector list

  pub opened : MoveOpened chip.state before book sector list
  opened = move_opened chip.state before book sector list (unless_none own chip.state wp before sector (wanted_move image (is_read before book) names) buffer after r moves good)

  pub inside : sector + 4096 ≤ length before
  inside = names_fit chip.state before book sector list true opened.opened

  pub new_good : AllNames new
  new_good = read_names_good (is_read before book) 0 names opened.opened.good.good

  pub appending_to : (sector_bytes_lem : List ℕ) → length sector_bytes_lem ≡ 4096 → Appending sector_bytes_lem [] new
  appending_to sector_bytes_lem long = record {
    long = long;
    begins = rw (records_none true) refl;
    good_old = tt;
    good_new = new_good;
    room = omega (arith, ap length (records_none true), ltb-false 4096 (length (records_bytes true new)) opened.roomy);
  }

  pub appending : Appending image [] new
  appending = appending_to image (sector_long before sector inside)

  abbrev wanted : List ℕ
  wanted = wanted_names image (records_bytes true []) new

  pub wanted_is : wanted_move image (is_read before book) names ≡ wanted
  wanted_is = move_wants image (is_read before book) names ∙ ap (λ (l : List ℕ). wanted_names image l new) (sym (records_none true))

  pub plans : PlansUnless own chip.state wp before sector wanted buffer after r
  plans = rw wanted_is at moves

  move_kept : Promises wp chip sector wanted (length buffer)
  move_kept = kept own wp chip sector wanted buffer after r bytes plans good inside (wanted_long image [] new appending) (wanted_bytes image [] new appending)

  second_is : second_image (records_bytes true []) new ≡ padded (records_bytes true new)
  second_is = rw (records_none true) refl

  module _ (done : Device) (behind : BehindMove wp chip book sector list done) where
    grew : Grown image (sector_part done.array sector) [] new
    grew = appended own wp chip sector [] new buffer after r bytes plans good inside appending done (rw wanted_is at behind)

    pub move_ready : ReadyToPlan chip.state.chip done
    move_ready = move_kept.ready done (rw wanted_is at behind)

    pub move_beside : BesideSector sector before done.array
    move_beside = appended_beside own wp chip sector [] new buffer after r bytes plans good inside appending done (rw wanted_is at behind)

    long_after : length (sector_part done.array sector) ≡ 4096
    long_after =
        sector_long done.array sector
        (fits_behind own wp chip sector wanted buffer after r bytes plans good inside (wanted_long image [] new appending) (wanted_bytes image [] new appending) done (rw wanted_is at behind))

    first_none : is_first_move before book sector list ≡ true → sector_names done.array sector ≡ []
    first_none missing =
        let lacks : is_missing (records_bytes false new) (drop (length (records_bytes true [])) image) ≡ true = ap (is_missing (records_bytes false new)) (no_front image) ∙ missing in
        first_after image (sector_part done.array sector) [] new appending long_after lacks
        (rw (wanted_first image (records_bytes true []) new lacks) at (appended_between own wp chip sector [] new buffer after r bytes plans good inside appending done (rw wanted_is at behind)))

    pub move_leaves : MoveLeaves book sector list before done.array
    move_leaves = record {
      names_are = rw grew.after_are grew.now_first;
      first_plan = first_none;
      names_stay = grew.stay;
      beside = move_beside;
    }

    -- the book is as it was
    pub book_stays : (scene : ℕ) → scene < 4096 → is_read done.array book scene ≡ is_read before book scene
    book_stays = flags_beside chip.state book sector before done.array opened.opened.a_book opened.opened.a_sector opened.opened.apart move_beside

    -- and so are the names that it moves
    pub moved_same : moved_names done.array book list ≡ new
    moved_same =
        read_names_cong (is_read done.array book) (is_read before book) 0 names
        (λ s l h. book_stays s (omega (arith, h, opened.opened.good.at_most)))

  pub move_finished : (done : Device) → MoveFinished wp chip book sector list done → sector_part done.array sector ≡ wanted
  move_finished done finished = finished_sector move_kept inside (wanted_long image [] new appending) done (rw wanted_is at finished)

  -- nothing is missing of it then
  pub move_whole : is_missing (records_bytes false new) wanted ≡ false
  move_whole = ap (is_missing (records_bytes false new)) (sym (no_front wanted)) ∙ wanted_whole image [] new appending

  -- where nothing is missing the second plan is wanted
  pub second_wanted : is_missing (records_bytes false new) image ≡ false → wanted ≡ padded (records_bytes true new)
  second_wanted whole = wanted_second image (records_bytes true []) new (ap (is_missing (records_bytes false new)) (no_front image) ∙ whole) ∙ second_is

  pub moved_back : names_of (padded (records_bytes true new)) ≡ new
  moved_back = padded_reads_back new new_good

  -- "called again until the length is 0": then the records are there
  pub move_done : r.length ≡ 0 → image ≡ padded (records_bytes true new)
  move_done e =
      let long = wanted_long image [] new appending in
      let same : NothingChanges before sector wanted =
      ((answered own wp chip sector wanted buffer after r bytes plans good inside long (wanted_bytes image [] new appending)).empty_exactly good).when e in
      let as_wanted : image ≡ wanted =
      ext_get_or 0 image wanted (appending.long ∙ sym long) (λ k h. let l : k < 4096 = omega (arith, appending.long) in sector_at before sector inside k l ∙ same k (omega (arith, long))) in
      as_wanted ∙ second_wanted (ap (is_missing (records_bytes false new)) as_wanted ∙ move_whole)

-- ---- both plans

module _ (wp : Bool) (chip : Device) (book sector : ℕ) (list buffer after : List ℕ) (r : Planned) (bytes : Bytes chip.array)
    (moves : BookMoves chip.state wp chip.array book sector list buffer after r) (good : r.number ≡ 0)
    (mid : Device) (finished : MoveFinished wp chip book sector list mid)
    (wp' : Bool) (buffer' after' : List ℕ) (r' : Planned) (bytes' : Bytes mid.array)
    (moves' : BookMoves mid.state wp' mid.array book sector list buffer' after' r') (good' : r'.number ≡ 0)
    (done : Device) (finished' : MoveFinished wp' mid book sector list done) where
  same_new : moved_names mid.array book list ≡ moved_names chip.array book list
  same_new = moved_same wp chip book sector list buffer after r bytes moves good mid (inl finished)

  pub moved_sector : sector_part done.array sector ≡ padded (records_bytes true (moved_names chip.array book list))
  moved_sector =
      let mid_is = move_finished wp chip book sector list buffer after r bytes moves good mid finished in
      let whole : is_missing (records_bytes false (moved_names mid.array book list)) (sector_part mid.array sector) ≡ false =
      ap (λ (l : List (List ℕ)). is_missing (records_bytes false l) (sector_part mid.array sector)) same_new
      ∙ ap (is_missing (records_bytes false (moved_names chip.array book list))) mid_is ∙ move_whole wp chip book sector list buffer after r bytes moves good in
      move_finished wp' mid book sector list buffer' after' r' bytes' moves' good' done finished'
      ∙ second_wanted wp' mid book sector list buffer' after' r' bytes' moves' good' whole
      ∙ ap (λ (l : List (List ℕ)). padded (records_bytes true l)) same_new

  pub moved_names_lem : sector_names done.array sector ≡ moved_names chip.array book list
  moved_names_lem = ap names_of moved_sector ∙ moved_back wp chip book sector list buffer after r bytes moves good

  pub moved_flags : (scene : ℕ) → scene < 4096 → is_read done.array book scene ≡ is_read chip.array book scene
  moved_flags scene h =
      book_stays wp' mid book sector list buffer' after' r' bytes' moves' good' done (inl finished') scene h
      ∙ book_stays wp chip book sector list buffer after r bytes moves good mid (inl finished) scene h
