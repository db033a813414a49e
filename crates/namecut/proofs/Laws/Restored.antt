-- What an accepted way back leaves, and that moving there and back gives the same flags: from the planner's promises alone.
-- Assumes nothing.
use mathlib.Core.Path.{◌≡◌, refl, sym, ap, ◌∙◌}
use mathlib.Core.Bool.{Bool, true, false, cond, ◌||◌}
use mathlib.Core.List.{List, []}
use mathlib.Core.Logic.{⊎_elim}
use Prim.Native.Nat.{ℕ, ◌+◌, ◌/◌, ◌%◌, ◌≤◌, ◌<◌}
use native.Mathlib.Omega.{arith}
use lib.Dec.{eqb}
use lib.ListN.{length, get_or, get_or-eq_default}
use Rattle.common.specs.Bits.{Bytes, bit_at}
use Rattle.common.proofs.Laws.Lists.{split}
use Rattle.state.specs.declared.Planned.{Planned}
use Rattle.promises.specs.Promises.{Device, Finished, updated, Promises}
use Rattle.promises.proofs.Laws.Promises.{updated_length}
use Rattle.promises.proofs.Laws.Unless.{unless_none}
use Rattle.book.specs.Book.{is_read}
use Rattle.book.proofs.Laws.Read.{read_is}
use Rattle.names.specs.Records.{AllNames}
use Rattle.names.specs.Search.{is_on}
use Rattle.names.proofs.Laws.Names.{names_split}
use Rattle.names.proofs.Laws.Search.{on_exactly}
use Rattle.namelist.specs.Listed.{listed, names_in}
use Rattle.flags.specs.declared.Returned.{Returned}
use Rattle.sectors.specs.Images.{sector_part}
use Rattle.sectors.specs.Moves.{read_names, wanted_back, unlisted}
use Rattle.sectors.specs.Moves.{moved_names}
use Rattle.namechecks.specs.Refusals.{back_refusal}
use Rattle.namechecks.specs.Opened.{ListOpened}
use Rattle.flags.specs.Answers.{is_name_read, BookMoves, planned_of, BookReturns}
use Rattle.namecut.specs.Leaves.{sector_names, BesideSector, MoveFinished, BackFinished, BackLost, BehindBack, BackLeaves}
use Rattle.sectors.proofs.Laws.Images.{sector_at}
use Rattle.sectors.proofs.Laws.There.{read_names_on, read_exactly, past_none}
use Rattle.sectors.proofs.Laws.Back.{nothing_on, unlisted_none, back_long, back_bytes, back_bit}
use Rattle.namecut.proofs.Laws.Between.{Between, updated_sector}
use Rattle.namechecks.proofs.Laws.Opened.{back_refusal_of, list_opened, book_fits, names_fit}
use Rattle.namecut.proofs.Laws.Appended.{kept, sector_between, sector_beside, fits_behind}
use Rattle.flags.proofs.Laws.Answers.{is_read_is}
use Rattle.namecut.proofs.Laws.Moved.{opened, moved_names_lem}

-- ---- what is wanted of the book, by the scene

module _ (records names : List (List ℕ)) (good : AllNames records) (scene : ℕ) (inside : scene < 4096) where
  wanted_read : eqb (bit_at (get_or (wanted_back records names) (scene / 8) 0) (scene % 8)) 0 ≡ is_on (get_or names scene []) records
  wanted_read = ap (λ (x : ℕ). eqb x 0) (back_bit names records good scene inside) ∙ by (is_on (get_or names scene []) records)
    where
      by : (t : Bool) → eqb (cond t 0 1) 0 ≡ t
      by true = refl
      by false = refl

-- ---- an accepted way back

module _ (wp : Bool) (chip : Device) (sector book : ℕ) (list buffer after : List ℕ) (r : Returned) (bytes : Bytes chip.array)
    (returns : BookReturns chip.state wp chip.array sector book list buffer after r) (good : r.number ≡ 0) where
  abbrev before : List ℕ
  before = chip.array

  abbrev names : List (List ℕ)
  names = names_in (listed list)

  abbrev records : List (List ℕ)
  records = sector_names before sector

  abbrev wanted : List ℕ
  wanted = wanted_back records names

  abbrev own : ℕ
  own = back_refusal chip.state before sector book list

  pub back_opened : ListOpened chip.state before book sector list false
  back_opened =
      list_opened chip.state before book sector list false
      (sym (back_refusal_of chip.state before sector book list) ∙ unless_none own chip.state wp before book wanted buffer after (planned_of r) returns.plan good)

  inside : book + 4096 ≤ length before
  inside = book_fits chip.state before book sector list false back_opened

  pub names_inside : sector + 4096 ≤ length before
  names_inside = names_fit chip.state before book sector list false back_opened

  good_records : AllNames records
  good_records = (names_split (sector_part before sector)).good

  pub back_kept : Promises wp chip book wanted (length buffer)
  back_kept = kept own wp chip book wanted buffer after (planned_of r) bytes returns.plan good inside (back_long names records) (back_bytes names records)

  -- a scene's bit in a sector, by the sector's bytes
  scene_bit : (array : List ℕ) → book + 4096 ≤ length array → (scene : ℕ) → scene < 4096
      → is_read array book scene ≡ eqb (bit_at (get_or (sector_part array book) (scene / 8) 0) (scene % 8)) 0
  scene_bit array fits scene h = read_is array book scene ∙ ap (λ (x : ℕ). eqb (bit_at x (scene % 8)) 0) (sym (sector_at array book fits (scene / 8) (omega arith)))

  -- run to its end or cut
  module _ (done : Device) (behind : BehindBack wp chip sector book list done) where
    between : Between (sector_part before book) wanted (sector_part done.array book)
    between = sector_between own wp chip book wanted buffer after (planned_of r) bytes returns.plan good inside (back_long names records) (back_bytes names records) done behind

    fits_after : book + 4096 ≤ length done.array
    fits_after = fits_behind own wp chip book wanted buffer after (planned_of r) bytes returns.plan good inside (back_long names records) (back_bytes names records) done behind

    pub back_beside : BesideSector book before done.array
    back_beside = sector_beside own wp chip book wanted buffer after (planned_of r) bytes returns.plan good inside (back_long names records) (back_bytes names records) done behind

    only : (scene : ℕ) → scene < 4096 → is_read done.array book scene ≡ true
        → (is_read before book scene || is_name_read before sector (get_or names scene [])) ≡ true
    only scene h e =
        let read = sym (scene_bit done.array fits_after scene h) ∙ e in
        ⊎_elim
        (λ same. ap (λ (t : Bool). t || is_name_read before sector (get_or names scene [])) (scene_bit before inside scene h ∙ ap (λ (x : ℕ). eqb x 0) (sym same) ∙ read))
        (λ new. on_right (is_read before book scene)
        (is_read_is before sector (get_or names scene []) ∙ sym (wanted_read records names good_records scene h) ∙ ap (λ (x : ℕ). eqb x 0) (sym new) ∙ read))
        (between.bits (scene / 8) (scene % 8) (omega arith))
      where
        on_right : (a : Bool) {b : Bool} → b ≡ true → (a || b) ≡ true
        on_right true e = refl
        on_right false e = e

    pub back_leaves : BackLeaves sector book list before done.array
    back_leaves = record { only_listed = only; beside = back_beside }

  -- once the book is as wanted: exactly the scenes whose names are among the records
  as_wanted : (array : List ℕ) → array ≡ updated before book wanted → (scene : ℕ) → scene < 4096
      → is_read array book scene ≡ is_name_read before sector (get_or names scene [])
  as_wanted array is scene h =
      scene_bit array (omega (arith, ap length is, updated_length before book wanted, inside)) scene h
      ∙ ap (λ (l : List ℕ). eqb (bit_at (get_or l (scene / 8) 0) (scene % 8)) 0) (updated_sector back_kept inside (back_long names records) array is)
      ∙ wanted_read records names good_records scene h ∙ sym (is_read_is before sector (get_or names scene []))

  -- run to its end,
  pub back_finished : (done : Device) → BackFinished wp chip sector book list done → (scene : ℕ) → scene < 4096
      → is_read done.array book scene ≡ is_name_read before sector (get_or names scene [])
  back_finished done finished = as_wanted done.array (back_kept.finished done finished)

  -- and completed behind a cut
  pub back_completed : (cut done : Device) → BackLost wp chip sector book list cut → Finished wp cut book wanted done → (scene : ℕ) → scene < 4096
      → is_read done.array book scene ≡ is_name_read before sector (get_or names scene [])
  back_completed cut done lost finished = as_wanted done.array (back_kept.completed cut done lost finished)

  pub back_unlisted : r.unlisted ≡ unlisted names records
  back_unlisted = rw good at returns.unlisted_is

-- ---- there and back

-- a scene of a book by its name, where the records are those of the read scenes
by_name : (read : ℕ → Bool) (names : List (List ℕ)) (scene : ℕ) → AllNames (read_names read 0 names) → (scene < length names → is_on (get_or names scene []) (read_names read 0 names) ≡ read scene)
    → (length names ≤ scene → read scene ≡ false) → is_on (get_or names scene []) (read_names read 0 names) ≡ read scene
by_name read names scene good listed past =
    ⊎_elim listed
    (λ l. ap (λ (n : List ℕ). is_on n (read_names read 0 names)) (get_or-eq_default names [] {n = scene} l) ∙ nothing_on (read_names read 0 names) good ∙ sym (past l))
    (split scene (length names))

module _ (wp : Bool) (chip : Device) (book sector : ℕ) (list buffer after : List ℕ) (r : Planned) (bytes : Bytes chip.array)
    (moves : BookMoves chip.state wp chip.array book sector list buffer after r) (good : r.number ≡ 0)
    (mid : Device) (finished : MoveFinished wp chip book sector list mid)
    (wp' : Bool) (buffer' after' : List ℕ) (r' : Planned) (bytes' : Bytes mid.array)
    (moves' : BookMoves mid.state wp' mid.array book sector list buffer' after' r') (good' : r'.number ≡ 0)
    (moved : Device) (finished' : MoveFinished wp' mid book sector list moved)
    (third : ℕ) (wp'' : Bool) (buffer'' after'' : List ℕ) (r'' : Returned) (bytes'' : Bytes moved.array)
    (returns : BookReturns moved.state wp'' moved.array sector third list buffer'' after'' r'') (good'' : r''.number ≡ 0) where
  abbrev listed_names : List (List ℕ)
  listed_names = names_in (listed list)

  abbrev read : ℕ → Bool
  read = is_read chip.array book

  names_there : sector_names moved.array sector ≡ read_names read 0 listed_names
  names_there = moved_names_lem wp chip book sector list buffer after r bytes moves good mid finished wp' buffer' after' r' bytes' moves' good' moved finished'

  -- "Moving there and back gives the same flags."
  pub there_and_back : (last : Device) → BackFinished wp'' moved sector third list last → (scene : ℕ) → scene < 4096
      → is_read last.array third scene ≡ is_read chip.array book scene
  there_and_back last finished'' scene h =
      let o = (opened wp chip book sector list buffer after r bytes moves good).opened in
      back_finished wp'' moved sector third list buffer'' after'' r'' bytes'' returns good'' last finished'' scene h
      ∙ is_read_is moved.array sector (get_or listed_names scene [])
      ∙ ap (is_on (get_or listed_names scene [])) names_there
      ∙ by_name read listed_names scene (rw names_there at (names_split (sector_part moved.array sector)).good)
      (λ l. read_exactly read listed_names o.once scene l) (λ l. past_none read (length listed_names) o.none_past scene l h)

  -- and every record has a name on the list
  pub none_unlisted : r''.unlisted ≡ 0
  none_unlisted =
      back_unlisted wp'' moved sector third list buffer'' after'' r'' bytes'' returns good''
      ∙ ap (unlisted listed_names) names_there ∙ unlisted_none listed_names (read_names read 0 listed_names) (read_names_on read 0 listed_names)

-- ---- back and there

module _ (wp : Bool) (chip : Device) (sector book : ℕ) (list buffer after : List ℕ) (r : Returned) (bytes : Bytes chip.array)
    (returns : BookReturns chip.state wp chip.array sector book list buffer after r) (good : r.number ≡ 0)
    (back : Device) (finished : BackFinished wp chip sector book list back)
    (third : ℕ) (wp' : Bool) (buffer' after' : List ℕ) (r' : Planned) (bytes' : Bytes back.array)
    (moves : BookMoves back.state wp' back.array book third list buffer' after' r') (good' : r'.number ≡ 0)
    (mid : Device) (finished' : MoveFinished wp' back book third list mid)
    (wp'' : Bool) (buffer'' after'' : List ℕ) (r'' : Planned) (bytes'' : Bytes mid.array)
    (moves' : BookMoves mid.state wp'' mid.array book third list buffer'' after'' r'') (good'' : r''.number ≡ 0)
    (last : Device) (finished'' : MoveFinished wp'' mid book third list last) where
  -- a name on the list is read exactly if it was
  pub back_and_there : (name : List ℕ) → is_on name (names_in (listed list)) ≡ true → is_name_read last.array third name ≡ is_name_read chip.array sector name
  back_and_there name e =
      let s = (on_exactly name (names_in (listed list))).when e in
      let o = (opened wp' back book third list buffer' after' r' bytes' moves good').opened in
      let here : get_or (names_in (listed list)) s.index [] ≡ name = s.there in
      let small : s.index < 4096 = omega (arith, s.inside, o.good.at_most) in
      is_read_is last.array third name
      ∙ ap (is_on name) (moved_names_lem wp' back book third list buffer' after' r' bytes' moves good' mid finished' wp'' buffer'' after'' r'' bytes'' moves' good'' last finished'')
      ∙ ap (λ (n : List ℕ). is_on n (moved_names back.array book list)) (sym here)
      ∙ read_exactly (is_read back.array book) (names_in (listed list)) o.once s.index s.inside
      ∙ back_finished wp chip sector book list buffer after r bytes returns good back finished s.index small
      ∙ ap (is_name_read chip.array sector) here
