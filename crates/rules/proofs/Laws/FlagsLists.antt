-- Flags by name: the numbers of a move and of the way back are their tables', and their answers are the planner's for the sectors that are wanted.
-- Assumes nothing.
use mathlib.Core.Path.{◌≡◌, refl, sym, ap, ◌∙◌}
use mathlib.Core.Bool.{Bool, true, false, cond, not, ◌&&◌, ◌||◌}
use mathlib.Core.List.{List, [], ◌∷◌, ◌++◌}
use Prim.Native.Nat.{ℕ, suc, ◌+◌}
use native.Mathlib.Omega.{arith}
use lib.Dec.{eqb}
use lib.ListN.{length, get_or}
use borrow.Author.Tests.{eqb-true, eqb-false, ltb-false, not-true, not-false}
use Rattle.common.specs.Bits.{Bytes}
use Rattle.common.specs.Lists.{count_below}
use Rattle.common.proofs.Laws.Booleans.{not_i, or_none_l, or_none_r, or_false}
use Rattle.common.proofs.Laws.Choice.{cases}
use Rattle.common.proofs.Laws.Places.{count_none, count_first}
use Rattle.state.specs.declared.State.{State}
use Rattle.state.specs.declared.Planned.{Planned}
use Rattle.state.specs.State.{data_of}
use Rattle.state.specs.Soundness.{is_sound}
use Rattle.plan.specs.Update.{Plans}
use Rattle.promises.specs.Promises.{fitting_refusals}
use Rattle.promises.proofs.Laws.Unless.{unless_none}
use Rattle.book.specs.Book.{is_read}
use Rattle.book.specs.Refusals.{is_sector}
use Rattle.names.specs.Records.{names_of, records_bytes}
use Rattle.names.specs.Search.{is_on}
use Rattle.names.proofs.Laws.Walk.{records_none}
use Rattle.namelist.specs.Listed.{listed, is_bad, names_in, Good}
use Rattle.namelist.specs.Twice.{is_twice}
use Rattle.namelist.proofs.Laws.Listed.{good_exactly}
use Rattle.sectors.specs.Images.{sector_part}
use Rattle.sectors.specs.Moves.{is_past, moved_names, wanted_move, wanted_back, unlisted}
use Rattle.sectors.proofs.Laws.Images.{sector_long}
use Rattle.sectors.proofs.Laws.There.{read_names_good, move_wants}
use Rattle.sectors.proofs.Laws.Back.{unlisted_end, unlisted_on, unlisted_off, back_bytes}
use Rattle.flags.specs.declared.Returned.{Returned}
use Rattle.namechecks.specs.Refusals.{move_refusals, move_refusal, list_refusals, back_refusal}
use Rattle.namechecks.specs.Opened.{ListOpened, MoveOpened}
use Rattle.flags.specs.Answers.{BookMoves, planned_of, BookReturns}
use Rattle.namecut.proofs.Laws.Again.{wanted_bytes}
use Rattle.namechecks.proofs.Laws.Opened.{back_refusal_of, list_opened, names_fit, move_opened}
use Rattle.flags.proofs.Laws.Answers.{moves_untouched, moves_state, returns_untouched, returns_state}
use Rattle.flags.proofs.Laws.Numbers.{move_number, back_number}
use Rattle.rules.specs.FlagsWanted.{MoveWants, BackWants}
use Rattle.rules.specs.FlagsCalls.{MoveCall, UnlistedCount, BackCall}
use Rattle.rules.proofs.Laws.Tests.{means_equal, means_or}
use Rattle.rules.proofs.Laws.Numbered.{row, numbered}
use Rattle.rules.proofs.Laws.Conditions.{means_not_sound, means_wrong_array}
use Rattle.rules.proofs.Laws.FlagsRead.{means_no_member, sector_names_are, list_exactly}
use Rattle.rules.proofs.Laws.FlagsPlans.{move_wants_it, move_wants_only, back_wants, back_wants_only}
use Rattle.rules.proofs.Laws.FlagsRefused.{means_wrong_sector, means_bad_list, means_no_list, means_twice, means_move_long, planner_rows}

-- ---- a move

module _ (s : State) (array : List ℕ) (book sector : ℕ) (list : List ℕ) (moving : Bool) where
  -- the refusals that a move and the way back share don't hold
  list_opened_by : not (is_sound s) ≡ false → not (eqb (length array) (data_of s).size) ≡ false
      → not (is_sector (data_of s).size sector) || not (is_sector (data_of s).size book) ≡ false → eqb book sector ≡ false
      → is_bad (listed list) || (moving && is_past (is_read array book) (length (names_in (listed list)))) ≡ false → is_twice (names_in (listed list)) ≡ false
      → ListOpened s array book sector list moving
  list_opened_by sound sized inside apart good once =
      let past : Bool = moving && is_past (is_read array book) (length (names_in (listed list))) in
      record {
        sound = not-false (is_sound s) sound;
        sized = eqb-true (length array) (data_of s).size (not-false (eqb (length array) (data_of s).size) sized);
        a_book = not-false (is_sector (data_of s).size book) (or_none_r (not (is_sector (data_of s).size sector)) (not (is_sector (data_of s).size book)) inside);
        a_sector = not-false (is_sector (data_of s).size sector) (or_none_l (not (is_sector (data_of s).size sector)) (not (is_sector (data_of s).size book)) inside);
        apart = eqb-false book sector apart;
        good = (good_exactly list).when (or_none_l (is_bad (listed list)) past good);
        none_past = or_none_r (is_bad (listed list)) past good;
        once = once;
      }

module _ (s : State) (array : List ℕ) (book sector : ℕ) (list : List ℕ) (o : MoveOpened s array book sector list) where
  abbrev pub move_want : List ℕ
  move_want = wanted_move (sector_part array sector) (is_read array book) (names_in (listed list))

  move_sized : length (sector_part array sector) ≡ 4096
  move_sized = sector_long array sector (names_fit s array book sector list true o.opened)

  pub move_it : MoveWants array book sector list move_want
  move_it = move_wants_it array book sector list move_sized o.opened.good o.roomy

  move_only : (w : List ℕ) → MoveWants array book sector list w → w ≡ move_want
  move_only w p = move_wants_only array book sector list w move_want p move_it

  pub move_want_bytes : Bytes move_want
  move_want_bytes =
      let moved : List (List ℕ) = moved_names array book list in
      rw (move_wants (sector_part array sector) (is_read array book) (names_in (listed list)), ← records_none true)
      (wanted_bytes (sector_part array sector) [] moved record {
        long = move_sized;
        begins = rw (records_none true) refl;
        good_old = tt;
        good_new = read_names_good (is_read array book) 0 (names_in (listed list)) o.opened.good.good;
        room = omega (arith, ap length (records_none true), ltb-false 4096 (length (records_bytes true moved)) o.roomy);
      })

module _ (s : State) (wp : Bool) (array : List ℕ) (book sector : ℕ) (list buffer after : List ℕ) (planned : Planned)
    (moves : BookMoves s wp array book sector list buffer after planned) where
  abbrev moved_want : List ℕ
  moved_want = wanted_move (sector_part array sector) (is_read array book) (names_in (listed list))

  abbrev past_it : Bool
  past_it = is_past (is_read array book) (length (names_in (listed list)))

  pub move_call : MoveCall s wp array book sector list buffer after planned
  unfolding Plans
  move_call =
      record {
        numbers = numbered (move_refusals s array book sector list ++ fitting_refusals s wp array sector moved_want (length buffer)) _ planned.number refl
            (move_number s wp array book sector list buffer after planned moves)
            (row (means_not_sound s) (λ _. refl)
            (λ sound. row (means_wrong_array s (not-false (is_sound s) sound) array) (λ _. refl)
            (λ sized. row (means_or (not (is_sector (data_of s).size sector)) (not (is_sector (data_of s).size book))
            (means_wrong_sector s (not-false (is_sound s) sound) sector) (means_wrong_sector s (not-false (is_sound s) sound) book)) (λ _. refl)
            (λ inside. row (means_equal book sector) (λ _. refl)
            (λ apart. row (means_no_list array book list) (λ _. refl)
            (λ good. row (means_twice list ((good_exactly list).when (or_none_l (is_bad (listed list)) past_it good))) (λ _. refl)
            (λ once. row (means_move_long array book list ((good_exactly list).when (or_none_l (is_bad (listed list)) past_it good))) (λ _. refl)
            (λ roomy. let o : MoveOpened s array book sector list =
            record { opened = list_opened_by s array book sector list true sound sized inside apart good once; roomy = roomy } in
            planner_rows (MoveWants array book sector list) moved_want (move_it s array book sector list o) (move_only s array book sector list o) s wp array sector buffer
            (move_want_bytes s array book sector list o)))))))));
        refusal_keeps = moves_untouched s wp array book sector list buffer after planned moves;
        state_given = moves_state s wp array book sector list buffer after planned moves;
        wanted = λ z.
            let none = unless_none (move_refusal s array book sector list) s wp array sector moved_want buffer after planned moves z in
            record { wanted = moved_want; wants = move_it s array book sector list (move_opened s array book sector list none); holds = moves.planned none };
      }

-- ---- the way back

-- how many records have a name that is not on the list
count_unlisted : (names records : List (List ℕ)) → unlisted names records ≡ count_below (λ i. not (is_on (get_or records i []) names)) (length records)
count_unlisted names [] = unlisted_end names ∙ sym (count_none (λ i. not (is_on (get_or [] i []) names)) 0 (λ i h. absurd (omega arith)))
count_unlisted names (r ∷ records) =
    let test : ℕ → Bool = λ i. not (is_on (get_or (r ∷ records) i []) names) in
    let first : count_below test (suc (length records)) ≡ cond (not (is_on r names)) 1 0 + count_below (λ i. not (is_on (get_or records i []) names)) (length records) =
    count_first test (length records) in
    let one : Bool → ℕ = λ b. cond (not b) 1 0 in
    cases (is_on r names)
    (λ t. omega (arith, first, ap one t, unlisted_on names r records t, count_unlisted names records))
    (λ f. omega (arith, first, ap one f, unlisted_off names r records f, count_unlisted names records))

module _ (s : State) (wp : Bool) (array : List ℕ) (sector book : ℕ) (list buffer after : List ℕ) (r : Returned)
    (returns : BookReturns s wp array sector book list buffer after r) where
  abbrev records : List (List ℕ)
  records = names_of (sector_part array sector)

  abbrev names : List (List ℕ)
  names = names_in (listed list)

  abbrev back_want : List ℕ
  back_want = wanted_back records names

  back_only : Good list → (w : List ℕ) → BackWants array sector list w → w ≡ back_want
  back_only good w p = back_wants_only array sector list w back_want p (back_wants array sector list good)

  back_none : r.number ≡ 0 → back_refusal s array sector book list ≡ 0
  back_none z = unless_none (back_refusal s array sector book list) s wp array book back_want buffer after (planned_of r) returns.plan z

  back_good : r.number ≡ 0 → Good list
  back_good z = (list_opened s array book sector list false (sym (back_refusal_of s array sector book list) ∙ back_none z)).good

  counted : r.number ≡ 0 → UnlistedCount array sector list r.unlisted
  counted z = record {
    records = records;
    records_are = sector_names_are array sector;
    names = names;
    good_list = (list_exactly list names).only_when (back_good z);
    test = λ i. not (is_on (get_or records i []) names);
    tells = λ i h. record {
      when = λ e. (means_no_member (get_or records i []) names).when (not-true (is_on (get_or records i []) names) e);
      only_when = λ never. not_i (is_on (get_or records i []) names) ((means_no_member (get_or records i []) names).only_when never);
    };
    counted = (rw z at returns.unlisted_is) ∙ count_unlisted names records;
  }

  pub back_call : BackCall s wp array sector book list buffer after r
  unfolding Plans
  back_call = record {
    numbers = numbered (list_refusals s array book sector list false ++ fitting_refusals s wp array book back_want (length buffer)) _ r.number refl
        (back_number s wp array sector book list buffer after r returns)
        (row (means_not_sound s) (λ _. refl)
        (λ sound. row (means_wrong_array s (not-false (is_sound s) sound) array) (λ _. refl)
        (λ sized. row (means_or (not (is_sector (data_of s).size sector)) (not (is_sector (data_of s).size book))
        (means_wrong_sector s (not-false (is_sound s) sound) sector) (means_wrong_sector s (not-false (is_sound s) sound) book)) (λ _. refl)
        (λ inside. row (means_equal book sector) (λ _. refl)
        (λ apart. row (rw (or_false (is_bad (listed list))) (means_bad_list list)) (λ _. refl)
        (λ good. let is_good : Good list = (good_exactly list).when (or_none_l (is_bad (listed list)) false good) in
        row (means_twice list is_good) (λ _. refl)
        (λ once. planner_rows (BackWants array sector list) back_want (back_wants array sector list is_good) (back_only is_good) s wp array book buffer
        (back_bytes names records))))))));
    refusal_keeps = returns_untouched s wp array sector book list buffer after r returns;
    state_given = returns_state s wp array sector book list buffer after r returns;
    wanted = λ z. record { wanted = back_want; wants = back_wants array sector list (back_good z); holds = returns.plan.planned (back_none z) };
    unlisted = counted;
  }
