-- Flags by name: what the calls test before they refuse, and the tables' words.
-- Assumes nothing.
use mathlib.Core.Path.{◌≡◌, refl, sym, ap, ◌∙◌}
use mathlib.Core.Bool.{Bool, true, true≢false, not, ◌&&◌, ◌||◌}
use mathlib.Core.List.{List, [], ◌∷◌, ◌++◌}
use mathlib.Core.Logic.{◌⊎◌, inl, inr, ⊎_elim}
use Prim.Native.Nat.{ℕ, suc, ◌+◌, ◌<◌}
use native.Mathlib.Omega.{arith}
use lib.Dec.{ltb}
use lib.ListN.{length, get_or}
use borrow.Author.Tests.{eqb-true, eq-eqb, ltb-true, ltb-false, lt-ltb, le-ltb, not-true}
use Rattle.common.specs.Bits.{Bytes}
use Rattle.common.specs.Refusals.{Exactly}
use Rattle.common.proofs.Laws.Booleans.{and_l, and_r, and_i, and_off, not_i, or_imp, imp_or}
use Rattle.common.proofs.Laws.Choice.{cases}
use Rattle.common.proofs.Laws.Places.{some_passes}
use Rattle.state.specs.declared.State.{State}
use Rattle.state.specs.State.{data_of}
use Rattle.state.specs.Soundness.{is_sound}
use Rattle.plan.specs.Refusals.{bytes_needed}
use Rattle.promises.specs.Promises.{wants_rise, is_locked, fitting_refusals}
use Rattle.promises.proofs.Laws.Answered.{rises_exactly}
use Rattle.book.specs.Book.{is_read}
use Rattle.book.specs.Refusals.{is_sector}
use Rattle.book.proofs.Laws.Read.{read_is}
use Rattle.book.proofs.Laws.Refusals.{sector_exactly}
use Rattle.names.specs.Records.{names_of, records_bytes}
use Rattle.names.specs.Search.{is_on}
use Rattle.namelist.specs.Listed.{listed, is_bad, names_in, Good}
use Rattle.namelist.specs.Twice.{is_twice}
use Rattle.namelist.proofs.Laws.Listed.{good_exactly, listing_good}
use Rattle.namelist.proofs.Laws.Twice.{twice_none, twice_first, twice_exactly}
use Rattle.sectors.specs.Images.{sector_part}
use Rattle.sectors.specs.Moves.{is_past, moved_names, are_too_long}
use Rattle.sectors.proofs.Laws.There.{past_clear, past_some}
use Rattle.namechecks.specs.Refusals.{is_full}
use Rattle.rules.specs.Conditions.{size, NotAtRest, WantedRises, StatusLocked, BufferTooShort}
use Rattle.rules.specs.Numbered.{◌when◌}
use Rattle.rules.specs.Book.{flag}
use Rattle.rules.specs.FlagsWanted.{sector_bytes, Member, records_length, picked_names}
use Rattle.rules.specs.FlagsCalls.{WrongSector, BadList, ReadPast, NameTwice, MarkTooLong, MoveTooLong, WantedAnd}
use Rattle.rules.proofs.Laws.Tests.{means_less, means_not}
use Rattle.rules.proofs.Laws.Numbered.{AllMeant, row}
use Rattle.rules.proofs.Laws.Conditions.{size_is, means_not_at_rest, means_locked}
use Rattle.rules.proofs.Laws.FlagsRead.{means_member, means_no_member, sector_names_are, sector_names_only, list_exactly, list_names, records_measure}
use Rattle.rules.proofs.Laws.FlagsPlans.{measure_more, moved_is}

-- ---- 15

pub means_wrong_sector : (s : State) → is_sound s ≡ true → (sector : ℕ) → Exactly (not (is_sector (data_of s).size sector) ≡ true) (WrongSector s sector)
means_wrong_sector s sound sector = rw (size_is s sound) (means_not (is_sector (size s) sector) (sector_exactly (size s) sector))

-- ---- 18

pub means_bad_list : (list : List ℕ) → Exactly (is_bad (listed list) ≡ true) (BadList list)
means_bad_list list = record {
  when = λ e names g. true≢false (sym e ∙ (good_exactly list).only_when (listing_good list names ((list_exactly list names).when g)));
  only_when = λ never.
      cases (is_bad (listed list)) (λ t. t)
      (λ f. absurd (never (names_in (listed list)) ((list_exactly list (names_in (listed list))).only_when ((good_exactly list).when f))));
}

module _ (array : List ℕ) (book : ℕ) (list : List ℕ) where
  abbrev count : ℕ
  count = length (names_in (listed list))

  abbrev past : Bool
  past = is_past (is_read array book) count

  -- a read scene that is past the names
  abbrev is_behind : ℕ → Bool
  is_behind scene = not (ltb scene count) && is_read array book scene

  past_found : Good list → past ≡ true → ReadPast array book list
  past_found good e =
      ⊎_elim
      (λ p. record {
        names = names_in (listed list);
        good_list = (list_exactly list (names_in (listed list))).only_when good;
        scene = p.place;
        past = ltb-false p.place count (not-true (ltb p.place count) (and_l (not (ltb p.place count)) (is_read array book p.place) p.passes));
        below = p.below;
        read = eqb-true (flag array book p.place) 0 (sym (read_is array book p.place) ∙ and_r (not (ltb p.place count)) (is_read array book p.place) p.passes);
      })
      (λ none. absurd (true≢false (sym e ∙ past_clear (is_read array book) count
      (λ i from below. and_off (not (ltb i count)) (is_read array book i) (none i below) (not_i (ltb i count) (le-ltb i count from))))))
      (some_passes is_behind 4096)

  means_past : Good list → Exactly (past ≡ true) (ReadPast array book list)
  means_past good = record {
    when = past_found good;
    only_when = λ r.
        past_some (is_read array book) count r.scene (rw (list_names list r.names r.good_list) at r.past) r.below
        (read_is array book r.scene ∙ eq-eqb (flag array book r.scene) 0 r.read);
  }

  pub means_no_list : Exactly (is_bad (listed list) || past ≡ true) (BadList list ⊎ ReadPast array book list)
  means_no_list = record {
    when = λ e.
        cases (is_bad (listed list)) (λ t. inl ((means_bad_list list).when t))
        (λ f. inr ((means_past ((good_exactly list).when f)).when (or_imp (is_bad (listed list)) past e f)));
    only_when = ⊎_elim (λ bad. rw ((means_bad_list list).only_when bad) refl)
        (λ r. imp_or (is_bad (listed list)) past (λ f. (means_past ((good_exactly list).when f)).only_when r));
  }

-- ---- 19

record Twice (names : List (List ℕ)) : Type 0 where
  one : ℕ
  other : ℕ
  apart : one < other
  inside : other < length names
  same : get_or names one [] ≡ get_or names other []

twice_found : (names : List (List ℕ)) → is_twice names ≡ true → Twice names
twice_found [] e = absurd (true≢false (sym e ∙ twice_none))
twice_found (name ∷ names) e =
    cases (is_on name names)
    (λ t. let m = (means_member name names).when t in
    record { one = 0; other = suc m.index; apart = omega arith; inside = omega (arith, m.inside); same = sym m.there })
    (λ f. let t = twice_found names (or_imp (is_on name names) (is_twice names) (sym (twice_first name names) ∙ e) f) in
    record { one = suc t.one; other = suc t.other; apart = omega (arith, t.apart); inside = omega (arith, t.inside); same = t.same })

pub means_twice : (list : List ℕ) → Good list → Exactly (is_twice (names_in (listed list)) ≡ true) (NameTwice list)
means_twice list good = record {
  when = λ e.
      let t = twice_found (names_in (listed list)) e in
      record {
        names = names_in (listed list);
        good_list = (list_exactly list (names_in (listed list))).only_when good;
        one = t.one;
        other = t.other;
        apart = t.apart;
        inside = t.inside;
        same = t.same;
      };
  only_when = λ t.
      let is = list_names list t.names t.good_list in
      let inside : t.other < length (names_in (listed list)) = rw is at t.inside in
      let same : get_or (names_in (listed list)) t.one [] ≡ get_or (names_in (listed list)) t.other [] = rw is at t.same in
      cases (is_twice (names_in (listed list))) (λ b. b)
      (λ f. absurd (omega (arith, t.apart, (twice_exactly (names_in (listed list))).when f t.one t.other (omega (arith, inside, t.apart)) inside same)));
}

-- ---- 20

module _ (array : List ℕ) (sector : ℕ) (name : List ℕ) where
  abbrev there : List (List ℕ)
  there = names_of (sector_part array sector)

  pub means_mark_long : Exactly (is_full there name ≡ true) (MarkTooLong (sector_bytes array sector) name)
  means_mark_long =
      let long : ℕ = length (records_bytes true (there ++ (name ∷ []))) in
      record {
        when = λ e. record {
          names = there;
          names_are = sector_names_are array sector;
          new = (means_no_member name there).when (not-true (is_on name there) (and_l (not (is_on name there)) (ltb 4096 long) e));
          over = omega (arith, ltb-true 4096 long (and_r (not (is_on name there)) (ltb 4096 long) e), measure_more there name);
        };
        only_when = λ m.
            let is = sector_names_only array sector m.names m.names_are in
            let new : Member name there → ⊥ = rw is at m.new in
            let over : 4096 < records_length there + (3 + length name) = rw is at m.over in
            and_i (not_i (is_on name there) ((means_no_member name there).only_when new)) (lt-ltb 4096 long (omega (arith, over, measure_more there name)));
      }

pub means_move_long : (array : List ℕ) (book : ℕ) (list : List ℕ) → Good list → Exactly (are_too_long (moved_names array book list) ≡ true) (MoveTooLong array book list)
means_move_long array book list good =
    let moved : List (List ℕ) = moved_names array book list in
    let is : length (records_bytes true moved) ≡ records_length (picked_names (flag array book) 0 (names_in (listed list))) =
    records_measure moved ∙ ap records_length (sym (moved_is array book list)) in
    record {
      when = λ e. record {
        names = names_in (listed list);
        good_list = (list_exactly list (names_in (listed list))).only_when good;
        over = omega (arith, is, ltb-true 4096 (length (records_bytes true moved)) e);
      };
      only_when = λ m.
          let over : 4096 < records_length (picked_names (flag array book) 0 (names_in (listed list))) = rw (list_names list m.names m.good_list) at m.over in
          lt-ltb 4096 (length (records_bytes true moved)) (omega (arith, is, over));
    }

-- ---- 7, 8, 9, 10: of the one sector that is wanted

module _ (Wanted : List ℕ → Type 0) (want : List ℕ) (it : Wanted want) (only : (w : List ℕ) → Wanted w → w ≡ want) where
  means_wanted : (Holds : List ℕ → Type 0) (test : Bool) → Exactly (test ≡ true) (Holds want) → Exactly (test ≡ true) (WantedAnd Wanted Holds)
  means_wanted Holds test m = record {
    when = λ e. record { wanted = want; wants = it; holds = m.when e };
    only_when = λ a. m.only_when (rw (only a.wanted a.wants) at a.holds);
  }

  pub planner_rows : (s : State) (wp : Bool) (array : List ℕ) (start : ℕ) (buffer : List ℕ) → Bytes want
      → AllMeant (fitting_refusals s wp array start want (length buffer))
      (7 when NotAtRest s
      ∷ 8 when WantedAnd Wanted (λ w. WantedRises array start w)
      ∷ 9 when WantedAnd Wanted (λ w. StatusLocked s wp array start w)
      ∷ 10 when WantedAnd Wanted (λ w. BufferTooShort s array start w buffer)
      ∷ [])
  unfolding bytes_needed
  planner_rows s wp array start buffer bytes =
      row (means_not_at_rest s) (λ _. refl)
      (λ _. row (means_wanted (λ w. WantedRises array start w) (wants_rise array start want) (rises_exactly array start want bytes)) (λ _. refl)
      (λ _. row (means_wanted (λ w. StatusLocked s wp array start w) (is_locked s wp array start want) (means_locked array start want s wp)) (λ _. refl)
      (λ _. row (means_wanted (λ w. BufferTooShort s array start w buffer) (ltb (length buffer) (bytes_needed s array start want)) (means_less (length buffer) (bytes_needed s array start want))) (λ _. refl) (λ _. tt))))
