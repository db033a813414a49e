-- Records appended behind those that are there, by the first plan and by the second: what a reader sees before and behind each, run to its end or cut.
-- Assumes nothing.
use mathlib.Core.Path.{◌≡◌, refl, sym, ap, ◌∙◌}
use mathlib.Core.Bool.{Bool, true, false}
use mathlib.Core.List.{List, [], ◌∷◌, ◌++◌, append_assoc, append-nil}
use Prim.Native.Nat.{ℕ, ◌+◌, ◌-◌, ◌≤◌, ◌<◌}
use native.Mathlib.Omega.{arith}
use native.Mathlib.Decide.{ℕ_discrete}
use mathlib.Core.Logic.{⊎_elim}
use lib.ListN.{length, get_or, take, drop, length-append, length-drop, take-append-drop, get_or-eq_default}
use lib.Seq.{length-take-le, get_or-take, get_or-drop, get_or-append-add, ext_get_or}
use Rattle.common.specs.Bits.{Bytes}
use Rattle.common.proofs.Laws.Bits.{bytes_within}
use Rattle.common.proofs.Laws.Choice.{cases}
use Rattle.common.proofs.Laws.Lists.{split, get_d_front}
use Rattle.names.specs.Records.{AllNames, none, front, names_of, Begins, records_bytes, padded}
use Rattle.names.proofs.Laws.Names.{names_none, names_append, Split, names_split}
use Rattle.names.proofs.Laws.Padded.{records_below, padded_long, padded_front, padded_behind}
use Rattle.names.proofs.Laws.Reader.{front_unmarked}
use Rattle.names.proofs.Laws.Walk.{records_none, records_first, records_append, records_long, records_agree}
use Rattle.sectors.specs.Images.{first_image, second_image, is_missing, wanted_names}
use Rattle.sectors.proofs.Laws.Images.{Stands, stands_exactly, missing_exactly, wanted_first, wanted_second}
use Rattle.namecut.proofs.Laws.Between.{Between, stays, erased_before, erased_after}
use Rattle.namecut.proofs.Laws.Standing.{Standing, standing_names}

-- ---- a sector with new bytes behind a front

module _ (there new : List ℕ) (fits : length there + length new ≤ 4096) where
  pub image_long : length (padded (there ++ new)) ≡ 4096
  image_long = padded_long (there ++ new) (omega (arith, length-append there new))

  pub image_there : (k : ℕ) → k < length there → get_or (padded (there ++ new)) k 0 ≡ get_or there k 0
  image_there k h = padded_front (there ++ new) k (omega (arith, length-append there new)) ∙ get_d_front there new k h

  pub image_new : (k : ℕ) → k < length new → get_or (padded (there ++ new)) (length there + k) 0 ≡ get_or new k 0
  image_new k h = padded_front (there ++ new) (length there + k) (omega (arith, length-append there new)) ∙ get_or-append-add there new k 0

  pub image_behind : (k : ℕ) → length there + length new ≤ k → k < 4096 → get_or (padded (there ++ new)) k 0 ≡ 0xff
  image_behind k h l = padded_behind (there ++ new) k (omega (arith, length-append there new)) l

  pub image_bytes : Bytes there → Bytes new → Bytes (padded (there ++ new))
  image_bytes p q = bytes_within (padded (there ++ new)) (λ k h. at k (omega (arith, image_long)))
    where
      at : (k : ℕ) → k < 4096 → get_or (padded (there ++ new)) k 0 < 256
      at k h =
          ⊎_elim (λ l. rw (image_there k l) (p k))
          (λ g. let place : length there + (k - length there) ≡ k = omega arith in
          ⊎_elim (λ l. rw (sym place) (rw (image_new (k - length there) (omega arith)) (q (k - length there))))
          (λ l. rw (image_behind k (omega arith) h) (omega arith)) (split (k - length there) (length new)))
          (split k (length there))

-- records are bytes, with marks or without
pub records_bytes_lem : (m : Bool) (names : List (List ℕ)) → AllNames names → Bytes (records_bytes m names)
records_bytes_lem true names good = bytes_within (records_bytes true names) (λ k h. omega (arith, records_below names k good h))
records_bytes_lem false names good =
    bytes_within (records_bytes false names)
    (λ k h. elim (ℕ_discrete (get_or (records_bytes false names) k 0) 0xff) [
      | yes e ↦ omega (arith, e)
      | no n ↦ omega (arith, records_agree names k n, records_below names k good (omega (arith, h, records_long true false names)))
    ])

-- ---- the names behind a front of records

pub names_behind : (old : List (List ℕ)) (image : List ℕ) → AllNames old → take (length (records_bytes true old)) image ≡ records_bytes true old
    → names_of image ≡ old ++ names_of (drop (length (records_bytes true old)) image)
names_behind old image good is =
    let n : ℕ = length (records_bytes true old) in
    ap names_of (sym (take-append-drop n image) ∙ ap (λ (l : List ℕ). l ++ drop n image) is) ∙ names_append old (drop n image) good

-- a front of records that another image has too
pub names_stay : (before after : List ℕ) → length before ≡ 4096 → length after ≡ 4096
    → ((k : ℕ) → k < length (records_bytes true (names_of before)) → get_or after k 0 ≡ get_or before k 0) → Begins (names_of before) (names_of after)
names_stay before after long long_after same = record {
  more = names_of (drop n after);
  all_are = names_behind (names_of before) after s.good (ext_get_or 0 (take n after) (records_bytes true (names_of before)) sized at);
}
  where
    s : Split before (names_of before)
    s = names_split before

    n : ℕ
    n = length (records_bytes true (names_of before))

    inside : n ≤ 4096
    inside = omega (arith, ap length s.is, length-append (records_bytes true (names_of before)) s.rest, long)

    sized : length (take n after) ≡ n
    sized = length-take-le n after (omega (arith, inside, long_after))

    at : (k : ℕ) → k < length (take n after) → get_or (take n after) k 0 ≡ get_or (records_bytes true (names_of before)) k 0
    at k h =
        let l : k < n = omega (arith, sized) in
        get_or-take n after k 0 l ∙ same k l ∙ ap (λ (b : List ℕ). get_or b k 0) s.is ∙ get_d_front (records_bytes true (names_of before)) s.rest k l

-- ---- appended

-- new records are to come behind old ones
pub record Appending (image : List ℕ) (old new : List (List ℕ)) : Type 0 where
  pub long : length image ≡ 4096
  pub begins : take (length (records_bytes true old)) image ≡ records_bytes true old
  pub good_old : AllNames old
  pub good_new : AllNames new
  pub room : length (records_bytes true old) + length (records_bytes true new) ≤ 4096

-- what is read before and behind: the old names, and of the new ones those from the first on up to some
pub record Grown (before after : List ℕ) (old new : List (List ℕ)) : Type 0 where
  pub was : List (List ℕ)
  pub was_first : Begins was new
  pub before_are : names_of before ≡ old ++ was
  pub now : List (List ℕ)
  pub now_first : Begins now new
  pub after_are : names_of after ≡ old ++ now
  pub stay : Begins (names_of before) (names_of after)

module _ (before after : List ℕ) (old new : List (List ℕ)) (a : Appending before old new) (long_after : length after ≡ 4096) where
  abbrev there : List ℕ
  there = records_bytes true old

  abbrev n : ℕ
  n = length there

  abbrev unmarked : List ℕ
  unmarked = records_bytes false new

  room_false : n + length unmarked ≤ 4096
  room_false = omega (arith, a.room, records_long true false new)

  there_before : (k : ℕ) → k < n → get_or before k 0 ≡ get_or there k 0
  there_before k h = sym (get_or-take n before k 0 h) ∙ ap (λ (l : List ℕ). get_or l k 0) a.begins

  -- the old records stay, where they are wanted
  there_after : {wanted : List ℕ} → Between before wanted after → ((k : ℕ) → k < n → get_or wanted k 0 ≡ get_or there k 0)
      → take n after ≡ there
  there_after m same =
      let sized : length (take n after) ≡ n = length-take-le n after (omega (arith, a.room)) in
      ext_get_or 0 (take n after) there sized
      (λ k h. let l : k < n = omega (arith, sized) in
      get_or-take n after k 0 l ∙ stays m k (omega (arith, a.room)) (same k l ∙ sym (there_before k l)) ∙ there_before k l)

  -- ---- the first plan

  module _ (missing : is_missing unmarked (drop n before) ≡ true) (m : Between before (first_image there new) after) where
    -- there is a new record, and where its mark will be FF is wanted
    erased_mark : n < 4096 × get_or (first_image there new) n 0 ≡ 0xff
    erased_mark = by new refl
      where
        by : (names : List (List ℕ)) → new ≡ names → n < 4096 × get_or (first_image there new) n 0 ≡ 0xff
        by [] e =
            let s = (missing_exactly unmarked (drop n before) (omega (arith, room_false, length-drop n before, a.long))).when missing in
            absurd (omega (arith, s.inside, ap (λ (l : List (List ℕ)). length (records_bytes false l)) e, ap length (records_none false)))
        by (name ∷ names) e =
            let is = ap (records_bytes false) e ∙ records_first false name names in
            let some : 0 < length unmarked = omega (arith, ap length is) in
            let place : n + 0 ≡ n = omega arith in
            (omega (arith, some, room_false), rw place at (image_new there unmarked room_false 0 some) ∙ ap (λ (l : List ℕ). get_or l 0 0) is)

    ends_at : (image : List ℕ) → get_or image n 0 ≡ 0xff → names_of (drop n image) ≡ []
    ends_at image e =
        let place : n + 0 ≡ n = omega arith in
        let first : get_or (drop n image) 0 0 ≡ 0xff = get_or-drop n image 0 0 ∙ ap (λ (k : ℕ). get_or image k 0) place ∙ e in
        names_none (drop n image) (front_unmarked (drop n image) (λ z. omega (arith, first, z)))

    pub first_before : names_of before ≡ old
    first_before =
        names_behind old before a.good_old a.begins
        ∙ ap (λ (l : List (List ℕ)). old ++ l) (ends_at before (erased_before m n erased_mark.0 erased_mark.1)) ∙ append-nil old

    pub first_after : names_of after ≡ old
    first_after =
        names_behind old after a.good_old (there_after m (image_there there unmarked room_false))
        ∙ ap (λ (l : List (List ℕ)). old ++ l) (ends_at after (erased_after m n erased_mark.0 erased_mark.1)) ∙ append-nil old

  -- ---- the second plan

  module _ (whole : is_missing unmarked (drop n before) ≡ false) (m : Between before (second_image there new) after) where
    stands_before : Stands unmarked (drop n before)
    stands_before = (stands_exactly unmarked (drop n before) (omega (arith, room_false, length-drop n before, a.long))).when whole

    -- lengths and names are wanted as they are
    pub stands_after : Stands unmarked (drop n after)
    stands_after k h used =
        let inside : n + k < 4096 = omega (arith, room_false) in
        let was : get_or before (n + k) 0 ≡ get_or unmarked k 0 = sym (get_or-drop n before k 0) ∙ stands_before k h used in
        let want : get_or (second_image there new) (n + k) 0 ≡ get_or unmarked k 0 =
        image_new there (records_bytes true new) a.room k (omega (arith, h, records_long true false new)) ∙ records_agree new k used in
        get_or-drop n after k 0 ∙ stays m (n + k) inside (want ∙ sym was) ∙ was

    -- behind them is FF
    ends_of : (image : List ℕ) → length image ≡ 4096 → ((k : ℕ) → n + length unmarked ≤ k → k < 4096 → get_or image k 0 ≡ 0xff)
        → front (drop (length unmarked) (drop n image)) ≡ none
    ends_of image long erased = front_unmarked (drop (length unmarked) (drop n image)) other
      where
        place : get_or (drop (length unmarked) (drop n image)) 0 0 ≡ get_or image (n + (length unmarked + 0)) 0
        place = get_or-drop (length unmarked) (drop n image) 0 0 ∙ get_or-drop n image (length unmarked + 0) 0

        other : get_or (drop (length unmarked) (drop n image)) 0 0 ≡ 0x4e → ⊥
        other e =
            ⊎_elim (λ h. omega (arith, erased (n + (length unmarked + 0)) (omega arith) h, place, e))
            (λ h. omega (arith, get_or-eq_default image 0 {n = n + (length unmarked + 0)} (omega (arith, long, h)), place, e))
            (split (n + (length unmarked + 0)) 4096)

    standing : (image : List ℕ) → length image ≡ 4096 → Stands unmarked (drop n image)
        → ((k : ℕ) → n + length unmarked ≤ k → k < 4096 → get_or image k 0 ≡ 0xff) → Standing new (drop n image)
    standing image long there erased = record {
      fits = omega (arith, room_false, length-drop n image, long);
      there = there;
      ends = ends_of image long erased;
    }

    wants_erased : (k : ℕ) → n + length unmarked ≤ k → k < 4096 → get_or (second_image there new) k 0 ≡ 0xff
    wants_erased k h l = image_behind there (records_bytes true new) a.room k (omega (arith, h, records_long true false new)) l

    pub second_before : Begins (names_of (drop n before)) new
    second_before =
        standing_names new (drop n before) a.good_new
        (standing before a.long stands_before (λ k h l. erased_before m k l (wants_erased k h l)))

    pub second_after : Begins (names_of (drop n after)) new
    second_after =
        standing_names new (drop n after) a.good_new
        (standing after long_after stands_after (λ k h l. erased_after m k l (wants_erased k h l)))

    before_names : names_of before ≡ old ++ names_of (drop n before)
    before_names = names_behind old before a.good_old a.begins

    after_names : names_of after ≡ old ++ names_of (drop n after)
    after_names = names_behind old after a.good_old (there_after m (image_there there (records_bytes true new) a.room))

    -- the records that are whole are wanted as they are
    whole_wanted : (k : ℕ) → k < length (records_bytes true (names_of before)) → get_or (second_image there new) k 0 ≡ get_or before k 0
    whole_wanted k h =
        let b = second_before in
        let s = names_split before in
        let all : there ++ records_bytes true new ≡ records_bytes true (names_of before) ++ records_bytes true b.more =
        ap (λ (l : List (List ℕ)). there ++ records_bytes true l) b.all_are
        ∙ ap (λ (l : List ℕ). there ++ l) (records_append true (names_of (drop n before)) b.more)
        ∙ sym (append_assoc there (records_bytes true (names_of (drop n before))) (records_bytes true b.more))
        ∙ ap (λ (l : List ℕ). l ++ records_bytes true b.more)
        (sym (records_append true old (names_of (drop n before))) ∙ ap (records_bytes true) (sym before_names)) in
        let inside : k < length (there ++ records_bytes true new) = omega (arith, ap length all, length-append (records_bytes true (names_of before)) (records_bytes true b.more)) in
        padded_front (there ++ records_bytes true new) k inside
        ∙ ap (λ (l : List ℕ). get_or l k 0) all ∙ get_d_front (records_bytes true (names_of before)) (records_bytes true b.more) k h
        ∙ sym (ap (λ (l : List ℕ). get_or l k 0) s.is ∙ get_d_front (records_bytes true (names_of before)) s.rest k h)

    pub second_grown : Grown before after old new
    second_grown = record {
      was = names_of (drop n before);
      was_first = second_before;
      before_are = before_names;
      now = names_of (drop n after);
      now_first = second_after;
      after_are = after_names;
      stay = names_stay before after a.long long_after
          (λ k h. stays m k (omega (arith, h, ap length (names_split before).is, length-append (records_bytes true (names_of before)) (names_split before).rest, a.long)) (whole_wanted k h));
    }

  -- ---- either of the two

  pub grown : Between before (wanted_names before there new) after → Grown before after old new
  grown m =
      cases (is_missing unmarked (drop n before))
      (λ t. let f = rw (wanted_first before there new t) at m in
      record {
        was = [];
        was_first = record { more = new; all_are = refl };
        before_are = first_before t f ∙ sym (append-nil old);
        now = [];
        now_first = record { more = new; all_are = refl };
        after_are = first_after t f ∙ sym (append-nil old);
        stay = record { more = []; all_are = first_after t f ∙ sym (append-nil old) ∙ ap (λ (l : List (List ℕ)). l ++ []) (sym (first_before t f)) };
      })
      (λ w. second_grown w (rw (wanted_second before there new w) at m))
