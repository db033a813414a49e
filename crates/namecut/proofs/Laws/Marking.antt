-- What an accepted marking leaves, and that it goes on: from the planner's promises alone.
-- Assumes nothing.
use mathlib.Core.Path.{◌≡◌, refl, sym, ap, ◌∙◌}
use mathlib.Core.Bool.{Bool, true, false, true≢false, ◌||◌}
use mathlib.Core.List.{List, [], ◌∷◌, ◌++◌, append-nil}
use mathlib.Core.Logic.{◌⊎◌, inl, inr, ⊎_elim}
use Prim.Native.Nat.{ℕ, ◌+◌, ◌≤◌, ◌<◌}
use native.Mathlib.Omega.{arith}
use lib.ListN.{length, get_or, length-append}
use lib.Seq.{ext_get_or}
use Rattle.common.specs.Bits.{Bytes, bit_at}
use Rattle.common.proofs.Laws.Booleans.{or_true}
use Rattle.common.proofs.Laws.Choice.{cases}
use Rattle.state.specs.declared.Planned.{Planned}
use Rattle.promises.specs.Promises.{Device, WantedRises, ReadyToPlan, Fitting, PlanAnswered, PlansUnless, Promises, room_enough}
use Rattle.promises.proofs.Laws.Unless.{unless_none, unless_answered, unless_accepted, fitting_few}
use Rattle.names.specs.Records.{is_name, names_of, Begins, records_bytes}
use Rattle.names.specs.Search.{is_on}
use Rattle.names.proofs.Laws.Names.{names_split}
use Rattle.names.proofs.Laws.Search.{same_refl, on_first, on_append}
use Rattle.sectors.specs.Images.{sector_part, wanted_names, wanted_mark}
use Rattle.namechecks.specs.Refusals.{is_full, mark_refusal}
use Rattle.namechecks.specs.Opened.{MarkOpened}
use Rattle.flags.specs.Answers.{NameMarks}
use Rattle.namecut.specs.Leaves.{BesideSector, BehindMark, is_first_mark, MarkLeaves, MarkGoesOn}
use Rattle.sectors.proofs.Laws.Images.{sector_long, sector_at, sector_bytes_lem, wanted_first, mark_there, mark_appends}
use Rattle.namecut.proofs.Laws.Between.{stays}
use Rattle.namecut.proofs.Laws.Grown.{Appending, Grown, first_after}
use Rattle.namecut.proofs.Laws.Again.{wanted_bytes}
use Rattle.flags.proofs.Laws.Answers.{is_read_is, room_left, mark_want_long, records_front}
use Rattle.namechecks.proofs.Laws.Opened.{mark_opened, mark_opened_exactly, marked_inside}
use Rattle.namecut.proofs.Laws.Appended.{kept, answered, sector_between, sector_beside, fits_behind, appended, appended_falls}

-- ---- names

-- one of some that begin others
pub on_begins : (name : List ℕ) {some all : List (List ℕ)} → Begins some all → is_on name some ≡ true → is_on name all ≡ true
on_begins name {some} b e = ap (is_on name) b.all_are ∙ on_append name some b.more ∙ ap (λ (t : Bool). t || is_on name b.more) e

pub on_last : (name : List ℕ) (names : List (List ℕ)) → is_on name (names ++ (name ∷ [])) ≡ true
on_last name names =
    on_append name names (name ∷ [])
    ∙ ap (λ (t : Bool). is_on name names || t) (on_first name name [] ∙ ap (λ (t : Bool). t || is_on name []) (same_refl name)) ∙ or_true (is_on name names)

-- of one name none or the one
begins_one : (name : List ℕ) (some : List (List ℕ)) → Begins some (name ∷ []) → (some ≡ []) ⊎ (some ≡ name ∷ [])
begins_one name [] b = inl refl
begins_one name (x ∷ []) b = inr (ap (λ (n : List ℕ). n ∷ []) (sym (ap (λ (l : List (List ℕ)). get_or l 0 []) b.all_are)))
begins_one name (x ∷ y ∷ ys) b = absurd (omega (arith, ap length b.all_are, length-append (x ∷ y ∷ ys) b.more))

-- a name that has no record, and room
appending_one : (image name : List ℕ) → length image ≡ 4096 → is_name name ≡ true → is_on name (names_of image) ≡ false → is_full (names_of image) name ≡ false
    → Appending image (names_of image) (name ∷ [])
appending_one image name long good absent roomy = record {
  long = long;
  begins = records_front image;
  good_old = (names_split image).good;
  good_new = (good, tt);
  room = room_left (names_of image) name absent roomy;
}

-- ---- what is wanted

module _ (image name : List ℕ) (long : length image ≡ 4096) (bytes : Bytes image) (good : is_name name ≡ true) (roomy : is_full (names_of image) name ≡ false) where
  pub mark_bytes : Bytes (wanted_mark image name)
  mark_bytes =
      cases (is_on name (names_of image)) (λ t. rw (mark_there image name t) bytes)
      (λ f. rw (mark_appends image name f) (wanted_bytes image (names_of image) (name ∷ []) (appending_one image name long good f roomy)))

-- ---- an accepted marking

module _ (wp : Bool) (chip : Device) (sector : ℕ) (name buffer after : List ℕ) (r : Planned) (bytes : Bytes chip.array)
    (marks : NameMarks chip.state wp chip.array sector name buffer after r) (good : r.number ≡ 0) where
  abbrev before : List ℕ
  before = chip.array

  abbrev image : List ℕ
  image = sector_part before sector

  abbrev names : List (List ℕ)
  names = names_of image

  abbrev own : ℕ
  own = mark_refusal chip.state before sector name

  pub opened : MarkOpened chip.state before sector name
  opened = mark_opened chip.state before sector name (unless_none own chip.state wp before sector (wanted_mark image name) buffer after r marks good)

  pub inside : sector + 4096 ≤ length before
  inside = marked_inside chip.state before sector name opened

  long : length image ≡ 4096
  long = sector_long before sector inside

  pub want_long : length (wanted_mark image name) ≡ 4096
  want_long = mark_want_long image name long opened.roomy

  want_bytes : Bytes (wanted_mark image name)
  want_bytes = mark_bytes image name long (sector_bytes_lem before sector inside bytes) opened.good opened.roomy

  pub mark_kept : Promises wp chip sector (wanted_mark image name) (length buffer)
  mark_kept = kept own wp chip sector (wanted_mark image name) buffer after r bytes marks good inside want_long want_bytes

  pub mark_answered : PlanAnswered chip.state wp before sector (wanted_mark image name) buffer after r
  mark_answered = answered own wp chip sector (wanted_mark image name) buffer after r bytes marks good inside want_long want_bytes

  -- the name has a record
  module _ (there : is_on name names ≡ true) (done : Device) (behind : BehindMark wp chip sector name done) where
    unchanged : sector_part done.array sector ≡ image
    unchanged =
        let m = sector_between own wp chip sector (wanted_mark image name) buffer after r bytes marks good inside want_long want_bytes done behind in
        let long_after = sector_long done.array sector (fits_behind own wp chip sector (wanted_mark image name) buffer after r bytes marks good inside want_long want_bytes done behind) in
        ext_get_or 0 (sector_part done.array sector) image (long_after ∙ sym long)
        (λ k h. stays m k (omega (arith, long_after)) (ap (λ (l : List ℕ). get_or l k 0) (mark_there image name there)))

  -- it has none
  module _ (absent : is_on name names ≡ false) where
    pub appending : Appending image names (name ∷ [])
    appending = appending_one image name long opened.good absent opened.roomy

    abbrev wanted : List ℕ
    wanted = wanted_names image (records_bytes true names) (name ∷ [])

    plans : PlansUnless own chip.state wp before sector wanted buffer after r
    plans = rw (mark_appends image name absent) at marks

    module _ (done : Device) (behind : BehindMark wp chip sector name done) where
      grew : Grown image (sector_part done.array sector) names (name ∷ [])
      grew = appended own wp chip sector names (name ∷ []) buffer after r bytes plans good inside appending done (rw (mark_appends image name absent) at behind)

  -- ---- behind its script

  module _ (done : Device) (behind : BehindMark wp chip sector name done) where
    abbrev now_image : List ℕ
    now_image = sector_part done.array sector

    now_names : (names_of now_image ≡ names) ⊎ (names_of now_image ≡ names ++ (name ∷ []))
    now_names =
        cases (is_on name names) (λ t. inl (ap names_of (unchanged t done behind)))
        (λ f. let g = grew f done behind in
        ⊎_elim (λ none. inl (g.after_are ∙ ap (λ (l : List (List ℕ)). names ++ l) none ∙ append-nil names))
        (λ one. inr (g.after_are ∙ ap (λ (l : List (List ℕ)). names ++ l) one)) (begins_one name g.now g.now_first))

    pub names_first : is_on name names ≡ false → is_first_mark before sector name ≡ true → names_of now_image ≡ names
    names_first absent missing =
        let a = appending absent in
        first_after image now_image names (name ∷ []) a
        (sector_long done.array sector (fits_behind own wp chip sector (wanted_mark image name) buffer after r bytes marks good inside want_long want_bytes done behind))
        missing
        (rw (mark_appends image name absent ∙ wanted_first image (records_bytes true names) (name ∷ []) missing)
        at (sector_between own wp chip sector (wanted_mark image name) buffer after r bytes marks good inside want_long want_bytes done behind))

    pub mark_beside : BesideSector sector before done.array
    mark_beside = sector_beside own wp chip sector (wanted_mark image name) buffer after r bytes marks good inside want_long want_bytes done behind

    pub mark_leaves : MarkLeaves sector name before done.array
    mark_leaves = record {
      names_are = now_names;
      first_plan = λ absent missing. names_first (sym (is_read_is before sector name) ∙ absent) missing;
      there_already = λ there. unchanged (sym (is_read_is before sector name) ∙ there) done behind;
      beside = mark_beside;
    }

    -- the names that were read still are
    pub mark_stay : Begins names (names_of now_image)
    mark_stay =
        ⊎_elim (λ same. record { more = []; all_are = same ∙ sym (append-nil names) }) (λ more. record { more = name ∷ []; all_are = more }) now_names

    -- ---- marked again

    ready : ReadyToPlan chip.state.chip done
    ready = mark_kept.ready done behind

    inside_now : sector + 4096 ≤ length done.array
    inside_now = fits_behind own wp chip sector (wanted_mark image name) buffer after r bytes marks good inside want_long want_bytes done behind

    long_now : length now_image ≡ 4096
    long_now = sector_long done.array sector inside_now

    bytes_now : Bytes now_image
    bytes_now = sector_bytes_lem done.array sector inside_now ready.bytes

    -- without its record the names are those before
    absent_now : is_on name (names_of now_image) ≡ false → (is_on name names ≡ false) × (names_of now_image ≡ names)
    absent_now f =
        let was : is_on name names ≡ false = cases (is_on name names) (λ t. absurd (true≢false (sym (on_begins name mark_stay t) ∙ f))) (λ g. g) in
        (was, ⊎_elim (λ same. same) (λ more. absurd (true≢false (sym (ap (is_on name) more ∙ on_last name names) ∙ f))) now_names)

    roomy_now : is_full (names_of now_image) name ≡ false
    roomy_now = cases (is_on name (names_of now_image)) (λ t. rw t refl) (λ f. rw (absent_now f).1 opened.roomy)

    pub opened_now : MarkOpened done.state done.array sector name
    opened_now = record {
      sound = ready.sound;
      sized = ready.sized;
      a_sector = rw ready.same_chip opened.a_sector;
      good = opened.good;
      roomy = roomy_now;
    }

    falls_now : WantedRises done.array sector (wanted_mark now_image name) → ⊥
    falls_now w =
        cases (is_on name (names_of now_image))
        (λ t. let same = rw (mark_there now_image name t) at w in
        let k : ℕ = same.place in
        let h : k < 4096 = omega (arith, same.inside, long_now) in
        omega (arith, same.wanted_1, same.array_0, ap (λ (x : ℕ). bit_at x same.bit) (sector_at done.array sector inside_now k h)))
        (λ f. let was = absent_now f in
        let a = appending was.0 in
        let again : wanted_mark now_image name ≡ wanted_names now_image (records_bytes true names) (name ∷ []) =
        mark_appends now_image name f ∙ ap (λ (l : List (List ℕ)). wanted_names now_image (records_bytes true l) (name ∷ [])) was.1 in
        appended_falls own wp chip sector names (name ∷ []) buffer after r bytes (plans was.0) good inside a done
        (rw (mark_appends image name was.0) at behind) (rw again at w)
        (ap length (sym again) ∙ mark_want_long now_image name long_now roomy_now))

    module _ (wp' : Bool) (buffer' after' : List ℕ) (r' : Planned) (again : NameMarks done.state wp' done.array sector name buffer' after' r') where
      abbrev own' : ℕ
      own' = mark_refusal done.state done.array sector name

      none' : own' ≡ 0
      none' = (mark_opened_exactly done.state done.array sector name).only_when opened_now

      fitting' : Fitting done.state done.array sector (wanted_mark now_image name)
      fitting' =
          let sized = mark_want_long now_image name long_now roomy_now in
          record { sound = ready.sound; sized = ready.sized; short = omega (arith, sized); fits = omega (arith, sized, inside_now, ready.sized) }

      answered' : PlanAnswered done.state wp' done.array sector (wanted_mark now_image name) buffer' after' r'
      answered' = unless_answered own' done.state wp' done.array sector (wanted_mark now_image name) buffer' after' r' again none'

      wanted_bytes' : Bytes (wanted_mark now_image name)
      wanted_bytes' = mark_bytes now_image name long_now bytes_now opened.good roomy_now

      no_8 : r'.number ≡ 8 → ⊥
      no_8 e = falls_now ((answered'.eight_exactly wanted_bytes').when e).rises

      no_20 : r'.number ≡ 20 → ⊥
      no_20 e =
          omega (arith, e, answered'.fitted fitting', fitting_few done.state wp' done.array sector (wanted_mark now_image name) (length buffer'))

      accepted_again : (done.state.bpl ≡ false) ⊎ (wp' ≡ true) → room_enough done.state ≤ length buffer' → r'.number ≡ 0
      accepted_again =
          unless_accepted own' done.state wp' done.array sector (wanted_mark now_image name) buffer' after' r' again none' wanted_bytes' fitting' falls_now ready.at_rest

    pub mark_goes_on : MarkGoesOn sector name done
    mark_goes_on = record { never_8 = no_8; never_20 = no_20; accepted = accepted_again }
