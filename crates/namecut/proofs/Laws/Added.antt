-- Both plans of a marking run to their end; and a marking with nothing left to do.
-- Assumes nothing.
use mathlib.Core.Path.{◌≡◌, sym, ap, ◌∙◌}
use mathlib.Core.Bool.{Bool, true, false}
use mathlib.Core.List.{List, [], ◌∷◌, ◌++◌}
use mathlib.Core.Logic.{inl}
use Prim.Native.Nat.{ℕ, ◌<◌}
use native.Mathlib.Omega.{arith}
use lib.ListN.{length, drop}
use lib.Seq.{ext_get_or}
use Rattle.common.specs.Bits.{Bytes}
use Rattle.common.proofs.Laws.Choice.{cases}
use Rattle.common.proofs.Laws.Each.{each_append}
use Rattle.state.specs.declared.Planned.{Planned}
use Rattle.promises.specs.Promises.{Device, NothingChanges}
use Rattle.names.specs.Records.{is_name, AllNames, names_of, records_bytes, padded}
use Rattle.names.specs.Search.{is_on}
use Rattle.names.proofs.Laws.Names.{names_split}
use Rattle.names.proofs.Laws.Padded.{padded_reads_back}
use Rattle.names.proofs.Laws.Walk.{records_append}
use Rattle.sectors.specs.Images.{sector_part, second_image, is_missing, wanted_names, wanted_mark}
use Rattle.flags.specs.Answers.{NameMarks}
use Rattle.namecut.specs.Leaves.{sector_names, BesideSector, MarkFinished, NameAdded}
use Rattle.sectors.proofs.Laws.Images.{sector_at, sector_long, wanted_second, mark_there, mark_appends}
use Rattle.namecut.proofs.Laws.Between.{finished_sector}
use Rattle.namecut.proofs.Laws.Grown.{Appending}
use Rattle.namecut.proofs.Laws.Again.{wanted_whole}
use Rattle.flags.proofs.Laws.Answers.{is_read_is}
use Rattle.namecut.proofs.Laws.Marking.{on_last, inside, want_long, mark_kept, appending, mark_answered, names_first, mark_beside}

-- one behind the other
beside_beside : {sector : ℕ} {first second third : List ℕ} → BesideSector sector first second → BesideSector sector second third → BesideSector sector first third
beside_beside p q = record {
  same_length = q.same_length ∙ p.same_length;
  same_beside = λ k h. q.same_beside k h ∙ p.same_beside k h;
}

-- names with one more, in a sector of their own
one_more : (names : List (List ℕ)) (name : List ℕ) → padded (records_bytes true names ++ records_bytes true (name ∷ [])) ≡ padded (records_bytes true (names ++ (name ∷ [])))
one_more names name = ap padded (sym (records_append true names (name ∷ [])))

read_back : (names : List (List ℕ)) (name : List ℕ) → AllNames names → is_name name ≡ true
    → names_of (second_image (records_bytes true names) (name ∷ [])) ≡ names ++ (name ∷ [])
read_back names name good_names good =
    ap names_of (one_more names name) ∙ padded_reads_back (names ++ (name ∷ [])) (each_append _ names (name ∷ []) good_names (good, tt))

module _ (wp : Bool) (chip : Device) (sector : ℕ) (name buffer after : List ℕ) (r : Planned) (bytes : Bytes chip.array)
    (marks : NameMarks chip.state wp chip.array sector name buffer after r) (good : r.number ≡ 0) where
  abbrev image : List ℕ
  image = sector_part chip.array sector

  abbrev names : List (List ℕ)
  names = names_of image

  abbrev there : List ℕ
  there = records_bytes true names

  abbrev lacking : Bool
  lacking = is_missing (records_bytes false (name ∷ [])) (drop (length there) image)

  -- a plan that is run to its end leaves the sector as wanted
  pub mark_finished : (done : Device) → MarkFinished wp chip sector name done → sector_part done.array sector ≡ wanted_mark image name
  mark_finished done finished =
      finished_sector (mark_kept wp chip sector name buffer after r bytes marks good) (inside wp chip sector name buffer after r bytes marks good)
      (want_long wp chip sector name buffer after r bytes marks good) done finished

  -- "called again until the length is 0": then the name has its record
  pub mark_done : r.length ≡ 0 → is_on name names ≡ true
  mark_done e =
      cases (is_on name names) (λ t. t)
      (λ f. let fits = inside wp chip sector name buffer after r bytes marks good in
      let same : NothingChanges chip.array sector (wanted_mark image name) = ((mark_answered wp chip sector name buffer after r bytes marks good).empty_exactly good).when e in
      let long = want_long wp chip sector name buffer after r bytes marks good in
      let as_wanted : image ≡ wanted_mark image name =
      ext_get_or 0 image (wanted_mark image name) (sector_long chip.array sector fits ∙ sym long)
      (λ k h. let l : k < 4096 = omega (arith, sector_long chip.array sector fits) in sector_at chip.array sector fits k l ∙ same k (omega (arith, long))) in
      let a = appending wp chip sector name buffer after r bytes marks good f in
      let whole : lacking ≡ false = ap (λ (l : List ℕ). is_missing (records_bytes false (name ∷ [])) (drop (length there) l)) (as_wanted ∙ mark_appends image name f) ∙ wanted_whole image names (name ∷ []) a in
      let second : image ≡ second_image there (name ∷ []) = as_wanted ∙ mark_appends image name f ∙ wanted_second image there (name ∷ []) whole in
      ap (is_on name) (ap names_of second ∙ read_back names name (names_split image).good a.good_new.0) ∙ on_last name names)

  -- both plans
  module _ (mid : Device) (finished : MarkFinished wp chip sector name mid) (absent : is_on name names ≡ false)
      (wp' : Bool) (buffer' after' : List ℕ) (r' : Planned) (bytes' : Bytes mid.array)
      (marks' : NameMarks mid.state wp' mid.array sector name buffer' after' r') (good' : r'.number ≡ 0)
      (done : Device) (finished' : MarkFinished wp' mid sector name done) where
    abbrev mid_image : List ℕ
    mid_image = sector_part mid.array sector

    a : Appending image names (name ∷ [])
    a = appending wp chip sector name buffer after r bytes marks good absent

    good_name : is_name name ≡ true
    good_name = a.good_new.0

    mid_is : mid_image ≡ wanted_names image there (name ∷ [])
    mid_is = mark_finished mid finished ∙ mark_appends image name absent

    -- whichever plan was the first, the sector then has both
    second_wanted : wanted_mark mid_image name ≡ second_image there (name ∷ [])
    second_wanted =
        cases lacking
        (λ t. let same : names_of mid_image ≡ names = names_first wp chip sector name buffer after r bytes marks good mid (inl finished) absent t in
        mark_appends mid_image name (ap (is_on name) same ∙ absent)
        ∙ ap (λ (l : List (List ℕ)). wanted_names mid_image (records_bytes true l) (name ∷ [])) same
        ∙ wanted_second mid_image there (name ∷ [])
        (ap (λ (l : List ℕ). is_missing (records_bytes false (name ∷ [])) (drop (length there) l)) mid_is ∙ wanted_whole image names (name ∷ []) a))
        (λ w. let is : mid_image ≡ second_image there (name ∷ []) = mid_is ∙ wanted_second image there (name ∷ []) w in
        mark_there mid_image name (ap (is_on name) (ap names_of is ∙ read_back names name (names_split image).good good_name) ∙ on_last name names) ∙ is)

    pub mark_adds : NameAdded sector name chip.array done.array
    mark_adds =
        let is : sector_part done.array sector ≡ second_image there (name ∷ []) =
        finished_sector (mark_kept wp' mid sector name buffer' after' r' bytes' marks' good') (inside wp' mid sector name buffer' after' r' bytes' marks' good')
        (want_long wp' mid sector name buffer' after' r' bytes' marks' good') done finished' ∙ second_wanted in
        let now : sector_names done.array sector ≡ names ++ (name ∷ []) = ap names_of is ∙ read_back names name (names_split image).good good_name in
        record {
          sector_is = is ∙ one_more names name;
          names_are = now;
          read = is_read_is done.array sector name ∙ ap (is_on name) now ∙ on_last name names;
          beside = beside_beside (mark_beside wp chip sector name buffer after r bytes marks good mid (inl finished))
              (mark_beside wp' mid sector name buffer' after' r' bytes' marks' good' done (inl finished'));
        }
