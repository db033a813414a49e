-- Flags by name: what a marking, a move and the way back want is what the request says of the sector, and it fixes it.
-- Assumes nothing.
use mathlib.Core.Path.{◌≡◌, refl, sym, ap, ◌∙◌}
use mathlib.Core.Bool.{Bool, true, false, cond, not}
use mathlib.Core.List.{List, [], ◌∷◌, ◌++◌}
use mathlib.Core.Logic.{⊎_elim}
use Prim.Native.Nat.{ℕ, suc, ◌+◌, ◌*◌, ◌/◌, ◌%◌, ◌<◌}
use native.Mathlib.Omega.{arith}
use lib.Dec.{ltb}
use lib.ListN.{length, get_or, length-append, get_or-eq_default}
use lib.Seq.{ext_get_or}
use borrow.Author.Tests.{ltb-false}
use Rattle.common.specs.Bits.{bit_at}
use Rattle.common.specs.Refusals.{Exactly}
use Rattle.common.proofs.Laws.Bits.{bit_lt, bits_ext}
use Rattle.common.proofs.Laws.Booleans.{and_off, not_i}
use Rattle.common.proofs.Laws.Choice.{cases}
use Rattle.common.proofs.Laws.Lists.{split, get_d_front}
use Rattle.book.specs.Book.{is_read}
use Rattle.book.proofs.Laws.Read.{read_is}
use Rattle.names.specs.Records.{is_name, AllNames, names_of, records_bytes}
use Rattle.names.specs.Search.{is_on}
use Rattle.names.proofs.Laws.Names.{names_split}
use Rattle.names.proofs.Laws.Walk.{records_append, records_one}
use Rattle.namelist.specs.Listed.{listed, names_in, Good}
use Rattle.sectors.specs.Images.{sector_part, wanted_mark}
use Rattle.sectors.specs.Moves.{read_names, moved_names, are_too_long, wanted_move, wanted_back}
use Rattle.sectors.proofs.Laws.Images.{mark_there, mark_appends}
use Rattle.sectors.proofs.Laws.There.{read_names_none, read_names_first, read_names_later, read_names_good, move_wants}
use Rattle.sectors.proofs.Laws.Back.{nothing_on, back_long, back_behind, back_bytes, back_bit}
use Rattle.namechecks.specs.Refusals.{is_full}
use Rattle.rules.specs.Book.{flag}
use Rattle.rules.specs.FlagsWanted.{sector_bytes, Member, records_length, Wants, MarkWants, picked_names, MoveWants, BackWants}
use Rattle.rules.proofs.Laws.FlagsRead.{sector_part_lem, means_member, means_no_member, names_are, sector_names_are, names_only, list_exactly, list_only, records_measure}
use Rattle.rules.proofs.Laws.FlagsWanted.{wants_made, wants_only}

-- ---- a marking

-- one record more
pub measure_more : (names : List (List ℕ)) (name : List ℕ) → length (records_bytes true (names ++ (name ∷ []))) ≡ records_length names + (3 + length name)
measure_more names name =
    omega (
      arith,
      ap length (records_append true names (name ∷ [])),
      length-append (records_bytes true names) (records_bytes true (name ∷ [])),
      ap length (records_one true name),
      records_measure names,
    )

module _ (image name : List ℕ) where
  abbrev there : List (List ℕ)
  there = names_of image

  abbrev records : List ℕ
  records = records_bytes true there

  appended_wants : length image ≡ 4096 → is_name name ≡ true → is_full there name ≡ false → is_on name there ≡ false
      → Wants image (records_length there) (name ∷ []) (wanted_mark image name)
  appended_wants sized good roomy absent =
      let fits = ltb-false 4096 (length (records_bytes true (there ++ (name ∷ [])))) (and_off (not (is_on name there)) (ltb 4096 (length (records_bytes true (there ++ (name ∷ []))))) roomy (not_i (is_on name there) absent)) in
      let s = names_split image in
      let begins : (k : ℕ) → k < length records → get_or image k 0 ≡ get_or records k 0 =
      λ k h. ap (λ (l : List ℕ). get_or l k 0) s.is ∙ get_d_front records s.rest k h in
      rw (mark_appends image name absent, ← records_measure there)
      (wants_made image records (name ∷ []) sized (good, tt) (omega (arith, fits, measure_more there name, records_measure there, ap length (records_one true name))) begins)

  pub mark_wants : length image ≡ 4096 → is_name name ≡ true → is_full there name ≡ false → MarkWants image name (wanted_mark image name)
  mark_wants sized good roomy = record {
    names = there;
    names_are = names_are image;
    there = λ m. mark_there image name ((means_member name there).only_when m);
    appended = λ never. appended_wants sized good roomy ((means_no_member name there).only_when never);
  }

pub mark_wants_only : (bytes name w w₂ : List ℕ) → MarkWants bytes name w → MarkWants bytes name w₂ → w ≡ w₂
mark_wants_only bytes name w w₂ p q =
    let same : q.names ≡ p.names = names_only bytes 0 q.names p.names q.names_are p.names_are in
    cases (is_on name p.names)
    (λ t. let m = (means_member name p.names).when t in p.there m ∙ sym (q.there (rw same m)))
    (λ f. let never = (means_no_member name p.names).when f in
    let other : Wants bytes (records_length p.names) (name ∷ []) w₂ = rw same at (q.appended (rw same never)) in
    wants_only bytes (records_length p.names) (name ∷ []) w w₂ (p.appended never) other)

-- ---- a move

-- the names of the read scenes
pub picked_is : (array : List ℕ) (book scene : ℕ) (names : List (List ℕ)) → picked_names (flag array book) scene names ≡ read_names (is_read array book) scene names
picked_is array book scene [] = sym (read_names_none (is_read array book) scene)
picked_is array book scene (name ∷ names) =
    let others = picked_is array book (suc scene) names in
    cases (is_read array book scene)
    (λ t. rw (sym (read_is array book scene) ∙ t, read_names_first (is_read array book) scene name names t, others) refl)
    (λ f. rw (sym (read_is array book scene) ∙ f, read_names_later (is_read array book) scene name names f) others)

pub moved_is : (array : List ℕ) (book : ℕ) (list : List ℕ) → picked_names (flag array book) 0 (names_in (listed list)) ≡ moved_names array book list
moved_is array book list = picked_is array book 0 (names_in (listed list))

module _ (array : List ℕ) (book sector : ℕ) (list : List ℕ) where
  pub move_wants_it : length (sector_part array sector) ≡ 4096 → Good list → are_too_long (moved_names array book list) ≡ false
      → MoveWants array book sector list (wanted_move (sector_part array sector) (is_read array book) (names_in (listed list)))
  move_wants_it sized good roomy =
      let moved : List (List ℕ) = moved_names array book list in
      record {
        names = names_in (listed list);
        good_list = (list_exactly list (names_in (listed list))).only_when good;
        wants =
            rw (moved_is array book list, sector_part_lem array sector, move_wants (sector_part array sector) (is_read array book) (names_in (listed list)))
            (wants_made (sector_part array sector) [] moved sized (read_names_good (is_read array book) 0 (names_in (listed list)) good.good)
            (omega (arith, ltb-false 4096 (length (records_bytes true moved)) roomy)) (λ k h. absurd (omega arith)));
      }

  pub move_wants_only : (w w₂ : List ℕ) → MoveWants array book sector list w → MoveWants array book sector list w₂ → w ≡ w₂
  move_wants_only w w₂ p q =
      let same : q.names ≡ p.names = list_only list q.names p.names q.good_list p.good_list in
      let picked : List (List ℕ) = picked_names (flag array book) 0 p.names in
      let other : Wants (sector_bytes array sector) 0 picked w₂ = rw same at q.wants in
      wants_only (sector_bytes array sector) 0 picked w w₂ p.wants other

-- ---- the way back

module _ (records names : List (List ℕ)) (good : AllNames records) (scene : ℕ) (below : scene < 4096) where
  abbrev on : Bool
  on = is_on (get_or names scene []) records

  scene_bit : flag (wanted_back records names) 0 scene ≡ cond on 0 1
  scene_bit =
      let here : 0 + scene / 8 ≡ scene / 8 = omega arith in
      ap (λ (k : ℕ). bit_at (get_or (wanted_back records names) k 0) (scene % 8)) here ∙ back_bit names records good scene below

  -- no name past the list is among the records
  on_inside : on ≡ true → scene < length names
  on_inside t =
      ⊎_elim (λ h. h)
      (λ h. let past : on ≡ false = ap (λ (n : List ℕ). is_on n records) (get_or-eq_default names [] {n = scene} h) ∙ nothing_on records good in
      let clash : true ≡ false = sym t ∙ past in
      let z : ◌≡◌ {A = ℕ} 0 1 = cc in absurd (omega arith))
      (split scene (length names))

  back_read : Exactly (flag (wanted_back records names) 0 scene ≡ 0) ((scene < length names) × Member (get_or names scene []) records)
  back_read = record {
    when = λ z. cases on (λ t. (on_inside t, (means_member (get_or names scene []) records).when t)) (λ f. absurd (omega (arith, z, scene_bit ∙ ap (λ (t : Bool). cond t 0 1) f)));
    only_when = λ m. scene_bit ∙ ap (λ (t : Bool). cond t 0 1) ((means_member (get_or names scene []) records).only_when m.1);
  }

  back_unread : Exactly (flag (wanted_back records names) 0 scene ≡ 1) ((scene < length names) × Member (get_or names scene []) records → ⊥)
  back_unread = record {
    when = λ o m. omega (arith, o, back_read.only_when m);
    only_when = λ never. cases on (λ t. absurd (never (on_inside t, (means_member (get_or names scene []) records).when t))) (λ f. scene_bit ∙ ap (λ (t : Bool). cond t 0 1) f);
  }

pub back_wants : (array : List ℕ) (sector : ℕ) (list : List ℕ) → Good list
    → BackWants array sector list (wanted_back (names_of (sector_part array sector)) (names_in (listed list)))
back_wants array sector list good =
    let records : List (List ℕ) = names_of (sector_part array sector) in
    let names : List (List ℕ) = names_in (listed list) in
    let all : AllNames records = (names_split (sector_part array sector)).good in
    record {
      records = records;
      records_are = sector_names_are array sector;
      names = names;
      good_list = (list_exactly list names).only_when good;
      long = back_long names records;
      bytes = back_bytes names records;
      read = back_read records names all;
      unread = back_unread records names all;
      erased = back_behind names records;
    }

abbrev Read : List (List ℕ) → List (List ℕ) → ℕ → Type 0
Read names records scene = (scene < length names) × Member (get_or names scene []) records

pub back_wants_only : (array : List ℕ) (sector : ℕ) (list w w₂ : List ℕ) → BackWants array sector list w → BackWants array sector list w₂ → w ≡ w₂
back_wants_only array sector list w w₂ p q =
    ext_get_or 0 w w₂ (p.long ∙ sym q.long)
    (λ k h. ⊎_elim (λ l. bits_ext 8 (get_or w k 0) (get_or w₂ k 0) (p.bytes k) (q.bytes k) (λ b c. same_bit k b l c))
    (λ l. p.erased k l (omega (arith, h, p.long)) ∙ sym (q.erased k l (omega (arith, h, p.long)))) (split k 512))
  where
    records_same : p.records ≡ q.records
    records_same = names_only (sector_bytes array sector) 0 p.records q.records p.records_are q.records_are

    names_same : p.names ≡ q.names
    names_same = list_only list p.names q.names p.good_list q.good_list

    same_flag : (scene : ℕ) → scene < 4096 → flag w 0 scene ≡ flag w₂ 0 scene
    same_flag scene below =
        ⊎_elim
        (λ h. let zero : flag w 0 scene ≡ 0 = omega (arith, h) in
        let r : Read q.names q.records scene = rw (names_same, records_same) at ((p.read scene below).when zero) in
        zero ∙ sym ((q.read scene below).only_when r))
        (λ h. let one : flag w 0 scene ≡ 1 = omega (arith, h, bit_lt (get_or w (0 + scene / 8) 0) (scene % 8)) in
        let never : Read q.names q.records scene → ⊥ = rw (names_same, records_same) at ((p.unread scene below).when one) in
        one ∙ sym ((q.unread scene below).only_when never))
        (split (flag w 0 scene) 1)

    same_bit : (k b : ℕ) → k < 512 → b < 8 → bit_at (get_or w k 0) b ≡ bit_at (get_or w₂ k 0) b
    same_bit k b l c =
        let byte : 0 + (k * 8 + b) / 8 ≡ k = omega arith in
        let digit : (k * 8 + b) % 8 ≡ b = omega arith in
        rw (byte, digit) at (same_flag (k * 8 + b) (omega arith))
