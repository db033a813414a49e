-- Salvaging: the call's numbers are its table's, and its two buffers say what the request says of the sector.
-- Assumes nothing.
use mathlib.Core.Path.{◌≡◌, refl, sym, ap, ◌∙◌}
use mathlib.Core.Bool.{true, not}
use mathlib.Core.List.{List, [], ◌∷◌, ◌++◌}
use Prim.Native.Nat.{ℕ, suc, ◌+◌, ◌-◌, ◌≤◌, ◌<◌}
use native.Mathlib.Nat.{add-zero, div-add-mod'}
use native.Mathlib.Omega.{arith}
use lib.Dec.{eqb, leb}
use lib.ListN.{length, get_or, take, drop, length-append, length-drop, length-take, take-append-drop}
use lib.Seq.{get_or-take, get_or-drop, drop-cons, take-append_seam, drop-append_seam, length-take-le}
use borrow.Author.Tests.{le-leb, leb-true}
use Rattle.common.specs.Bits.{bit}
use Rattle.common.specs.Buffer.{written}
use Rattle.common.specs.Lists.{within, Each}
use Rattle.common.proofs.Laws.Booleans.{and_l, and_r, and_i}
use Rattle.common.proofs.Laws.Buffer.{written_front}
use Rattle.common.proofs.Laws.Places.{within_yes}
use Rattle.names.specs.Records.{is_name_byte, is_name, none, item, front, record_bytes, records_bytes, padded}
use Rattle.names.proofs.Laws.Front.{name_least, name_most, name_all, name_made, all_exactly, front_exactly}
use Rattle.salvage.specs.declared.Salvaged.{Salvaged}
use Rattle.salvage.specs.Pieces.{Piece, kept, dropped, pieces_of, used_length, kept_names, kept_bytes, Stretch, stretches_from, list_bytes, dropped_bytes}
use Rattle.salvage.specs.Divided.{holding, EachPiece, Right, Behind, Apart}
use Rattle.salvage.specs.Answers.{salvage_refusals, salvage_refusal, salvaged_of, Salvages}
use Rattle.salvage.proofs.Laws.Divided.{divided}
use Rattle.salvage.proofs.Laws.Answers.{refusal_of, never_10, opened, number_is}
use Rattle.salvage.proofs.Laws.Again.{salvaged_reads_back, names_survive, again_kept, again_dropped, unhurt_same}
use Rattle.rules.specs.Salvage.{GoodRecord, holders, BeginsFrom, Rising, bytes_of, Listed, SectorSalvaged, SalvageCall, SalvageRules}
use Rattle.rules.proofs.Laws.Tests.{means_equal, means_less, means_not, means_or}
use Rattle.rules.proofs.Laws.Numbered.{row, numbered}
use Rattle.rules.proofs.Laws.Salvaged.{salvaged_only}

-- ---- a record by its places

-- whose bytes are there
module _ (sector : List ℕ) (at : ℕ) (name : List ℕ) (good : is_name name ≡ true) (is : take (3 + length name) (drop at sector) ≡ record_bytes true name) where
  record_whole : at + (3 + length name) ≤ length sector
  record_whole = omega (arith, ap length is, length-take (3 + length name) (drop at sector), length-drop at sector, name_least name good)

  record_byte : (i : ℕ) → i < 3 + length name → get_or sector (at + i) 0 ≡ get_or (record_bytes true name) i 0
  record_byte i h =
      sym (get_or-drop at sector i 0) ∙ sym (get_or-take (3 + length name) (drop at sector) i 0 h) ∙ ap (λ (l : List ℕ). get_or l i 0) is

  pub good_record : GoodRecord sector at (3 + length name)
  good_record = record {
    whole = record_whole;
    first = ap (λ (k : ℕ). get_or sector k 0) (sym (add-zero at)) ∙ record_byte 0 (omega arith);
    second = record_byte 1 (omega arith);
    length_is = ap (λ (n : ℕ). 3 + n) (record_byte 2 (omega arith));
    least = rw (record_byte 2 (omega arith)) (name_least name good);
    most = rw (record_byte 2 (omega arith)) (name_most name good);
    name = λ i from below. byte i from below;
  }
    where
      byte : (i : ℕ) → 3 ≤ i → i < 3 + length name → (0x20 ≤ get_or sector (at + i) 0) × (get_or sector (at + i) 0 ≤ 0x7e)
      byte i from below =
          let j : ℕ = i - 3 in
          let there : i ≡ suc (suc (suc j)) = omega arith in
          let same : get_or sector (at + i) 0 ≡ get_or name j 0 = record_byte i below ∙ ap (λ (k : ℕ). get_or (record_bytes true name) k 0) there in
          let test = (all_exactly name).when (name_all name good) j (omega arith) in (
            rw same (leb-true 0x20 (get_or name j 0) (and_l (leb 0x20 (get_or name j 0)) (leb (get_or name j 0) 0x7e) test)),
            rw same (leb-true (get_or name j 0) 0x7e (and_r (leb 0x20 (get_or name j 0)) (leb (get_or name j 0) 0x7e) test)),
          )

-- and one that stands by its places is found
module _ (sector : List ℕ) (at n : ℕ) (g : GoodRecord sector at n) where
  abbrev m : ℕ
  m = get_or sector (at + 2) 0

  abbrev behind : List ℕ
  behind = drop (at + 3) sector

  abbrev name : List ℕ
  name = take m behind

  name_long : length name ≡ m
  name_long = length-take-le m behind (omega (arith, length-drop (at + 3) sector, g.whole, g.length_is))

  name_byte : (i : ℕ) → i < length name → is_name_byte (get_or name i 0) ≡ true
  name_byte i h =
      let byte : get_or name i 0 ≡ get_or sector (at + (3 + i)) 0 =
      get_or-take m behind i 0 (omega (arith, name_long)) ∙ get_or-drop (at + 3) sector i 0 ∙ ap (λ (k : ℕ). get_or sector k 0) (assoc i) in
      let b = g.name (3 + i) (omega arith) (omega (arith, name_long, g.length_is)) in
      rw byte (and_i (le-leb 0x20 (get_or sector (at + (3 + i)) 0) b.0) (le-leb (get_or sector (at + (3 + i)) 0) 0x7e b.1))
    where
      assoc : (i : ℕ) → at + 3 + i ≡ at + (3 + i)
      assoc i = omega arith

  name_good : is_name name ≡ true
  name_good = name_made name (omega (arith, name_long, g.least)) (omega (arith, name_long, g.most)) ((all_exactly name).only_when name_byte)

  opened_at : drop at sector ≡ 0x4e ∷ 0x52 ∷ m ∷ behind
  opened_at =
      let inside = g.whole in
      let two : suc at ≡ at + 1 = omega arith in
      let three : suc (at + 1) ≡ at + 2 = omega arith in
      let four : suc (at + 2) ≡ at + 3 = omega arith in
      let least = g.least in
      let long = g.length_is in
      drop-cons sector at 0 (omega arith) ∙ rw (g.first, two, drop-cons sector (at + 1) 0 (omega arith), g.second, three, drop-cons sector (at + 2) 0 (omega arith), four) refl

  pub good_found : front (drop at sector) ≡ none → ⊥
  good_found e =
      let is : drop at sector ≡ record_bytes true name ++ drop m behind = opened_at ∙ rw (name_long, take-append-drop m behind) refl in
      let clash : none ≡ item name (drop m behind) = sym e ∙ (front_exactly (drop at sector) name (drop m behind)).only_when record { good = name_good; is = is } in
      let z : ◌≡◌ {A = ℕ} 0 1 = cc in omega arith

-- ---- kept pieces as stretches

unfoldable records_from : ℕ → List Piece → List Stretch
records_from at [] = []
records_from at (kept name ∷ pieces) = record { start = at; count = 3 + length name } ∷ records_from (at + (3 + length name)) pieces
records_from at (dropped n ∷ pieces) = records_from (at + n) pieces

module _ (sector : List ℕ) where
  records_good : (at : ℕ) (pieces : List Piece) → EachPiece (Right sector) at pieces → Each (λ s. GoodRecord sector s.start s.count) (records_from at pieces)
  unfolding records_from
  records_good at [] r = tt
  records_good at (kept name ∷ pieces) r = (good_record sector at name r.0.0 r.0.1, records_good (at + (3 + length name)) pieces r.1)
  records_good at (dropped n ∷ pieces) r = records_good (at + n) pieces r.1

  stretches_nothing : (at : ℕ) (pieces : List Piece) → EachPiece (Right sector) at pieces
      → Each (λ s. (k n : ℕ) → s.start ≤ k → k < s.start + s.count → GoodRecord sector k n → ⊥) (stretches_from at pieces)
  unfolding stretches_from
  stretches_nothing at [] r = tt
  stretches_nothing at (kept name ∷ pieces) r = stretches_nothing (at + (3 + length name)) pieces r.1
  stretches_nothing at (dropped m ∷ pieces) r =
      ((λ k n from below g. good_found sector k n g (r.0 k (within_yes at m k from below))), stretches_nothing (at + m) pieces r.1)

  records_bytes_lem : (at : ℕ) (pieces : List Piece) → EachPiece (Right sector) at pieces → bytes_of sector (records_from at pieces) ≡ records_bytes true (kept_names pieces)
  unfolding records_from bytes_of kept_names records_bytes
  records_bytes_lem at [] r = refl
  records_bytes_lem at (kept name ∷ pieces) r = rw (r.0.1, records_bytes_lem (at + (3 + length name)) pieces r.1) refl
  records_bytes_lem at (dropped n ∷ pieces) r = records_bytes_lem (at + n) pieces r.1

records_from_lem : (at from : ℕ) (pieces : List Piece) → at ≤ from → BeginsFrom at (records_from from pieces)
unfolding records_from
records_from_lem at from [] h = tt
records_from_lem at from (kept name ∷ pieces) h = h
records_from_lem at from (dropped n ∷ pieces) h = records_from_lem at (from + n) pieces (omega arith)

records_rise : (at : ℕ) (pieces : List Piece) → Rising 0 (records_from at pieces)
unfolding records_from
records_rise at [] = tt
records_rise at (kept name ∷ pieces) =
    (records_from_lem (at + (3 + length name) + 0) (at + (3 + length name)) pieces (omega arith), records_rise (at + (3 + length name)) pieces)
records_rise at (dropped n ∷ pieces) = records_rise (at + n) pieces

-- ---- dropped ones

stretches_rise : (stretches : List Stretch) → Apart stretches → Rising 1 stretches
stretches_rise [] a = tt
stretches_rise (s ∷ stretches) a = (next stretches a.1.0, stretches_rise stretches a.1.1)
  where
    next : (others : List Stretch) → Behind (s.start + s.count) others → BeginsFrom (s.start + s.count + 1) others
    next [] b = tt
    next (t ∷ others) b = omega arith

stretches_some : (stretches : List Stretch) → Apart stretches → Each (λ s. 0 < s.count) stretches
stretches_some [] a = tt
stretches_some (s ∷ stretches) a = (a.0, stretches_some stretches a.1.1)

list_says : (stretches : List Stretch) → Listed (list_bytes stretches) stretches
unfolding list_bytes
list_says [] = refl
list_says (s ∷ stretches) = (omega arith, (div-add-mod' s.start 256, (div-add-mod' s.count 256, list_says stretches)))

-- ---- each place once

held : (k at : ℕ) (pieces : List Piece) → holders k (records_from at pieces) + holders k (stretches_from at pieces) ≡ holding k at pieces
unfolding holders records_from stretches_from holding
held k at [] = refl
held k at (kept name ∷ pieces) = omega (arith, held k (at + (3 + length name)) pieces)
held k at (dropped n ∷ pieces) = omega (arith, held k (at + n) pieces)

-- ---- the sector

salvaged : (sector : List ℕ) → length sector ≡ 4096 → SectorSalvaged sector (padded (kept_bytes sector)) (length (kept_bytes sector)) (dropped_bytes sector)
unfolding kept_bytes dropped_bytes padded
salvaged sector sized =
    let d = divided sector in
    let pieces : List Piece = pieces_of sector in
    let bytes = records_bytes_lem sector 0 pieces d.pieces_right in
    record {
      records = records_from 0 pieces;
      stretches = stretches_from 0 pieces;
      used = used_length sector;
      good = records_good sector 0 pieces d.pieces_right;
      none_missed = stretches_nothing sector 0 pieces d.pieces_right;
      in_order = records_rise 0 pieces;
      size_is = ap length (sym bytes);
      written = rw bytes refl;
      rising = stretches_rise (stretches_from 0 pieces) d.stretches_apart;
      none_empty = stretches_some (stretches_from 0 pieces) d.stretches_apart;
      listed = list_says (stretches_from 0 pieces);
      covered = λ k.
          ap (λ (n : ℕ). n + bit (within (used_length sector) (4096 - used_length sector) k) 1) (held k 0 pieces) ∙ rw sized at (d.covered_once k);
      inside = omega (arith, d.inside, sized);
      trailing = λ k from below. d.tail_erased k from (omega arith);
      no_more = λ k e q. d.before_tail k (omega arith) q;
    }

-- ---- the call

module _ (sector kept₀ dropped₀ kept_after dropped_after : List ℕ) (r : Salvaged) (s : Salvages sector kept₀ dropped₀ kept_after dropped_after r) where
  number : r.number ≡ salvage_refusal sector kept₀ dropped₀
  number = number_is sector kept₀ dropped₀ kept_after dropped_after r s

  -- an accepted call's
  module _ (done : r.number ≡ 0) where
    is : (r ≡ salvaged_of sector) × ((kept_after ≡ padded (kept_bytes sector)) × (dropped_after ≡ written 0 (dropped_bytes sector) dropped₀))
    is = s.salvaged (sym number ∙ done)

    listed_length : r.length ≡ length (dropped_bytes sector)
    listed_length = ap (λ (a : Salvaged). a.length) is.0

    laid : dropped_after ≡ dropped_bytes sector ++ drop (length (dropped_bytes sector)) dropped₀
    laid = is.1.1 ∙ written_front (dropped_bytes sector) dropped₀

    list_is : take r.length dropped_after ≡ dropped_bytes sector
    list_is = rw (listed_length, laid) (take-append_seam (dropped_bytes sector) (drop (length (dropped_bytes sector)) dropped₀))

    call_salvaged : SectorSalvaged sector kept_after r.kept (take r.length dropped_after)
    call_salvaged =
        let size : r.kept ≡ length (kept_bytes sector) = ap (λ (a : Salvaged). a.kept) is.0 in
        rw (list_is, size, is.1.0) (salvaged sector (opened sector kept₀ dropped₀ (sym number ∙ done)).sectors_sized)

    rest_untouched : (length dropped_after ≡ length dropped₀) × (drop r.length dropped_after ≡ drop r.length dropped₀)
    rest_untouched =
        let rest : List ℕ = drop (length (dropped_bytes sector)) dropped₀ in (
          omega (
            arith,
            ap length laid,
            length-append (dropped_bytes sector) rest,
            length-drop (length (dropped_bytes sector)) dropped₀,
            (opened sector kept₀ dropped₀ (sym number ∙ done)).list_fits,
          ),
          rw (listed_length, laid) (drop-append_seam (dropped_bytes sector) rest),
        )

  salvage_call : SalvageCall sector kept₀ dropped₀ kept_after dropped_after r
  salvage_call = record {
    numbers = numbered (salvage_refusals sector kept₀ dropped₀) _ r.number refl (number ∙ refusal_of sector kept₀ dropped₀)
        (row (means_or (not (eqb (length sector) 4096)) (not (eqb (length kept₀) 4096))
        (means_not (eqb (length sector) 4096) (means_equal (length sector) 4096)) (means_not (eqb (length kept₀) 4096) (means_equal (length kept₀) 4096))) (λ _. refl)
        (λ _. row (means_less (length dropped₀) (length (dropped_bytes sector))) (λ _. refl) (λ _. tt)));
    refusal_keeps = λ h. s.refused r.number h (sym number);
    salvaged = call_salvaged;
    length_is = listed_length;
    rest_untouched = rest_untouched;
    room_enough_lem = λ room e. never_10 sector kept₀ dropped₀ room (sym number ∙ e);
    unhurt = λ done none.
        (is done).1.0 ∙ unhurt_same sector (opened sector kept₀ dropped₀ (sym number ∙ done)).sectors_sized (sym (listed_length done) ∙ none);
    names_kept = λ done. rw ((is done).1.0, salvaged_reads_back sector) (names_survive sector);
  }

pub salvage_rules : SalvageRules
salvage_rules = record {
  only = λ sector kept₀ kept₁ list list₁ size size₁ sized. salvaged_only sector sized kept₀ kept₁ list list₁ size size₁;
  call = salvage_call;
  again = λ sector kept₀ dropped₀ kept_after dropped_after r s done kept₂ dropped₂ kept_after₂ dropped_after₂ r₂ s₂ done₂.
      let first : kept_after ≡ padded (kept_bytes sector) = (is sector kept₀ dropped₀ kept_after dropped_after r s done).1.0 in
      let second = is kept_after kept₂ dropped₂ kept_after₂ dropped_after₂ r₂ s₂ done₂ in (
        second.1.0 ∙ ap (λ (l : List ℕ). padded (kept_bytes l)) first ∙ ap padded (again_kept sector) ∙ sym first,
        listed_length kept_after kept₂ dropped₂ kept_after₂ dropped_after₂ r₂ s₂ done₂
            ∙ ap (λ (l : List ℕ). length (dropped_bytes l)) first ∙ ap length (again_dropped sector),
      );
}
