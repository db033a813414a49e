-- What the call answers: as a refusal and where there is none, and that two answers to one call are equal.
-- Assumes nothing.
use mathlib.Core.Path.{◌≡◌, refl, sym, ap, ◌∙◌}
use mathlib.Core.Bool.{true, false, not, ◌||◌}
use mathlib.Core.List.{List}
use Prim.Native.Nat.{ℕ, ◌≤◌, ◌<◌}
use native.Mathlib.Omega.{arith}
use native.Mathlib.Decide.{ℕ_discrete}
use lib.Dec.{eqb}
use lib.ListN.{length}
use borrow.Author.Tests.{eqb-true, not-false, ltb-true, ltb-false, lt-ltb, le-ltb}
use Rattle.common.specs.Buffer.{written}
use Rattle.common.specs.Lists.{mapi, on_run}
use Rattle.common.specs.Refusals.{wrong_array, buffer_too_short, first_of}
use Rattle.common.proofs.Laws.Booleans.{or_none_l, or_none_r}
use Rattle.common.proofs.Laws.Refusals.{clear, given_exactly}
use Rattle.names.specs.Records.{records_bytes, padded}
use Rattle.names.proofs.Laws.Padded.{padded_filled}
use Rattle.salvage.specs.Pieces.{pieces_in, used_part, pieces_of, kept_names, kept_bytes, stretches_from, list_bytes, dropped_bytes}
use Rattle.salvage.specs.Walk.{PiecesPut}
use Rattle.salvage.specs.Answers.{salvage_refusals, salvage_refusal, refused_salvage, salvaged_of, Salvages}
use Rattle.salvage.specs.declared.Salvaged.{Salvaged}
use Rattle.salvage.proofs.Laws.Used.{used_is, used_part_length}
use Rattle.salvage.proofs.Laws.Apart.{list_most}
use Rattle.salvage.proofs.Laws.Kept.{records_fit}

-- ---- how long both parts can be

pub kept_most : (sector : List ℕ) → length (kept_bytes sector) ≤ length sector
unfolding kept_bytes pieces_of
kept_most sector = omega (arith, records_fit (used_part sector), used_part_length sector, (used_is sector).inside)

-- "a list of this length never meets refusal 10"
pub room_enough_lem : (sector : List ℕ) → length sector ≤ 4096 → length (dropped_bytes sector) ≤ 3280
unfolding dropped_bytes pieces_of
room_enough_lem sector h = list_most (used_part sector) (omega (arith, used_part_length sector, (used_is sector).inside))

-- the used bytes, as the walks are lent them
module _ (sector used : List ℕ) (used_are : used ≡ used_part sector) where
  pub used_most : length sector ≡ 4096 → length used ≤ 4096
  used_most h = omega (arith, ap length used_are, used_part_length sector, (used_is sector).inside)

  pub list_is : list_bytes (stretches_from 0 (pieces_in used)) ≡ dropped_bytes sector
  unfolding dropped_bytes pieces_of
  list_is = rw used_are refl

  records_are : records_bytes true (kept_names (pieces_in used)) ≡ kept_bytes sector
  unfolding kept_bytes pieces_of
  records_are = rw used_are refl

-- ---- of one call

module _ (sector kept dropped : List ℕ) where
  -- ---- its number, by the tests of the code

  pub refusal_of : salvage_refusal sector kept dropped ≡ first_of (salvage_refusals sector kept dropped)
  unfolding salvage_refusal
  refusal_of = refl

  pub refused_2 : not (eqb (length sector) 4096) || not (eqb (length kept) 4096) ≡ true → salvage_refusal sector kept dropped ≡ wrong_array
  unfolding salvage_refusal
  refused_2 h = rw h refl

  module _ (sized : not (eqb (length sector) 4096) || not (eqb (length kept) 4096) ≡ false) where
    pub refused_10 : length dropped < length (dropped_bytes sector) → salvage_refusal sector kept dropped ≡ buffer_too_short
    unfolding salvage_refusal
    refused_10 h = rw (sized, lt-ltb (length dropped) (length (dropped_bytes sector)) h) refl

    pub accepted : length (dropped_bytes sector) ≤ length dropped → salvage_refusal sector kept dropped ≡ 0
    unfolding salvage_refusal
    accepted h = rw (sized, le-ltb (length dropped) (length (dropped_bytes sector)) h) refl

    pub sector_sized : length sector ≡ 4096
    sector_sized =
        eqb-true (length sector) 4096 (not-false (eqb (length sector) 4096) (or_none_l (not (eqb (length sector) 4096)) (not (eqb (length kept) 4096)) sized))

    pub kept_sized : length kept ≡ 4096
    kept_sized =
        eqb-true (length kept) 4096 (not-false (eqb (length kept) 4096) (or_none_r (not (eqb (length sector) 4096)) (not (eqb (length kept) 4096)) sized))

  -- 3,280 bytes are never too few
  pub never_10 : 3280 ≤ length dropped → salvage_refusal sector kept dropped ≡ buffer_too_short → ⊥
  never_10 room e =
      let g = (given_exactly (salvage_refusals sector kept dropped) buffer_too_short (omega arith)).when (sym refusal_of ∙ e) in
      omega (arith, ltb-true (length dropped) (length (dropped_bytes sector)) g.1, room_enough_lem sector (omega (arith, sector_sized g.0)))

  -- no refusal holds
  pub record Opened : Type 0 where
    pub sectors_sized : length sector ≡ 4096
    pub buffer_sized : length kept ≡ 4096
    pub list_fits : length (dropped_bytes sector) ≤ length dropped

  pub opened : salvage_refusal sector kept dropped ≡ 0 → Opened
  opened e =
      let c = clear (salvage_refusals sector kept dropped) refl (sym refusal_of ∙ e) in
      record {
        sectors_sized = sector_sized c.0;
        buffer_sized = kept_sized c.0;
        list_fits = ltb-false (length dropped) (length (dropped_bytes sector)) c.1.0;
      }

  -- ---- the answer

  pub number_is : (kept_after dropped_after : List ℕ) (r : Salvaged) → Salvages sector kept dropped kept_after dropped_after r
      → r.number ≡ salvage_refusal sector kept dropped
  number_is kept_after dropped_after r s =
      elim (ℕ_discrete (salvage_refusal sector kept dropped) 0) [
        | yes e ↦ ap (λ (a : Salvaged). a.number) (s.salvaged e).0 ∙ sym e
        | no n ↦ ap (λ (a : Salvaged). a.number) (s.refused (salvage_refusal sector kept dropped) (omega arith) refl).0
      ]

  pub salvages_refused : (number : ℕ) → 0 < number → salvage_refusal sector kept dropped ≡ number
      → Salvages sector kept dropped kept dropped (refused_salvage number)
  salvages_refused number h e = record {
    refused = λ n g q. (ap refused_salvage (sym e ∙ q), (refl, refl));
    salvaged = λ q. absurd (omega (arith, e, q));
  }

  pub salvages_given : salvage_refusal sector kept dropped ≡ 0
      → Salvages sector kept dropped (padded (kept_bytes sector)) (written 0 (dropped_bytes sector) dropped) (salvaged_of sector)
  salvages_given e = record { refused = λ n g q. absurd (omega (arith, e, q)); salvaged = λ _. (refl, (refl, refl)) }

  -- the walks over the used bytes, and what is filled up
  module _ (used : List ℕ) (used_are : used ≡ used_part sector) where
    pub size_is : {laid after : List ℕ} {size : ℕ} → PiecesPut used kept laid dropped after size → size ≡ length (kept_bytes sector)
    size_is p = p.records_put.behind ∙ omega (arith, ap length (records_are sector used used_are))

    pub salvages_all : {laid kept_after dropped_after : List ℕ} {size : ℕ} (n : ℕ) → salvage_refusal sector kept dropped ≡ 0 → length sector ≡ 4096 → length kept ≡ 4096
        → n ≡ length (list_bytes (stretches_from 0 (pieces_in used))) → PiecesPut used kept laid dropped dropped_after size
        → kept_after ≡ mapi (on_run size 4096 (λ k x. 0xff)) laid
        → Salvages sector kept dropped kept_after dropped_after record { number = 0; length = n; kept = size }
    salvages_all {laid} {kept_after} {dropped_after} {size} n e long room l p f =
        rw (
          f ∙ ap (mapi (on_run size 4096 (λ k x. 0xff))) (p.records_put.stored ∙ ap (λ (bytes : List ℕ). written 0 bytes kept) (records_are sector used used_are))
              ∙ padded_filled (kept_bytes sector) kept size (size_is p) (omega (arith, size_is p, kept_most sector)) room,
          p.list_put ∙ ap (λ (bytes : List ℕ). written 0 bytes dropped) (list_is sector used used_are),
          l ∙ ap length (list_is sector used used_are),
          size_is p,
        ) (salvages_given e)

  -- number, length, kept, and every byte of both buffers
  pub salvage_determined : (kept₁ kept₂ dropped₁ dropped₂ : List ℕ) (r₁ r₂ : Salvaged) → Salvages sector kept dropped kept₁ dropped₁ r₁
      → Salvages sector kept dropped kept₂ dropped₂ r₂ → (r₁ ≡ r₂) × ((kept₁ ≡ kept₂) × (dropped₁ ≡ dropped₂))
  salvage_determined kept₁ kept₂ dropped₁ dropped₂ r₁ r₂ p q =
      elim (ℕ_discrete (salvage_refusal sector kept dropped) 0) [
        | yes e ↦ let x = p.salvaged e in let y = q.salvaged e in
            (x.0 ∙ sym y.0, (x.1.0 ∙ sym y.1.0, x.1.1 ∙ sym y.1.1))
        | no n ↦
            let x = p.refused (salvage_refusal sector kept dropped) (omega arith) refl in
            let y = q.refused (salvage_refusal sector kept dropped) (omega arith) refl in
            (x.0 ∙ sym y.0, (x.1.0 ∙ sym y.1.0, x.1.1 ∙ sym y.1.1))
      ]
