-- Flags by name: a sector with new records is wanted as the request says, and it fixes each of its bytes.
-- Assumes nothing.
use mathlib.Core.Path.{◌≡◌, refl, sym, ap, ◌∙◌}
use mathlib.Core.Bool.{true, false, true≢false}
use mathlib.Core.List.{List, [], ◌∷◌}
use mathlib.Core.Logic.{◌⊎◌, inl, inr, ⊎_elim}
use Prim.Native.Nat.{ℕ, ◌+◌, ◌-◌, ◌≤◌, ◌<◌}
use native.Mathlib.Decide.{ℕ_discrete}
use native.Mathlib.Omega.{arith}
use lib.ListN.{length, get_or, take, drop, length-drop}
use lib.Seq.{get_or-drop, ext_get_or}
use Rattle.common.specs.Refusals.{Exactly}
use Rattle.common.proofs.Laws.Choice.{cases}
use Rattle.common.proofs.Laws.Lists.{split}
use Rattle.common.proofs.Laws.Parts.{part_at, part_is}
use Rattle.names.specs.Records.{AllNames, records_bytes}
use Rattle.names.specs.Search.{same_bytes}
use Rattle.names.proofs.Laws.Front.{name_most}
use Rattle.names.proofs.Laws.Padded.{name_below}
use Rattle.names.proofs.Laws.Search.{same_exactly, differ_exactly}
use Rattle.names.proofs.Laws.Walk.{records_none, records_long}
use Rattle.sectors.specs.Images.{is_missing, wanted_names}
use Rattle.sectors.proofs.Laws.Images.{Stands, stands_exactly, wanted_first, wanted_second}
use Rattle.rules.specs.FlagsWanted.{Whole, Wants}
use Rattle.rules.proofs.Laws.FlagsLaid.{record_length_lem, at_mark, at_second, at_length, at_name, at_behind, padded_whole, padded_kept, padded_laid, laid_same}

-- ---- "while any such byte is missing"

module _ (image : List ℕ) where
  stands_whole : (at : ℕ) (names : List (List ℕ)) → AllNames names → at + length (records_bytes false names) ≤ length image
      → Stands (records_bytes false names) (drop at image) → Whole image at names
  stands_whole at [] good fits s = tt
  stands_whole at (name ∷ names) good fits s =
      let long = record_length_lem false name names in
      let most = name_most name good.0 in
      let byte : (k : ℕ) → k < length (records_bytes false (name ∷ names)) → (get_or (records_bytes false (name ∷ names)) k 0 ≡ 0xff → ⊥)
      → get_or image (at + k) 0 ≡ get_or (records_bytes false (name ∷ names)) k 0 = λ k h used. sym (get_or-drop at image k 0) ∙ s k h used in
      let body : (i : ℕ) → at + 3 + i ≡ at + (3 + i) = λ i. omega arith in
      let next : (k : ℕ) → at + (3 + length name) + k ≡ at + (3 + length name + k) = λ k. omega arith in (
        byte 2 (omega (arith, long)) (λ e. omega (arith, e, at_length false name names, most)) ∙ at_length false name names,
        (
          part_is image (at + 3) (length name) (omega (arith, long, fits)) name refl
              (λ i h. ap (λ (k : ℕ). get_or image k 0) (body i)
              ∙ byte (3 + i) (omega (arith, h, long)) (λ e. omega (arith, e, at_name false name names i h, name_below name good.0 i h)) ∙ at_name false name names i h),
          stands_whole (at + (3 + length name)) names good.1 (omega (arith, long, fits))
              (λ k h used. get_or-drop (at + (3 + length name)) image k 0 ∙ ap (λ (j : ℕ). get_or image j 0) (next k)
              ∙ byte (3 + length name + k) (omega (arith, h, long)) (λ e. used (sym (at_behind false name names k) ∙ e)) ∙ at_behind false name names k),
        ),
      )

  whole_stands : (at : ℕ) (names : List (List ℕ)) → at + length (records_bytes false names) ≤ length image
      → Whole image at names → Stands (records_bytes false names) (drop at image)
  whole_stands at [] fits w k h used = absurd (omega (arith, h, ap length (records_none false)))
  whole_stands at (name ∷ names) fits w k h used =
      elim (ℕ_discrete k 0) [
        | yes e ↦ absurd (used (rw e (at_mark false name names)))
        | no n0 ↦
            elim (ℕ_discrete k 1) [
              | yes e ↦ absurd (used (rw e (at_second false name names)))
              | no n1 ↦
                  elim (ℕ_discrete k 2) [
                    | yes e ↦ rw e (get_or-drop at image 2 0 ∙ w.0 ∙ sym (at_length false name names))
                    | no n2 ↦ behind (omega arith)
                        (whole_stands (at + (3 + length name)) names (omega (arith, record_length_lem false name names, fits)) w.1.1)
                  ]
            ]
      ]
    where
      long : length (records_bytes false (name ∷ names)) ≡ 3 + length name + length (records_bytes false names)
      long = record_length_lem false name names

      of_name : (i : ℕ) → 3 + i ≡ k → i < length name → get_or (drop at image) k 0 ≡ get_or (records_bytes false (name ∷ names)) k 0
      of_name i is l =
          let body : at + (3 + i) ≡ at + 3 + i = omega arith in
          rw (← is)
          (get_or-drop at image (3 + i) 0 ∙ ap (λ (j : ℕ). get_or image j 0) body
          ∙ sym (part_at image (at + 3) (length name) (omega (arith, long, fits)) i l) ∙ ap (λ (l : List ℕ). get_or l i 0) w.1.0 ∙ sym (at_name false name names i l))

      of_rest : Stands (records_bytes false names) (drop (at + (3 + length name)) image) → (j : ℕ) → 3 + length name + j ≡ k
          → get_or (drop at image) k 0 ≡ get_or (records_bytes false (name ∷ names)) k 0
      of_rest rest_stands j is =
          let next : at + (3 + length name + j) ≡ at + (3 + length name) + j = omega arith in
          let here = at_behind false name names j in
          let rest = rest_stands j (omega (arith, h, is, long)) (λ e. used (ap (λ (i : ℕ). get_or (records_bytes false (name ∷ names)) i 0) (sym is) ∙ here ∙ e)) in
          rw (← is)
          (get_or-drop at image (3 + length name + j) 0 ∙ ap (λ (i : ℕ). get_or image i 0) next ∙ sym (get_or-drop (at + (3 + length name)) image j 0) ∙ rest ∙ sym here)

      behind : 3 ≤ k → Stands (records_bytes false names) (drop (at + (3 + length name)) image)
          → get_or (drop at image) k 0 ≡ get_or (records_bytes false (name ∷ names)) k 0
      behind l rest_stands =
          ⊎_elim (λ b. of_name (k - 3) (omega arith) (omega arith)) (λ b. of_rest rest_stands (k - (3 + length name)) (omega arith)) (split k (3 + length name))

  pub whole_exactly : (at : ℕ) (names : List (List ℕ)) → AllNames names → at + length (records_bytes false names) ≤ length image
      → Exactly (is_missing (records_bytes false names) (drop at image) ≡ false) (Whole image at names)
  whole_exactly at names good fits =
      let e = stands_exactly (records_bytes false names) (drop at image) (omega (arith, fits, length-drop at image)) in
      record {
        when = λ none. stands_whole at names good fits (e.when none);
        only_when = λ w. e.only_when (whole_stands at names fits w);
      }

  -- it is so or it is not
  whole_or : (at : ℕ) (names : List (List ℕ)) → Whole image at names ⊎ (Whole image at names → ⊥)
  whole_or at [] = inl tt
  whole_or at (name ∷ names) =
      elim (ℕ_discrete (get_or image (at + 2) 0) (length name)) [
        | yes e ↦
            ⊎_elim
            (λ n. ⊎_elim (λ w. inl (e, (n, w))) (λ never. inr (λ w. never w.1.1)) (whole_or (at + (3 + length name)) names))
            (λ never. inr (λ w. never w.1.0)) (same_or (take (length name) (drop (at + 3) image)) name)
        | no n ↦ inr (λ w. n w.0)
      ]
    where
      same_or : (xs ys : List ℕ) → (xs ≡ ys) ⊎ (xs ≡ ys → ⊥)
      same_or xs ys = cases (same_bytes xs ys) (λ t. inl ((same_exactly xs ys).when t)) (λ f. inr ((differ_exactly xs ys).when f))

-- ---- the sector with new records

-- it fixes the sector
pub wants_only : (image : List ℕ) (at : ℕ) (names : List (List ℕ)) (w w₂ : List ℕ) → Wants image at names w → Wants image at names w₂ → w ≡ w₂
wants_only image at names w w₂ p q =
    ext_get_or 0 w w₂ (p.long ∙ sym q.long)
    (λ k h. ⊎_elim (λ l. p.kept k l ∙ sym (q.kept k l))
    (λ l. ⊎_elim (λ whole. laid_same w w₂ 0x4e 0x52 at names (p.second whole) (q.second whole) k l (omega (arith, h, p.long)))
    (λ torn. laid_same w w₂ 0xff 0xff at names (p.first torn) (q.first torn) k l (omega (arith, h, p.long))) (whole_or image at names))
    (split k at))

pub wants_made : (image front : List ℕ) (names : List (List ℕ)) → length image ≡ 4096 → AllNames names → length front + length (records_bytes true names) ≤ 4096
    → ((k : ℕ) → k < length front → get_or image k 0 ≡ get_or front k 0) → Wants image (length front) names (wanted_names image front names)
wants_made image front names sized good fits begins =
    let fits_false : length front + length (records_bytes false names) ≤ 4096 = omega (arith, fits, records_long true false names) in
    let whole = whole_exactly image (length front) names good (omega (arith, fits_false, sized)) in
    cases (is_missing (records_bytes false names) (drop (length front) image))
    (λ t. rw (wanted_first image front names t) record {
      long = padded_whole false front names fits_false;
      kept = λ k h. padded_kept false front names fits_false k h ∙ sym (begins k h);
      first = λ _. padded_laid false front names fits_false;
      second = λ w. absurd (true≢false (sym t ∙ whole.only_when w));
    })
    (λ f. rw (wanted_second image front names f) record {
      long = padded_whole true front names fits;
      kept = λ k h. padded_kept true front names fits k h ∙ sym (begins k h);
      first = λ torn. absurd (torn (whole.when f));
      second = λ _. padded_laid true front names fits;
    })
