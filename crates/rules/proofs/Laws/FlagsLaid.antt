-- Flags by name: records laid into a sector, one place at a time, and that the places fix it.
-- Assumes nothing.
use mathlib.Core.Path.{◌≡◌, refl, sym, ap, ◌∙◌}
use mathlib.Core.Bool.{Bool, cond}
use mathlib.Core.List.{List, [], ◌∷◌, ◌++◌}
use mathlib.Core.Logic.{⊎_elim}
use Prim.Native.Nat.{ℕ, suc, ◌+◌, ◌-◌, ◌≤◌, ◌<◌}
use native.Mathlib.Decide.{ℕ_discrete}
use native.Mathlib.Omega.{arith}
use lib.ListN.{length, get_or, drop, length-append}
use lib.Seq.{get_or-take, get_or-drop, get_or-append-add}
use Rattle.common.proofs.Laws.Lists.{split, get_d_front}
use Rattle.common.proofs.Laws.Parts.{part_is}
use Rattle.names.specs.Records.{record_bytes, records_bytes, padded}
use Rattle.names.proofs.Laws.Padded.{padded_long, padded_front, padded_behind}
use Rattle.names.proofs.Laws.Walk.{records_none, records_first}
use Rattle.rules.specs.FlagsWanted.{NameAt, Laid}

-- ---- the bytes of records, one place at a time

module _ (m : Bool) (name : List ℕ) (names : List (List ℕ)) where
  abbrev pub all : List ℕ
  all = records_bytes m (name ∷ names)

  pub record_length_lem : length all ≡ 3 + length name + length (records_bytes m names)
  record_length_lem = omega (arith, ap length (records_first m name names), length-append (record_bytes m name) (records_bytes m names))

  pub at_mark : get_or all 0 0 ≡ cond m 0x4e 0xff
  at_mark = rw (records_first m name names) refl

  pub at_second : get_or all 1 0 ≡ cond m 0x52 0xff
  at_second = rw (records_first m name names) refl

  pub at_length : get_or all 2 0 ≡ length name
  at_length = rw (records_first m name names) refl

  pub at_name : (i : ℕ) → i < length name → get_or all (3 + i) 0 ≡ get_or name i 0
  at_name i h =
      let there : 3 + i ≡ suc (suc (suc i)) = omega arith in
      ap (λ (k : ℕ). get_or all k 0) there ∙ ap (λ (l : List ℕ). get_or l (suc (suc (suc i))) 0) (records_first m name names) ∙ get_d_front name (records_bytes m names) i h

  pub at_behind : (k : ℕ) → get_or all (3 + length name + k) 0 ≡ get_or (records_bytes m names) k 0
  at_behind k =
      let there : 3 + length name + k ≡ length (record_bytes m name) + k = omega arith in
      ap (λ (j : ℕ). get_or all j 0) there ∙ ap (λ (l : List ℕ). get_or l (length (record_bytes m name) + k) 0) (records_first m name names)
      ∙ get_or-append-add (record_bytes m name) (records_bytes m names) k 0

-- ---- laid

-- a sector that has these bytes from a place on, and FF behind them
pub laid_from : (m : Bool) (wanted : List ℕ) (at : ℕ) (names : List (List ℕ)) → at + length (records_bytes m names) ≤ length wanted
    → ((k : ℕ) → k < length (records_bytes m names) → get_or wanted (at + k) 0 ≡ get_or (records_bytes m names) k 0)
    → ((k : ℕ) → at + length (records_bytes m names) ≤ k → k < 4096 → get_or wanted k 0 ≡ 0xff)
    → Laid wanted (cond m 0x4e 0xff) (cond m 0x52 0xff) at names
laid_from m wanted at [] fits same erased = λ k from below. erased k (omega (arith, from, ap length (records_none m))) below
laid_from m wanted at (name ∷ names) fits same erased =
    let long = record_length_lem m name names in
    let here : at + 0 ≡ at = omega arith in
    let next : (k : ℕ) → at + (3 + length name) + k ≡ at + (3 + length name + k) = λ k. omega arith in
    let body : (i : ℕ) → at + 3 + i ≡ at + (3 + i) = λ i. omega arith in (
      ap (λ (k : ℕ). get_or wanted k 0) (sym here) ∙ same 0 (omega (arith, long)) ∙ at_mark m name names,
      (
        same 1 (omega (arith, long)) ∙ at_second m name names,
        (
          same 2 (omega (arith, long)) ∙ at_length m name names,
          (
            part_is wanted (at + 3) (length name) (omega (arith, long, fits)) name refl
                (λ i h. ap (λ (k : ℕ). get_or wanted k 0) (body i) ∙ same (3 + i) (omega (arith, h, long)) ∙ at_name m name names i h),
            laid_from m wanted (at + (3 + length name)) names (omega (arith, long, fits))
                (λ k h. ap (λ (j : ℕ). get_or wanted j 0) (next k) ∙ same (3 + length name + k) (omega (arith, h, long)) ∙ at_behind m name names k)
                (λ k from below. erased k (omega (arith, from, long)) below),
          ),
        ),
      ),
    )

-- behind a front, FF behind them
module _ (m : Bool) (front : List ℕ) (names : List (List ℕ)) (fits : length front + length (records_bytes m names) ≤ 4096) where
  abbrev pub image : List ℕ
  image = padded (front ++ records_bytes m names)

  both : length (front ++ records_bytes m names) ≡ length front + length (records_bytes m names)
  both = length-append front (records_bytes m names)

  pub padded_whole : length image ≡ 4096
  padded_whole = padded_long (front ++ records_bytes m names) (omega (arith, fits, both))

  pub padded_kept : (k : ℕ) → k < length front → get_or image k 0 ≡ get_or front k 0
  padded_kept k h = padded_front (front ++ records_bytes m names) k (omega (arith, h, both)) ∙ get_d_front front (records_bytes m names) k h

  pub padded_laid : Laid image (cond m 0x4e 0xff) (cond m 0x52 0xff) (length front) names
  padded_laid =
      laid_from m image (length front) names (omega (arith, fits, padded_whole))
      (λ k h. padded_front (front ++ records_bytes m names) (length front + k) (omega (arith, h, both)) ∙ get_or-append-add front (records_bytes m names) k 0)
      (λ k from below. padded_behind (front ++ records_bytes m names) k (omega (arith, from, both)) below)

-- what is laid is fixed from the place on
pub laid_same : (w w₂ : List ℕ) (first second at : ℕ) (names : List (List ℕ)) → Laid w first second at names
    → Laid w₂ first second at names → (k : ℕ) → at ≤ k → k < 4096 → get_or w k 0 ≡ get_or w₂ k 0
laid_same w w₂ first second at [] p q k from below = p k from below ∙ sym (q k from below)
laid_same w w₂ first second at (name ∷ names) p q k from below =
    elim (ℕ_discrete k at) [
      | yes e ↦ rw e (p.0 ∙ sym q.0)
      | no n0 ↦
          elim (ℕ_discrete k (at + 1)) [
            | yes e ↦ rw e (p.1.0 ∙ sym q.1.0)
            | no n1 ↦
                elim (ℕ_discrete k (at + 2)) [
                  | yes e ↦ rw e (p.1.1.0 ∙ sym q.1.1.0)
                  | no n2 ↦ behind (omega arith)
                      (λ l. laid_same w w₂ first second (at + (3 + length name)) names p.1.1.1.1 q.1.1.1.1 k l below)
                ]
          ]
    ]
  where
    -- of the name
    byte : (x : List ℕ) → NameAt x (at + 3) name → k < at + 3 + length name → at + 3 ≤ k → get_or x k 0 ≡ get_or name (k - (at + 3)) 0
    byte x is h l =
        let there : k ≡ at + 3 + (k - (at + 3)) = omega arith in
        ap (λ (j : ℕ). get_or x j 0) there ∙ sym (get_or-drop (at + 3) x (k - (at + 3)) 0)
        ∙ sym (get_or-take (length name) (drop (at + 3) x) (k - (at + 3)) 0 (omega arith)) ∙ ap (λ (l : List ℕ). get_or l (k - (at + 3)) 0) is

    behind : at + 3 ≤ k → (at + (3 + length name) ≤ k → get_or w k 0 ≡ get_or w₂ k 0) → get_or w k 0 ≡ get_or w₂ k 0
    behind l go =
        ⊎_elim (λ h. byte w p.1.1.1.0 h l ∙ sym (byte w₂ q.1.1.1.0 h l))
        (λ h. go (omega arith)) (split k (at + 3 + length name))
