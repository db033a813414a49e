-- Records whose lengths and names stand, whatever their marks have become: a reader sees a prefix of their names.
-- Assumes nothing.
use mathlib.Core.Path.{◌≡◌, refl, sym, ap, ◌∙◌}
use mathlib.Core.Bool.{true, false, ◌&&◌}
use mathlib.Core.List.{List, [], ◌∷◌, ◌++◌}
use Prim.Native.Nat.{ℕ, suc, ◌+◌, ◌≤◌, ◌<◌}
use native.Mathlib.Omega.{arith}
use lib.Dec.{eqb}
use lib.ListN.{length, take, drop, length-append, length-drop, take-append-drop}
use lib.Seq.{length-take-le, get_or-take, get_or-drop, get_or-append-add, drop-drop, ext_get_or}
use Rattle.common.proofs.Laws.Choice.{cases}
use Rattle.common.proofs.Laws.Lists.{get_d_front}
use Rattle.names.specs.Records.{is_name, AllNames, none, front, names_of, Begins, records_bytes}
use Rattle.names.proofs.Laws.Front.{name_most, front_torn}
use Rattle.names.proofs.Laws.Names.{names_none, names_item}
use Rattle.names.proofs.Laws.Padded.{name_below}
use Rattle.names.proofs.Laws.Walk.{records_none, records_first}
use Rattle.sectors.proofs.Laws.Images.{Stands}

pub record Standing (names : List (List ℕ)) (bytes : List ℕ) : Type 0 where
  pub fits : length (records_bytes false names) ≤ length bytes
  pub there : Stands (records_bytes false names) bytes
  -- no record follows them
  pub ends : front (drop (length (records_bytes false names)) bytes) ≡ none

-- ---- the first of them

-- with whatever stands in its mark's place
record First (name : List ℕ) (names : List (List ℕ)) (bytes : List ℕ) : Type 0 where
  first : ℕ
  second : ℕ
  rest : List ℕ
  is : bytes ≡ first ∷ second ∷ length name ∷ (name ++ rest)
  others : Standing names rest

first_of : (name : List ℕ) (names : List (List ℕ)) (bytes : List ℕ) → is_name name ≡ true → Standing (name ∷ names) bytes → First name names bytes
first_of name names [] good s = absurd (omega (arith, s.fits, ap length (records_first false name names)))
first_of name names (a ∷ []) good s = absurd (omega (arith, s.fits, ap length (records_first false name names)))
first_of name names (a ∷ b ∷ []) good s = absurd (omega (arith, s.fits, ap length (records_first false name names)))
first_of name names (a ∷ b ∷ n ∷ behind) good s = record {
  first = a;
  second = b;
  rest = drop (length name) behind;
  is = ap (λ (x : ℕ). a ∷ b ∷ x ∷ behind) n_is ∙ ap (λ (l : List ℕ). a ∷ b ∷ length name ∷ l) behind_is;
  others = record {
    fits = omega (arith, fits, length-drop (length name) behind);
    there = λ k h used.
        get_or-drop (length name) behind k 0
        ∙ there (suc (suc (suc (length name + k)))) (omega (arith, long)) (λ e. used (sym (get_or-append-add name rest k 0) ∙ e))
        ∙ get_or-append-add name rest k 0;
    ends = ap front (drop-drop (length rest) (length name) behind) ∙ ends;
  };
}
  where
    rest : List ℕ
    rest = records_bytes false names

    all : List ℕ
    all = 0xff ∷ 0xff ∷ length name ∷ (name ++ rest)

    all_is : records_bytes false (name ∷ names) ≡ all
    all_is = records_first false name names

    there : Stands all (a ∷ b ∷ n ∷ behind)
    there = rw all_is at s.there

    long : length all ≡ 3 + (length name + length rest)
    long = omega (arith, length-append name rest)

    fits : length name + length rest ≤ length behind
    fits = omega (arith, s.fits, ap length all_is, long)

    ends : front (drop (length name + length rest) behind) ≡ none
    ends =
        let size : length (records_bytes false (name ∷ names)) ≡ suc (suc (suc (length name + length rest))) = omega (arith, ap length all_is, long) in
        rw size at s.ends

    n_is : n ≡ length name
    n_is = there 2 (omega (arith, long)) (λ e. omega (arith, e, name_most name good))

    name_there : take (length name) behind ≡ name
    name_there =
        let sized = length-take-le (length name) behind (omega (arith, fits)) in
        ext_get_or 0 (take (length name) behind) name sized
        (λ k h. let inside : k < length name = omega (arith, sized) in
        get_or-take (length name) behind k 0 inside
        ∙ there (suc (suc (suc k))) (omega (arith, long)) (λ e. omega (arith, name_below name good k inside, get_d_front name rest k inside, e))
        ∙ get_d_front name rest k inside)

    behind_is : behind ≡ name ++ drop (length name) behind
    behind_is = sym (take-append-drop (length name) behind) ∙ ap (λ (l : List ℕ). l ++ drop (length name) behind) name_there

-- ---- what is read

one_more : (name : List ℕ) {some all : List (List ℕ)} → Begins some all → Begins (name ∷ some) (name ∷ all)
one_more name b = record { more = b.more; all_are = ap (λ (l : List (List ℕ)). name ∷ l) b.all_are }

pub standing_names : (names : List (List ℕ)) (bytes : List ℕ) → AllNames names → Standing names bytes → Begins (names_of bytes) names
standing_names [] bytes good s =
    let ends : front bytes ≡ none = rw (records_none false) at s.ends in
    rw (names_none bytes ends) record { more = []; all_are = refl }
standing_names (name ∷ names) bytes good s =
    let f = first_of name names bytes good.0 s in
    let read = ap front f.is ∙ front_torn f.first f.second name f.rest good.0 in
    cases (eqb f.first 0x4e && eqb f.second 0x52)
    (λ t. rw (names_item bytes {name = name} {rest = f.rest} (rw t at read)) (one_more name (standing_names names f.rest good.1 f.others)))
    (λ n. rw (names_none bytes (rw n at read)) record { more = name ∷ names; all_are = refl })
