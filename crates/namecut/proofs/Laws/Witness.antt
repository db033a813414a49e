-- A name marked by two plans, computed: the bytes that each wants, a cut between two marks, and why the whole sector is wanted.
-- Assumes nothing.
use mathlib.Core.Path.{◌≡◌, refl, sym, ap, ◌∙◌}
use mathlib.Core.Bool.{Bool, true, false}
use mathlib.Core.List.{List, [], ◌∷◌}
use mathlib.Core.Logic.{⊎_elim}
use Prim.Native.Nat.{ℕ, zero, suc, ◌<◌}
use native.Mathlib.Omega.{arith}
use lib.ListN.{length, get_or}
use Rattle.common.specs.Bits.{Bytes, bit_at}
use Rattle.common.specs.Refusals.{wanted_rises}
use Rattle.common.proofs.Laws.Bits.{bytes_within}
use Rattle.common.proofs.Laws.Lists.{split}
use Rattle.state.specs.declared.Planned.{Planned}
use Rattle.state.specs.declared.State.{State}
use Rattle.promises.specs.Promises.{is_active}
use Rattle.promises.proofs.Laws.Unless.{unless_answered}
use Rattle.names.specs.Records.{all_name, is_name, front_body, front, names_within, names_of, records_bytes, padded}
use Rattle.names.specs.Search.{same_bytes, is_on}
use Rattle.names.proofs.Laws.Search.{on_none}
use Rattle.names.proofs.Laws.Padded.{padded_long, padded_names, padded_front, padded_behind}
use Rattle.sectors.specs.Images.{sector_part, is_missing, wanted_names, wanted_mark}
use Rattle.sectors.proofs.Laws.Images.{sector_at, wanted_first, wanted_second, mark_there, mark_appends}
use Rattle.flags.specs.Answers.{NameMarks}
use Rattle.namechecks.specs.Refusals.{mark_refusal}
use Rattle.namechecks.proofs.Laws.Opened.{mark_opened, marked_inside}
use Rattle.flags.proofs.Laws.Numbers.{mark_fitting}

-- ---- "rooftop"

abbrev rooftop : List ℕ
rooftop = 0x72 ∷ 0x6f ∷ 0x6f ∷ 0x66 ∷ 0x74 ∷ 0x6f ∷ 0x70 ∷ []

-- what stands at the front of a sector behind each plan, and behind a cut that has laid half of the mark
abbrev named : List ℕ
named = 0xff ∷ 0xff ∷ 0x07 ∷ rooftop

abbrev half_marked : List ℕ
half_marked = 0x4e ∷ 0xff ∷ 0x07 ∷ rooftop

abbrev whole : List ℕ
whole = 0x4e ∷ 0x52 ∷ 0x07 ∷ rooftop

-- no record is there, so one is appended at the sector's start
at_the_start : (bytes name : List ℕ) → names_of bytes ≡ [] → wanted_mark (padded bytes) name ≡ wanted_names (padded bytes) [] (name ∷ [])
unfolding records_bytes
at_the_start bytes name e =
    let none : names_of (padded bytes) ≡ [] = padded_names bytes ∙ e in
    mark_appends (padded bytes) name (ap (is_on name) none ∙ on_none name)
    ∙ ap (λ (l : List (List ℕ)). wanted_names (padded bytes) (records_bytes true l) (name ∷ [])) none

none_erased : names_of [] ≡ []
unfolding names_of names_within
none_erased = refl

none_named : names_of named ≡ []
unfolding names_of names_within front
none_named = refl

none_half_marked : names_of half_marked ≡ []
unfolding names_of names_within front
none_half_marked = refl

-- the first plan, on an erased sector
pub first_bytes : wanted_mark (padded []) rooftop ≡ padded named
unfolding records_bytes padded is_missing
first_bytes = at_the_start [] rooftop none_erased ∙ wanted_first (padded []) [] (rooftop ∷ []) refl

-- the second, behind it
pub second_bytes : wanted_mark (padded named) rooftop ≡ padded whole
unfolding records_bytes padded is_missing
second_bytes = at_the_start named rooftop none_named ∙ wanted_second (padded named) [] (rooftop ∷ []) refl

-- then the name is there, and nothing more is wanted
pub whole_read : names_of (padded whole) ≡ rooftop ∷ []
unfolding names_of names_within front front_body is_name all_name
whole_read = padded_names whole ∙ refl

pub nothing_more : wanted_mark (padded whole) rooftop ≡ padded whole
unfolding is_on same_bytes
nothing_more = mark_there (padded whole) rooftop (rw whole_read refl)

-- half a mark is no record, and marking goes on
pub half_not_read : names_of (padded half_marked) ≡ []
half_not_read = padded_names half_marked ∙ none_half_marked

pub half_goes_on : wanted_mark (padded half_marked) rooftop ≡ padded whole
unfolding records_bytes padded is_missing
half_goes_on = at_the_start half_marked rooftop none_half_marked ∙ wanted_second (padded half_marked) [] (rooftop ∷ []) refl

-- ---- why the whole sector is wanted

-- a cut in the first plan of "ANR" has laid the N and the R, which are a mark
abbrev dirt : List ℕ
dirt = 0xff ∷ 0xff ∷ 0xff ∷ 0xff ∷ 0x4e ∷ 0x52 ∷ []

abbrev y : List ℕ
y = 0x59 ∷ []

none_dirt : names_of dirt ≡ []
unfolding names_of names_within front
none_dirt = refl

-- appending "Y" wants FF where the N is,
pub y_wants : wanted_mark (padded dirt) y ≡ padded (0xff ∷ 0xff ∷ 0x01 ∷ 0x59 ∷ [])
unfolding records_bytes padded is_missing
y_wants = at_the_start dirt y none_dirt ∙ wanted_first (padded dirt) [] (y ∷ []) refl

-- a 1 where the array has 0: so it is 8
pub y_rises : (bit_at (get_or (wanted_mark (padded dirt) y) 4 0) 0 ≡ 1) × (bit_at (get_or (padded dirt) 4 0) 0 ≡ 0)
unfolding padded bit_at
y_rises = (rw y_wants refl, refl)

-- and "ANR" goes on
pub anr_wants : wanted_mark (padded dirt) (0x41 ∷ 0x4e ∷ 0x52 ∷ []) ≡ padded (0xff ∷ 0xff ∷ 0x03 ∷ 0x41 ∷ 0x4e ∷ 0x52 ∷ [])
unfolding records_bytes padded is_missing
anr_wants = at_the_start dirt (0x41 ∷ 0x4e ∷ 0x52 ∷ []) none_dirt ∙ wanted_first (padded dirt) [] ((0x41 ∷ 0x4e ∷ 0x52 ∷ []) ∷ []) refl

-- if "Y" were laid there with its own bytes alone, the next place would have its mark before its name: of "A", half fallen, a reader would make "a"
pub made_up : names_of (padded (0x4e ∷ 0x52 ∷ 0x01 ∷ 0x59 ∷ 0x4e ∷ 0x52 ∷ 0x01 ∷ 0x61 ∷ [])) ≡ (0x59 ∷ []) ∷ (0x61 ∷ []) ∷ []
unfolding names_of names_within front front_body is_name all_name
made_up = padded_names (0x4e ∷ 0x52 ∷ 0x01 ∷ 0x59 ∷ 0x4e ∷ 0x52 ∷ 0x01 ∷ 0x61 ∷ []) ∙ refl

y_long : 4 < length (padded (0xff ∷ 0xff ∷ 0x01 ∷ 0x59 ∷ []))
y_long = omega (arith, padded_long (0xff ∷ 0xff ∷ 0x01 ∷ 0x59 ∷ []) (omega arith))

y_bytes : Bytes (padded (0xff ∷ 0xff ∷ 0x01 ∷ 0x59 ∷ []))
y_bytes =
    bytes_within (padded (0xff ∷ 0xff ∷ 0x01 ∷ 0x59 ∷ []))
    (λ k h. ⊎_elim (λ l. rw (padded_front (0xff ∷ 0xff ∷ 0x01 ∷ 0x59 ∷ []) k l) (small k))
    (λ l. rw (padded_behind (0xff ∷ 0xff ∷ 0x01 ∷ 0x59 ∷ []) k l (omega (arith, padded_long (0xff ∷ 0xff ∷ 0x01 ∷ 0x59 ∷ []) (omega arith)))) (omega arith)) (split k 4))
  where
    small : (k : ℕ) → get_or (0xff ∷ 0xff ∷ 0x01 ∷ 0x59 ∷ []) k 0 < 256
    small zero = omega arith
    small (suc zero) = omega arith
    small (suc (suc zero)) = omega arith
    small (suc (suc (suc zero))) = omega arith
    small (suc (suc (suc (suc k)))) = omega arith

-- the same of a chip: a marking of "Y" in such a sector, with no refusal of its own, on a chip at rest, is 8
pub y_is_8 : (s : State) (wp : Bool) (array : List ℕ) (sector : ℕ) (buffer after : List ℕ) (r : Planned) → NameMarks s wp array sector y buffer after r
    → mark_refusal s array sector y ≡ 0 → is_active s ≡ false → sector_part array sector ≡ padded dirt → r.number ≡ wanted_rises
y_is_8 s wp array sector buffer after r marks none calm is =
    let o = mark_opened s array sector y none in
    let inside = marked_inside s array sector y o in
    let want : List ℕ = wanted_mark (sector_part array sector) y in
    let wanted : want ≡ padded (0xff ∷ 0xff ∷ 0x01 ∷ 0x59 ∷ []) = ap (λ (l : List ℕ). wanted_mark l y) is ∙ y_wants in
    ((unless_answered (mark_refusal s array sector y) s wp array sector want buffer after r marks none).eight_exactly (rw wanted y_bytes)
    ).only_when record {
      fitting = mark_fitting s wp array sector y buffer after r marks none;
      at_rest = calm;
      rises = record {
        place = 4;
        bit = 0;
        inside = rw wanted y_long;
        wanted_1 = ap (λ (l : List ℕ). bit_at (get_or l 4 0) 0) (ap (λ (l : List ℕ). wanted_mark l y) is) ∙ y_rises.0;
        array_0 = ap (λ (x : ℕ). bit_at x 0) (sym (sector_at array sector inside 4 (omega arith))) ∙ ap (λ (l : List ℕ). bit_at (get_or l 4 0) 0) is ∙ y_rises.1;
      };
    }
