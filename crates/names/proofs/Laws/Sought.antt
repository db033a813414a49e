-- A search among records, one a turn.
-- Assumes nothing.
use mathlib.Core.Path.{◌≡◌, sym, ap, ◌∙◌}
use mathlib.Core.Bool.{Bool, true, false, ◌||◌}
use mathlib.Core.List.{List, [], ◌∷◌, ◌++◌}
use Prim.Native.Nat.{ℕ, ◌+◌}
use lib.ListN.{length, drop}
use Rattle.common.proofs.Laws.Booleans.{or_true, or_none_i}
use Rattle.std.specs.Prelude.{Some, None, Ok, Err}
use Rattle.names.specs.Records.{front, front_length, names_of, records_bytes}
use Rattle.names.specs.Search.{same_bytes, is_on, Searched}
use Rattle.names.proofs.Laws.Search.{same_exactly, on_none, on_first, on_append}
use Rattle.names.proofs.Laws.Walk.{Passed, passed_start, Step, passed_turn, passed_end}

-- none of the records that are passed has the name
pub record Sought (bytes name : List ℕ) (at : ℕ) : Type 0 where
  pub done : List (List ℕ)
  pub passed : Passed bytes at done
  pub absent : is_on name done ≡ false

pub sought_start : (bytes name : List ℕ) → Sought bytes name 0
sought_start bytes name = record { done = []; passed = passed_start bytes; absent = on_none name }

module _ (bytes name : List ℕ) (at : ℕ) (s : Sought bytes name at) where
  pub sought_step : (size : ℕ) → Some size ≡ front_length (front (drop at bytes)) → Step bytes at size s.done
  sought_step size some = passed_turn bytes at size s.done s.passed some

  module _ (size : ℕ) (step : Step bytes at size s.done) where
    -- the record has it
    is_there : true ≡ same_bytes name step.name → is_on name (names_of bytes) ≡ true
    is_there e =
        let here : is_on name (step.name ∷ names_of (drop (at + size) bytes)) ≡ true = on_first name step.name (names_of (drop (at + size) bytes)) ∙ ap (λ (t : Bool). t || is_on name (names_of (drop (at + size) bytes))) (sym e) in
        ap (is_on name) (s.passed.names_are ∙ ap (λ (l : List (List ℕ)). s.done ++ l) step.next_is)
        ∙ on_append name s.done (step.name ∷ names_of (drop (at + size) bytes))
        ∙ ap (λ (t : Bool). is_on name s.done || t) here ∙ or_true (is_on name s.done)

    pub sought_found : true ≡ same_bytes name step.name → Searched bytes name (Ok at)
    sought_found e = (is_there e, rw ((same_exactly name step.name).when (sym e)) step.record_is)

    -- it has another
    pub sought_turn : false ≡ same_bytes name step.name → Sought bytes name (at + size)
    sought_turn e = record {
      done = s.done ++ (step.name ∷ []);
      passed = step.passed;
      absent = on_append name s.done (step.name ∷ [])
          ∙ or_none_i s.absent (on_first name step.name [] ∙ or_none_i (sym e) (on_none name));
    }

  -- there is none left
  pub sought_end : None ≡ front_length (front (drop at bytes)) → Searched bytes name (Err at)
  sought_end none_left =
      let names_are : names_of bytes ≡ s.done = passed_end bytes at s.done s.passed none_left in
      (ap (is_on name) names_are ∙ s.absent, s.passed.at_is ∙ ap (λ (l : List (List ℕ)). length (records_bytes true l)) (sym names_are))
