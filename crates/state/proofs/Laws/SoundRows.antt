-- Every row of the soundness table holds: one test computed over the table, and a lemma that turns it into each row's facts.
-- Assumes nothing.
use mathlib.Core.Path.{◌≡◌, refl}
use mathlib.Core.Bool.{Bool, true, ◌&&◌, not}
use mathlib.Core.List.{List, [], ◌∷◌}
use borrow.Author.Tests.{not-true}
use Rattle.common.specs.Lists.{Each}
use Rattle.common.proofs.Laws.Booleans.{and_l, and_r}
use Rattle.state.specs.declared.State.{State}
use Rattle.chip.specs.Chip.{chip_of, is_known}
use Rattle.state.specs.Protection.{first_protected}
use Rattle.state.specs.Soundness.{is_sound}
use Rattle.state.specs.SoundRows.{only_fails, all_clauses, Row, RowHolds, rows, reached}

passes : Row → Bool
passes r = is_sound r.keeps && not (is_sound r.breaks) && only_fails r.clause (all_clauses r.breaks)

pass : List Row → Bool
pass [] = true
pass (r ∷ rs) = passes r && pass rs

holds : (r : Row) → passes r ≡ true → RowHolds r
unfolding passes
holds r e =
    let two = and_l (is_sound r.keeps && not (is_sound r.breaks)) (only_fails r.clause (all_clauses r.breaks)) e in
    record {
      sound = and_l (is_sound r.keeps) (not (is_sound r.breaks)) two;
      unsound = not-true (is_sound r.breaks) (and_r (is_sound r.keeps) (not (is_sound r.breaks)) two);
      alone = and_r (is_sound r.keeps && not (is_sound r.breaks)) (only_fails r.clause (all_clauses r.breaks)) e;
    }

all_hold : (rs : List Row) → pass rs ≡ true → Each RowHolds rs
unfolding pass
all_hold [] e = tt
all_hold (r ∷ rs) e = (holds r (and_l (passes r) (pass rs) e), all_hold rs (and_r (passes r) (pass rs) e))

computed : pass rows ≡ true
unfolding pass passes is_sound chip_of is_known first_protected
computed = refl

pub sound_rows_hold : Each RowHolds rows
sound_rows_hold = all_hold rows computed

pub reached_sound : Each (λ (s : State). is_sound s ≡ true) reached
unfolding is_sound chip_of is_known first_protected
reached_sound = (refl, (refl, (refl, (refl, (refl, (refl, tt))))))
