-- Over any history of markings and moves, only what was asked for is read, and what is read stays so.
-- Assumes nothing.
use mathlib.Core.Path.{◌≡◌, refl, sym, ap, ◌∙◌}
use mathlib.Core.Bool.{Bool, true, false, ◌||◌}
use mathlib.Core.List.{List, [], ◌∷◌, ◌++◌}
use mathlib.Core.Logic.{⊎_elim}
use Prim.Native.Nat.{ℕ}
use Rattle.common.specs.Bits.{Bytes}
use Rattle.common.proofs.Laws.Booleans.{or_imp}
use Rattle.common.proofs.Laws.Choice.{cases}
use Rattle.promises.specs.Promises.{Device}
use Rattle.names.specs.Records.{names_of}
use Rattle.names.specs.Search.{is_on}
use Rattle.names.proofs.Laws.Search.{on_append}
use Rattle.namecut.specs.Leaves.{sector_names, History, begins, marks, moves, aside, OnlyAskedNames}
use Rattle.flags.proofs.Laws.Answers.{is_read_is}
use Rattle.namecut.proofs.Laws.Marking.{on_begins, mark_leaves, mark_stay, mark_kept}
use Rattle.namecut.proofs.Laws.Moved.{move_leaves, move_ready}

-- what is so along it
record Along (sector : ℕ) (first : Device) (asked : List (List ℕ)) (last : Device) : Type 0 where
  bytes : Bytes last.array
  only : (name : List ℕ) → is_on name (sector_names last.array sector) ≡ true → (is_on name (sector_names first.array sector) || is_on name asked) ≡ true
  stay : (name : List ℕ) → is_on name (sector_names first.array sector) ≡ true → is_on name (sector_names last.array sector) ≡ true

-- one that was there before, or one of the new
old_or_new : (name : List ℕ) (before asked more : List (List ℕ)) (was : Bool) → (is_on name before ≡ true → (was || is_on name asked) ≡ true)
    → (is_on name before || is_on name more) ≡ true → (was || is_on name (more ++ asked)) ≡ true
old_or_new name before asked more true along e = refl
old_or_new name before asked more false along e =
    on_append name more asked
    ∙ cases (is_on name before) (λ t. by (is_on name more) (is_on name asked) (along t)) (λ f. ap (λ (t : Bool). t || is_on name asked) (or_imp (is_on name before) (is_on name more) e f))
  where
    by : (a b : Bool) → b ≡ true → (a || b) ≡ true
    by true b e = refl
    by false b e = e

on_more : (name : List ℕ) (before more all : List (List ℕ)) → all ≡ before ++ more → is_on name all ≡ true → (is_on name before || is_on name more) ≡ true
on_more name before more all is e = sym (on_append name before more) ∙ ap (is_on name) (sym is) ∙ e

on_old : (name : List ℕ) (before more : List (List ℕ)) → is_on name before ≡ true → (is_on name before || is_on name more) ≡ true
on_old name before more e = ap (λ (t : Bool). t || is_on name more) e

on_new : (a : Bool) (name : List ℕ) (more : List (List ℕ)) → is_on name more ≡ true → (a || is_on name more) ≡ true
on_new true name more e = refl
on_new false name more e = e

along : (sector : ℕ) {first last : Device} {asked : List (List ℕ)} → Bytes first.array → History sector first asked last → Along sector first asked last
along sector {first} bytes begins = record {
  bytes = bytes;
  only = λ name e. ap (λ (t : Bool). t || is_on name []) e;
  stay = λ name e. e;
}
along sector {first} {last} bytes (marks {asked} {chip} h wp name buffer after r m good behind) =
    let so_far = along sector bytes h in
    let leaves = mark_leaves wp chip sector name buffer after r so_far.bytes m good last behind in
    let was : List (List ℕ) = sector_names chip.array sector in
    record {
      bytes = ((mark_kept wp chip sector name buffer after r so_far.bytes m good).ready last behind).bytes;
      only = λ n e.
          old_or_new n was asked (name ∷ []) (is_on n (sector_names first.array sector)) (so_far.only n)
          (⊎_elim (λ same. on_old n was (name ∷ []) (ap (is_on n) (sym same) ∙ e)) (λ one. on_more n was (name ∷ []) (sector_names last.array sector) one e) leaves.names_are);
      stay = λ n e. on_begins n (mark_stay wp chip sector name buffer after r so_far.bytes m good last behind) (so_far.stay n e);
    }
along sector {first} {last} bytes (moves {asked} {chip} h wp book list buffer after r m good behind) =
    let so_far = along sector bytes h in
    let leaves = move_leaves wp chip book sector list buffer after r so_far.bytes m good last behind in
    record {
      bytes = (move_ready wp chip book sector list buffer after r so_far.bytes m good last behind).bytes;
      only = λ n e.
          old_or_new n (sector_names chip.array sector) asked _ (is_on n (sector_names first.array sector)) (so_far.only n)
          (on_new (is_on n (sector_names chip.array sector)) n _ (on_begins n leaves.names_are e));
      stay = λ n e. on_begins n leaves.names_stay (so_far.stay n e);
    }
along sector {first} {last} bytes (aside {asked} {chip} h same new) =
    let so_far = along sector bytes h in
    let names : sector_names last.array sector ≡ sector_names chip.array sector = ap names_of same in
    record {
      bytes = new;
      only = λ n e. so_far.only n (ap (is_on n) (sym names) ∙ e);
      stay = λ n e. ap (is_on n) names ∙ so_far.stay n e;
    }

pub only_asked_names : (sector : ℕ) (first last : Device) (asked : List (List ℕ)) → Bytes first.array → History sector first asked last
    → OnlyAskedNames sector first asked last
only_asked_names sector first last asked bytes h =
    let a = along sector bytes h in
    record {
      not_made_up = λ name e.
          ap (λ (t : Bool). t || is_on name asked) (is_read_is first.array sector name) ∙ a.only name (sym (is_read_is last.array sector name) ∙ e);
      not_lost = λ name e. is_read_is last.array sector name ∙ a.stay name (sym (is_read_is first.array sector name) ∙ e);
    }
