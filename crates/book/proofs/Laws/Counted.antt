-- How many scenes are read behind a marking: nothing new is the empty script, and a list of n new scenes raises the count by n.
-- Assumes nothing.
use mathlib.Core.Path.{◌≡◌, refl, sym, ap, ◌∙◌}
use mathlib.Core.Bool.{Bool, true, false, cond, not, ◌&&◌, ◌||◌}
use mathlib.Core.List.{List, [], ◌∷◌}
use mathlib.Core.Logic.{⊎_elim}
use Prim.Native.Nat.{ℕ, ◌+◌, ◌*◌, ◌/◌, ◌%◌, ◌≤◌, ◌<◌}
use native.Mathlib.Nat.{zero-add}
use native.Mathlib.Omega.{arith}
use lib.Dec.{eqb}
use lib.ListN.{length, get_or}
use borrow.Author.Tests.{eq-eqb, eqb-true, eqb-false}
use Rattle.common.specs.Bits.{Bytes, bit_at}
use Rattle.common.specs.Lists.{count_below, within}
use Rattle.common.specs.Refusals.{Exactly}
use Rattle.common.proofs.Laws.Bits.{bits_ext}
use Rattle.common.proofs.Laws.Choice.{cases}
use Rattle.common.proofs.Laws.Lists.{split}
use Rattle.common.proofs.Laws.Places.{within_yes, within_below, within_above, count_cong, count_none, count_sum, count_within}
use Rattle.state.specs.declared.Planned.{Planned}
use Rattle.state.specs.Answer.{empty_plan}
use Rattle.promises.specs.Promises.{Device, NothingChanges}
use Rattle.book.specs.Book.{is_read, count_read, wanted_part, is_listed}
use Rattle.book.specs.Refusals.{has_over}
use Rattle.book.specs.Answers.{Marks}
use Rattle.book.specs.Marking.{MarkFinished, Distinct, AllRead, AllUnread}
use Rattle.book.proofs.Laws.Listed.{none_over, over_rest, listed_none, listed_first, listed_scene}
use Rattle.book.proofs.Laws.Read.{read_is, read_at, count_is}
use Rattle.book.proofs.Laws.Marking.{opened, inside, answered, mark_finished, wanted_length, wanted_bytes, wanted_bit, wanted_flag}

-- ---- how many scenes a list has

-- one number below k
count_one : (x k : ℕ) → x < k → count_below (λ t. eqb x t) k ≡ 1
count_one x k h = count_cong (λ t. eqb x t) (within x 1) k (λ t l. only t) ∙ count_within x 1 k ∙ omega arith
  where
    only : (t : ℕ) → eqb x t ≡ within x 1 t
    only t =
        cases (eqb x t)
        (λ y. let e = eqb-true x t y in y ∙ sym (within_yes x 1 t (omega arith) (omega arith)))
        (λ n. let differ = eqb-false x t n in
        n ∙ sym (⊎_elim (λ l. within_below x 1 t l) (λ g. ⊎_elim (λ l. absurd (differ (omega arith))) (λ l. within_above x 1 t l) (split t (x + 1))) (split t x)))

-- a list without repeats has as many as it is long
pub count_distinct : (scenes : List ℕ) → has_over scenes ≡ false → Distinct scenes → count_below (λ t. is_listed t scenes) 4096 ≡ length scenes
count_distinct [] kept d = count_none (λ t. is_listed t []) 4096 (λ t h. listed_none t)
count_distinct (scene ∷ scenes) kept d =
    count_sum (λ t. is_listed t (scene ∷ scenes)) (λ t. eqb scene t) (λ t. is_listed t scenes) once 4096
    ∙ omega (arith, count_one scene 4096 (none_over (scene ∷ scenes) kept 0 (omega arith)), count_distinct scenes (over_rest scene scenes kept) d.1)
  where
    once : (t : ℕ) → cond (is_listed t (scene ∷ scenes)) 1 0 ≡ cond (eqb scene t) 1 0 + cond (is_listed t scenes) 1 0
    once t =
        cases (eqb scene t)
        (λ y. let e = eqb-true scene t y in
        let other : is_listed t scenes ≡ false = rw (← e) d.0 in
        rw (listed_first t scene scenes, y, other) refl)
        (λ n. rw (listed_first t scene scenes, n) (sym (zero-add (cond (is_listed t scenes) 1 0))))

-- ---- behind an accepted marking

module _ (wp : Bool) (chip : Device) (sector : ℕ) (scenes buffer after : List ℕ) (r : Planned) (bytes : Bytes chip.array)
    (marks : Marks chip.state wp chip.array sector scenes buffer after r) (good : r.number ≡ 0) where
  abbrev before : List ℕ
  before = chip.array

  abbrev want : List ℕ
  want = wanted_part before sector scenes

  abbrev fits : sector + 512 ≤ length before
  fits = inside wp chip sector scenes buffer after r bytes marks good

  scene_listed : (scene : ℕ) → is_listed scene scenes ≡ true → scene < 4096
  scene_listed scene l = listed_scene scene scenes (opened wp chip sector scenes buffer after r bytes marks good).scenes_kept l

  -- all listed are read: nothing changes
  same_as_wanted : AllRead sector scenes before → NothingChanges before sector want
  same_as_wanted all k h =
      let l : k < 512 = omega (arith, wanted_length before sector scenes fits) in
      bits_ext 8 (get_or before (sector + k) 0) (get_or want k 0) (bytes (sector + k)) (wanted_bytes before sector scenes fits bytes k)
      (λ b g. cases (is_listed (k * 8 + b) scenes)
      (λ t. eqb-true _ 0 (sym (read_at before sector k b g) ∙ all (k * 8 + b) t) ∙ sym (wanted_bit before sector scenes fits k b l g ∙ rw t refl))
      (λ f. sym (wanted_bit before sector scenes fits k b l g ∙ rw f refl)))

  -- and where nothing changes, all are
  read_as_wanted : NothingChanges before sector want → AllRead sector scenes before
  read_as_wanted same scene t =
      let h = scene_listed scene t in
      let byte = same (scene / 8) (omega (arith, wanted_length before sector scenes fits)) in
      read_is before sector scene
      ∙ eq-eqb _ 0 (ap (λ (x : ℕ). bit_at x (scene % 8)) byte ∙ wanted_flag before sector scenes fits scene h ∙ rw t refl)

  -- "nothing listed is unread": the empty script, and nothing else gives it
  pub mark_empty_exactly : Exactly (r.length ≡ 0) (AllRead sector scenes before)
  mark_empty_exactly =
      let empty = (answered wp chip sector scenes buffer after r bytes marks good).empty_exactly good in
      record { when = λ e. read_as_wanted (empty.when e); only_when = λ all. empty.only_when (same_as_wanted all) }

  pub mark_nothing_new : AllRead sector scenes before → (r ≡ empty_plan chip.state) × (after ≡ buffer)
  mark_nothing_new all = (answered wp chip sector scenes buffer after r bytes marks good).nothing_to_do good (same_as_wanted all)

  -- run to its end, the count rises by those that are new
  module _ (done : Device) (finished : MarkFinished wp chip sector scenes done) where
    pub marked_count : count_read done.array sector ≡ count_read before sector + count_below (λ t. is_listed t scenes && not (is_read before sector t)) 4096
    marked_count =
        count_is done.array sector
        ∙ count_cong (is_read done.array sector) (λ t. is_read before sector t || is_listed t scenes) 4096
        (λ t h. (mark_finished wp chip sector scenes buffer after r bytes marks good done finished).flags t h)
        ∙ count_sum (λ t. is_read before sector t || is_listed t scenes) (is_read before sector) (λ t. is_listed t scenes && not (is_read before sector t))
        (λ t. once (is_read before sector t) (is_listed t scenes)) 4096
        ∙ ap (λ (n : ℕ). n + count_below (λ t. is_listed t scenes && not (is_read before sector t)) 4096) (sym (count_is before sector))
      where
        once : (old listed : Bool) → ◌≡◌ {A = ℕ} (cond (old || listed) 1 0) (cond old 1 0 + cond (listed && not old) 1 0)
        once true true = refl
        once true false = refl
        once false true = refl
        once false false = refl

    -- "a fresh list of n distinct unread scenes"
    pub marked_count_new : Distinct scenes → AllUnread sector scenes before → count_read done.array sector ≡ count_read before sector + length scenes
    marked_count_new distinct unread =
        marked_count
        ∙ ap (λ (n : ℕ). count_read before sector + n)
        (count_cong (λ t. is_listed t scenes && not (is_read before sector t)) (λ t. is_listed t scenes) 4096
        (λ t h. cases (is_listed t scenes) (λ y. rw (y, unread t y) refl) (λ n. rw n refl))
        ∙ count_distinct scenes (opened wp chip sector scenes buffer after r bytes marks good).scenes_kept distinct)
