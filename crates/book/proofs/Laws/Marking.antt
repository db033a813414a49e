-- What a marking leaves: from the planner's promises alone, bit by bit.
-- Assumes nothing.
use mathlib.Core.Path.{◌≡◌, refl, sym, ap, ◌∙◌}
use mathlib.Core.Bool.{Bool, true, false, cond, ◌||◌}
use mathlib.Core.List.{List}
use mathlib.Core.Logic.{inr}
use Prim.Native.Nat.{ℕ, ◌+◌, ◌-◌, ◌*◌, ◌/◌, ◌%◌, ◌≤◌, ◌<◌}
use native.Mathlib.Omega.{arith}
use lib.Dec.{eqb}
use lib.ListN.{length, get_or}
use lib.Seq.{ext_get_or}
use borrow.Author.Tests.{eq-eqb, eqb-true}
use Rattle.common.specs.Bits.{Bytes, bit_at}
use Rattle.common.specs.Lists.{within}
use Rattle.common.proofs.Laws.Bits.{bits_ext}
use Rattle.common.proofs.Laws.Booleans.{or_true, or_false}
use Rattle.common.proofs.Laws.Choice.{cond_same, cases}
use Rattle.common.proofs.Laws.Places.{within_yes}
use Rattle.state.specs.declared.Planned.{Planned}
use Rattle.promises.specs.Promises.{Device, Plans, plan_refusal, updated, Partway, ReadyToPlan, PlanAnswered, Promises}
use Rattle.promises.proofs.Laws.Answered.{plan_answered}
use Rattle.promises.proofs.Laws.Promises.{unwanted_bit_stays, updated_at, updated_partway}
use Rattle.promises.proofs.Laws.Unless.{unless_none, unless_kept}
use Rattle.book.specs.Book.{used_part, wanted_part, is_listed}
use Rattle.book.specs.Refusals.{book_refusal, Opened}
use Rattle.book.specs.Answers.{Marks}
use Rattle.book.specs.Marking.{MarkFinished, MarkLost, BehindMark, BesideKept, AllMarked, OnlyListed, MarkedAgain}
use Rattle.book.proofs.Laws.Marked.{length_marked, marked_bytes, marked_bit}
use Rattle.book.proofs.Laws.Read.{read_is, used_length_lem, used_at, used_bytes}
use Rattle.book.proofs.Laws.Refusals.{opened_exactly, book_inside}

-- ---- what is wanted

module _ (array : List ℕ) (sector : ℕ) (scenes : List ℕ) (fits : sector + 512 ≤ length array) where
  abbrev wanted : List ℕ
  wanted = wanted_part array sector scenes

  pub wanted_length : length wanted ≡ 512
  wanted_length = length_marked scenes (used_part array sector) ∙ used_length_lem array sector fits

  pub wanted_bytes : Bytes array → Bytes wanted
  wanted_bytes bytes = marked_bytes scenes (used_part array sector) (used_bytes array sector fits bytes)

  -- a bit of it, by byte and bit and by the scene
  pub wanted_bit : (k b : ℕ) → k < 512 → b < 8 → bit_at (get_or wanted k 0) b ≡ cond (is_listed (k * 8 + b) scenes) 0 (bit_at (get_or array (sector + k) 0) b)
  wanted_bit k b h l =
      marked_bit scenes (used_part array sector) k b (rw (used_length_lem array sector fits) h) l
      ∙ ap (λ (x : ℕ). cond (is_listed (k * 8 + b) scenes) 0 (bit_at x b)) (used_at array sector fits k h)

  pub wanted_flag : (scene : ℕ) → scene < 4096
      → bit_at (get_or wanted (scene / 8) 0) (scene % 8) ≡ cond (is_listed scene scenes) 0 (bit_at (get_or array (sector + scene / 8) 0) (scene % 8))
  wanted_flag scene h =
      let is : scene / 8 * 8 + scene % 8 ≡ scene = omega arith in
      rw is at (wanted_bit (scene / 8) (scene % 8) (omega arith) (omega arith))

  -- a byte of the book is one of the region
  pub in_book : (k : ℕ) → k < 512 → within sector (length wanted) (sector + k) ≡ true
  in_book k h = within_yes sector (length wanted) (sector + k) (omega arith) (omega (arith, wanted_length))

-- a bit that is 0, or one of a list's
read_or_listed : (l : Bool) (x : ℕ) → eqb (cond l 0 x) 0 ≡ (eqb x 0 || l)
read_or_listed true x = sym (or_true (eqb x 0))
read_or_listed false x = sym (or_false (eqb x 0))

-- ---- an accepted marking

module _ (wp : Bool) (chip : Device) (sector : ℕ) (scenes buffer after : List ℕ) (r : Planned) (bytes : Bytes chip.array)
    (marks : Marks chip.state wp chip.array sector scenes buffer after r) (good : r.number ≡ 0) where
  abbrev before : List ℕ
  before = chip.array

  abbrev want : List ℕ
  want = wanted_part before sector scenes

  no_refusal : book_refusal chip.state before sector scenes ≡ 0
  no_refusal = unless_none (book_refusal chip.state before sector scenes) chip.state wp before sector want buffer after r marks good

  pub opened : Opened chip.state before sector scenes
  opened = (opened_exactly chip.state before sector scenes).when no_refusal

  pub inside : sector + 512 ≤ length before
  inside = book_inside chip.state before sector scenes opened

  pub plan_of : Plans chip.state wp before sector want buffer after r
  plan_of = marks.planned no_refusal

  pub answered : PlanAnswered chip.state wp before sector want buffer after r
  answered = plan_answered chip.state wp before sector want buffer after r plan_of

  pub kept : Promises wp chip sector want (length buffer)
  kept = unless_kept (book_refusal chip.state before sector scenes) wp chip sector want buffer after r bytes marks good

  -- ---- behind its script

  beside_of : (array : List ℕ) → Partway before sector want array → BesideKept sector before array
  beside_of array part = record { same_length = part.same_length; same_beside = rw (wanted_length before sector scenes inside) at part.outside }

  -- the array once the used bytes are as wanted
  all_marked : (array : List ℕ) → array ≡ updated before sector want → AllMarked sector scenes before array
  all_marked array e = record {
    flags = λ scene h.
        let here : sector + scene / 8 - sector ≡ scene / 8 = omega arith in
        let place = in_book before sector scenes inside (scene / 8) (omega arith) in
        let byte : get_or array (sector + scene / 8) 0 ≡ get_or want (scene / 8) 0 =
        ap (λ (l : List ℕ). get_or l (sector + scene / 8) 0) e
        ∙ updated_at before sector want (sector + scene / 8) (omega (arith, inside)) ∙ rw (place, here) refl in
        read_is array sector scene
        ∙ ap (λ (x : ℕ). eqb (bit_at x (scene % 8)) 0) byte
        ∙ ap (λ (x : ℕ). eqb x 0) (wanted_flag before sector scenes inside scene h)
        ∙ read_or_listed (is_listed scene scenes) (bit_at (get_or before (sector + scene / 8) 0) (scene % 8))
        ∙ ap (λ (t : Bool). t || is_listed scene scenes) (sym (read_is before sector scene));
    beside = beside_of array (rw e (updated_partway before sector want (omega (arith, inside, wanted_length before sector scenes inside))));
  }

  -- run to its end
  pub mark_finished : (done : Device) → MarkFinished wp chip sector scenes done → AllMarked sector scenes before done.array
  mark_finished done finished = all_marked done.array (kept.finished done finished)

  -- a bit that is wanted as it was stays, run to the end or cut anywhere
  bit_stays : (done : Device) → BehindMark wp chip sector scenes done → (k b : ℕ) → k < 512 → b < 8
      → cond (is_listed (k * 8 + b) scenes) 0 (bit_at (get_or before (sector + k) 0) b) ≡ bit_at (get_or before (sector + k) 0) b
      → bit_at (get_or done.array (sector + k) 0) b ≡ bit_at (get_or before (sector + k) 0) b
  bit_stays done behind k b h l same =
      let here : sector + k - sector ≡ k = omega arith in
      unwanted_bit_stays kept done behind (sector + k) b (λ _. rw here (wanted_bit before sector scenes inside k b h l ∙ same))

  pub mark_behind : (done : Device) → BehindMark wp chip sector scenes done → OnlyListed sector scenes before done.array
  mark_behind done behind = record {
    unlisted = λ scene h e.
        read_is done.array sector scene ∙ ap (λ (x : ℕ). eqb x 0) (stays scene h (rw e refl)) ∙ sym (read_is before sector scene);
    stays_read = λ scene h e.
        let z = eqb-true (flag before scene) 0 (sym (read_is before sector scene) ∙ e) in
        read_is done.array sector scene
        ∙ eq-eqb (flag done.array scene) 0 (stays scene h (ap (cond (is_listed scene scenes) 0) z ∙ cond_same (is_listed scene scenes) 0 ∙ sym z) ∙ z);
    beside = beside_of done.array (kept.partway done behind);
  }
    where
      flag : List ℕ → ℕ → ℕ
      flag array scene = bit_at (get_or array (sector + scene / 8) 0) (scene % 8)

      stays : (scene : ℕ) → scene < 4096 → cond (is_listed scene scenes) 0 (flag before scene) ≡ flag before scene → flag done.array scene ≡ flag before scene
      stays scene h same =
          let is : scene / 8 * 8 + scene % 8 ≡ scene = omega arith in
          bit_stays done behind (scene / 8) (scene % 8) (omega arith) (omega arith) (rw is same)

  -- planned again behind a cut
  pub mark_again : (cut : Device) → MarkLost wp chip sector scenes cut → MarkedAgain wp chip sector scenes (length buffer) cut
  mark_again cut lost = record {
    same_wanted = same_wanted;
    accepted = λ buffer' after' r' again enough. number_0 buffer' after' r' again (kept.again cut lost (length buffer') enough);
    accepted_in_worst = λ buffer' after' r' again enough. number_0 buffer' after' r' again (kept.again_in_worst cut lost (length buffer') enough);
    finishes = λ done finished. all_marked done.array (kept.completed cut done lost (rw same_wanted at finished));
    as_uncut = λ done uncut finished first. kept.completed cut done lost (rw same_wanted at finished) ∙ sym (kept.finished uncut first);
  }
    where
      ready : ReadyToPlan chip.state.chip cut
      ready = kept.ready cut (inr lost)

      only : OnlyListed sector scenes before cut.array
      only = mark_behind cut (inr lost)

      inside' : sector + 512 ≤ length cut.array
      inside' = rw only.beside.same_length inside

      -- a bit of either image is 0 where its scene is listed; where it is not, the cut has left it
      same_bit : (k b : ℕ) → k < 512 → b < 8
          → cond (is_listed (k * 8 + b) scenes) 0 (bit_at (get_or cut.array (sector + k) 0) b) ≡ cond (is_listed (k * 8 + b) scenes) 0 (bit_at (get_or before (sector + k) 0) b)
      same_bit k b h l = cases (is_listed (k * 8 + b) scenes) (λ t. rw t refl) (λ f. rw f (bit_stays cut (inr lost) k b h l (rw f refl)))

      same_wanted : wanted_part cut.array sector scenes ≡ want
      same_wanted =
          let long = wanted_length cut.array sector scenes inside' in
          ext_get_or 0 (wanted_part cut.array sector scenes) want (long ∙ sym (wanted_length before sector scenes inside))
          (λ k h. let l : k < 512 = omega (arith, long) in
          bits_ext 8 (get_or (wanted_part cut.array sector scenes) k 0) (get_or want k 0)
          (wanted_bytes cut.array sector scenes inside' ready.bytes k) (wanted_bytes before sector scenes inside bytes k)
          (λ b g. wanted_bit cut.array sector scenes inside' k b l g ∙ same_bit k b l g ∙ sym (wanted_bit before sector scenes inside k b l g)))

      opened' : Opened cut.state cut.array sector scenes
      opened' = record {
        sound = ready.sound;
        sized = ready.sized;
        scenes_kept = opened.scenes_kept;
        a_sector = rw ready.same_chip opened.a_sector;
      }

      number_0 : (buffer' after' : List ℕ) (r' : Planned) → Marks cut.state wp cut.array sector scenes buffer' after' r'
          → plan_refusal cut.state wp cut.array sector want (length buffer') ≡ 0 → r'.number ≡ 0
      number_0 buffer' after' r' again e =
          let plans = again.planned ((opened_exactly cut.state cut.array sector scenes).only_when opened') in
          (plan_answered cut.state wp cut.array sector (wanted_part cut.array sector scenes) buffer' after' r' plans).number_is ∙ rw same_wanted e
