-- Step 3 of a plan runs: pages, on a chip whose plans go by pages. Wherever it is cut, the array is on its way.
-- Assumes nothing.
use mathlib.Core.Path.{◌≡◌, refl, ap, ◌∙◌}
use mathlib.Core.Bool.{Bool, true, false}
use mathlib.Core.List.{List, ◌∷◌, ◌++◌}
use mathlib.Core.Logic.{◌⊎◌, inl, inr, ⊎_elim}
use Prim.Native.Nat.{ℕ, zero, suc, ◌+◌, ◌*◌, ◌%◌, ◌≤◌, ◌<◌}
use native.Mathlib.Omega.{arith}
use lib.ListN.{length}
use lib.Seq.{get_or-append-add}
use Rattle.common.specs.Lists.{tab}
use Rattle.common.proofs.Laws.Lists.{split, length_tab, get_d_tab}
use Rattle.state.specs.declared.State.{State}
use Rattle.state.specs.State.{data_of}
use Rattle.command.specs.declared.Command.TheVariants.{WriteEnable, ProgramPage}
use Rattle.registers.proofs.Laws.After.{after_write_enable, after_program_page}
use Rattle.script.specs.Record.{Record}
use Rattle.effect.proofs.Laws.Straight.{program_touches, page_straight}
use Rattle.effect.specs.declared.Effect.{Effect}
use Rattle.effect.specs.declared.Effect.TheVariants.{Program}
use Rattle.effect.specs.Effect.{page_effect, touches}
use Rattle.common.specs.Numbers.{address_bytes}
use Rattle.pages.specs.Pages.{before_first, part_length, part_records, pages_step}
use Rattle.pages.proofs.Laws.Spans.{first_false}
use Rattle.pages.proofs.Laws.Pages.{part_within, part_first, part_behind, part_records_none, part_records_some, pages_step_end, pages_step_turn}
use Rattle.powercut.specs.PowerCut.{state_after_plan}
use Rattle.powercut.proofs.Laws.States.{rest, border, ending_append, still_at_rest}
use Rattle.powercut.proofs.Laws.Near.{Programs, Settled, program_programs, near_changed, settled_touched, settled_changed, settled_start}
use Rattle.powercut.proofs.Laws.Safe.{Task, HeldBy}
use Rattle.powercut.proofs.Laws.Run.{Done, Runs, OnItsWay, ran_nil, ran_frame, ran_quiet, ran_wait, ran_append}
use Rattle.powercut.proofs.Laws.Frames.{write_enable, page_sent, page_done}

-- n bytes sent to address a and up, within a page
module _ (w : ℕ → ℕ) (a n : ℕ) (one_page : a % 256 + n ≤ 256) where
  abbrev sent : List ℕ
  sent = 0x02 ∷ (address_bytes a ++ tab n (λ i. w (a + i)))

  -- they don't go round the page
  straight : page_effect a n ≡ Program a n 4
  straight = page_straight a n one_page

  page_programs : Programs w (page_effect a n) sent
  page_programs =
      rw straight
      (program_programs w sent a n 4
      (λ j h. get_or-append-add (0x02 ∷ address_bytes a) (tab n (λ i. w (a + i))) j 0 ∙ get_d_tab n (λ i. w (a + i)) j 0 h))

  page_touches : (k : ℕ) → a ≤ k → k < a + n → touches (page_effect a n) k ≡ true
  page_touches k h l = rw straight (program_touches a n 4 k h l)

module _ (t : Task) (d : ℕ → Bool) (bp : ℕ) (held : HeldBy t.chip.state (rest t.chip.state bp false false)) (no_words : (data_of t.chip.state).word_plans ≡ false)
    (calm : (k : ℕ) → d k ≡ false → k < length t.chip.array → Settled t.want t.chip.array k)
    (free : (k : ℕ) → d k ≡ true → k < border t.chip.state bp) where
  abbrev s : State
  s = t.chip.state

  abbrev w : ℕ → ℕ
  w = t.want

  -- n bytes from address a within a page, the first of them one that changes; below z all others are settled
  part_ran : (a n z : ℕ) (wel armed : Bool) (array : List ℕ) → (0 < n → d a ≡ true) → (0 < n → a % 256 + n ≤ 256) → OnItsWay t array
      → ((k : ℕ) → k < z → (k < a) ⊎ (a + n ≤ k) → k < length t.chip.array → Settled w array k)
      → Runs t (state_after_plan (part_records w a n) (rest s bp wel armed)) z (part_records w a n) (rest s bp wel armed) array
  part_ran a zero z wel armed array first one near others =
      rw (part_records_none w a) (ran_nil t z held near (λ k h. others k h (⊎_elim (λ l. inl l) (λ l. inr (omega arith)) (split k a))))
  part_ran a (suc n) z wel armed array first one near others =
      let page : a % 256 + suc n ≤ 256 = one (omega arith) in
      let f : List ℕ = sent w a (suc n) page in
      let e : Effect = page_effect a (suc n) in
      let programs = page_programs w a (suc n) page in
      let near_then = near_changed t.chip.array w array near e f programs in
      rw (part_records_some w a n)
      (ran_quiet t WriteEnable (write_enable t.level s bp wel armed) refl held near
      (rw (after_write_enable (rest s bp wel armed))
      (ran_frame t (ProgramPage a (suc n))
      (page_sent t.level s bp true a (w (a + 0)) (tab n (λ i. w (a + suc i))) no_words (free a (first (omega arith))) ∙ ap (ProgramPage a) (length_tab (suc n) (λ i. w (a + i))))
      programs held near
      (rw (after_program_page (rest s bp true true) a (suc n))
      (ran_wait t (rest s bp false false) (page_done t.level s bp) held near_then
      (ran_nil t z held near_then
      (λ k h l. ⊎_elim (λ i. settled_changed t.chip.array w array near e f programs k l (others k h (inl i) l))
      (λ i. ⊎_elim (λ j. settled_touched t.chip.array w array near e f programs k l (page_touches w a (suc n) page k i j))
      (λ j. settled_changed t.chip.array w array near e f programs k l (others k h (inr j) l)) (split k (a + suc n))) (split k a))))))))

  -- in a page, what comes before the first changing byte or behind the last is settled as it stands
  page_others : (page : ℕ) (array : List ℕ) → OnItsWay t array → Done t page array → (k : ℕ) → k < page + 256
      → (k < page + before_first d 256 page) ⊎ (page + before_first d 256 page + part_length d page ≤ k) → k < length t.chip.array → Settled w array k
  page_others page array near done k h others l =
      ⊎_elim (λ i. done k i l)
      (λ i. settled_start t.chip.array w array near k l (calm k
      (⊎_elim (λ o. first_false d 256 page k i o) (λ o. part_behind d page k o h) others) l))
      (split k page)

  pub pages_ran : (n page z : ℕ) (wel armed : Bool) (array : List ℕ) → z ≤ page + n * 256 → page % 256 ≡ 0 → OnItsWay t array → Done t page array
      → Runs t (state_after_plan (pages_step w d n page) (rest s bp wel armed)) z (pages_step w d n page) (rest s bp wel armed) array
  pages_ran zero page z wel armed array h e near done = rw (pages_step_end w d page) (ran_nil t z held near (λ k i. done k (omega arith)))
  pages_ran (suc n) page z wel armed array h e near done =
      let part : List Record = part_records w (page + before_first d 256 page) (part_length d page) in
      let l = part_within d page in
      rw (pages_step_turn w d page n, ← (ending_append part (pages_step w d n (page + 256)) (rest s bp wel armed)))
      (ran_append t
      (part_ran (page + before_first d 256 page) (part_length d page) (page + 256) wel armed array (part_first d page) (λ i. omega arith) near
      (page_others page array near done))
      (λ now near done. still_at_rest s bp wel armed part (λ (x : State). Runs t (state_after_plan (pages_step w d n (page + 256)) x) z (pages_step w d n (page + 256)) x now)
      (λ wel armed. pages_ran n (page + 256) z wel armed now (omega arith) (omega arith) near done)))
