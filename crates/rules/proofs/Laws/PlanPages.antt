-- Step 3 read off its records: the parts of the pages one after another, each from its first changing byte to its last.
-- Assumes nothing.
use mathlib.Core.Path.{◌≡◌, sym, ◌∙◌}
use mathlib.Core.Bool.{Bool, true, cond, true≢false}
use mathlib.Core.List.{List, [], ◌∷◌, ◌++◌}
use mathlib.Core.Logic.{⊎_elim, inl, inr}
use Prim.Native.Nat.{ℕ, zero, suc, ◌+◌, ◌*◌, ◌/◌, ◌%◌, ◌≤◌, ◌<◌}
use native.Mathlib.Omega.{arith}
use lib.Dec.{ltb}
use lib.ListN.{length}
use borrow.Author.Tests.{lt-ltb, ltb-true}
use Rattle.common.specs.Lists.{Each, tab}
use Rattle.common.proofs.Laws.Choice.{cond_elim}
use Rattle.common.proofs.Laws.Lists.{split, length_tab, get_d_tab}
use Rattle.script.specs.Record.{Record}
use Rattle.region.specs.Region.{Inside, wanted_at, changes}
use Rattle.pages.specs.Pages.{before_first, part_length, part_records, pages_step, pages_in, step_three}
use Rattle.pages.proofs.Laws.Spans.{first_false}
use Rattle.pages.proofs.Laws.Pages.{part_within, part_first, part_last, part_behind, part_records_none, part_records_some, pages_step_end, pages_step_turn}
use Rattle.rules.specs.Sent.{Sent, sent, HeldBy, SentAsWanted}
use Rattle.rules.specs.PlanPages.{PagesSaid, sends, ends, PagesRise, FirstToLast, PagesStep}
use Rattle.rules.proofs.Laws.Sent.{changing_of, of_changing, wanted_as_wanted, in_three_bytes}

module _ (array : List ℕ) (start : ℕ) (wanted : List ℕ) (inside : Inside array start wanted) where
  abbrev w : ℕ → ℕ
  w = wanted_at start wanted

  abbrev d : ℕ → Bool
  d = changes array start wanted

  -- the part of a page
  abbrev first_of : ℕ → ℕ
  first_of page = page + before_first d 256 page

  abbrev part_of : ℕ → Sent
  part_of page = sent (first_of page) (tab (part_length d page) (λ i. w (first_of page + i)))

  abbrev parts_of : ℕ → ℕ → List Sent
  parts_of zero page = []
  parts_of (suc n) page = cond (ltb 0 (part_length d page)) (part_of page ∷ parts_of n (page + 256)) (parts_of n (page + 256))

  change_small : (k : ℕ) → d k ≡ true → k < 16777216
  change_small k e = omega (arith, (changing_of array start wanted k e).below, inside.fits, inside.small)

  -- ---- what the records say

  said_turn : (a l : ℕ) → (0 < l → a < 16777216) → {rs : List Record} {parts : List Sent} → PagesSaid rs parts
      → PagesSaid (part_records w a l ++ rs) (cond (ltb 0 l) (sent a (tab l (λ i. w (a + i))) ∷ parts) parts)
  said_turn a zero h p = rw (part_records_none w a) p
  said_turn a (suc l) h p = rw (lt-ltb 0 (suc l) (omega arith), part_records_some w a l) (sends (in_three_bytes a (h (omega arith))) p)

  said : (n page : ℕ) → PagesSaid (pages_step w d n page) (parts_of n page)
  said zero page = rw (pages_step_end w d page) ends
  said (suc n) page =
      rw (pages_step_turn w d page n)
      (said_turn (first_of page) (part_length d page) (λ h. change_small (first_of page) (part_first d page h)) (said n (page + 256)))

  -- ---- each part

  each_part : (P : Sent → Type 0) → ((page : ℕ) → page % 256 ≡ 0 → 0 < part_length d page → P (part_of page)) → (n page : ℕ) → page % 256 ≡ 0
      → Each P (parts_of n page)
  each_part P h zero page aligned = tt
  each_part P h (suc n) page aligned =
      let rest = each_part P h n (page + 256) (omega arith) in
      cond_elim (Each P) (ltb 0 (part_length d page)) (λ t. (h page aligned (ltb-true 0 (part_length d page) t), rest)) (λ _. rest)

  first_to_last : (page : ℕ) → page % 256 ≡ 0 → 0 < part_length d page → FirstToLast array start wanted (part_of page)
  first_to_last page aligned h =
      let l = length_tab (part_length d page) (λ i. w (first_of page + i)) in
      let m = part_within d page in
      record {
        some = omega arith;
        one_page = rw l (omega arith);
        first = changing_of array start wanted (first_of page) (part_first d page h);
        last = rw l (changing_of array start wanted _ (part_last d page h));
      }

  part_as_wanted : (page : ℕ) → SentAsWanted start wanted (part_of page)
  part_as_wanted page i h =
      let f : ℕ → ℕ = λ i. w (first_of page + i) in
      rw (get_d_tab (part_length d page) f i 0 (omega (arith, length_tab (part_length d page) f))) (wanted_as_wanted start wanted (first_of page + i))

  -- ---- all of them

  rise : (n page from : ℕ) → page % 256 ≡ 0 → from ≤ page / 256 → PagesRise from (parts_of n page)
  rise zero page from aligned h = tt
  rise (suc n) page from aligned h =
      let m = part_within d page in
      cond_elim (PagesRise from) (ltb 0 (part_length d page))
      (λ t. let p = ltb-true 0 (part_length d page) t in (omega arith, rise n (page + 256) (suc (first_of page / 256)) (omega arith) (omega arith)))
      (λ _. rise n (page + 256) from (omega arith) (omega arith))

  held : (n page k : ℕ) → page ≤ k → k < page + 256 * n → d k ≡ true → HeldBy (parts_of n page) k
  held zero page k h l e = absurd (omega arith)
  held (suc n) page k h l e =
      ⊎_elim
      (λ (here : k < page + 256).
      let low : first_of page ≤ k = ⊎_elim (λ q. absurd (true≢false (sym e ∙ first_false d 256 page k h q))) (λ q. q) (split k (first_of page)) in
      let high : k < first_of page + part_length d page =
      ⊎_elim (λ q. q) (λ q. absurd (true≢false (sym e ∙ part_behind d page k q here))) (split k (first_of page + part_length d page)) in
      rw (lt-ltb 0 (part_length d page) (omega arith))
      (inl (low, omega (arith, length_tab (part_length d page) (λ i. w (first_of page + i))))))
      (λ (there : page + 256 ≤ k). let rest = held n (page + 256) k there (omega arith) e in cond_elim (λ (xs : List Sent). HeldBy xs k) (ltb 0 (part_length d page)) (λ _. inr rest) (λ _. rest))
      (split k (page + 256))

  pub pages_step_lem : PagesStep array start wanted (step_three array start wanted)
  pages_step_lem =
      let n : ℕ = pages_in start (length wanted) in
      let p : ℕ = start / 256 * 256 in
      let aligned : p % 256 ≡ 0 = omega arith in
      record {
        parts = parts_of n p;
        one_after_another = said n p;
        rising = rise n p 0 aligned (omega arith);
        from_first_to_last = each_part (FirstToLast array start wanted) first_to_last n p aligned;
        all_changes = λ k c. held n p k (omega (arith, c.from)) (omega (arith, c.below)) (of_changing array start wanted k c);
        as_wanted = each_part (SentAsWanted start wanted) (λ page _ _. part_as_wanted page) n p aligned;
      }
