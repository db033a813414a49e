-- The sentences of step 3 fix its records: the least page with a change comes next, its part holds what another's holds, so two lists of parts go on
-- with the same one.
-- Assumes nothing.
use mathlib.Core.Path.{◌≡◌, refl}
use mathlib.Core.List.{List, [], ◌∷◌}
use mathlib.Core.Logic.{⊎_elim}
use Prim.Native.Nat.{ℕ, suc, ◌+◌, ◌/◌, ◌≤◌}
use native.Mathlib.Omega.{arith}
use lib.ListN.{length}
use Rattle.common.specs.Lists.{Each}
use Rattle.common.proofs.Laws.Lists.{split}
use Rattle.script.specs.Record.{Record}
use Rattle.rules.specs.Sent.{Changing, Sent, sent, Covers, HeldBy, SentAsWanted}
use Rattle.rules.specs.PlanPages.{PagesSaid, sends, ends, PagesRise, last_of, FirstToLast, PagesStep}
use Rattle.rules.proofs.Laws.Sent.{addressed_determined}

module _ (array : List ℕ) (start : ℕ) (wanted : List ℕ) where
  -- a byte of a part is of the part's page
  page_of : (x : Sent) → FirstToLast array start wanted x → (k : ℕ) → Covers x k → k / 256 ≡ x.address / 256
  page_of x f k held = omega (arith, f.one_page, f.some, held.0, held.1)

  held_from : (page : ℕ) (parts : List Sent) → PagesRise page parts → Each (FirstToLast array start wanted) parts → (k : ℕ) → HeldBy parts k → page ≤ k / 256
  held_from page [] r f k held = absurd held
  held_from page (x ∷ xs) r f k held =
      ⊎_elim (λ here. omega (arith, page_of x f.0 k here, r.0)) (λ there. omega (arith, r.0, held_from (suc (x.address / 256)) xs r.1 f.1 k there))
      held

  -- what step 3 says of the parts from a page on
  record PartsFrom (page : ℕ) (parts : List Sent) : Type 0 where
    rising : PagesRise page parts
    from_first_to_last : Each (FirstToLast array start wanted) parts
    all_changes : (address : ℕ) → page ≤ address / 256 → Changing array start wanted address → HeldBy parts address
    as_wanted : Each (SentAsWanted start wanted) parts

  behind_first : {page : ℕ} {x : Sent} {xs : List Sent} → PartsFrom page (x ∷ xs) → (next : ℕ) → next ≡ suc (x.address / 256) → PartsFrom next xs
  behind_first {page} {x} f next e = record {
    rising = rw e f.rising.1;
    from_first_to_last = f.from_first_to_last.1;
    all_changes = λ k h c.
        ⊎_elim (λ here. absurd (omega (arith, page_of x f.from_first_to_last.0 k here))) (λ there. there)
        (f.all_changes k (omega (arith, f.rising.0)) c);
    as_wanted = f.as_wanted.1;
  }

  -- the first part holds each change of its page and of those before
  first_holds : {page : ℕ} (x : Sent) {xs : List Sent} → PartsFrom page (x ∷ xs) → (k : ℕ) → page ≤ k / 256 → k / 256 ≤ x.address / 256
      → Changing array start wanted k → Covers x k
  first_holds x {xs} f k h l c =
      ⊎_elim (λ here. here)
      (λ there. absurd (omega (arith, held_from (suc (x.address / 256)) xs f.rising.1 f.from_first_to_last.1 k there)))
      (f.all_changes k h c)

  -- so its page is not behind that of another list's first part,
  page_le : {page : ℕ} (x y : Sent) {xs ys : List Sent} → PartsFrom page (x ∷ xs) → PartsFrom page (y ∷ ys) → x.address / 256 ≤ y.address / 256
  page_le x y f g =
      ⊎_elim
      (λ l. let held = first_holds x f y.address g.rising.0 (omega arith) g.from_first_to_last.0.first in absurd (omega (arith, held.0)))
      (λ h. h) (split (y.address / 256) (x.address / 256))

  -- and it holds all of that part
  first_covers : {page : ℕ} (x y : Sent) {xs ys : List Sent} → PartsFrom page (x ∷ xs) → PartsFrom page (y ∷ ys)
      → (x.address ≤ y.address) × (y.address + length y.bytes ≤ x.address + length x.bytes)
  first_covers x y f g =
      let le = page_le y x g f in
      let e = g.from_first_to_last.0 in
      let first = first_holds x f y.address g.rising.0 le e.first in
      let last = first_holds x f (last_of y) (omega (arith, g.rising.0, e.one_page)) (omega (arith, e.one_page)) e.last in
      (first.0, omega (arith, last.1, e.some))

  parts_determined : (page : ℕ) {rs ss : List Record} {xs ys : List Sent} → PagesSaid rs xs → PagesSaid ss ys → PartsFrom page xs → PartsFrom page ys
      → rs ≡ ss
  parts_determined page (sends {address = a} {bytes = x} b p) (sends {address = a'} {bytes = x'} c q) f g =
      let one = first_covers (sent a x) (sent a' x') f g in
      let other = first_covers (sent a' x') (sent a x) g f in
      let same : a ≡ a' = omega arith in
      let bytes = addressed_determined start wanted x x' same (omega arith) b c f.as_wanted.0 g.as_wanted.0 in
      let rest = parts_determined (suc (a / 256)) p q (behind_first f (suc (a / 256)) refl) (behind_first g (suc (a / 256)) (omega arith)) in
      cc
  parts_determined page (sends {address = a} b p) ends f g = absurd (g.all_changes a f.rising.0 f.from_first_to_last.0.first)
  parts_determined page ends (sends {address = a} c q) f g = absurd (f.all_changes a g.rising.0 g.from_first_to_last.0.first)
  parts_determined page ends ends f g = refl

  pub pages_step_determined : {rs ss : List Record} → PagesStep array start wanted rs → PagesStep array start wanted ss → rs ≡ ss
  pages_step_determined p q = parts_determined 0 p.one_after_another q.one_after_another (from_0 p) (from_0 q)
    where
      from_0 : {rs : List Record} (p : PagesStep array start wanted rs) → PartsFrom 0 p.parts
      from_0 p = record {
        rising = p.rising;
        from_first_to_last = p.from_first_to_last;
        all_changes = λ k _ c. p.all_changes k c;
        as_wanted = p.as_wanted;
      }
