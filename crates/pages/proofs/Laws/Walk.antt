-- A loop over the pages of a region: what is counted and what is left to count, and what is left to write.
-- Assumes nothing.
use mathlib.Core.Path.{◌≡◌, refl, sym, ap, ◌∙◌}
use mathlib.Core.Bool.{Bool, not, not-not}
use mathlib.Core.List.{List, [], ◌++◌}
use mathlib.Core.Logic.{⊎_elim}
use Prim.Native.Nat.{ℕ, suc, ◌+◌, ◌-◌, ◌*◌, ◌/◌, ◌≤◌, ◌<◌}
use native.Mathlib.Omega.{arith}
use mir.Val.{bool_byte}
use lib.Dec.{ltb}
use Rattle.std.specs.Ordering.{is_lt, nat_cmp}
use borrow.Author.Tests.{lt-ltb, le-ltb}
use Rattle.common.proofs.Laws.Lists.{split}
use Rattle.common.specs.Limits.{longest_wanted}
use Rattle.script.specs.Record.{encode}
use Rattle.script.proofs.Laws.Records.{encode_append, encode_none}
use Rattle.common.proofs.Laws.Flags.{flag_is}
use Rattle.std.specs.declared.ops.Range.{Range}
use Rattle.pages.specs.Pages.{part_records, pages_step, pages_in}
use Rattle.pages.specs.Parts.{page_count, byte_count, PagePart}
use Rattle.pages.proofs.Laws.Parts.{lt_test, part_found}
use Rattle.pages.proofs.Laws.Pages.{pages_le, bytes_le}

module _ (last page : ℕ) where
  one_more : page < last → last - page ≡ suc (last - (page + 1))
  one_more h = omega arith

  none_left : last ≤ page → last - page ≡ 0
  none_left h = omega arith

-- a page's neighbour
neighbour : (page : ℕ) → page * 256 + 256 ≡ (page + 1) * 256
neighbour page = omega arith

-- what has been counted before a page, and what is left to count from it on
pub record Counting (d : ℕ → Bool) (last page pages bytes all_pages all_bytes : ℕ) : Type 0 where
  pub pages_left : pages + page_count d (last - page) (page * 256) ≡ all_pages
  pub bytes_left : bytes + byte_count d (last - page) (page * 256) ≡ all_bytes
  pub few : all_pages ≤ 17
  pub short : all_bytes ≤ 4352

pub counting_start : (d : ℕ → Bool) (start n last : ℕ) → n ≤ longest_wanted → last - start / 256 ≡ pages_in start n
    → Counting d last (start / 256) 0 0 (page_count d (pages_in start n) (start / 256 * 256)) (byte_count d (pages_in start n) (start / 256 * 256))
counting_start d start n last h e =
    let m : pages_in start n ≤ 17 = omega arith in
    record {
      pages_left = rw e (omega arith);
      bytes_left = rw e (omega arith);
      few = omega (arith, pages_le d (pages_in start n) (start / 256 * 256));
      short = omega (arith, bytes_le d (pages_in start n) (start / 256 * 256));
    }

some_left : (from to : ℕ) → ltb from to ≡ ltb 0 (to - from)
some_left from to = ⊎_elim (λ l. lt-ltb from to l ∙ sym (lt-ltb 0 (to - from) (omega arith))) (λ l. le-ltb from to l ∙ sym (le-ltb 0 (to - from) (omega arith))) (split from to)

module _ {d : ℕ → Bool} {last page pages bytes all_pages all_bytes : ℕ} (c : Counting d last page pages bytes all_pages all_bytes) where
  pub counting_turn : page < last → {start : ℕ} {wanted : List ℕ} {part : Range ℕ} → PagePart d start wanted (page * 256) part
      → {empty : Bool} → empty ≡ not (is_lt (nat_cmp part.start part.end))
      → Counting d last (page + 1) (pages + bool_byte (not empty)) (bytes + (part.end - part.start)) all_pages all_bytes
  unfolding page_count byte_count
  counting_turn h {start} {wanted} {part} p {empty} e =
      let m = one_more last page h in
      let some : not empty ≡ ltb part.start part.end = ap not (e ∙ ap not (lt_test part.start part.end)) ∙ not-not (ltb part.start part.end) in
      record {
        pages_left = rw (some, flag_is (ltb part.start part.end), some_left part.start part.end, p.long, ← neighbour page) (omega (arith, rw m at c.pages_left));
        bytes_left = rw (p.long, ← neighbour page) (omega (arith, rw m at c.bytes_left));
        few = c.few;
        short = c.short;
      }

  pub counting_end : last ≤ page → (pages ≡ all_pages) × (bytes ≡ all_bytes)
  unfolding page_count byte_count
  counting_end h =
      let z = none_left last page h in
      (omega (arith, rw z at c.pages_left), omega (arith, rw z at c.bytes_left))

-- what is left to write
module _ (w : ℕ → ℕ) (d : ℕ → Bool) where
  pub pages_start : (start n last : ℕ) → last - start / 256 ≡ pages_in start n
      → pages_step w d (pages_in start n) (start / 256 * 256) ≡ pages_step w d (last - start / 256) (start / 256 * 256)
  pages_start start n last e = rw e refl

  pub pages_turn : (last page : ℕ) → page < last → {start : ℕ} {wanted : List ℕ} {part : Range ℕ} → PagePart d start wanted (page * 256) part
      → encode (pages_step w d (last - page) (page * 256))
      ≡ encode (part_records w part.start (part.end - part.start)) ++ encode (pages_step w d (last - (page + 1)) ((page + 1) * 256))
  unfolding pages_step
  pages_turn last page h {start} {wanted} {part} p =
      rw (one_more last page h, part_found w d start wanted (page * 256) part p, ← neighbour page)
      (encode_append (part_records w part.start (part.end - part.start)) (pages_step w d (last - (page + 1)) (page * 256 + 256)))

  pub pages_end : (last page : ℕ) → last ≤ page → encode (pages_step w d (last - page) (page * 256)) ≡ []
  unfolding pages_step
  pages_end last page h = rw (none_left last page h) encode_none
