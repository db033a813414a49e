-- The part of a page that step 3 sends: found by looking at its bytes, and its bytes as they are sent.
-- Assumes nothing.
use mathlib.Core.Path.{◌≡◌, refl, sym, ap, ◌∙◌}
use mathlib.Core.Bool.{Bool, true, false, not, true≢false}
use mathlib.Core.List.{List, [], ◌∷◌, ◌++◌, append-nil}
use mathlib.Core.Logic.{⊎_elim}
use Prim.Native.Nat.{ℕ, suc, ◌+◌, ◌-◌, ◌≤◌, ◌<◌}
use native.Mathlib.Omega.{arith}
use lib.Dec.{ltb, eqb}
use borrow.Author.Tests.{ltb-true, ltb-false, not-true, not-false}
use Rattle.std.specs.Ordering.{is_lt, nat_cmp}
use Rattle.common.proofs.Laws.Choice.{cases}
use lib.ListN.{length, get_or, take, drop, length-drop}
use lib.Seq.{ext_get_or, get_or-take, get_or-drop, length-take-le}
use Rattle.common.specs.Lists.{tab}
use Rattle.common.proofs.Laws.Lists.{split, length_tab, get_d_tab}
use Rattle.script.specs.Record.{frame, wait, encode_record, encode, frame_head}
use Rattle.script.proofs.Laws.Records.{encode_none, encode_front, encoded_frame}
use Rattle.region.specs.Region.{wanted_at}
use Rattle.common.specs.Numbers.{address_bytes}
use Rattle.region.proofs.Laws.Region.{wanted_inside}
use Rattle.std.specs.declared.ops.Range.{Range}
use Rattle.pages.specs.Pages.{before_first, through_last, part_length, part_records}
use Rattle.pages.specs.Parts.{First, Behind, PartIn, PagePart}
use Rattle.pages.proofs.Laws.Spans.{first_is, last_is, last_none}

-- what `is_empty` says of a range
pub lt_test : (a b : ℕ) → is_lt (nat_cmp a b) ≡ ltb a b
lt_test a b = cases (ltb a b) (λ e. rw e refl) (λ e. cases (eqb a b) (λ f. rw (e, f) refl) (λ f. rw (e, f) refl))

pub none_in : (a b : ℕ) → true ≡ not (is_lt (nat_cmp a b)) → b ≤ a
none_in a b e = ltb-false a b (not-true (ltb a b) (sym (rw (lt_test a b) at e)))

pub some_in : (a b : ℕ) → false ≡ not (is_lt (nat_cmp a b)) → a < b
some_in a b e = ltb-true a b (not-false (ltb a b) (sym (rw (lt_test a b) at e)))

-- searched for from `from` on and below `to`, where nothing of the page changes outside
pub page_part : (d : ℕ → Bool) (start : ℕ) (wanted : List ℕ) (page from to f t : ℕ)
    → start ≤ from → to ≤ start + length wanted → page ≤ from → to ≤ page + 256
    → ((k : ℕ) → page ≤ k → k < from → d k ≡ false) → ((k : ℕ) → to ≤ k → k < page + 256 → d k ≡ false)
    → First d from to f → Behind d f to t → PagePart d start wanted page record { start = f; end = t }
unfolding part_length
page_part d start wanted page from to f t ls he lp hp before after first behind =
    ⊎_elim
    (λ some. ⊎_elim (λ forth.
    let e : page + before_first d 256 page ≡ f =
    first_is d 256 page f (omega arith) (omega arith) (first.here some)
    (λ k i j. ⊎_elim (λ l. before k i l) (λ l. first.before k l j) (split k from)) in
    let g : page + through_last d 256 page ≡ t =
    last_is d 256 page t (omega arith) (omega arith) (behind.here forth)
    (λ k i j. ⊎_elim (λ l. behind.after k i l) (λ l. after k l j) (split k to)) in
    record { inside = inside; long = omega arith; first = λ _. sym e })
    (λ back. absurd (true≢false (sym (first.here some) ∙ behind.after f back some))) (split f t))
    (λ none.
    let z : through_last d 256 page ≡ 0 =
    last_none d 256 page
    (λ k i j. ⊎_elim (λ l. before k i l) (λ l. ⊎_elim (λ m. first.before k l m) (λ m. after k (omega arith) j) (split k f)) (split k from)) in
    record { inside = inside; long = omega arith; first = λ l. absurd (omega arith) })
    (split f to)
  where
    inside : PartIn start wanted record { start = f; end = t }
    inside = record { low = omega arith; forth = omega arith; high = omega arith; short = omega arith }

-- what it adds to the script is said by its own ends
pub part_found : (w : ℕ → ℕ) (d : ℕ → Bool) (start : ℕ) (wanted : List ℕ) (page : ℕ) (part : Range ℕ) → PagePart d start wanted page part
    → part_records w (page + before_first d 256 page) (part_length d page) ≡ part_records w part.start (part.end - part.start)
unfolding part_records
part_found w d start wanted page part p =
    ⊎_elim (λ l. rw (p.long, p.first l) refl)
    (λ l. let z : part_length d page ≡ 0 = omega (arith, p.long) in let y : part.end - part.start ≡ 0 = omega arith in rw (z, y) refl)
    (split part.start part.end)

-- its bytes as they are sent: the wanted ones are a part of the slice
wanted_part_lem : (start : ℕ) (wanted : List ℕ) (from n : ℕ) → start ≤ from → from + n ≤ start + length wanted
    → tab n (λ i. wanted_at start wanted (from + i)) ≡ take n (drop (from - start) wanted)
wanted_part_lem start wanted from n low high =
    let short : n ≤ length (drop (from - start) wanted) = omega (arith, length-drop (from - start) wanted) in
    ext_get_or 0 (tab n (λ i. wanted_at start wanted (from + i))) (take n (drop (from - start) wanted))
    (length_tab n (λ i. wanted_at start wanted (from + i)) ∙ sym (length-take-le n (drop (from - start) wanted) short))
    (λ i h. let l : i < n = omega (arith, length_tab n (λ i. wanted_at start wanted (from + i))) in
    let e : from + i - start ≡ from - start + i = omega arith in
    get_d_tab n (λ i. wanted_at start wanted (from + i)) i 0 l ∙ wanted_inside start wanted (from + i) (omega arith) (omega arith)
    ∙ ap (λ (k : ℕ). get_or wanted k 0) e ∙ sym (get_or-take n (drop (from - start) wanted) i 0 l ∙ get_or-drop (from - start) wanted i 0))

abbrev pub part_bytes : ℕ → List ℕ → ℕ → ℕ → List ℕ
part_bytes start wanted from to =
    encode_record (frame (0x06 ∷ []))
    ++ (frame_head (4 + (to - from))
    ++ ((0x02 ∷ address_bytes from)
    ++ (take (to - start - (from - start)) (drop (from - start) wanted)
    ++ encode_record (wait 1500))))

pub part_bytes_lem : (start : ℕ) (wanted : List ℕ) (from to : ℕ) → start ≤ from → from < to → to ≤ start + length wanted
    → encode (part_records (wanted_at start wanted) from (to - from)) ≡ part_bytes start wanted from to
unfolding part_records
part_bytes_lem start wanted from to low forth high =
    let more : to - from ≡ suc (to - from - 1) = omega arith in
    let same : to - start - (from - start) ≡ suc (to - from - 1) = omega arith in
    let sent = wanted_part_lem start wanted from (suc (to - from - 1)) low (omega arith) in
    let body : List ℕ = 0x02 ∷ (address_bytes from ++ tab (suc (to - from - 1)) (λ i. wanted_at start wanted (from + i))) in
    let long : length body ≡ 4 + suc (to - from - 1) = omega (arith, length_tab (to - from - 1) (λ (k : ℕ). wanted_at start wanted (from + suc k))) in
    rw (more, same, ← sent, encode_front, encode_front, encode_front, encode_none, append-nil (encode_record (wait 1500)), encoded_frame body, long) refl
