-- A read in runs: silent bytes, then the array up to its top, then on from address 0, are the read byte by byte; and so is what of it is driven, in two.
-- Assumes nothing.
use mathlib.Core.Path.{◌≡◌, refl, sym, ap, ◌∙◌}
use mathlib.Core.List.{List}
use mathlib.Core.Logic.{⊎_elim}
use Prim.Native.Nat.{ℕ, ◌+◌, ◌-◌, ◌%◌, ◌≤◌, ◌<◌, min}
use native.Mathlib.Nat.{mod-eq_of_lt, add-mod_right}
use native.Mathlib.Omega.{arith}
use lib.ListN.{length, get_or}
use lib.Seq.{ext_get_or}
use borrow.Author.Tests.{lt-ltb, le-ltb, le-leb, lt-leb}
use Rattle.common.specs.Lists.{mapi, tab, on_run}
use Rattle.common.proofs.Laws.Lists.{split, length_mapi, get_d_mapi, length_tab, get_d_tab, mapi_mapi, mapi_cong, mapi_tab}
use Rattle.output.specs.Output.{byte_of, driven_of, memory, since, read_at}

module _ (size from at : ℕ) (array output : List ℕ) (below : from < size) (short : length output ≤ size) where
  abbrev head : ℕ
  head = min at (length output)

  abbrev top : ℕ
  top = head + min (length output - head) (size - from)

  abbrev silent : List ℕ
  silent = mapi (on_run 0 head (λ k x. 255)) output

  abbrev filled : List ℕ
  filled = mapi (on_run head top (λ k x. get_or array (from + (k - head)) 0)) silent

  abbrev whole : List ℕ
  whole = mapi (on_run top (length output) (λ k x. get_or array (0 + (k - top)) 0)) filled

  silent_long : length silent ≡ length output
  silent_long = length_mapi _ output

  filled_long : length filled ≡ length output
  filled_long = length_mapi _ silent ∙ silent_long

  at_place : (i : ℕ) → i < length output
      → get_or whole i 0
      ≡ on_run top (length output) (λ k x. get_or array (0 + (k - top)) 0) i
      (on_run head top (λ k x. get_or array (from + (k - head)) 0) i (on_run 0 head (λ k x. 255) i (get_or output i 0)))
  at_place i h =
      get_d_mapi _ filled i 0 (omega (arith, filled_long))
      ∙ ap (on_run top (length output) (λ k x. get_or array (0 + (k - top)) 0) i)
      (get_d_mapi _ silent i 0 (omega (arith, silent_long)) ∙ ap (on_run head top (λ k x. get_or array (from + (k - head)) 0) i) (get_d_mapi _ output i 0 h))

  -- below the data
  low : (i : ℕ) → i < length output → i < head → get_or whole i 0 ≡ byte_of (read_at size from at (memory array) i)
  low i h b =
      at_place i h
      ∙ rw (lt-leb top i (omega arith), lt-leb head i b, le-leb 0 i (omega arith), lt-ltb i head b, lt-ltb i at (omega arith)) refl

  -- up to the top of the array
  middle : (i : ℕ) → i < length output → head ≤ i → i < top → get_or whole i 0 ≡ byte_of (read_at size from at (memory array) i)
  middle i h a b =
      let e : head ≡ at = omega arith in
      at_place i h
      ∙ rw (lt-leb top i b, le-leb head i a, lt-ltb i top b, le-ltb i at (omega arith))
      (ap (memory array) (ap (λ (n : ℕ). from + (i - n)) e ∙ sym (mod-eq_of_lt (omega arith))))

  -- on from address 0
  high : (i : ℕ) → i < length output → top ≤ i → get_or whole i 0 ≡ byte_of (read_at size from at (memory array) i)
  high i h a =
      let e : from + (i - at) ≡ i - top + size = omega arith in
      let m : (i - top + size) % size ≡ i - top = add-mod_right (i - top) size ∙ mod-eq_of_lt (omega arith) in
      at_place i h
      ∙ rw (le-leb top i a, lt-ltb i (length output) h, le-ltb i at (omega arith))
      (ap (memory array) (zero_plus (i - top) ∙ sym (ap (λ (n : ℕ). n % size) e ∙ m)))
    where
      zero_plus : (n : ℕ) → 0 + n ≡ n
      zero_plus n = omega arith

  pub read_in_runs : whole ≡ tab (length output) (λ i. byte_of (read_at size from at (memory array) i))
  read_in_runs =
      let shown : ℕ → ℕ = λ i. byte_of (read_at size from at (memory array) i) in
      ext_get_or 0 whole (tab (length output) shown)
      (length_mapi _ filled ∙ filled_long ∙ sym (length_tab (length output) shown))
      (λ i l. let h : i < length output = omega (arith, length_mapi (on_run top (length output) (λ k x. get_or array (0 + (k - top)) 0)) filled, filled_long) in
      ⊎_elim (λ b. low i h b) (λ a. ⊎_elim (λ b. middle i h a b) (λ b. high i h b) (split i top)) (split i head)
      ∙ sym (get_d_tab (length output) shown i 0 h))

-- the second slice: nothing of the header is driven, and every byte behind it, whatever it is
module _ (at : ℕ) (driven : List ℕ) (bytes : ℕ → ℕ) where
  abbrev border : ℕ
  border = min at (length driven)

  pub driven_in_runs : mapi (on_run border (length driven) (λ k x. 1)) (mapi (on_run 0 border (λ k x. 0)) driven)
      ≡ tab (length driven) (λ i. driven_of (since at i (bytes i)))
  driven_in_runs =
      mapi_mapi (on_run 0 border (λ k x. 0)) (on_run border (length driven) (λ k x. 1)) driven
      ∙ mapi_cong (λ k x. on_run border (length driven) (λ k x. 1) k (on_run 0 border (λ k x. 0) k x)) (λ k x. driven_of (since at k (bytes k))) driven
      (λ k h. ⊎_elim (λ b. rw (lt-leb border k b, le-leb 0 k (omega arith), lt-ltb k border b, lt-ltb k at (omega arith)) refl)
      (λ a. rw (le-leb border k a, lt-ltb k (length driven) h, le-ltb k at (omega arith)) refl) (split k border))
      ∙ mapi_tab (λ i. driven_of (since at i (bytes i))) driven
