-- The bytes that step 3 sends lie in the region, so they are at most its bytes; and where all of these change, every page of the region is sent, with all
-- that it shares with the region.
-- Assumes nothing.
use mathlib.Core.Path.{◌≡◌, refl, ◌∙◌}
use mathlib.Core.Bool.{Bool, true}
use mathlib.Core.Logic.{⊎_elim}
use Prim.Native.Nat.{ℕ, zero, suc, ◌+◌, ◌-◌, ◌*◌, ◌≤◌, ◌<◌, min, max}
use native.Mathlib.Omega.{arith}
use borrow.Author.Tests.{lt-ltb}
use Rattle.common.specs.Lists.{within}
use Rattle.common.proofs.Laws.Lists.{split}
use Rattle.common.proofs.Laws.Places.{within_bounds}
use Rattle.script.specs.Measure.{measure_of, AtMost}
use Rattle.pages.specs.Pages.{before_first, part_length, pages_step}
use Rattle.pages.specs.Parts.{page_count, byte_count}
use Rattle.pages.proofs.Laws.Pages.{part_within, part_first, part_last, part_holds, pages_le, pages_step_measure}

-- a region of n bytes from an address on; nothing outside it changes
module _ (d : ℕ → Bool) (start n : ℕ) (in_region : (k : ℕ) → d k ≡ true → within start n k ≡ true) where
  -- how many addresses of the region lie below one (`count_within`)
  abbrev region_below : ℕ → ℕ
  region_below x = min (x - start) n

  -- a part of a page and of the region, and the empty part
  some_inside : (page before part : ℕ) → before + part ≤ 256 → start ≤ page + before → page + before + part ≤ start + n
      → part + region_below page ≤ region_below (page + 256)
  some_inside page before part in_page low high = omega arith

  none_inside : (page part : ℕ) → part ≡ 0 → part + region_below page ≤ region_below (page + 256)
  none_inside page part none = omega arith

  part_inside : (page : ℕ) → part_length d page + region_below page ≤ region_below (page + 256)
  part_inside page =
      let before : ℕ = before_first d 256 page in
      let part : ℕ = part_length d page in
      ⊎_elim
      (λ some. let low = (within_bounds start n _ (in_region (page + before) (part_first d page some))).0 in
      let high = (within_bounds start n _ (in_region (page + before + part - 1) (part_last d page some))).1 in
      some_inside page before part (part_within d page) low (omega arith))
      (λ none. none_inside page part (omega arith)) (split 0 part)

  bytes_below : (m page : ℕ) → byte_count d m page + region_below page ≤ region_below (page + 256 * m)
  unfolding byte_count
  bytes_below zero page = let e : page + 256 * 0 ≡ page = omega arith in rw e (omega arith)
  bytes_below (suc m) page =
      let e : page + 256 * suc m ≡ page + 256 + 256 * m = omega arith in
      let here = part_inside page in
      let rest = bytes_below m (page + 256) in
      rw e (omega (arith, here, rest))

  pub bytes_inside : (m page : ℕ) → byte_count d m page ≤ n
  bytes_inside m page = omega (arith, bytes_below m page)

  pub pages_step_most : (w : ℕ → ℕ) (m page : ℕ)
      → AtMost (measure_of (pages_step w d m page)) record { length = 19 * m + n; frames = 2 * m; microseconds = 1500 * m }
  pages_step_most w m page =
      let pages = pages_le d m page in
      let bytes = bytes_inside m page in
      rw (pages_step_measure w d m page) record { frames = omega arith; microseconds = omega arith; bytes = omega arith }

  -- all of it changes
  module _ (all : (k : ℕ) → start ≤ k → k < start + n → d k ≡ true) where
    -- the first byte that a page shares with the region and the last are in its part, so all of them are
    all_inside : (page first last before part : ℕ) → first ≡ max page start → suc last ≡ min (page + 256) (start + n)
        → page + before ≤ first → last < page + before + part → region_below (page + 256) ≤ part + region_below page
    all_inside page first last before part f l low high = omega arith

    module _ (page : ℕ) (page_before : page < start + n) (page_behind : start < page + 256) (some : 0 < n) where
      shared : (k : ℕ) → max page start ≤ k → k < min (page + 256) (start + n)
          → (page + before_first d 256 page ≤ k) × (k < page + before_first d 256 page + part_length d page)
      shared k h l = part_holds d page k (omega arith) (omega arith) (all k (omega arith) (omega arith))

      part_shared : region_below (page + 256) ≤ part_length d page + region_below page
      part_shared =
          let last : ℕ = min (page + 256) (start + n) - 1 in
          all_inside page (max page start) last (before_first d 256 page) (part_length d page) refl (omega arith)
          (shared (max page start) (omega arith) (omega arith)).0 (shared last (omega arith) (omega arith)).1

    part_whole : (page : ℕ) → region_below (page + 256) ≤ part_length d page + region_below page
    part_whole page =
        ⊎_elim
        (λ h. ⊎_elim (λ g. ⊎_elim (λ some. part_shared page h g some) (λ none. omega arith) (split 0 n)) (λ g. omega arith) (split start (page + 256)))
        (λ h. omega arith) (split page (start + n))

    bytes_above : (m page : ℕ) → region_below (page + 256 * m) ≤ byte_count d m page + region_below page
    unfolding byte_count
    bytes_above zero page = let e : page + 256 * 0 ≡ page = omega arith in rw e (omega arith)
    bytes_above (suc m) page =
        let e : page + 256 * suc m ≡ page + 256 + 256 * m = omega arith in
        let here = part_whole page in
        let rest = bytes_above m (page + 256) in
        rw e (omega (arith, here, rest))

    bytes_whole : (m page : ℕ) → page ≤ start → start + n ≤ page + 256 * m → byte_count d m page ≡ n
    bytes_whole m page low high =
        let most = bytes_inside m page in
        let least = bytes_above m page in
        omega arith

    -- a page that shares a byte with the region has a part
    pages_whole : (m page : ℕ) → 0 < n → start < page + 256 → page + 256 * m < start + n + 256 → page_count d m page ≡ m
    unfolding page_count
    pages_whole zero page some low high = refl
    pages_whole (suc m) page some low high =
        let first = shared page (omega arith) low some (max page start) (omega arith) (omega arith) in
        rw (lt-ltb 0 (part_length d page) (omega arith)) (omega (arith, pages_whole m (page + 256) some (omega arith) (omega arith)))

    -- the pages from that of the first byte to that of the last
    pub pages_step_whole : (w : ℕ → ℕ) (m page : ℕ) → 0 < n → page ≤ start → start < page + 256 → start + n ≤ page + 256 * m → page + 256 * m < start + n + 256
        → measure_of (pages_step w d m page) ≡ record { length = 19 * m + n; frames = 2 * m; microseconds = 1500 * m }
    pages_step_whole w m page some low here high there =
        pages_step_measure w d m page ∙ rw (pages_whole m page some here there, bytes_whole m page low high) refl
