-- What a plan of one sector leaves, run to its end or cut anywhere, in bytes of the sector: from the planner's promises alone.
-- Assumes nothing.
use mathlib.Core.Path.{◌≡◌, refl, sym, ap, ◌∙◌}
use mathlib.Core.Bool.{Bool}
use mathlib.Core.List.{List}
use mathlib.Core.Logic.{◌⊎◌, ⊎_elim}
use Prim.Native.Nat.{ℕ, ◌+◌, ◌-◌, ◌≤◌, ◌<◌}
use native.Mathlib.Omega.{arith}
use lib.ListN.{length, get_or}
use Rattle.common.specs.Bits.{Bytes, bit_at}
use Rattle.common.proofs.Laws.Bits.{bit_lt, bit_not, bit_above, bits_ext}
use Rattle.common.proofs.Laws.Lists.{split}
use Rattle.common.proofs.Laws.Places.{within_yes}
use Rattle.promises.specs.Promises.{Device, WantedRises, updated, Finished, BehindPlan, Promises}
use Rattle.promises.proofs.Laws.Promises.{updated_at, updated_length}
use Rattle.sectors.specs.Images.{sector_part}
use Rattle.sectors.proofs.Laws.Images.{sector_at, sector_is, sector_bytes_lem}

-- no bit was to rise, and each is as before or as wanted
pub record Between (before wanted after : List ℕ) : Type 0 where
  pub bytes_before : Bytes before
  pub bytes_wanted : Bytes wanted
  pub bytes_after : Bytes after
  pub falls : (k b : ℕ) → k < 4096 → bit_at (get_or wanted k 0) b ≡ 1 → bit_at (get_or before k 0) b ≡ 0 → ⊥
  pub bits : (k b : ℕ) → k < 4096 → (bit_at (get_or after k 0) b ≡ bit_at (get_or before k 0) b) ⊎ (bit_at (get_or after k 0) b ≡ bit_at (get_or wanted k 0) b)

-- each bit of FF is 1
pub erased_bit : (b : ℕ) → b < 8 → bit_at 0xff b ≡ 1
erased_bit b h = bit_not 0 b (omega arith) h ∙ ap (λ (n : ℕ). 1 - n) (bit_above 0 0 b (omega arith) (omega arith))

module _ {before wanted after : List ℕ} (m : Between before wanted after) (k : ℕ) (inside : k < 4096) where
  -- a byte that is wanted as it was stays
  pub stays : get_or wanted k 0 ≡ get_or before k 0 → get_or after k 0 ≡ get_or before k 0
  stays e =
      bits_ext 8 (get_or after k 0) (get_or before k 0) (m.bytes_after k) (m.bytes_before k)
      (λ b h. ⊎_elim (λ same. same) (λ new. new ∙ ap (λ (x : ℕ). bit_at x b) e) (m.bits k b inside))

  -- where FF is wanted it was there, and is
  pub erased_before : get_or wanted k 0 ≡ 0xff → get_or before k 0 ≡ 0xff
  erased_before e = bits_ext 8 (get_or before k 0) 0xff (m.bytes_before k) (omega arith) (λ b h. one b h ∙ sym (erased_bit b h))
    where
      one : (b : ℕ) → b < 8 → bit_at (get_or before k 0) b ≡ 1
      one b h =
          ⊎_elim (λ none. absurd (m.falls k b inside (ap (λ (x : ℕ). bit_at x b) e ∙ erased_bit b h) (omega arith)))
          (λ some. omega (arith, bit_lt (get_or before k 0) b)) (split (bit_at (get_or before k 0) b) 1)

  pub erased_after : get_or wanted k 0 ≡ 0xff → get_or after k 0 ≡ 0xff
  erased_after e = stays (e ∙ sym (erased_before e)) ∙ erased_before e

  -- still no bit has to rise
  pub still_falls : (b : ℕ) → bit_at (get_or wanted k 0) b ≡ 1 → bit_at (get_or after k 0) b ≡ 0 → ⊥
  still_falls b one none = ⊎_elim (λ same. m.falls k b inside one (sym same ∙ none)) (λ new. omega (arith, one, none, new)) (m.bits k b inside)

-- ---- of a chip

module _ {wp : Bool} {chip : Device} {sector : ℕ} {wanted : List ℕ} {room : ℕ} (kept : Promises wp chip sector wanted room)
    (fits : sector + 4096 ≤ length chip.array) (long : length wanted ≡ 4096) where
  pub same_size : (after : Device) → BehindPlan wp chip sector wanted after → length after.array ≡ length chip.array
  same_size after behind = (kept.partway after behind).same_length

  pub between : Bytes chip.array → Bytes wanted → (WantedRises chip.array sector wanted → ⊥) → (after : Device) → BehindPlan wp chip sector wanted after
      → Between (sector_part chip.array sector) wanted (sector_part after.array sector)
  between bytes wanted_bytes falls after behind = record {
    bytes_before = sector_bytes_lem chip.array sector fits bytes;
    bytes_wanted = wanted_bytes;
    bytes_after = sector_bytes_lem after.array sector fits_after (kept.ready after behind).bytes;
    falls = λ k b h one none. falls record {
      place = k;
      bit = b;
      inside = omega arith;
      wanted_1 = one;
      array_0 = ap (λ (x : ℕ). bit_at x b) (sym (sector_at chip.array sector fits k h)) ∙ none;
    };
    bits = λ k b h.
        let here : sector + k - sector ≡ k = omega arith in
        let place = within_yes sector (length wanted) (sector + k) (omega arith) (omega arith) in
        rw (sector_at chip.array sector fits k h, sector_at after.array sector fits_after k h) (rw here at ((kept.partway after behind).region (sector + k) b place));
  }
    where
      fits_after : sector + 4096 ≤ length after.array
      fits_after = rw (same_size after behind) fits

  -- an array that is updated has the sector as wanted;
  pub updated_sector : (array : List ℕ) → array ≡ updated chip.array sector wanted → sector_part array sector ≡ wanted
  updated_sector array is =
      sector_is array sector (omega (arith, ap length is, updated_length chip.array sector wanted)) wanted long
      (λ k h. let here : sector + k - sector ≡ k = omega arith in
      let place = within_yes sector (length wanted) (sector + k) (omega arith) (omega arith) in
      ap (λ (l : List ℕ). get_or l (sector + k) 0) is ∙ updated_at chip.array sector wanted (sector + k) (omega arith) ∙ rw (place, here) refl)

  -- so has a chip whose plan was run to its end
  pub finished_sector : (after : Device) → Finished wp chip sector wanted after → sector_part after.array sector ≡ wanted
  finished_sector after done = updated_sector after.array (kept.finished after done)
