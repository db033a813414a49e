-- A region's bytes and what is sent for them, in the planner's own words: `changes`, `wanted_at`, an address as three bytes. What is said of them
-- fixes the bytes of a frame.
-- Assumes nothing.
use mathlib.Core.Path.{◌≡◌, refl, sym, ◌∙◌}
use mathlib.Core.Bool.{true}
use mathlib.Core.List.{List, ◌∷◌}
use mathlib.Core.Logic.{⊎_elim}
use Prim.Native.Nat.{ℕ, ◌+◌, ◌/◌, ◌%◌, ◌<◌}
use native.Mathlib.Nat.{div-div-eq-div-mul}
use native.Mathlib.Omega.{arith}
use lib.ListN.{length}
use lib.Seq.{ext_get_or}
use borrow.Author.Tests.{ne_eqb}
use Rattle.common.proofs.Laws.Lists.{split}
use Rattle.common.proofs.Laws.Places.{within_bounds, within_below, within_above}
use Rattle.region.specs.Region.{wanted_at, changes}
use Rattle.region.proofs.Laws.Region.{wanted_inside, wanted_out, change_in_region, change_differs, changes_inside}
use Rattle.rules.specs.Sent.{Changing, AsWanted, InThreeBytes, sent, SentAsWanted}

module _ (array : List ℕ) (start : ℕ) (wanted : List ℕ) (address : ℕ) where
  pub changing_of : changes array start wanted address ≡ true → Changing array start wanted address
  changing_of e =
      let b = within_bounds start (length wanted) address (change_in_region array start wanted address e) in
      record {
        from = b.0;
        below = b.1;
        differs = λ q. change_differs array start wanted address e (q ∙ sym (wanted_inside start wanted address b.0 (omega arith)));
      }

  pub of_changing : Changing array start wanted address → changes array start wanted address ≡ true
  of_changing c = changes_inside array start wanted address c.from (omega (arith, c.from, c.below)) ∙ rw (ne_eqb _ _ c.differs) refl

pub wanted_as_wanted : (start : ℕ) (wanted : List ℕ) (address : ℕ) → AsWanted start wanted address (wanted_at start wanted address)
wanted_as_wanted start wanted address = record {
  inside = λ h l. wanted_inside start wanted address h (omega arith);
  before = λ h. wanted_out start wanted address (within_below start (length wanted) address h);
  behind = λ h. wanted_out start wanted address (within_above start (length wanted) address h);
}

-- an address that three bytes can hold
pub in_three_bytes : (address : ℕ) → address < 16777216 → InThreeBytes address (address / 65536 % 256) (address / 256 % 256) (address % 256)
in_three_bytes address h =
    let e : address / 256 / 256 ≡ address / 65536 = div-div-eq-div-mul address 256 256 in
    record { high_first = omega arith; high_byte = omega arith; middle_byte = omega arith; low_byte = omega arith }

-- ---- what is sent is fixed

module _ (start : ℕ) (wanted : List ℕ) where
  byte_determined : (address : ℕ) {x y : ℕ} → AsWanted start wanted address x → AsWanted start wanted address y → x ≡ y
  byte_determined address p q =
      ⊎_elim (λ h. p.before h ∙ sym (q.before h))
      (λ h. ⊎_elim (λ l. p.inside h l ∙ sym (q.inside h l)) (λ l. p.behind l ∙ sym (q.behind l)) (split address (start + length wanted)))
      (split address start)

  pub bytes_determined : (address : ℕ) (xs ys : List ℕ) → length xs ≡ length ys → SentAsWanted start wanted (sent address xs)
      → SentAsWanted start wanted (sent address ys) → xs ≡ ys
  bytes_determined address xs ys e p q = ext_get_or 0 xs ys e (λ i h. byte_determined (address + i) (p i h) (q i (omega arith)))

  -- behind their address
  pub addressed_determined : {a b h m l i n k : ℕ} (xs ys : List ℕ) → a ≡ b → length xs ≡ length ys → InThreeBytes a h m l → InThreeBytes b i n k
      → SentAsWanted start wanted (sent a xs) → SentAsWanted start wanted (sent b ys) → h ∷ m ∷ l ∷ xs ≡ i ∷ n ∷ k ∷ ys
  addressed_determined {a} {b} {h} {m} {l} {i} {n} {k} xs ys same long c d p q =
      let high : h ≡ i = omega arith in
      let middle : m ≡ n = omega arith in
      let low : l ≡ k = omega arith in
      let bytes : xs ≡ ys = bytes_determined b xs ys long (rw same at p) q in
      cc
