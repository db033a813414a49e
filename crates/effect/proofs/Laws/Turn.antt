-- How far on from address a address k lies, round the page of both.
-- Assumes nothing.
use mathlib.Core.Path.{◌≡◌, ap, ◌∙◌}
use Prim.Native.Nat.{ℕ, ◌+◌, ◌-◌, ◌*◌, ◌/◌, ◌%◌, ◌≤◌, ◌<◌}
use native.Mathlib.Omega.{arith}
use lib.Arith.{digits_mod}
use Rattle.effect.specs.Effect.{turn}

-- by the offset alone
pub turn_offset : (a k : ℕ) → turn a (k % 256) ≡ turn a k
turn_offset a k =
    let e : k + (256 - a % 256) ≡ k / 256 * 256 + (k % 256 + (256 - a % 256)) = omega arith in
    omega arith

module _ (a k : ℕ) (page : k / 256 ≡ a / 256) where
  -- straight up
  pub turn_up : a ≤ k → turn a k ≡ k - a
  turn_up h =
      let e : k + (256 - a % 256) ≡ (k / 256 + 1) * 256 + (k - a) = omega arith in
      ap (λ (x : ℕ). x % 256) e ∙ digits_mod (k / 256 + 1) {m = 256} (omega arith)

  -- past the page's end
  pub turn_round : k < a → turn a k ≡ k + 256 - a
  turn_round h =
      let e : k + (256 - a % 256) ≡ k / 256 * 256 + (k + 256 - a) = omega arith in
      ap (λ (x : ℕ). x % 256) e ∙ digits_mod (k / 256) {m = 256} (omega arith)

-- one address on, by offset q in the page
module _ (a q : ℕ) (low : q < 256) where
  pub turn_here : turn a q ≡ 0 → q ≡ a % 256
  turn_here t = omega arith

  pub turn_next_here : turn a q ≡ 0 → turn (a + 1) q ≡ 255
  turn_next_here t = omega arith

  pub turn_there : 0 < turn a q → q ≡ a % 256 → ⊥
  turn_there t e = omega arith

  pub turn_next_there : 0 < turn a q → turn (a + 1) q + 1 ≡ turn a q
  turn_next_there t = omega arith
