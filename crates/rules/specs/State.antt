-- A chip's state (01, "State"), field by field: what a setter of the model sets, and that it leaves every other field.
use Rattle.std.specs.Prelude.{◌≡◌, Bool, ℕ}
use Rattle.state.specs.declared.State.{State}
use Rattle.state.specs.State.{with_left, with_wel, with_armed, with_power_down, with_aai, with_bits, with_pending}

-- the state of these fields; every state is one
abbrev pub state_of : ℕ → ℕ → Bool → Bool → Bool → Bool → Bool → Bool → Bool → ℕ → ℕ → ℕ → State
state_of chip bp tb bpl wel aai armed asleep pending bits left next = record {
  chip = chip;
  bp = bp;
  tb = tb;
  bpl = bpl;
  wel = wel;
  aai = aai;
  armed = armed;
  power_down = asleep;
  pending = pending;
  pending_bits = bits;
  left = left;
  next = next;
}

pub record Setters (chip bp : ℕ) (tb bpl wel aai armed asleep pending : Bool) (bits left next : ℕ) : Type 0 where
  pub sets_left : (n : ℕ)
      → with_left (state_of chip bp tb bpl wel aai armed asleep pending bits left next) n ≡ state_of chip bp tb bpl wel aai armed asleep pending bits n next
  pub sets_wel : (b : Bool)
      → with_wel (state_of chip bp tb bpl wel aai armed asleep pending bits left next) b ≡ state_of chip bp tb bpl b aai armed asleep pending bits left next
  pub sets_armed : (b : Bool)
      → with_armed (state_of chip bp tb bpl wel aai armed asleep pending bits left next) b ≡ state_of chip bp tb bpl wel aai b asleep pending bits left next
  pub sets_power_down : (b : Bool)
      → with_power_down (state_of chip bp tb bpl wel aai armed asleep pending bits left next) b ≡ state_of chip bp tb bpl wel aai armed b pending bits left next
  -- AAI and its next address
  pub sets_aai : (b : Bool) (n : ℕ)
      → with_aai (state_of chip bp tb bpl wel aai armed asleep pending bits left next) b n ≡ state_of chip bp tb bpl wel b armed asleep pending bits left n
  -- BP, TB and BPL
  pub sets_bits : (n : ℕ) (b c : Bool)
      → with_bits (state_of chip bp tb bpl wel aai armed asleep pending bits left next) n b c ≡ state_of chip n b c wel aai armed asleep pending bits left next
  -- a status write that goes on, and the bits that it is to set
  pub sets_pending : (b : Bool) (n : ℕ)
      → with_pending (state_of chip bp tb bpl wel aai armed asleep pending bits left next) b n ≡ state_of chip bp tb bpl wel aai armed asleep b n left next
