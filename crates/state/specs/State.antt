-- The state of a chip, and one setter a field or pair of fields that go together: a further field is typed in here and nowhere else.
use Rattle.std.specs.Prelude.{Bool, ℕ}
use Rattle.state.specs.declared.State.{State}
use Rattle.chip.specs.declared.Chip.{Chip}
use Rattle.chip.specs.Chip.{chip_of}

-- the data of a state's chip
abbrev pub data_of : State → Chip
data_of s = chip_of s.chip

abbrev pub with_left : State → ℕ → State
with_left s n = record {
  chip = s.chip;
  bp = s.bp;
  tb = s.tb;
  bpl = s.bpl;
  wel = s.wel;
  aai = s.aai;
  armed = s.armed;
  power_down = s.power_down;
  pending = s.pending;
  pending_bits = s.pending_bits;
  left = n;
  next = s.next;
}

abbrev pub with_wel : State → Bool → State
with_wel s b = record {
  chip = s.chip;
  bp = s.bp;
  tb = s.tb;
  bpl = s.bpl;
  wel = b;
  aai = s.aai;
  armed = s.armed;
  power_down = s.power_down;
  pending = s.pending;
  pending_bits = s.pending_bits;
  left = s.left;
  next = s.next;
}

abbrev pub with_armed : State → Bool → State
with_armed s b = record {
  chip = s.chip;
  bp = s.bp;
  tb = s.tb;
  bpl = s.bpl;
  wel = s.wel;
  aai = s.aai;
  armed = b;
  power_down = s.power_down;
  pending = s.pending;
  pending_bits = s.pending_bits;
  left = s.left;
  next = s.next;
}

abbrev pub with_power_down : State → Bool → State
with_power_down s b = record {
  chip = s.chip;
  bp = s.bp;
  tb = s.tb;
  bpl = s.bpl;
  wel = s.wel;
  aai = s.aai;
  armed = s.armed;
  power_down = b;
  pending = s.pending;
  pending_bits = s.pending_bits;
  left = s.left;
  next = s.next;
}

-- AAI and its next address
abbrev pub with_aai : State → Bool → ℕ → State
with_aai s b n = record {
  chip = s.chip;
  bp = s.bp;
  tb = s.tb;
  bpl = s.bpl;
  wel = s.wel;
  aai = b;
  armed = s.armed;
  power_down = s.power_down;
  pending = s.pending;
  pending_bits = s.pending_bits;
  left = s.left;
  next = n;
}

-- the writable bits of the status register
abbrev pub with_bits : State → ℕ → Bool → Bool → State
with_bits s bp tb bpl = record {
  chip = s.chip;
  bp = bp;
  tb = tb;
  bpl = bpl;
  wel = s.wel;
  aai = s.aai;
  armed = s.armed;
  power_down = s.power_down;
  pending = s.pending;
  pending_bits = s.pending_bits;
  left = s.left;
  next = s.next;
}

-- a status write that goes on, and the bits that it writes
abbrev pub with_pending : State → Bool → ℕ → State
with_pending s b bits = record {
  chip = s.chip;
  bp = s.bp;
  tb = s.tb;
  bpl = s.bpl;
  wel = s.wel;
  aai = s.aai;
  armed = s.armed;
  power_down = s.power_down;
  pending = b;
  pending_bits = bits;
  left = s.left;
  next = s.next;
}
