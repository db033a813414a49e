-- The chips: all that differs between them (01, "The two chips and what is modelled"). A further chip is one more value, in `models`.
use Rattle.std.specs.Prelude.{Bool, true, false, ◌||◌, cond, List, [], ◌∷◌, ℕ, eqb}
use Rattle.chip.specs.declared.Chip.{Chip}
use Rattle.chip.specs.declared.kinds.Kind.{Kind}
use Rattle.chip.specs.Instructions.{instructions_008a, instructions_05pa, kind_in}

-- The F25L008A (000).
abbrev pub f25l008a : Chip
f25l008a = record {
  size = 1048576;
  family = 0x20;  -- Table 9
  capacity = 0x14;
  signature = 0x13;  -- Table 5, RES
  preamble = 1;
  device_id = 0x13;  -- Table 10
  block_time = 1000000;  -- typical, as all times
  chip_time = 8000000;
  status_time = 0;  -- at once (01)
  aai = true;  -- Table 5, AAI
  word_plans = true;  -- 01, step 2
  ewsr = true;  -- Table 5, EWSR
  sleeps = false;
  top_bottom = false;  -- Table 4, bit 5 reserved
  graded = true;  -- Table 2
  new_level = 7;  -- Table 4, note 3
  keeps = false;  -- Table 4, note 2
}

-- The F25L05PA (004).
abbrev pub f25l05pa : Chip
f25l05pa = record {
  size = 65536;
  family = 0x30;  -- Table 7
  capacity = 0x10;
  signature = 0x05;  -- Table 6
  preamble = 4;  -- Table 5, RES
  device_id = 0x05;  -- Table 8
  block_time = 750000;  -- typical, as all times
  chip_time = 1000000;
  status_time = 5000;  -- T_W, "Erase and programming performance"
  aai = false;
  word_plans = false;  -- 01, step 3
  ewsr = false;
  sleeps = true;  -- Table 5, DP
  top_bottom = true;  -- Table 2, bit 5
  graded = false;  -- Table 3
  new_level = 0;  -- Table 2, note 3
  keeps = true;  -- Table 2, note 2
}

-- a chip that is known: its number (01), its data and its instructions
pub record Model : Type 0 where
  pub number : ℕ
  pub chip : Chip
  pub instructions : List (ℕ × Kind)

abbrev pub model_008a : Model
model_008a = record { number = 8; chip = f25l008a; instructions = instructions_008a }

abbrev pub model_05pa : Model
model_05pa = record { number = 5; chip = f25l05pa; instructions = instructions_05pa }

abbrev pub models : List Model
models = model_008a ∷ model_05pa ∷ []

-- some model has the number
abbrev pub number_in : List Model → ℕ → Bool
number_in [] number = false
number_in (m ∷ ms) number = eqb number m.number || number_in ms number

-- the first model that has the number, else the one that stands in
abbrev pub model_in : List Model → Model → ℕ → Model
model_in [] other number = other
model_in (m ∷ ms) other number = cond (eqb number m.number) m (model_in ms other number)

unfoldable pub is_known : ℕ → Bool
is_known number = number_in models number

-- of an unknown number the F25L05PA (ours)
abbrev pub model_of : ℕ → Model
model_of number = model_in models model_05pa number

-- the data of the chip of a number
unfoldable pub chip_of : ℕ → Chip
chip_of number = (model_of number).chip

abbrev pub instructions_of : ℕ → List (ℕ × Kind)
instructions_of number = (model_of number).instructions

-- an opcode's kind on the chip of a number
unfoldable pub kind_of : ℕ → ℕ → Kind
kind_of number op = kind_in (instructions_of number) op
