-- The refusals of a plan, in the order checked (01, "Refusal numbers").
use Rattle.std.specs.Prelude.{◌≡◌, Bool, true, false, not, ◌&&◌, ◌||◌, List, [], ◌∷◌, ◌++◌, ℕ, ◌+◌, ◌≤◌, ltb, eqb, length}
use Rattle.common.specs.Limits.{longest_wanted}
use Rattle.common.specs.Refusals.{state_not_sound, wrong_array, wrong_region, not_at_rest, wanted_rises, status_locked, buffer_too_short, first_of}
use Rattle.script.specs.Record.{encode}
use Rattle.state.specs.declared.State.{State}
use Rattle.state.specs.State.{data_of}
use Rattle.state.specs.Soundness.{is_sound, is_busy}
use Rattle.region.specs.Region.{wants_rise}
use Rattle.plan.specs.Plan.{step_one_needed, plan_records}

-- "not at rest: busy, AAI or power-down"
unfoldable pub is_active : State → Bool
is_active s = is_busy s || s.aai || s.power_down

-- "step 1 needed, BPL 1, WP low"
unfoldable pub is_locked : State → Bool → List ℕ → ℕ → List ℕ → Bool
is_locked s wp array start wanted = step_one_needed s array start wanted && s.bpl && not wp

-- the script's length, refused or not
unfoldable pub bytes_needed : State → List ℕ → ℕ → List ℕ → ℕ
bytes_needed s array start wanted = length (encode (plan_records s array start wanted))

-- those that ask neither for the WP level nor for the buffer
abbrev pub region_refusals : State → List ℕ → ℕ → List ℕ → List (ℕ × Bool)
region_refusals s array start wanted =
    (state_not_sound, not (is_sound s))  -- "state not sound, or chip number unknown"
    ∷ (wrong_array, not (eqb (length array) (data_of s).size))  -- "array length isn't the chip's size"
    ∷ (wrong_region, ltb longest_wanted (length wanted) || ltb (data_of s).size (start + length wanted))  -- "over 4,096 wanted bytes, or start plus length above the size"
    ∷ (not_at_rest, is_active s)
    ∷ (wanted_rises, wants_rise array start wanted)  -- "a wanted 1 where the array has 0"
    ∷ []

-- those that do
abbrev pub script_refusals : State → Bool → List ℕ → ℕ → List ℕ → ℕ → List (ℕ × Bool)
script_refusals s wp array start wanted room =
    (status_locked, is_locked s wp array start wanted)
    ∷ (buffer_too_short, ltb room (bytes_needed s array start wanted))  -- "script longer than the buffer"
    ∷ []

abbrev pub plan_refusals : State → Bool → List ℕ → ℕ → List ℕ → ℕ → List (ℕ × Bool)
plan_refusals s wp array start wanted room = region_refusals s array start wanted ++ script_refusals s wp array start wanted room

-- the call's number: 0 where no refusal holds
unfoldable pub plan_refusal : State → Bool → List ℕ → ℕ → List ℕ → ℕ → ℕ
plan_refusal s wp array start wanted room = first_of (plan_refusals s wp array start wanted room)

-- ---- an accepted plan in words

-- what is accepted whatever the WP level and the buffer are
pub record RegionAccepted (s : State) (array : List ℕ) (start : ℕ) (wanted : List ℕ) : Type 0 where
  pub sound : is_sound s ≡ true
  pub sized : length array ≡ (data_of s).size
  pub short : length wanted ≤ longest_wanted
  pub fits : start + length wanted ≤ (data_of s).size
  pub ready : s.left ≡ 0
  pub no_aai : s.aai ≡ false
  pub awake : s.power_down ≡ false
  pub falls : wants_rise array start wanted ≡ false

pub record Accepted (s : State) (wp : Bool) (array : List ℕ) (start : ℕ) (wanted : List ℕ) (room : ℕ) : Type 0 where
  pub region : RegionAccepted s array start wanted
  pub writable : step_one_needed s array start wanted && s.bpl && not wp ≡ false
  pub roomy : length (encode (plan_records s array start wanted)) ≤ room
