-- A sample session: steps on a chip whose array has the same byte everywhere, and what each step must show. WP is high throughout.
use Rattle.std.specs.Prelude.{◌≡◌, Bool, true, List, [], ◌∷◌, ℕ, ◌<◌, leb, length, get_or}
use Rattle.state.specs.declared.State.{State}
use Rattle.state.specs.State.{data_of}
use Rattle.state.specs.Protection.{first_protected}
use Rattle.state.specs.Power.{power_up}
use Rattle.state.specs.Time.{pass_time}
use Rattle.frame.specs.Device.{Device, device, with_state}
use Rattle.frame.specs.Line.{Line, on_line, Long}
use Rattle.frame.specs.Ran.{ran_device}
use Rattle.frame.specs.Call.{FrameRun}
use Rattle.script.specs.Record.{encode, frames_in, microseconds_in}
use Rattle.plan.specs.Refusals.{plan_refusal}
use Rattle.plan.specs.Update.{given_records}

pub data Step : Type 0 where
  -- a frame, the whole output, and which of its bytes are driven
  send : List ℕ → List ℕ → List ℕ → Step
  -- so many microseconds pass
  pass : ℕ → Step
  -- the power goes and comes back
  powered : Step
  -- the array's byte at an address
  byte_is : ℕ → ℕ → Step
  -- whether an address is protected
  protects : ℕ → Bool → Step
  -- a plan: start, wanted bytes, room; its script, frames and microseconds
  plans : ℕ → List ℕ → ℕ → List ℕ → ℕ → ℕ → Step

-- by the public calls' own statements; a frame's lent line is any of the frame's length
abbrev pub Runs : Device → List Step → Type 0
Runs d [] = Unit {0}
Runs d (send f output driven ∷ steps) =
    ((lent : Line) → Long (length f) lent → FrameRun true f d lent 0 (ran_device true f d) (on_line output driven)) × Runs (ran_device true f d) steps
Runs d (pass n ∷ steps) = ((pass_time d.state n).number ≡ 0) × Runs (with_state d (pass_time d.state n).state) steps
Runs d (powered ∷ steps) = ((power_up d.state).number ≡ 0) × Runs (with_state d (power_up d.state).state) steps
Runs d (byte_is address byte ∷ steps) = (get_or d.array address 0 ≡ byte) × Runs d steps
Runs d (protects address answer ∷ steps) = (leb (first_protected d.state) address ≡ answer) × Runs d steps
Runs d (plans start wanted room script frames microseconds ∷ steps) =
    ((plan_refusal d.state true d.array start wanted room ≡ 0)
    × (encode (given_records d.state true d.array start wanted room) ≡ script)
    × (frames_in (given_records d.state true d.array start wanted room) ≡ frames)
    × (microseconds_in (given_records d.state true d.array start wanted room) ≡ microseconds))
    × Runs d steps

pub record Session : Type 0 where
  pub state : State
  -- the byte that stands everywhere in the array
  pub fill : ℕ
  pub steps : List Step

-- for every array of the chip's true size
abbrev pub Holds : Session → Type 0
Holds x =
    (array : List ℕ) → length array ≡ (data_of x.state).size → ((k : ℕ) → k < length array → get_or array k 0 ≡ x.fill)
    → Runs (device x.state array) x.steps
