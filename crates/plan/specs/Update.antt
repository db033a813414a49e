-- What planning an update answers (01, "Scripts and plans"; "Refusal numbers").
use Rattle.std.specs.Prelude.{◌≡◌, Bool, Result, IfOk, List, [], ◌++◌, ℕ}
use lib.ListN.{length, drop}
use Rattle.common.specs.Buffer.{written}
use Rattle.common.specs.Refusals.{accepted, number_in}
use Rattle.common.specs.declared.refusals.Refusal.{Refusal}
use Rattle.script.specs.Record.{Record, encode, frames_in, microseconds_in}
use Rattle.script.specs.Measure.{measure_of}
use Rattle.script.specs.declared.measure.Measure.{Measure}
use Rattle.state.specs.declared.State.{State}
use Rattle.state.specs.declared.Planned.{Planned}
use Rattle.plan.specs.Plan.{plan_records}
use Rattle.plan.specs.Refusals.{plan_refusal}

-- the records that come out: the plan's, and none where it is refused
unfoldable pub given_records : State → Bool → List ℕ → ℕ → List ℕ → ℕ → List Record
given_records s wp array start wanted room = accepted (plan_refusal s wp array start wanted room) (plan_records s array start wanted) []

-- "at the front of a lent buffer, the rest untouched"
abbrev pub at_front : List ℕ → List ℕ → List ℕ
at_front script buffer = script ++ drop (length script) buffer

-- What comes of a plan before it is answered: its refusal, or what its script amounts to. The script stands at the front of the buffer, or nothing is written.
pub record Scripted (number : ℕ) (script : List Record) (buffer after : List ℕ) (r : Result Measure Refusal) : Type 0 where
  pub number_lem : number_in r ≡ number
  pub measured : IfOk r (λ m. m ≡ measure_of script)
  pub buffer_after : after ≡ accepted number (written 0 (encode script) buffer) buffer

-- The answer, and the buffer before and after. A plan changes no state; a refused one also "changes no buffer and returns .. length and counts 0".
pub record PlanUpdated (s : State) (wp : Bool) (array : List ℕ) (start : ℕ) (wanted buffer after : List ℕ) (r : Planned) : Type 0 where
  pub number : r.number ≡ plan_refusal s wp array start wanted (lib.ListN.length buffer)
  pub state : r.state ≡ s
  pub length : r.length ≡ lib.ListN.length (encode (given_records s wp array start wanted (lib.ListN.length buffer)))
  pub frames : r.frames ≡ frames_in (given_records s wp array start wanted (lib.ListN.length buffer))
  pub microseconds : r.microseconds ≡ microseconds_in (given_records s wp array start wanted (lib.ListN.length buffer))
  pub buffer_after : after ≡ at_front (encode (given_records s wp array start wanted (lib.ListN.length buffer))) buffer

-- the same under one name, for the layers above: passed on to them shut (crate `promises`)
unfoldable pub Plans : State → Bool → List ℕ → ℕ → List ℕ → List ℕ → List ℕ → Planned → Type 0
Plans s wp array start wanted buffer after r = PlanUpdated s wp array start wanted buffer after r
