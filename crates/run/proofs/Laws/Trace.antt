-- A run step by step: the state behind some records and what becomes of one byte, without the array, so that a witness on a chip of the true size
-- is computed.
-- Assumes nothing.
use mathlib.Core.Path.{◌≡◌, refl, ap, ◌∙◌}
use mathlib.Core.Bool.{Bool}
use mathlib.Core.List.{List, [], ◌∷◌}
use Prim.Native.Nat.{ℕ, ◌<◌}
use lib.ListN.{length, get_or}
use Rattle.common.specs.Lists.{mapi}
use Rattle.common.proofs.Laws.Lists.{length_mapi, get_d_mapi}
use Rattle.state.specs.declared.State.{State}
use Rattle.state.specs.Time.{time_passed}
use Rattle.script.specs.Record.{Record, frame, wait}
use Rattle.effect.specs.Effect.{changed}
use Rattle.frame.specs.Device.{Device, device, with_state}
use Rattle.frame.specs.Ran.{effect_at, state_at}
use Rattle.frame.proofs.Laws.Ran.{ran_is}
use Rattle.run.specs.Run.{step, run}

module _ (wp : Bool) (d : Device) where
  pub step_frame : (f : List ℕ) → step wp (frame f) d ≡ device (state_at d.state wp f) (mapi (changed (effect_at d.state wp f) f) d.array)
  unfolding step
  step_frame f = ran_is wp f d

  pub step_wait : (n : ℕ) → step wp (wait n) d ≡ with_state d (time_passed d.state n)
  unfolding step
  step_wait n = refl

-- ---- without its array

abbrev pub state_behind : Bool → List Record → State → State
state_behind wp [] s = s
state_behind wp (frame f ∷ rs) s = state_behind wp rs (state_at s wp f)
state_behind wp (wait n ∷ rs) s = state_behind wp rs (time_passed s n)

-- the byte x at address k
abbrev pub byte_behind : Bool → List Record → State → ℕ → ℕ → ℕ
byte_behind wp [] s k x = x
byte_behind wp (frame f ∷ rs) s k x = byte_behind wp rs (state_at s wp f) k (changed (effect_at s wp f) f k x)
byte_behind wp (wait n ∷ rs) s k x = byte_behind wp rs (time_passed s n) k x

pub record Traced (wp : Bool) (rs : List Record) (d : Device) : Type 0 where
  pub state_is : (run wp rs d).state ≡ state_behind wp rs d.state
  pub byte_is_lem : (k : ℕ) → k < length d.array → get_or (run wp rs d).array k 0 ≡ byte_behind wp rs d.state k (get_or d.array k 0)

pub traced : (wp : Bool) (rs : List Record) (d : Device) → Traced wp rs d
unfolding run
traced wp [] d = record { state_is = refl; byte_is_lem = λ k l. refl }
traced wp (frame f ∷ rs) d =
    let e : Device = device (state_at d.state wp f) (mapi (changed (effect_at d.state wp f) f) d.array) in
    let law : step wp (frame f) d ≡ e = step_frame wp d f in
    let t : Traced wp rs e = traced wp rs e in
    let g : ℕ → ℕ → ℕ = changed (effect_at d.state wp f) f in
    record {
      state_is = ap (λ (x : Device). (run wp rs x).state) law ∙ t.state_is;
      byte_is_lem = λ k l. ap (λ (x : Device). get_or (run wp rs x).array k 0) law ∙ t.byte_is_lem k (rw (length_mapi g d.array) l)
          ∙ ap (byte_behind wp rs (state_at d.state wp f) k) (get_d_mapi g d.array k 0 l);
    }
traced wp (wait n ∷ rs) d =
    let e : Device = with_state d (time_passed d.state n) in
    let law : step wp (wait n) d ≡ e = step_wait wp d n in
    let t : Traced wp rs e = traced wp rs e in
    record { state_is = ap (λ (x : Device). (run wp rs x).state) law ∙ t.state_is; byte_is_lem = λ k l. ap (λ (x : Device). get_or (run wp rs x).array k 0) law ∙ t.byte_is_lem k l }
