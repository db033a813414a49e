-- How records run, cut anywhere: rules by which the proof of a run takes the shape of its script.
-- Over any chip, and any records that program what is wanted.
-- Assumes nothing.
use mathlib.Core.Path.{◌≡◌, refl, sym, subst, ◌∙◌}
use mathlib.Core.List.{List, [], ◌∷◌, ◌++◌}
use Prim.Native.Nat.{ℕ, ◌<◌}
use lib.ListN.{length}
use Rattle.common.specs.Lists.{mapi}
use Rattle.state.specs.declared.State.{State}
use Rattle.state.specs.Soundness.{Sound}
use Rattle.state.specs.Time.{time_passed}
use Rattle.state.proofs.Laws.Time.{time_passed_sound}
use Rattle.command.specs.declared.Command.{Command}
use Rattle.command.specs.Command.{command_of}
use Rattle.registers.specs.Registers.{state_after}
use Rattle.registers.proofs.Laws.Kept.{command_sound}
use Rattle.script.specs.Record.{Record, frame, wait, AllFit}
use Rattle.script.proofs.Laws.Records.{all_fit_left, all_fit_right}
use Rattle.effect.specs.declared.Effect.TheVariants.{Keep}
use Rattle.effect.specs.Effect.{changed}
use Rattle.effect.specs.Cut.{cut}
use Rattle.frame.specs.Effect.{effect_of}
use Rattle.frame.specs.Device.{Device}
use Rattle.frame.proofs.Laws.Cut.{cut_by_time}
use Rattle.run.specs.Run.{step, run}
use Rattle.run.proofs.Laws.Run.{run_none, run_first, run_append}
use Rattle.powercut.proofs.Laws.Near.{Near, Programs, Settled, keep_programs, near_cut}
use Rattle.effect.proofs.Laws.Straight.{keep_array}
use Rattle.powercut.proofs.Laws.States.{standing}
use Rattle.powercut.proofs.Laws.Safe.{Task, HeldBy, Safe, safe_in_time, Inside, Always, always_append, always_now}
use Rattle.run.proofs.Laws.Trace.{step_frame, step_wait}

module _ (t : Task) where
  -- all below an address is settled
  abbrev pub Done : ℕ → List ℕ → Type 0
  Done z array = (k : ℕ) → k < z → k < length t.chip.array → Settled t.want array k

  -- the records run from a chip: safe on the way, the state at the end, and what is settled then
  pub record Ran (end : State) (z : ℕ) (rs : List Record) (d : Device) : Type 0 where
    pub always : Always t rs d
    pub safe : Safe t (run t.level rs d)
    pub ends : (run t.level rs d).state ≡ end
    pub done : Done z (run t.level rs d).array

  -- from a sound state, if the records fit
  abbrev pub Runs : State → ℕ → List Record → State → List ℕ → Type 0
  Runs end z rs s array = Sound s → AllFit rs → Ran end z rs (standing t.chip s array)

  -- each byte between what was given and what is wanted
  abbrev pub OnItsWay : List ℕ → Type 0
  OnItsWay array = Near t.chip.array t.want array

  pub ran_nil : {s : State} {array : List ℕ} (z : ℕ) → HeldBy t.chip.state s → OnItsWay array → Done z array → Runs s z [] s array
  ran_nil {s} {array} z held near done sound fits =
      let d : Device = standing t.chip s array in
      let safe : Safe t d = record { sound = sound; held = held; near = near } in
      let none : run t.level [] d ≡ d = run_none t.level d in
      record { always = safe; safe = rw none safe; ends = rw none refl; done = rw none done }

  module _ {end : State} {z : ℕ} where
    ran_cons : (r : Record) (rs : List Record) (d e : Device) → step t.level r d ≡ e → Safe t d → Inside t r d → Ran end z rs e → Ran end z (r ∷ rs) d
    ran_cons r rs d e law safe inside h =
        let q : Ran end z rs (step t.level r d) = rw law h in
        let first : run t.level (r ∷ rs) d ≡ run t.level rs (step t.level r d) = run_first t.level r rs d in
        record { always = (safe, (inside, q.always)); safe = rw first q.safe; ends = rw first q.ends; done = rw first q.done }

    -- a frame, by the command that it is
    pub ran_frame : (c : Command) {f : List ℕ} {s : State} {array : List ℕ} {rs : List Record} → command_of s t.level f ≡ c → Programs t.want (effect_of c) f
        → HeldBy t.chip.state s → OnItsWay array
        → Runs end z rs (state_after s c) (mapi (changed (effect_of c) f) array) → Runs end z (frame f ∷ rs) s array
    ran_frame c {f} {s} {array} {rs} law programs held near then sound fits =
        let safe : Safe t (standing t.chip s array) = record { sound = sound; held = held; near = near } in
        let sound_then : Sound (state_after s c) = rw law at (command_sound s t.level f sound) in
        let q = then sound_then fits.1 in
        let now = always_now t rs (standing t.chip (state_after s c) (mapi (changed (effect_of c) f) array)) q.always in
        ran_cons (frame f) rs (standing t.chip s array) (standing t.chip (state_after s c) (mapi (changed (effect_of c) f) array))
        (step_frame t.level (standing t.chip s array) f ∙ rw law refl) safe
        (λ mask masked.
        let after : List ℕ = mapi (cut (effect_of c) f mask) array in
        let met : Safe t (standing t.chip (state_after s c) after) =
        record { sound = sound_then; held = now.held; near = near_cut t.chip.array t.want array near (effect_of c) f programs mask t.bytes masked } in
        rw law (cut_by_time s c mask (λ (x : State). Safe t (standing t.chip x after)) met (λ n. safe_in_time t n (standing t.chip (state_after s c) after) met)))
        q

    -- a frame that leaves the array alone
    pub ran_quiet : (c : Command) {f : List ℕ} {s : State} {array : List ℕ} {rs : List Record} → command_of s t.level f ≡ c → effect_of c ≡ Keep
        → HeldBy t.chip.state s → OnItsWay array → Runs end z rs (state_after s c) array → Runs end z (frame f ∷ rs) s array
    ran_quiet c {f} {s} {array} {rs} law quiet held near then =
        ran_frame c law (rw quiet (keep_programs t.want f)) held near (rw (quiet, keep_array f array) then)

    pub ran_wait : {n : ℕ} {s : State} (after : State) {array : List ℕ} {rs : List Record} → time_passed s n ≡ after
        → HeldBy t.chip.state s → OnItsWay array → Runs end z rs after array → Runs end z (wait n ∷ rs) s array
    ran_wait {n} {s} after {array} {rs} law held near then sound fits =
        ran_cons (wait n) rs (standing t.chip s array) (standing t.chip after array) (step_wait t.level (standing t.chip s array) n ∙ rw law refl)
        (record { sound = sound; held = held; near = near }) tt (then (rw law at (time_passed_sound s n sound)) fits.1)

  pub ran_append : {middle end : State} {y z : ℕ} {rs ss : List Record} {s : State} {array : List ℕ} → Runs middle y rs s array
      → ((now : List ℕ) → OnItsWay now → Done y now → Runs end z ss middle now) → Runs end z (rs ++ ss) s array
  ran_append {middle} {end} {y} {z} {rs} {ss} {s} {array} first then sound fits =
      let d : Device = standing t.chip s array in
      let r = first sound (all_fit_left rs ss fits) in
      let e : Device = run t.level rs d in
      let q : Ran end z ss (standing t.chip e.state e.array) =
      subst (λ (x : State). Ran end z ss (standing t.chip x e.array)) (sym r.ends)
      (then e.array r.safe.near r.done (subst Sound r.ends r.safe.sound) (all_fit_right rs ss fits)) in
      record {
        always = always_append t rs ss d r.always q.always;
        safe = rw (run_append t.level rs ss d) q.safe;
        ends = rw (run_append t.level rs ss d) q.ends;
        done = rw (run_append t.level rs ss d) q.done;
      }
