-- The calls together: what planning writes at the front of the buffer is a script, and running it on the same chip completes the update, with the counts
-- as planned; run so far by any of the calls and cut there, the chip is one that the planner's promises speak of.
-- Assumes nothing.
use mathlib.Core.Path.{◌≡◌, refl, sym, ap, ◌∙◌}
use mathlib.Core.Bool.{Bool}
use mathlib.Core.List.{List, [], ◌∷◌, ◌++◌, append_assoc}
use Prim.Native.Nat.{ℕ, ◌≤◌}
use native.Mathlib.Omega.{arith}
use lib.ListN.{length, take, drop}
use lib.Seq.{take_at}
use Rattle.common.specs.Bits.{Bytes}
use Rattle.state.specs.declared.Answer.{Answer}
use Rattle.state.specs.Power.{power_up}
use Rattle.state.specs.Time.{pass_time}
use Rattle.state.proofs.Laws.Soundness.{sound_of}
use Rattle.script.specs.Record.{Record, frame, wait, AllFit, encode, frames_in, microseconds_in, output_length}
use Rattle.script.specs.Decode.{records, decode}
use Rattle.script.specs.Answers.{number_of}
use Rattle.script.specs.Reader.{record_at}
use Rattle.std.specs.Prelude.{Some, None, Ok}
use Rattle.script.specs.declared.reader.Found.TheVariants.{Frame, Wait}
use Rattle.script.proofs.Laws.Records.{all_fit_left, encode_append, encoded_length}
use Rattle.script.proofs.Laws.Decode.{decode_encode}
use Rattle.script.proofs.Laws.Answers.{answer_told}
use Rattle.frame.specs.Device.{Device, with_state}
use Rattle.frame.specs.Line.{Line, Long}
use Rattle.frame.specs.Call.{frame_number, CutRun}
use Rattle.frame.proofs.Laws.Accepted as frames
use Rattle.run.specs.declared.Ran.{Ran}
use Rattle.run.specs.Run.{run, shown_by_all}
use Rattle.run.specs.Script.{script_number, ScriptAccepted, ScriptRun}
use Rattle.run.proofs.Laws.Accepted.{accepted_number, encoded_accepted}
use Rattle.run.proofs.Laws.Run.{Ready, shown_by_all_long, frame_accepted_among}
use Rattle.run.proofs.Laws.Script.{ran_of}
use Rattle.run.proofs.Laws.Prefix.{RanRecords, script_ran_records, records_before_ran, ReadTo, read_goes_on, read_frame, read_wait, RunTo, run_to_start, run_to_end}
use Rattle.state.specs.declared.Planned.{Planned}
use Rattle.plan.specs.Plan.{plan_records}
use Rattle.plan.specs.Refusals.{plan_refusal}
use Rattle.plan.specs.Update.{given_records, PlanUpdated}
use Rattle.plan.proofs.Laws.Plan.{plan_fits}
use Rattle.plan.proofs.Laws.Refusals.{accepted_of}
use Rattle.plan.proofs.Laws.Update.{plan_given}
use Rattle.worst.proofs.Laws.Worst.{plan_le}
use Rattle.powercut.specs.PowerCut.{between, inside, during, Finished, PowerLost, RunAsPlanned}
use Rattle.powercut.proofs.Laws.PowerCut.{power_cut_safe}

module _ (wp : Bool) (chip : Device) (start : ℕ) (wanted buffer after : List ℕ) (planned : Planned)
    (plans : PlanUpdated chip.state wp chip.array start wanted buffer after planned) (good : planned.number ≡ 0) where
  abbrev plan : List Record
  plan = plan_records chip.state chip.array start wanted

  -- the script: as many bytes at the front of the buffer as the answer says
  abbrev pub script : List ℕ
  script = take planned.length after

  accepted : plan_refusal chip.state wp chip.array start wanted (length buffer) ≡ 0
  accepted = sym plans.number ∙ good

  given : given_records chip.state wp chip.array start wanted (length buffer) ≡ plan
  given = plan_given chip.state wp chip.array start wanted buffer accepted

  pub script_is : script ≡ encode plan
  script_is =
      let front : after ≡ encode plan ++ drop (length (encode plan)) buffer = rw given at plans.buffer_after in
      let long : planned.length ≡ length (encode plan) = rw given at plans.length in
      ap (take planned.length) front ∙ take_at (encode plan) (drop (length (encode plan)) buffer) planned.length (sym long)

  fit : AllFit plan
  fit = plan_fits chip.state chip.array start wanted

  reads_back : decode script ≡ records plan
  reads_back = ap decode script_is ∙ decode_encode plan fit

  ready : Ready chip
  ready =
      let a = (accepted_of chip.state chip.array start wanted wp (length buffer) accepted).region in
      record { sound = sound_of chip.state a.sound; sized = a.sized }

  -- run by the call and accepted: the chip is then the one behind the plan
  pub accepted_run_finished : (line : Line) {ran : Ran} {chip_after : Device} {line_after : Line}
      → ScriptRun wp script chip line ran chip_after line_after → ran.number ≡ 0 → Finished wp chip start wanted chip_after
  unfolding Finished
  accepted_run_finished line runs good = (script_ran_records wp script chip line runs good reads_back).device_is

  module _ (line : Line) (long : Long (output_length plan) line) where
    -- the runner accepts it, with room for what it shows
    plan_script_accepted : ScriptAccepted wp script chip line
    plan_script_accepted =
        let a = (accepted_of chip.state chip.array start wanted wp (length buffer) accepted).region in
        rw script_is
        (encoded_accepted wp plan chip line ready.sound ready.sized fit
        (omega (arith, encoded_length plan, plan_le chip.state chip.array start wanted a.short)) long)

    pub plan_script_number : script_number wp script chip line ≡ 0
    plan_script_number = accepted_number wp script chip line plan_script_accepted

    module _ (ran : Ran) (chip_after : Device) (line_after : Line) (runs : ScriptRun wp script chip line ran chip_after line_after) where
      -- it answers and leaves what the records do
      did : RanRecords wp plan chip ran chip_after line_after
      did = script_ran_records wp script chip line runs (runs.number_is ∙ plan_script_number) reads_back

      pub run_finished : Finished wp chip start wanted chip_after
      run_finished = accepted_run_finished line runs (runs.number_is ∙ plan_script_number)

      pub run_as_planned : Bytes chip.array → RunAsPlanned chip start wanted planned ran chip_after
      run_as_planned bytes =
          let answers = did.answer_is in
          let uncut = (power_cut_safe wp chip start wanted (length buffer) bytes accepted).uncut in
          record {
            number = ap (λ (r : Ran). r.number) answers;
            state_is = ap (λ (r : Ran). r.state) answers ∙ uncut.state_is;
            array_is = ap (λ (d : Device). d.array) did.device_is ∙ uncut.array_is;
            frames_are = ap (λ (r : Ran). r.frames) answers ∙ ap frames_in (sym given) ∙ sym plans.frames;
            microseconds_are = ap (λ (r : Ran). r.microseconds) answers ∙ ap microseconds_in (sym given) ∙ sym plans.microseconds;
          }

  -- ---- run so far

  -- its first records, however many, are run by the call on their bytes alone
  pub plan_front_ran : (before others : List Record) → plan_records chip.state chip.array start wanted ≡ before ++ others
      → (line : Line) → Long (output_length before) line
      → ScriptRun wp (encode before) chip line (ran_of (run wp before chip).state (frames_in before) (microseconds_in before)) (run wp before chip) (shown_by_all wp before chip)
  plan_front_ran before others e line long =
      let whole = plan_script_accepted (shown_by_all wp plan chip) (shown_by_all_long wp plan chip) in
      let parts : script ≡ encode before ++ encode others = script_is ∙ ap encode e ∙ encode_append before others in
      records_before_ran wp before others chip (shown_by_all wp plan chip) (all_fit_left before others (rw e at fit)) (rw parts at whole) line long

  -- nothing is run yet. From here `run_to_frame` and `run_to_wait` go on, record by record; or `run_to_front`, by the script's part before an offset that
  -- `read_frame` and `read_wait` have come to
  pub plan_begun : RunTo wp script chip 0 chip
  plan_begun = run_to_start ready reads_back

  module _ (at : ℕ) (met : Device) (so_far : RunTo wp script chip at met) where
    -- the plan's records: those that are run, and those that are left
    parted : plan ≡ so_far.done ++ so_far.read.left
    parted = let e = sym reads_back ∙ so_far.read.all in cc

    next_is : (r : Record) {next : ℕ} (on : ReadTo script next (so_far.done ++ (r ∷ []))) → plan ≡ so_far.done ++ (r ∷ on.left)
    next_is r on =
        let e = sym reads_back ∙ on.all in
        let same : plan ≡ (so_far.done ++ (r ∷ [])) ++ on.left = cc in
        same ∙ append_assoc so_far.done (r ∷ []) on.left

    -- the next record is read, and its frame is accepted, with a line of its length
    pub next_is_read : number_of (record_at script at) ≡ 0
    next_is_read =
        read_goes_on so_far.read (plan_script_accepted (shown_by_all wp plan chip) (shown_by_all_long wp plan chip)).short

    pub next_frame_accepted : {begin n next : ℕ} → record_at script at ≡ Ok (Some (Frame begin n next)) → (line : Line) → Long n line
        → frame_number wp (take n (drop begin script)) met line ≡ 0
    next_frame_accepted {begin} {n} {next} e line long =
        let f : List ℕ = take n (drop begin script) in
        let on = read_frame so_far.read e in
        let there : plan ≡ so_far.done ++ (frame f ∷ on.left) = next_is (frame f) on in
        let told = answer_told script at (Ok (Some (Frame begin n next))) (sym e) refl in
        rw so_far.device_is
        (frames.accepted_number wp f (run wp so_far.done chip) line
        (frame_accepted_among wp so_far.done on.left f chip (rw there at fit) ready line (rw told.long long)))

    -- all are run
    pub all_run_finished : record_at script at ≡ Ok None → Finished wp chip start wanted met
    unfolding Finished
    all_run_finished e = run_to_end so_far e ∙ rw reads_back refl

    -- the power goes here, and comes back
    pub power_up_lost : (answer : Answer) → answer ≡ power_up met.state → PowerLost wp chip start wanted (with_state met answer.state)
    unfolding PowerLost
    power_up_lost answer is = rw (is, so_far.device_is) (between so_far.done so_far.read.left parted)

    -- it goes inside the frame that the reader answers here: the call "run an interrupted frame", as it is accepted
    pub cut_frame_lost : {begin n next : ℕ} → record_at script at ≡ Ok (Some (Frame begin n next)) → (mask : List ℕ) (line : Line) → Bytes mask
        → {number : ℕ} {chip_after : Device} {line_after : Line} → CutRun wp (take n (drop begin script)) mask met line number chip_after line_after → number ≡ 0
        → PowerLost wp chip start wanted chip_after
    unfolding PowerLost
    cut_frame_lost {begin} {n} {next} e mask line bytes {number} {chip_after} r good =
        let f : List ℕ = take n (drop begin script) in
        let on = read_frame so_far.read e in
        let there : plan ≡ so_far.done ++ (frame f ∷ on.left) = next_is (frame f) on in
        let taken = sym r.number_is ∙ good in
        rw (r.device_is, so_far.device_is) (inside so_far.done on.left f mask line there bytes (rw so_far.device_is at taken))

    -- it goes when some of the wait that the reader answers here has passed: the calls "let n microseconds pass" and "power it up again"
    pub cut_wait_lost : {n next : ℕ} → record_at script at ≡ Ok (Some (Wait n next)) → (m : ℕ) → m ≤ n → (passed answer : Answer) → passed ≡ pass_time met.state m
        → answer ≡ power_up passed.state → PowerLost wp chip start wanted (with_state met answer.state)
    unfolding PowerLost
    cut_wait_lost {n} {next} e m part passed answer first second =
        let on = read_wait so_far.read e in
        let there : plan ≡ so_far.done ++ (wait n ∷ on.left) = next_is (wait n) on in
        rw (second, first, so_far.device_is) (during so_far.done on.left n m there part)
