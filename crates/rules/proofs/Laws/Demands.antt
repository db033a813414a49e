-- The user's demands are met: one value, made of the theorems.
-- Assumes nothing.
use mathlib.Core.Path.{◌≡◌, refl, sym, ◌∙◌}
use mathlib.Core.Bool.{Bool, true}
use mathlib.Core.List.{List}
use mathlib.Core.Logic.{⊎_elim}
use Prim.Native.Nat.{ℕ}
use native.Mathlib.Omega.{arith}
use lib.ListN.{length}
use Rattle.common.specs.Buffer.{written}
use Rattle.common.proofs.Laws.Lists.{split}
use Rattle.chip.specs.declared.Chip.{Chip}
use Rattle.state.specs.declared.State.{State}
use Rattle.state.specs.State.{data_of}
use Rattle.state.specs.Answer.{refused_plan}
use Rattle.state.specs.Soundness.{is_sound}
use Rattle.state.specs.Power.{new_chip, power_up}
use Rattle.state.specs.Time.{pass_time}
use Rattle.state.proofs.Laws.Soundness.{sound_of}
use Rattle.frame.specs.Device.{Device}
use Rattle.frame.specs.Line.{Line}
use Rattle.frame.specs.Call.{frame_number, frame_device, frame_line_after, cut_number, cut_device, cut_line_after, FrameRun, CutRun}
use Rattle.frame.proofs.Laws.Accepted.{number_accepted, cut_number_accepted}
use Rattle.frame.proofs.Laws.Determined.{run_frame_determined, run_cut_frame_determined}
use Rattle.script.specs.Record.{encode, frames_in, microseconds_in}
use Rattle.script.specs.Survey.{survey_of}
use Rattle.script.specs.Reader.{frame_part, at_offset}
use Rattle.script.proofs.Laws.Values.{record_at_next, record_at_answered}
use Rattle.run.specs.declared.Ran.{Ran}
use Rattle.run.specs.Script.{script_number, script_device, script_line_after, script_count, script_offset, ScriptRun}
use Rattle.run.proofs.Laws.Script.{run_script_determined}
use Rattle.state.specs.declared.Planned.{Planned}
use Rattle.plan.specs.Refusals.{plan_refusal}
use Rattle.plan.specs.Update.{given_records, at_front, PlanUpdated, Plans}
use Rattle.plan.proofs.Laws.Update.{plan_update_determined}
use Rattle.samples.proofs.Laws.Sessions.{samples_hold}
use Rattle.book.specs.Book.{is_read, wanted_part}
use Rattle.book.specs.Refusals.{book_refusal}
use Rattle.book.specs.Answers.{is_read_told, count_told, Marks}
use Rattle.book.proofs.Laws.Answers.{marks_refused, marks_planned, marks_determined}
use Rattle.promises.specs.Promises.{PlansUnless}
use Rattle.promises.proofs.Laws.Unless.{unless_refused, unless_planned, unless_determined}
use Rattle.names.specs.Records.{names_of, padded}
use Rattle.namelist.specs.Listed.{listed, names_in}
use Rattle.sectors.specs.Images.{sector_part, wanted_mark}
use Rattle.sectors.specs.Moves.{wanted_move, wanted_back, unlisted}
use Rattle.flags.specs.declared.Returned.{Returned}
use Rattle.namechecks.specs.Refusals.{mark_refusal, move_refusal, back_refusal}
use Rattle.flags.specs.Answers.{name_told, refused_return, returned_of, BookReturns}
use Rattle.flags.proofs.Laws.Answers.{returns_refused, returns_planned, returns_determined}
use Rattle.salvage.specs.declared.Salvaged.{Salvaged}
use Rattle.salvage.specs.Pieces.{kept_bytes, dropped_bytes}
use Rattle.salvage.specs.Answers.{salvage_refusal, refused_salvage, salvaged_of, Salvages}
use Rattle.salvage.proofs.Laws.Answers.{salvages_refused, salvages_given, salvage_determined}
use Rattle.host.specs.declared.reader.Record.{Record}
use Rattle.host.specs.Read.{record_of, ReadAnswered}
use Rattle.host.proofs.Laws.Determined.{zeradok_read_determined}
use Rattle.rules.specs.Opcodes.{size_of}
use Rattle.rules.specs.Demands.{One, EveryCallAnswers, RefusedAsIn01, StatesAsIn01, FrameAsIn01, ScriptsAsIn01, Demands}
use Rattle.rules.proofs.Laws.Chips.{data_by_chip}
use Rattle.rules.proofs.Laws.State.{setters}
use Rattle.rules.proofs.Laws.Status.{status_bits}
use Rattle.rules.proofs.Laws.Soundness.{soundness, every_call_sound}
use Rattle.rules.proofs.Laws.Power.{new_chips, power_up_lem}
use Rattle.rules.proofs.Laws.Protection.{protection}
use Rattle.rules.proofs.Laws.Time.{time}
use Rattle.rules.proofs.Laws.Frames.{frame_rules}
use Rattle.rules.proofs.Laws.Reads.{reads}
use Rattle.rules.proofs.Laws.Switches.{switches}
use Rattle.rules.proofs.Laws.Writes.{writes}
use Rattle.rules.proofs.Laws.Ruled.{ruled}
use Rattle.rules.proofs.Laws.StatusWrite.{cycle_exactly, status_write_rules}
use Rattle.rules.proofs.Laws.Interrupted.{wrong_mask_lem, interrupted}
use Rattle.rules.proofs.Laws.Scripts.{script_bytes, reader_rules}
use Rattle.rules.proofs.Laws.Running.{run_rules, script_rules}
use Rattle.rules.proofs.Laws.Plans.{plan_rules}
use Rattle.rules.proofs.Laws.Refusals.{
  power_up_refusals,
  time_refusals,
  frame_refusals_lem,
  cut_refusals_lem,
  plan_refusals_lem,
  script_refusals_lem,
}
use Rattle.rules.proofs.Laws.BadRecords.{reader_refusals}
use Rattle.rules.proofs.Laws.Survey.{survey_rules}
use Rattle.rules.proofs.Laws.Play.{play_rules}
use Rattle.rules.proofs.Laws.Driver.{no_cut_hurts}
use Rattle.rules.proofs.Laws.Unread.{unread_rules}
use Rattle.rules.proofs.Laws.Driven.{driven_rules}
use Rattle.rules.proofs.Laws.Worst.{worst_rules}
use Rattle.rules.proofs.Laws.Book.{book_rules}
use Rattle.rules.proofs.Laws.Salvage.{salvage_rules}
use Rattle.rules.proofs.Laws.Flags.{flags_rules}

-- ---- demand 1

-- a call whose statement names its answer
named : {A : Type 0} (a : A) → One (λ (b : A). b ≡ a)
named a = record { answer = a; given = refl; only = λ other e. e }

-- a call that answers and leaves three things
triple : {A B C : Type 0} {a a' : A} {b b' : B} {c c' : C} → (a ≡ a') × ((b ≡ b') × (c ≡ c')) → ◌≡◌ {A = A × (B × C)} (a, (b, c)) (a', (b', c'))
triple e i = (e.0 i, (e.1.0 i, e.1.1 i))

frame_answers : (wp : Bool) (f : List ℕ) (d : Device) (line : Line)
    → One (λ (a : ℕ × (Device × Line)). FrameRun wp f d line a.0 a.1.0 a.1.1)
frame_answers wp f d line =
    let made : FrameRun wp f d line (frame_number wp f d line) (frame_device wp f d line) (frame_line_after wp f d line) =
    record { number_is = refl; device_is = refl; line_is = refl } in
    record {
      answer = (frame_number wp f d line, (frame_device wp f d line, frame_line_after wp f d line));
      given = made;
      only = λ other p. triple (run_frame_determined wp f d line _ _ _ _ _ _ p made);
    }

cut_answers : (wp : Bool) (f mask : List ℕ) (d : Device) (line : Line)
    → One (λ (a : ℕ × (Device × Line)). CutRun wp f mask d line a.0 a.1.0 a.1.1)
cut_answers wp f mask d line =
    let made : CutRun wp f mask d line (cut_number wp f mask d line) (cut_device wp f mask d line) (cut_line_after wp f mask d line) =
    record { number_is = refl; device_is = refl; line_is = refl } in
    record {
      answer = (cut_number wp f mask d line, (cut_device wp f mask d line, cut_line_after wp f mask d line));
      given = made;
      only = λ other p. triple (run_cut_frame_determined wp f d line _ _ _ _ _ _ mask p made);
    }

script_answers : (wp : Bool) (script : List ℕ) (d : Device) (line : Line)
    → One (λ (a : Ran × (Device × Line)). ScriptRun wp script d line a.0 a.1.0 a.1.1)
script_answers wp script d line =
    let ran : Ran = record {
      number = script_number wp script d line;
      state = (script_device wp script d line).state;
      frames = script_count frames_in wp script d line;
      microseconds = script_count microseconds_in wp script d line;
      offset = script_offset wp script d line;
    } in
    let made : ScriptRun wp script d line ran (script_device wp script d line) (script_line_after wp script d line) =
    record { number_is = refl; state_is = refl; frames_are = refl; microseconds_are = refl; offset_is = refl; device_is = refl; line_is = refl } in
    record {
      answer = (ran, (script_device wp script d line, script_line_after wp script d line));
      given = made;
      only = λ other p. triple (run_script_determined wp script d line _ _ _ _ _ _ p made);
    }

plan_answers : (s : State) (wp : Bool) (array : List ℕ) (start : ℕ) (wanted buffer : List ℕ)
    → One (λ (a : Planned × List ℕ). PlanUpdated s wp array start wanted buffer a.1 a.0)
plan_answers s wp array start wanted buffer =
    let given = given_records s wp array start wanted (length buffer) in
    let planned : Planned = record {
      number = plan_refusal s wp array start wanted (length buffer);
      state = s;
      length = length (encode given);
      frames = frames_in given;
      microseconds = microseconds_in given;
    } in
    let made : PlanUpdated s wp array start wanted buffer (at_front (encode given) buffer) planned =
    record { number = refl; state = refl; length = refl; frames = refl; microseconds = refl; buffer_after = refl } in
    record {
      answer = (planned, at_front (encode given) buffer);
      given = made;
      only = λ other p i. let e = plan_update_determined s wp array start wanted buffer _ _ _ _ p made in (e.0 i, e.1 i);
    }

-- the book's own refusal, or the plan's one answer
mark_answers : (s : State) (wp : Bool) (array : List ℕ) (sector : ℕ) (scenes buffer : List ℕ)
    → One (λ (a : Planned × List ℕ). Marks s wp array sector scenes buffer a.1 a.0)
unfolding Plans
mark_answers s wp array sector scenes buffer =
    let number : ℕ = book_refusal s array sector scenes in
    ⊎_elim (λ h. only_one (refused_plan number s) buffer (marks_refused s wp array sector scenes buffer number h refl))
    (λ h. let plan = plan_answers s wp array sector (wanted_part array sector scenes) buffer in
    only_one plan.answer.0 plan.answer.1 (marks_planned s wp array sector scenes buffer plan.answer.1 plan.answer.0 (omega arith) plan.given))
    (split 0 number)
  where
    only_one : (planned : Planned) (after : List ℕ) → Marks s wp array sector scenes buffer after planned
        → One (λ (a : Planned × List ℕ). Marks s wp array sector scenes buffer a.1 a.0)
    only_one planned after made = record {
      answer = (planned, after);
      given = made;
      only = λ other p i. let e = marks_determined s wp array sector scenes buffer _ _ _ _ p made in (e.0 i, e.1 i);
    }

-- a call's own refusal about names, or the plan's one answer for the sector that is wanted
unless_answers : (own : ℕ) (s : State) (wp : Bool) (array : List ℕ) (start : ℕ) (wanted buffer : List ℕ)
    → One (λ (a : Planned × List ℕ). PlansUnless own s wp array start wanted buffer a.1 a.0)
unfolding Plans
unless_answers own s wp array start wanted buffer =
    ⊎_elim (λ h. only_one (refused_plan own s) buffer (unless_refused own s wp array start wanted buffer own h refl))
    (λ h. let plan = plan_answers s wp array start wanted buffer in
    only_one plan.answer.0 plan.answer.1 (unless_planned own s wp array start wanted buffer plan.answer.1 plan.answer.0 (omega arith) plan.given))
    (split 0 own)
  where
    only_one : (planned : Planned) (after : List ℕ) → PlansUnless own s wp array start wanted buffer after planned
        → One (λ (a : Planned × List ℕ). PlansUnless own s wp array start wanted buffer a.1 a.0)
    only_one planned after made = record {
      answer = (planned, after);
      given = made;
      only = λ other p i. let e = unless_determined own s wp array start wanted buffer _ _ _ _ p made in (e.0 i, e.1 i);
    }

-- and the way back's, with its count
back_answers : (s : State) (wp : Bool) (array : List ℕ) (sector book : ℕ) (list buffer : List ℕ)
    → One (λ (a : Returned × List ℕ). BookReturns s wp array sector book list buffer a.1 a.0)
unfolding Plans
back_answers s wp array sector book list buffer =
    let number : ℕ = back_refusal s array sector book list in
    let want : List ℕ = wanted_back (names_of (sector_part array sector)) (names_in (listed list)) in
    let count : ℕ = unlisted (names_in (listed list)) (names_of (sector_part array sector)) in
    ⊎_elim (λ h. only_one (refused_return number s) buffer (returns_refused s wp array sector book list buffer number h refl))
    (λ h. let plan = plan_answers s wp array book want buffer in
    only_one (returned_of plan.answer.0 count) plan.answer.1
    (returns_planned s wp array sector book list buffer plan.answer.1 plan.answer.0 count (omega arith) plan.given refl)) (split 0 number)
  where
    only_one : (r : Returned) (after : List ℕ) → BookReturns s wp array sector book list buffer after r
        → One (λ (a : Returned × List ℕ). BookReturns s wp array sector book list buffer a.1 a.0)
    only_one r after made = record {
      answer = (r, after);
      given = made;
      only = λ other p i. let e = returns_determined s wp array sector book list buffer _ _ _ _ p made in (e.0 i, e.1 i);
    }

-- its refusal, or both buffers
salvage_answers : (sector kept dropped : List ℕ) → One (λ (a : Salvaged × (List ℕ × List ℕ)). Salvages sector kept dropped a.1.0 a.1.1 a.0)
salvage_answers sector kept dropped =
    let number : ℕ = salvage_refusal sector kept dropped in
    ⊎_elim (λ h. only_one (refused_salvage number) kept dropped (salvages_refused sector kept dropped number h refl))
    (λ h. only_one (salvaged_of sector) (padded (kept_bytes sector)) (written 0 (dropped_bytes sector) dropped) (salvages_given sector kept dropped (omega arith)))
    (split 0 number)
  where
    only_one : (r : Salvaged) (kept_after dropped_after : List ℕ) → Salvages sector kept dropped kept_after dropped_after r
        → One (λ (a : Salvaged × (List ℕ × List ℕ)). Salvages sector kept dropped a.1.0 a.1.1 a.0)
    only_one r kept_after dropped_after made = record {
      answer = (r, (kept_after, dropped_after));
      given = made;
      only = λ other p. triple (salvage_determined sector kept dropped _ _ _ _ _ _ p made);
    }

read_answers : (script : List ℕ) (offset : ℕ) → One (λ (r : Record). ReadAnswered script offset r)
read_answers script offset =
    let found = record_at_answered script offset {r = at_offset script offset} refl (sym (record_at_next script offset)) in
    let made : ReadAnswered script offset (record_of (at_offset script offset)) = record {
      answer_is = refl;
      number_is = found.number_is;
      kind_is = found.kind_is;
      start_is = found.start_is;
      length_is = found.length_is;
      microseconds_are = found.microseconds_are;
      next_is = found.next_is;
    } in
    record { answer = record_of (at_offset script offset); given = made; only = λ other p. zeradok_read_determined script offset _ _ p made }

answers : EveryCallAnswers
answers = record {
  new_chip_lem = λ chip. named (new_chip chip);
  power_up_lem = λ s. named (power_up s);
  pass_time_lem = λ s n. named (pass_time s n);
  run_frame = frame_answers;
  run_cut_frame = cut_answers;
  run_script = script_answers;
  plan_update = plan_answers;
  survey = λ script. named (survey_of script);
  book_is_read = λ s array sector scene. named (is_read_told s array sector scene);
  book_count = λ s array sector. named (count_told s array sector);
  book_mark = mark_answers;
  names_is_read = λ s array sector name. named (name_told s array sector name);
  names_mark = λ s wp array sector name buffer.
      unless_answers (mark_refusal s array sector name) s wp array sector (wanted_mark (sector_part array sector) name) buffer;
  names_move = λ s wp array book sector list buffer.
      unless_answers (move_refusal s array book sector list) s wp array sector
      (wanted_move (sector_part array sector) (is_read array book) (names_in (listed list))) buffer;
  names_back = back_answers;
  salvage = salvage_answers;
  read = read_answers;
  read_part = λ script offset. named (frame_part script offset);
}

refusals : RefusedAsIn01
refusals = record {
  new_chip_lem = new_chips;
  power_up_lem = power_up_refusals;
  pass_time_lem = time_refusals;
  run_frame = frame_refusals_lem;
  run_cut_frame = λ wp f mask d line. cut_refusals_lem wp f d line mask;
  run_script = λ wp script d line ran after shown bytes. script_refusals_lem wp script d line bytes ran after shown;
  plan_update = plan_refusals_lem;
  survey = survey_rules;
  read = reader_refusals;
}

-- ---- demand 2

states : StatesAsIn01
states = record {
  status = status_bits;
  soundness = soundness;
  every_call_sound = every_call_sound;
  power_up_lem = power_up_lem;
  protection = protection;
  time = time;
  setters = setters;
}

frames : (wp : Bool) (f : List ℕ) (d : Device) (line : Line) → frame_number wp f d line ≡ 0 → FrameAsIn01 wp f d line
frames wp f d line e =
    let a = number_accepted wp f d line e in
    record {
      rules = frame_rules a;
      reads = reads a;
      switches = switches a;
      writes = writes a;
      ruled = ruled a;
      interrupted = λ other shows registers change whole mask bytes taken.
          interrupted a whole (cycle_exactly a ∙ other) mask bytes (cut_number_accepted wp f d line mask taken).masked;
      wrong_mask_lem = λ other shows registers change whole mask wrong. wrong_mask_lem a whole (cycle_exactly a ∙ other) mask wrong;
    }

scripts : ScriptsAsIn01
scripts = record {
  bytes = script_bytes;
  read = reader_rules;
  accepted = λ wp d sound sized. script_rules wp d record { sound = sound_of d.state sound; sized = sized ∙ sym (size_by_chip d sound) };
  planned = λ s wp array start wanted buffer after planned plans good. plan_rules s array start wanted wp buffer after planned plans good;
  run = run_rules;
  play = play_rules;
}
  where
    size_by_chip : (d : Device) → is_sound d.state ≡ true → (data_of d.state).size ≡ size_of d
    size_by_chip d sound = data_by_chip d.state.chip (sound_of d.state sound).chip_known (λ (c : Chip). c.size)

-- ---- all of it

pub demands_met : Demands
demands_met = record {
  answers = answers;
  refusals = refusals;
  states = states;
  frames = frames;
  scripts = scripts;
  cuts = no_cut_hurts;
  samples = samples_hold;
  unread = unread_rules;
  worst = worst_rules;
  book = book_rules;
  salvage = salvage_rules;
  flags = flags_rules;
  driven = driven_rules;
  status_write = status_write_rules;
}
