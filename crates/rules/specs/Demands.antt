-- Read this page first, from its last record up: what the user demands (00), in his words, the sample sessions (01), and what was asked for since (02).
-- `demands_met` (proofs/Laws/Demands.antt) is a value of `Demands`, made of the theorems themselves: where one of them is lost or says less, that value
-- no longer checks.
use Rattle.std.specs.Prelude.{◌≡◌, Bool, true, false, List, ℕ, ◌+◌, ◌≤◌, ◌<◌, length, take, drop, Option, Some, None, Ok}
use Rattle.common.specs.Bits.{Bytes}
use Rattle.common.specs.Lists.{Each}
use Rattle.state.specs.declared.State.{State}
use Rattle.state.specs.declared.Answer.{Answer}
use Rattle.state.specs.Soundness.{is_sound}
use Rattle.state.specs.Power.{new_chip, power_up}
use Rattle.state.specs.Time.{pass_time}
use Rattle.frame.specs.Device.{Device}
use Rattle.frame.specs.Line.{Line}
use Rattle.frame.specs.Call.{frame_number, cut_number, FrameRun, CutRun}
use Rattle.script.specs.declared.reader.Found.TheVariants.{Frame}
use Rattle.script.specs.declared.survey.Surveyed.{Surveyed}
use Rattle.script.specs.Survey.{survey_of}
use Rattle.script.specs.Answers.{number_of}
use Rattle.script.specs.Reader.{record_at, frame_part}
use Rattle.run.specs.declared.Ran.{Ran}
use Rattle.run.specs.Script.{ScriptRun}
use Rattle.state.specs.declared.Planned.{Planned}
use Rattle.state.specs.declared.Told.{Told}
use Rattle.book.specs.Answers.{is_read_told, count_told, Marks}
use Rattle.plan.specs.Update.{PlanUpdated}
use Rattle.powercut.specs.PowerCut.{updated, Partway}
use Rattle.samples.specs.Session.{Holds}
use Rattle.samples.specs.Table.{sessions}
use Rattle.flags.specs.declared.Returned.{Returned}
use Rattle.flags.specs.Answers.{name_told, NameMarks, BookMoves, BookReturns}
use Rattle.salvage.specs.declared.Salvaged.{Salvaged}
use Rattle.salvage.specs.Answers.{Salvages}
use Rattle.host.specs.declared.reader.Record.{Record}
use Rattle.host.specs.Read.{ReadAnswered}
use Rattle.rules.specs.State.{Setters}
use Rattle.rules.specs.Status.{StatusBits}
use Rattle.rules.specs.Soundness.{Soundness, EveryCallSound}
use Rattle.rules.specs.Power.{NewChips, PowerUp}
use Rattle.rules.specs.Protection.{Protection}
use Rattle.rules.specs.Time.{Time}
use Rattle.rules.specs.Frames.{Change, Does, FrameRules}
use Rattle.rules.specs.Opcodes.{size_of, Reads, Switches, Writes, Ruled}
use Rattle.rules.specs.Interrupted.{mask_needed, Interrupted}
use Rattle.rules.specs.Scripts.{ScriptBytes, ReaderRules}
use Rattle.rules.specs.Running.{RunRules, ScriptRules}
use Rattle.rules.specs.Plans.{PlanRules}
use Rattle.rules.specs.Refusals.{
  PowerUpRefusals,
  TimeRefusals,
  FrameRefusals,
  CutRefusals,
  PlanRefusals,
  ScriptRefusals,
}
use Rattle.rules.specs.Conditions.{BothLong}
use Rattle.rules.specs.BadRecords.{ReaderRefusals, SurveyRules}
use Rattle.rules.specs.Play.{PlayRules}
use Rattle.rules.specs.Driver.{SentTo, CutAt}
use Rattle.rules.specs.Unread.{UnreadRules}
use Rattle.rules.specs.Driven.{DrivenRules}
use Rattle.rules.specs.StatusWrite.{begins_cycle, StatusWriteRules}
use Rattle.rules.specs.Worst.{WorstRules}
use Rattle.rules.specs.Book.{BookRules}
use Rattle.rules.specs.Salvage.{SalvageRules}
use Rattle.rules.specs.Flags.{FlagsRules}

-- ---- demand 1

-- there is an answer, and a call's statement lets no other pass
pub record One {A : Type 0} (Answered : A → Type 0) : Type 0 where
  pub answer : A
  pub given : Answered answer
  pub only : (other : A) → Answered other → other ≡ answer

-- "Every public call answers for all input and state, undefined behaviour never, and checks its own arguments." No call has a `requires`; each function
-- is proved to give the one answer that its statement has.
pub record EveryCallAnswers : Type 0 where
  pub new_chip_lem : (chip : ℕ) → One (λ (a : Answer). a ≡ new_chip chip)
  pub power_up_lem : (s : State) → One (λ (a : Answer). a ≡ power_up s)
  pub pass_time_lem : (s : State) (n : ℕ) → One (λ (a : Answer). a ≡ pass_time s n)
  -- number, chip and line: output and driven
  pub run_frame : (wp : Bool) (f : List ℕ) (d : Device) (line : Line)
      → One (λ (a : ℕ × (Device × Line)). FrameRun wp f d line a.0 a.1.0 a.1.1)
  pub run_cut_frame : (wp : Bool) (f mask : List ℕ) (d : Device) (line : Line)
      → One (λ (a : ℕ × (Device × Line)). CutRun wp f mask d line a.0 a.1.0 a.1.1)
  -- number, state, counts and offset; chip and line
  pub run_script : (wp : Bool) (script : List ℕ) (d : Device) (line : Line)
      → One (λ (a : Ran × (Device × Line)). ScriptRun wp script d line a.0 a.1.0 a.1.1)
  -- number, state, length and counts; buffer
  pub plan_update : (s : State) (wp : Bool) (array : List ℕ) (start : ℕ) (wanted buffer : List ℕ)
      → One (λ (a : Planned × List ℕ). PlanUpdated s wp array start wanted buffer a.1 a.0)
  -- a script's number, counts and offset
  pub survey : (script : List ℕ) → One (λ (r : Surveyed). r ≡ survey_of script)
  -- a flag book's questions, and its markings: number, state and value; number, state, length and counts, and the buffer
  pub book_is_read : (s : State) (array : List ℕ) (sector scene : ℕ) → One (λ (r : Told). r ≡ is_read_told s array sector scene)
  pub book_count : (s : State) (array : List ℕ) (sector : ℕ) → One (λ (r : Told). r ≡ count_told s array sector)
  pub book_mark : (s : State) (wp : Bool) (array : List ℕ) (sector : ℕ) (scenes buffer : List ℕ)
      → One (λ (a : Planned × List ℕ). Marks s wp array sector scenes buffer a.1 a.0)
  -- flags by name: a question, a marking, a move and the way back, which also reports how many records are not on the list
  pub names_is_read : (s : State) (array : List ℕ) (sector : ℕ) (name : List ℕ) → One (λ (r : Told). r ≡ name_told s array sector name)
  pub names_mark : (s : State) (wp : Bool) (array : List ℕ) (sector : ℕ) (name buffer : List ℕ)
      → One (λ (a : Planned × List ℕ). NameMarks s wp array sector name buffer a.1 a.0)
  pub names_move : (s : State) (wp : Bool) (array : List ℕ) (book sector : ℕ) (list buffer : List ℕ)
      → One (λ (a : Planned × List ℕ). BookMoves s wp array book sector list buffer a.1 a.0)
  pub names_back : (s : State) (wp : Bool) (array : List ℕ) (sector book : ℕ) (list buffer : List ℕ)
      → One (λ (a : Returned × List ℕ). BookReturns s wp array sector book list buffer a.1 a.0)
  -- a salvaged sector: number and lengths; what is kept, and the list
  pub salvage : (sector kept dropped : List ℕ)
      → One (λ (a : Salvaged × (List ℕ × List ℕ)). Salvages sector kept dropped a.1.0 a.1.1 a.0)
  -- the record at an offset, and the frame as that part of the script
  pub read : (script : List ℕ) (offset : ℕ) → One (λ (r : Record). ReadAnswered script offset r)
  pub read_part : (script : List ℕ) (offset : ℕ) → One (λ (part : List ℕ). part ≡ frame_part script offset)

-- "A refused call gives the number in document 01, hands back the state it got and changes no lent byte."
pub record RefusedAsIn01 : Type 0 where
  pub new_chip_lem : NewChips
  pub power_up_lem : (s : State) → PowerUpRefusals s
  pub pass_time_lem : (s : State) (n : ℕ) → TimeRefusals s n
  pub run_frame : (wp : Bool) (f : List ℕ) (d : Device) (line : Line) (number : ℕ) (after : Device) (shown : Line)
      (ran : FrameRun wp f d line number after shown) → FrameRefusals wp f d line number after shown ran
  pub run_cut_frame : (wp : Bool) (f mask : List ℕ) (d : Device) (line : Line) (number : ℕ) (after : Device) (shown : Line)
      (ran : CutRun wp f mask d line number after shown) → CutRefusals wp f mask d line number after shown ran
  pub run_script : (wp : Bool) (script : List ℕ) (d : Device) (line : Line) (ran : Ran) (after : Device) (shown : Line) (bytes : Bytes script)
      (runs : ScriptRun wp script d line ran after shown) → ScriptRefusals wp script d line ran after shown bytes runs
  pub plan_update : (s : State) (wp : Bool) (array : List ℕ) (start : ℕ) (wanted buffer after : List ℕ) (planned : Planned) (bytes : Bytes wanted)
      (plans : PlanUpdated s wp array start wanted buffer after planned) → PlanRefusals s wp array start wanted buffer after planned bytes plans
  -- 12, 13, 14 and their offset (02, A1)
  pub survey : (script : List ℕ) (bytes : Bytes script) → SurveyRules script
  pub read : (script : List ℕ) (offset : ℕ) → ReaderRefusals script offset

-- ---- demand 2

-- the chip while nothing is sent (01, "State")
pub record StatesAsIn01 : Type 0 where
  pub status : (s : State) (sound : is_sound s ≡ true) → StatusBits s sound
  pub soundness : (s : State) → Soundness s
  pub every_call_sound : EveryCallSound
  pub power_up_lem : (s : State) (sound : is_sound s ≡ true) → PowerUp s sound
  pub protection : (s : State) (three : s.bp < 8) → Protection s three
  pub time : (s : State) (n : ℕ) (sound : is_sound s ≡ true) → Time s n sound
  -- the words that the rules are said with: a setter sets its field and leaves the others
  pub setters : (chip bp : ℕ) (tb bpl wel aai armed asleep pending : Bool) (bits left next : ℕ)
      → Setters chip bp tb bpl wel aai armed asleep pending bits left next

-- "For each frame, the output bytes, the chip's state and the whole array are those that the data sheets and the rules in 01 give": of an accepted one
pub record FrameAsIn01 (wp : Bool) (f : List ℕ) (d : Device) (line : Line) : Type 0 where
  pub rules : FrameRules wp f d line
  pub reads : Reads wp f d line
  pub switches : Switches wp f d line
  pub writes : Writes wp f d line
  -- no frame is left without a rule
  pub ruled : Ruled f d
  -- and of an interrupted one, from what the whole one does; that of a status write that takes time is in `status_write` below
  pub interrupted : begins_cycle wp f d ≡ false → (shows : ℕ → Option ℕ) (registers : State) (change : Change) → Does wp f d line shows registers change
      → (mask : List ℕ) → Bytes mask → cut_number wp f mask d line ≡ 0 → Interrupted wp f mask d line shows registers change
  pub wrong_mask_lem : begins_cycle wp f d ≡ false → (shows : ℕ → Option ℕ) (registers : State) (change : Change) → Does wp f d line shows registers change
      → (mask : List ℕ) → (length mask ≡ mask_needed change d → ⊥) → cut_number wp f mask d line ≡ 5

-- "The planner's script is exactly the one 01 describes, and running it does just what its records say."
pub record ScriptsAsIn01 : Type 0 where
  pub bytes : ScriptBytes
  pub read : (script : List ℕ) (offset : ℕ) → ReaderRules script offset
  pub accepted : (wp : Bool) (d : Device) → is_sound d.state ≡ true → length d.array ≡ size_of d → ScriptRules wp d
  pub planned : (s : State) (wp : Bool) (array : List ℕ) (start : ℕ) (wanted buffer after : List ℕ) (planned : Planned)
      → PlanUpdated s wp array start wanted buffer after planned → planned.number ≡ 0 → PlanRules s array start wanted buffer after planned
  pub run : (wp : Bool) (script : List ℕ) (d : Device) (line : Line) (ran : Ran) (after : Device) (shown : Line) → Bytes script
      → ScriptRun wp script d line ran after shown → ran.number ≡ 0 → RunRules wp script d ran after shown
  -- and program `play` prints what it does
  pub play : (script : List ℕ) → Bytes script → PlayRules script

-- ---- demand 3

-- "Take a chip at rest, a wanted image and a plan accepted for them, run on that chip at the write-protect level it was made for."
pub record NoCutHurts (wp : Bool) (chip : Device) (start : ℕ) (wanted : List ℕ) (room : ℕ) (script : List ℕ) : Type 0 where
  -- no call on the way is refused
  pub each_read : (at : ℕ) (met : Device) → SentTo wp script chip at met → number_of (record_at script at) ≡ 0
  pub each_accepted : (at begin n next : ℕ) (met : Device) (line : Line) → SentTo wp script chip at met → record_at script at ≡ Ok (Some (Frame begin n next))
      → BothLong line n → frame_number wp (take n (drop begin script)) met line ≡ 0
  -- "Cut the power between any two records, or inside any programming, with any part of the bits due to fall having fallen. Then each bit of the region
  -- is as before or as wanted, and nothing outside has moved."
  pub cut : (lost : Device) → CutAt wp script chip lost → Partway chip.array start wanted lost.array
  -- "Powered up, at the same level and with 22 bytes more room, planning again is accepted,
  pub again : (lost : Device) (buffer after : List ℕ) (planned : Planned) → CutAt wp script chip lost → room + 22 ≤ length buffer
      → PlanUpdated lost.state wp lost.array start wanted buffer after planned → planned.number ≡ 0
  -- and that plan, run uncut, leaves the region exactly as wanted and the rest as it was."
  pub finished : (lost : Device) (buffer after : List ℕ) (planned : Planned) (at : ℕ) (met : Device) → CutAt wp script chip lost
      → PlanUpdated lost.state wp lost.array start wanted buffer after planned → planned.number ≡ 0
      → SentTo wp (take planned.length after) lost at met → record_at (take planned.length after) at ≡ Ok None
      → met.array ≡ updated chip.array start wanted
  -- "An uncut first run does so too": record by record,
  pub uncut : (at : ℕ) (met : Device) → SentTo wp script chip at met → record_at script at ≡ Ok None → met.array ≡ updated chip.array start wanted
  -- or by the call that runs a script
  pub run_uncut : (line : Line) (ran : Ran) (after : Device) (shown : Line) → ScriptRun wp script chip line ran after shown → ran.number ≡ 0
      → after.array ≡ updated chip.array start wanted

-- ---- all of it

pub record Demands : Type 0 where
  -- 1. "Every public call answers for all input and state, undefined behaviour never, and checks its own arguments.
  pub answers : EveryCallAnswers
  -- A refused call gives the number in document 01, hands back the state it got and changes no lent byte."
  pub refusals : RefusedAsIn01
  -- 2. "For each frame, the output bytes, the chip's state and the whole array are those that the data sheets and the rules in 01 give.
  pub states : StatesAsIn01
  pub frames : (wp : Bool) (f : List ℕ) (d : Device) (line : Line) → frame_number wp f d line ≡ 0 → FrameAsIn01 wp f d line
  -- The planner's script is exactly the one 01 describes, and running it does just what its records say."
  pub scripts : ScriptsAsIn01
  -- 3. "Take a chip at rest, a wanted image and a plan accepted for them": no power cut can hurt
  pub cuts : (wp : Bool) (chip : Device) (start : ℕ) (wanted buffer after : List ℕ) (planned : Planned) → Bytes chip.array
      → PlanUpdated chip.state wp chip.array start wanted buffer after planned → planned.number ≡ 0
      → NoCutHurts wp chip start wanted (length buffer) (take planned.length after)
  -- "The P sessions go into a single table with one proved statement over it."
  pub samples : Each Holds sessions
  -- And, asked for since (02): (A14) "Nothing turns unread by itself."
  pub unread : UnreadRules
  -- (A8) "How long can a save take?"
  pub worst : WorstRules
  -- (A2) "The game's own flag book."
  pub book : BookRules
  -- (A9) "Salvage a sick name sector."
  pub salvage : SalvageRules
  -- (A7) "Flags by name, and back again."
  pub flags : FlagsRules
  -- (A10) "Which bytes did the chip drive?"
  pub driven : DrivenRules
  -- (A4) "The small chip's status write takes time."
  pub status_write : StatusWriteRules
