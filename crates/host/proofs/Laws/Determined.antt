-- Each exported call's statement determines what it returns and what it leaves of what it was lent: two results that satisfy it are equal.
-- Assumes nothing.
use mathlib.Core.Path.{◌≡◌, sym, ◌∙◌}
use mathlib.Core.Bool.{Bool}
use mathlib.Core.List.{List}
use Prim.Native.Nat.{ℕ}
use Rattle.state.specs.declared.State.{State}
use Rattle.state.specs.declared.Answer.{Answer}
use Rattle.state.specs.Power.{new_chip, power_up}
use Rattle.state.specs.Time.{pass_time}
use Rattle.state.proofs.Laws.Determined.{new_chip_determined, power_up_determined, pass_time_determined}
use Rattle.frame.specs.Device.{Device}
use Rattle.frame.specs.Line.{Line}
use Rattle.frame.specs.Call.{FrameRun, CutRun}
use Rattle.frame.proofs.Laws.Determined.{run_frame_determined, run_cut_frame_determined}
use Rattle.script.specs.declared.survey.Surveyed.{Surveyed}
use Rattle.script.specs.Survey.{survey_of}
use Rattle.script.proofs.Laws.Survey.{survey_of_determined}
use Rattle.run.specs.declared.Ran.{Ran}
use Rattle.run.specs.Script.{ScriptRun}
use Rattle.run.proofs.Laws.Script.{run_script_determined}
use Rattle.state.specs.declared.Planned.{Planned}
use Rattle.plan.specs.Update.{PlanUpdated}
use Rattle.plan.proofs.Laws.Update.{plan_update_determined}
use Rattle.state.specs.declared.Told.{Told}
use Rattle.book.specs.Answers.{is_read_told, count_told, Marks}
use Rattle.book.proofs.Laws.Answers.{is_read_determined, count_determined, marks_determined}
use Rattle.flags.specs.declared.Returned.{Returned}
use Rattle.flags.specs.Answers.{name_told, NameMarks, BookMoves, BookReturns}
use Rattle.flags.proofs.Laws.Answers.{name_determined, name_marks_determined, moves_determined, returns_determined}
use Rattle.salvage.specs.declared.Salvaged.{Salvaged}
use Rattle.salvage.specs.Answers.{Salvages}
use Rattle.salvage.proofs.Laws.Answers.{salvage_determined}
use Rattle.host.specs.Read.{ReadAnswered}
use Rattle.host.specs.declared.reader.Record.{Record}

pub zeradok_new_determined : (chip : ℕ) (a b : Answer) → a ≡ new_chip chip → b ≡ new_chip chip → a ≡ b
zeradok_new_determined = new_chip_determined

pub zeradok_power_up_determined : (chip : State) (a b : Answer) → a ≡ power_up chip → b ≡ power_up chip → a ≡ b
zeradok_power_up_determined = power_up_determined

pub zeradok_wait_determined : (chip : State) (microseconds : ℕ) (a b : Answer)
    → a ≡ pass_time chip microseconds → b ≡ pass_time chip microseconds → a ≡ b
zeradok_wait_determined = pass_time_determined

pub zeradok_plan_determined : (chip : State) (wp : Bool) (array : List ℕ) (start : ℕ) (wanted buffer after after' : List ℕ) (a b : Planned)
    → PlanUpdated chip wp array start wanted buffer after a → PlanUpdated chip wp array start wanted buffer after' b
    → (a ≡ b) × (after ≡ after')
zeradok_plan_determined = plan_update_determined

pub zeradok_run_determined : (wp : Bool) (script : List ℕ) (d : Device) (line : Line) (a b : Ran) (after after' : Device) (line_after line_after' : Line)
    → ScriptRun wp script d line a after line_after → ScriptRun wp script d line b after' line_after'
    → (a ≡ b) × ((after ≡ after') × (line_after ≡ line_after'))
zeradok_run_determined = run_script_determined

pub zeradok_survey_determined : (script : List ℕ) (a b : Surveyed) → a ≡ survey_of script → b ≡ survey_of script → a ≡ b
zeradok_survey_determined = survey_of_determined

pub zeradok_read_determined : (script : List ℕ) (offset : ℕ) (a b : Record)
    → ReadAnswered script offset a → ReadAnswered script offset b → a ≡ b
zeradok_read_determined script offset a b p q = p.answer_is ∙ sym q.answer_is

-- the flag book's
pub zeradok_book_is_read_determined : (chip : State) (array : List ℕ) (sector scene : ℕ) (a b : Told)
    → a ≡ is_read_told chip array sector scene → b ≡ is_read_told chip array sector scene → a ≡ b
zeradok_book_is_read_determined = is_read_determined

pub zeradok_book_count_determined : (chip : State) (array : List ℕ) (sector : ℕ) (a b : Told)
    → a ≡ count_told chip array sector → b ≡ count_told chip array sector → a ≡ b
zeradok_book_count_determined = count_determined

pub zeradok_book_mark_determined : (chip : State) (wp : Bool) (array : List ℕ) (sector : ℕ) (scenes buffer after after' : List ℕ) (a b : Planned)
    → Marks chip wp array sector scenes buffer after a → Marks chip wp array sector scenes buffer after' b → (a ≡ b) × (after ≡ after')
zeradok_book_mark_determined = marks_determined

-- salvaging: what it answers, what is kept and the list
pub zeradok_salvage_determined : (sector kept dropped kept₁ kept₂ dropped₁ dropped₂ : List ℕ) (a b : Salvaged)
    → Salvages sector kept dropped kept₁ dropped₁ a → Salvages sector kept dropped kept₂ dropped₂ b
    → (a ≡ b) × ((kept₁ ≡ kept₂) × (dropped₁ ≡ dropped₂))
zeradok_salvage_determined = salvage_determined

-- flags by name
pub zeradok_names_is_read_determined : (chip : State) (array : List ℕ) (sector : ℕ) (name : List ℕ) (a b : Told)
    → a ≡ name_told chip array sector name → b ≡ name_told chip array sector name → a ≡ b
zeradok_names_is_read_determined = name_determined

pub zeradok_names_mark_determined : (chip : State) (wp : Bool) (array : List ℕ) (sector : ℕ) (name buffer after after' : List ℕ) (a b : Planned)
    → NameMarks chip wp array sector name buffer after a → NameMarks chip wp array sector name buffer after' b → (a ≡ b) × (after ≡ after')
zeradok_names_mark_determined = name_marks_determined

pub zeradok_names_move_determined : (chip : State) (wp : Bool) (array : List ℕ) (book sector : ℕ) (list buffer after after' : List ℕ) (a b : Planned)
    → BookMoves chip wp array book sector list buffer after a → BookMoves chip wp array book sector list buffer after' b → (a ≡ b) × (after ≡ after')
zeradok_names_move_determined = moves_determined

pub zeradok_names_back_determined : (chip : State) (wp : Bool) (array : List ℕ) (sector book : ℕ) (list buffer after after' : List ℕ) (a b : Returned)
    → BookReturns chip wp array sector book list buffer after a → BookReturns chip wp array sector book list buffer after' b → (a ≡ b) × (after ≡ after')
zeradok_names_back_determined = returns_determined

-- the two calls on a lent state: the number returned, the chip left and the line, both slices of it
module _ (wp : Bool) (f : List ℕ) (d : Device) (line : Line) (number number' : ℕ) (after after' : Device) (line_after line_after' : Line) where
  abbrev Same : Type 0
  Same = (number ≡ number') × ((after ≡ after') × (line_after ≡ line_after'))

  pub zeradok_frame_determined : FrameRun wp f d line number after line_after → FrameRun wp f d line number' after' line_after' → Same
  zeradok_frame_determined = run_frame_determined wp f d line number number' after after' line_after line_after'

  pub zeradok_cut_frame_determined : (mask : List ℕ) → CutRun wp f mask d line number after line_after → CutRun wp f mask d line number' after' line_after' → Same
  zeradok_cut_frame_determined = run_cut_frame_determined wp f d line number number' after after' line_after line_after'
