-- "A plan takes state, WP, array, start address and up to 4,096 wanted bytes, and writes the script" (01, "Scripts and plans"): an accepted plan, by
-- its records.
use Rattle.std.specs.Prelude.{◌≡◌, List, [], ◌++◌, ℕ, ◌≤◌}
use lib.ListN.{length, take, drop}
use Rattle.state.specs.declared.State.{State}
use Rattle.script.specs.Record.{Record, encode}
use Rattle.script.specs.Decode.{records, decode}
use Rattle.state.specs.declared.Planned.{Planned}
use Rattle.region.specs.Region.{NothingChanges}
use Rattle.rules.specs.Running.{Counted}
use Rattle.rules.specs.PlanStatus.{ProtectedChange, StatusFrames}
use Rattle.rules.specs.PlanWords.{WordsStep}
use Rattle.rules.specs.PlanPages.{PagesStep}

-- the buffer before and after, and the answer
pub record PlanWritten (plan : List Record) (buffer after : List ℕ) (r : Planned) : Type 0 where
  -- "writes the script at the front of a lent buffer,
  pub at_the_front : take r.length after ≡ encode plan
  -- the rest untouched."
  pub rest_untouched : drop r.length after ≡ drop r.length buffer
  pub buffer_as_long : lib.ListN.length after ≡ lib.ListN.length buffer
  -- "It reports length, frames and total microseconds, each that of the script."
  pub length : r.length ≡ lib.ListN.length (encode plan)
  pub frames_and_microseconds : Counted plan r.frames r.microseconds
  pub a_script : decode (take r.length after) ≡ records plan

pub record PlanSteps (s : State) (array : List ℕ) (start : ℕ) (wanted : List ℕ) (plan : List Record) : Type 0 where
  -- "Changing nothing gives the empty script.", and nothing else does
  pub changing_nothing : NothingChanges array start wanted → plan ≡ []
  pub empty_changes_nothing : plan ≡ [] → NothingChanges array start wanted
  -- "Otherwise, in this order:"
  pub before : List Record
  pub program : List Record
  pub after : List Record
  pub in_this_order : plan ≡ before ++ (program ++ after)
  -- "1. if a byte that changes is protected: 50 (008A) or 06 (05PA), then 01 with BP 000 and TB, BPL as they were, other bits 0"
  pub step_1 : ProtectedChange s array start wanted → StatusFrames s 0 before
  pub no_step_1 : (ProtectedChange s array start wanted → ⊥) → before ≡ []
  -- "2. 008A: the aligned words holding a changing byte"
  pub step_2 : s.chip ≡ 8 → WordsStep array start wanted program
  -- "3. 05PA: for each page with a changing byte"
  pub step_3 : s.chip ≡ 5 → PagesStep array start wanted program
  -- "4. after step 1, the same two frames with the old BP, TB, BPL."
  pub step_4 : ProtectedChange s array start wanted → StatusFrames s s.bp after
  pub no_step_4 : (ProtectedChange s array start wanted → ⊥) → after ≡ []

-- "A plan takes state, WP, array, start address and up to 4,096 wanted bytes, and writes the script": an accepted one
pub record PlanRules (s : State) (array : List ℕ) (start : ℕ) (wanted buffer after : List ℕ) (r : Planned) : Type 0 where
  pub up_to_4096 : length wanted ≤ 4096
  pub plan : List Record
  pub written : PlanWritten plan buffer after r
  pub steps : PlanSteps s array start wanted plan
  -- "exactly the one 01 describes" (00): the steps hold of no other records
  pub only : (other : List Record) → PlanSteps s array start wanted other → other ≡ plan
