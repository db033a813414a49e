-- A plan as records (01, "Scripts and plans"), step by step.
use Rattle.std.specs.Prelude.{Bool, cond, ◌&&◌, List, [], ◌∷◌, ◌++◌, ℕ, ◌+◌, ◌*◌, leb, ltb, length}
use Rattle.script.specs.Record.{Record, frame, wait}
use Rattle.state.specs.declared.State.{State}
use Rattle.state.specs.State.{data_of}
use Rattle.state.specs.Protection.{first_protected}
use Rattle.common.specs.Bits.{bit}
use Rattle.script.specs.declared.measure.Measure.{Measure}
use Rattle.region.specs.Region.{changes, any_of}
use Rattle.words.specs.Words.{step_two}
use Rattle.pages.specs.Pages.{step_three}

-- "a byte that changes is protected", the first protected address given
abbrev pub is_protected_change : ℕ → List ℕ → ℕ → List ℕ → ℕ → Bool
is_protected_change first array start wanted address = changes array start wanted address && leb first address

-- "if a byte that changes is protected": then step 1 is needed
unfoldable pub step_one_needed : State → List ℕ → ℕ → List ℕ → Bool
step_one_needed s array start wanted = any_of (is_protected_change (first_protected s) array start wanted) (length wanted) start

-- the byte of 01: BP, TB and BPL, "other bits 0"
unfoldable pub status_byte : ℕ → Bool → Bool → ℕ
status_byte bp tb bpl = bp * 4 + bit tb 32 + bit bpl 128

-- "Plans on the 05PA get a wait record after each 01" (02, A4): where a status write takes time
abbrev pub settle : ℕ → List Record
settle time = cond (ltb 0 time) (wait time ∷ []) []

-- "50 (008A) or 06 (05PA), then 01 with BP" as given "and TB, BPL as they were"
unfoldable pub status_records : State → ℕ → List Record
status_records s bp =
    frame (cond (data_of s).ewsr 0x50 0x06 ∷ []) ∷ frame (0x01 ∷ status_byte bp s.tb s.bpl ∷ []) ∷ settle (data_of s).status_time

-- step 1 or 4, where it is needed
abbrev pub status_step : Bool → State → ℕ → List Record
status_step needed s bp = cond needed (status_records s bp) []

-- step 2 on a chip whose plans go by words, else step 3
unfoldable pub program_step : Bool → List ℕ → ℕ → List ℕ → List Record
program_step words array start wanted = cond words (step_two array start wanted) (step_three array start wanted)

-- "in this order"
unfoldable pub plan_records : State → List ℕ → ℕ → List ℕ → List Record
plan_records s array start wanted =
    status_step (step_one_needed s array start wanted) s 0  -- step 1: BP 000
    ++ (program_step (data_of s).word_plans array start wanted  -- step 2 or 3
    ++ status_step (step_one_needed s array start wanted) s s.bp)  -- step 4: "after step 1, the same two frames with the old BP"

-- the bytes of the wait behind a status write that takes so much time
abbrev pub wait_bytes : ℕ → ℕ
wait_bytes time = cond (ltb 0 time) 6 0

-- with those of steps 1 and 4
abbrev pub with_waits : ℕ → Measure → Measure
with_waits time m = record { length = m.length + 2 * wait_bytes time; frames = m.frames; microseconds = m.microseconds + 2 * time }

-- what a plan amounts to, from what its step 2 or 3 does: steps 1 and 4 are two frames each, of one and two bytes, and their waits
unfoldable pub with_status_steps : ℕ → Bool → Measure → Measure
with_status_steps time needed m =
    cond needed (with_waits time (record { length = m.length + 22; frames = m.frames + 4; microseconds = m.microseconds })) m
