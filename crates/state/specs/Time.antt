-- Time (01, "State"; of a status write 02, A4).
use Rattle.std.specs.Prelude.{false, cond, ℕ, ◌-◌, ltb, eqb}
use Rattle.state.specs.declared.State.{State}
use Rattle.state.specs.declared.Answer.{Answer}
use Rattle.state.specs.State.{with_left, with_wel, with_aai, with_pending}
use Rattle.state.specs.Answer.{answered}
use Rattle.state.specs.Protection.{first_protected}
use Rattle.state.specs.Status.{with_status_byte}
use Rattle.state.specs.Power.{state_refusal}

-- a status write's: "WEL stays 1 until the end, the new bits are seen only then"
abbrev pub status_written : State → State
status_written s = with_wel (with_pending (with_status_byte (with_left s 0) s.pending_bits) false 0) false

-- "WEL becomes 0, except that AAI with next below the first protected address keeps AAI and WEL;
-- at that address both become 0 and next 0"
unfoldable pub cycle_ended : State → State
cycle_ended s =
    cond s.pending (status_written s)
    (cond s.aai
    (cond (ltb s.next (first_protected s)) (with_left s 0) (with_wel (with_aai (with_left s 0) false 0) false))
    (with_wel (with_left s 0) false))

-- "left falls by n, not below 0. When it reaches 0 from above", the write cycle ends; "time changes nothing else"
unfoldable pub time_passed : State → ℕ → State
time_passed s n = cond (ltb n s.left) (with_left s (s.left - n)) (cond (eqb s.left 0) s (cycle_ended s))

unfoldable pub pass_time : State → ℕ → Answer
pass_time s n = answered (state_refusal s) s (time_passed s n)
