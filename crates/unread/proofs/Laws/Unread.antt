-- Nothing turns unread by itself: "any accepted script, from any sound state, on every chip". That the state is sound, an accepted script has.
-- Assumes nothing.
use mathlib.Core.Path.{◌≡◌}
use mathlib.Core.Bool.{Bool}
use mathlib.Core.List.{List}
use Prim.Native.Nat.{ℕ}
use Rattle.script.specs.Decode.{records_of}
use Rattle.frame.specs.Device.{Device}
use Rattle.frame.specs.Line.{Line}
use Rattle.run.specs.Script.{script_number, script_device}
use Rattle.run.proofs.Laws.Accepted.{number_accepted}
use Rattle.run.proofs.Laws.Script.{script_ran}
use Rattle.unread.specs.Unread.{NothingTurnsUnread}
use Rattle.unread.proofs.Laws.Run.{run_unread}

pub nothing_turns_unread : (wp : Bool) (script : List ℕ) (d : Device) (line : Line) → script_number wp script d line ≡ 0
    → NothingTurnsUnread wp (records_of script) d (script_device wp script d line)
nothing_turns_unread wp script d line e =
    let a = number_accepted wp script d line e in
    rw (script_ran wp script d line a).device_is at (run_unread wp (records_of script) d a.sound)
