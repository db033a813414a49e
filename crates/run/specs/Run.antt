-- Records run on a chip (01, "Scripts and plans"): one after another, each frame as an accepted one, each wait as time that passes.
use Rattle.std.specs.Prelude.{Bool, List, [], ◌∷◌}
use Rattle.script.specs.Record.{Record, frame, wait}
use Rattle.state.specs.Time.{time_passed}
use Rattle.frame.specs.Device.{Device, with_state}
use Rattle.frame.specs.Line.{Line, no_line, joined}
use Rattle.frame.specs.Ran.{ran_device, shown_line}

-- one record
unfoldable pub step : Bool → Record → Device → Device
step wp (frame f) d = ran_device wp f d
step wp (wait n) d = with_state d (time_passed d.state n)

unfoldable pub shown_by : Bool → Record → Device → Line
shown_by wp (frame f) d = shown_line wp f d
shown_by wp (wait n) d = no_line

-- "Running takes one WP level for all frames and lays their outputs one after another."
unfoldable pub run : Bool → List Record → Device → Device
run wp [] d = d
run wp (r ∷ rs) d = run wp rs (step wp r d)

unfoldable pub shown_by_all : Bool → List Record → Device → Line
shown_by_all wp [] d = no_line
shown_by_all wp (r ∷ rs) d = joined (shown_by wp r d) (shown_by_all wp rs (step wp r d))
