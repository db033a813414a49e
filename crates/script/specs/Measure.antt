-- What is reported of a plan (01, "Scripts and plans"): "length, frames and total microseconds, each that of the script".
use Rattle.std.specs.Prelude.{List, ◌≤◌}
use Rattle.script.specs.Record.{Record, script_length, frames_in, microseconds_in}
use Rattle.script.specs.declared.measure.Measure.{Measure}

unfoldable pub measure_of : List Record → Measure
measure_of records = record { length = script_length records; frames = frames_in records; microseconds = microseconds_in records }

-- none of the three is above the other's
pub record AtMost (m most : Measure) : Type 0 where
  pub frames : m.frames ≤ most.frames
  pub microseconds : m.microseconds ≤ most.microseconds
  pub bytes : m.length ≤ most.length
