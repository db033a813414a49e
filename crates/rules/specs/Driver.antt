-- A plan's script sent to the chip as a driver does: record by record as the reader answers, each frame and each wait by its own call; and a power cut
-- anywhere on the way (00, demand 3).
use Rattle.std.specs.Prelude.{◌≡◌, Bool, List, ℕ, ◌≤◌, take, drop, Some, Ok}
use Rattle.common.specs.Bits.{Bytes}
use Rattle.script.specs.declared.reader.Found.TheVariants.{Frame, Wait}
use Rattle.script.specs.Reader.{record_at}
use Rattle.frame.specs.Device.{Device}
use Rattle.frame.specs.Line.{Line}
use Rattle.frame.specs.Call.{FrameRun, CutRun}
use Rattle.powercut.specs.PowerCut.{powered, waited}

-- the offset that the reader has come to, and the chip as it is then
pub data SentTo (wp : Bool) (script : List ℕ) (chip : Device) : ℕ → Device → Type 0 where
  none : SentTo wp script chip 0 chip
  sends : {at start n next : ℕ} {met after : Device} {line shown : Line} → SentTo wp script chip at met → record_at script at ≡ Ok (Some (Frame start n next))
      → FrameRun wp (take n (drop start script)) met line 0 after shown → SentTo wp script chip next after
  waits : {at n next : ℕ} {met : Device} → SentTo wp script chip at met → record_at script at ≡ Ok (Some (Wait n next)) → SentTo wp script chip next (waited n met)

-- "Cut the power between any two records, or inside any programming, with any part of the bits due to fall having fallen": the chip powered up
pub data CutAt (wp : Bool) (script : List ℕ) (chip : Device) : Device → Type 0 where
  between : {at : ℕ} {met : Device} → SentTo wp script chip at met → CutAt wp script chip (powered met)
  inside : {at start n next : ℕ} {met after : Device} {mask : List ℕ} {line shown : Line} → SentTo wp script chip at met → record_at script at ≡ Ok (Some (Frame start n next))
      → Bytes mask → CutRun wp (take n (drop start script)) mask met line 0 after shown → CutAt wp script chip after
  during : {at n next m : ℕ} {met : Device} → SentTo wp script chip at met → record_at script at ≡ Ok (Some (Wait n next)) → m ≤ n
      → CutAt wp script chip (powered (waited m met))
