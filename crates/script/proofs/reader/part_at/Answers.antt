-- `script::reader::part_at` meets its contract: a part that ends `count` bytes behind its start has `count` bytes.
use mathlib.Core.Path.{◌≡◌}
use Prim.Native.Nat.{◌+◌, ◌-◌}
use native.Mathlib.Omega.{arith}
use Rattle.script.proofs.reader.part_at.Goals as goal

pub returns : goal.returns
returns c = let a = c.args in let same : a.start + a.count - a.start ≡ a.count = omega arith in rw same
