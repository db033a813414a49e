-- `script::reader::wait_at` meets its contract: four bytes are left behind the mark, or fewer.
use mathlib.Core.Path.{◌≡◌, sym}
use native.Mathlib.Omega.{arith}
use Rattle.script.specs.Reader.{four_bytes_at}
use Rattle.script.proofs.Laws.Reader.{wait_cut_short, wait_whole}
use Rattle.script.proofs.reader.wait_at.Goals as goal

pub returns-in_default : goal.returns-in_default
returns-in_default c = sym (wait_cut_short c.args.bytes.now c.args.offset 0 c.in_default.len_below)

pub returns : goal.returns
returns c =
    let read : c.from_be_bytes.result ≡ four_bytes_at c.args.bytes.now 0 = omega (arith, c.from_be_bytes.ensures) in
    rw read (sym (wait_whole c.args.bytes.now c.args.offset 0 c.in-len4-up.len_at_least))
