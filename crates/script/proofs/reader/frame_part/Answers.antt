-- `script::reader::frame_part` meets its contract: a frame that was answered lies inside the script, and every other answer has an empty part.
use mathlib.Core.Path.{◌≡◌, refl}
use native.Mathlib.Omega.{arith}
use Rattle.std.proofs.Common.{rules}
use Rattle.std.specs.Prelude.{Some, Ok}
use Rattle.script.specs.declared.reader.Found.TheVariants.{Frame}
use Rattle.script.proofs.Laws.Answers.{answer_told}
use Rattle.script.proofs.reader.frame_part.Goals as goal

pub part_at-requires : goal.part_at-requires
part_at-requires c =
    let a = c.args in
    let r = c.record_at in
    let w = c.in-Ok-Some-Frame in
    let is : r.result.read ≡ Ok (Some (Frame w.start w.length w.field-0-0-2)) = search rules in
    let t = (rw is at (answer_told a.script.now a.offset r.result.read r.ensures.answer_is)) refl in
    omega (arith, t.start_is, t.long, t.stands.next_is, t.stands.inside)
