-- `pages::Pages::put` meets its contract: the invariant says that with the pages left the buffer will be as it is to be.
use Prim.Native.Nat.{◌+◌, ◌-◌, ◌≤◌, ◌<◌}
use native.Mathlib.Omega.{arith}
use lib.ListN.{length}
use Rattle.std.specs.Int.{div_ceil}
use Rattle.script.specs.Record.{encode}
use Rattle.region.specs.Region.{wanted_at}
use Rattle.common.proofs.Laws.Buffer.{left_start, left_room, left_turn, left_none}
use Rattle.pages.specs.Pages.{part_records}
use Rattle.pages.proofs.Laws.Walk.{pages_start, pages_turn, pages_end}
use Rattle.pages.proofs.PagesProgram.put.Goals as goal

pub loop-page-init : goal.loop-page-init
loop-page-init c =
    let u = c.args.update.now in
    left_start _ _ _ (rw (pages_start _ _ u.start (length u.wanted.now) (div_ceil (u.start + length u.wanted.now) 256) (omega arith)) at c.requires)

pub put_part-next-requires : goal.put_part-next-requires
put_part-next-requires c =
    let l = c.loop-page in
    let u = c.args.update.now in
    let p = c.page_part.result in
    let more : l.page < div_ceil (u.start + length u.wanted.now) 256 = omega arith in record {
      part_in = c.page_part.ensures.inside;
      part_in_bounds = left_room (encode (part_records (wanted_at u.start u.wanted.now) p.start (p.end - p.start))) _
          (rw (pages_turn _ _ _ _ more c.page_part.ensures) at l.invariant);
    }

pub loop-page-preserved : goal.loop-page-preserved
loop-page-preserved c =
    let u = c.args.update.now in
    let more : c.loop-page.page < div_ceil (u.start + length u.wanted.now) 256 = omega arith in
    left_turn _ _ (rw (pages_turn _ _ _ _ more c.page_part.ensures) at c.loop-page.invariant) c.put_part-next.ensures

pub returns : goal.returns
returns c =
    let u = c.args.update.now in
    let none : div_ceil (u.start + length u.wanted.now) 256 ≤ c.loop-page.page = omega arith in
    rw (pages_start _ _ u.start (length u.wanted.now) (div_ceil (u.start + length u.wanted.now) 256) (omega arith))
    (left_none (rw (pages_end _ _ _ _ none) at c.loop-page.invariant))
