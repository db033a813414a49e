-- `pages::Pages::put` meets its contract: the invariant says that with the pages left the buffer will be as it is to be.
use Prim.Native.Nat.{◌+◌, ◌-◌, ◌*◌, ◌/◌}
use lib.ListN.{length}
use Rattle.std.specs.Int.{div_ceil}
use Rattle.script.specs.Record.{encode}
use Rattle.region.specs.Region.{wanted_at, changes}
use Rattle.common.proofs.Laws.Buffer.{Left}
use Rattle.pages.specs.Pages.{pages_step}
use Rattle.pages.proofs.PagesProgram.put.Given as goal

abbrev pub invariant-loop-page : goal.invariant-loop-page
invariant-loop-page l =
    let u = l.update in let w = wanted_at u.start u.wanted.now in let d = changes u.array.now u.start u.wanted.now in
    let last = div_ceil (u.start + length u.wanted.now) 256 in
    Left l.next (encode (pages_step w d (last - l.page) (l.page * 256))) l.buffer
    l.at (encode (pages_step w d (last - u.start / 256) (u.start / 256 * 256))) l.initial.buffer
