-- `pages::Pages::measure` meets its contract: the invariant adds what has been counted and what is left to count.
use Prim.Native.Nat.{◌+◌, ◌*◌, ◌/◌}
use lib.ListN.{length}
use Rattle.std.specs.Int.{div_ceil}
use Rattle.region.specs.Region.{changes}
use Rattle.pages.specs.Pages.{pages_in}
use Rattle.pages.specs.Parts.{page_count, byte_count}
use Rattle.pages.proofs.Laws.Walk.{Counting}
use Rattle.pages.proofs.PagesProgram.measure.Given as goal

abbrev pub invariant-loop-page : goal.invariant-loop-page
invariant-loop-page l =
    let u = l.update in let d = changes u.array.now u.start u.wanted.now in let n = length u.wanted.now in
    Counting d (div_ceil (u.start + n) 256) l.page l.pages l.bytes (page_count d (pages_in u.start n) (u.start / 256 * 256)) (byte_count d (pages_in u.start n) (u.start / 256 * 256))
