-- `pages::Pages::measure` meets its contract: the invariant adds what has been counted and what is left to count.
use mathlib.Core.Path.{sym}
use native.Mathlib.Omega.{arith}
use Rattle.pages.proofs.Laws.Pages.{pages_step_measure}
use Rattle.pages.proofs.Laws.Walk.{counting_start, counting_turn, counting_end}
use Rattle.pages.proofs.PagesProgram.measure.Goals as goal

pub loop-page-init : goal.loop-page-init
loop-page-init c = counting_start _ _ _ _ c.args.update.now.inside.short (omega arith)

pub overflow_add-pages : goal.overflow_add-pages
overflow_add-pages c = omega (arith, counting_turn c.loop-page.invariant (omega arith) c.page_part-part.ensures c.is_empty.ensures, c.from-pages.ensures)

pub loop-page-preserved : goal.loop-page-preserved
loop-page-preserved c =
    rw (c.from-pages.ensures, c.len.ensures.value) (counting_turn c.loop-page.invariant (omega arith) c.page_part-part.ensures c.is_empty.ensures)

pub returns : goal.returns
returns c = let e = counting_end c.loop-page.invariant (omega arith) in rw (e.0, e.1) (sym (pages_step_measure _ _ _ _))
