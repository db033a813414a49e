-- `output::show_each` meets its contract: below i both slices show the command's bytes, and from where these no longer change a run lays the rest.
use mathlib.Core.Path.{◌≡◌, ap, ◌∙◌}
use native.Mathlib.Nat.{not-suc-le-zero}
use native.Mathlib.Omega.{arith}
use lib.ListN.{length}
use Rattle.common.proofs.Laws.Lists.{loop_start, loop_turn}
use Rattle.output.specs.Output.{byte_of, driven_of, shown_at}
use Rattle.output.proofs.Laws.Settled.{laid_by_run, laid_whole}
use Rattle.output.proofs.show_each.Goals as goal

pub loop-i-init : goal.loop-i-init
loop-i-init c =
    let a = c.args in (
      λ m. loop_start (λ k x. byte_of (shown_at a.s a.c m k)) a.output.now 0 (λ k x h. absurd (not-suc-le-zero h)),
      λ m. loop_start (λ k x. driven_of (shown_at a.s a.c m k)) a.driven.now 0 (λ k x h. absurd (not-suc-le-zero h)),
    )

pub loop-i-preserved : goal.loop-i-preserved
loop-i-preserved c =
    let a = c.args in
    let told = c.loop-i in
    let shown = c.shown_at-shown.ensures in (
      λ m. rw (c.byte_of-in-loop-i.ensures, shown m) (loop_turn (λ k x. byte_of (shown_at a.s a.c m k)) a.output.now told.output told.i (omega arith) (told.invariant.0 m)),
      λ m. rw (c.driven_of-in-loop-i.ensures, shown m) (loop_turn (λ k x. driven_of (shown_at a.s a.c m k)) a.driven.now told.driven told.i (omega arith) (told.invariant.1 m)),
    )

-- the byte behind those that were looked at is all the others
pub returns-then-i-to : goal.returns-then-i-to
returns-then-i-to c =
    let a = c.args in
    let told = c.loop-i in
    let to = c.changing-to.result in
    let here : told.i ≡ to = omega arith in
    λ m.
    let same = c.changing-to.ensures.1 a.s m in
    let shown = rw here at (c.shown_at-shown.ensures m) in (
      rw (c.fill_run.ensures, c.byte_of.ensures, shown, rw here at (told.invariant.0 m))
          (laid_by_run (λ k. byte_of (shown_at a.s a.c m k)) a.output.now to (λ i l h. ap byte_of (same i l h))),
      rw (c.fill_run-then-i-to.ensures, c.driven_of.ensures, shown, rw here at (told.invariant.1 m), ← c.requires.1)
          (laid_by_run (λ k. driven_of (shown_at a.s a.c m k)) a.driven.now to (λ i l h. ap driven_of (same i l (omega (arith, h, c.requires.1))))),
    )

-- all were looked at
pub returns : goal.returns
returns c =
    let a = c.args in
    let told = c.loop-i in
    let end : told.i ≡ length a.output.now = omega arith in
    λ m. (
      rw end at (told.invariant.0 m) ∙ laid_whole (λ k. byte_of (shown_at a.s a.c m k)) a.output.now,
      rw (← c.requires.1) (rw (end, ← c.requires.1) at (told.invariant.1 m) ∙ laid_whole (λ k. driven_of (shown_at a.s a.c m k)) a.driven.now),
    )
