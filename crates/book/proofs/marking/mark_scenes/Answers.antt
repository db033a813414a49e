-- `book::marking::mark_scenes` meets its contract: the invariant says that marking what is left of the list gives what marking all of it does.
use mathlib.Core.Path.{sym, ◌∙◌}
use Rattle.book.proofs.Laws.Listed.{none_over}
use Rattle.book.proofs.Laws.Marked.{marked_turn, marked_end}
use Rattle.book.proofs.marking.mark_scenes.Goals as goal

pub mark_scene-requires : goal.mark_scene-requires
mark_scene-requires c = none_over _ c.requires c.loop-scene.scene-index c.loop-scene-test.true

pub loop-scene-preserved : goal.loop-scene-preserved
loop-scene-preserved c =
    rw c.mark_scene.ensures (sym (marked_turn _ c.loop-scene.used c.loop-scene.scene-index c.loop-scene-test.true) ∙ c.loop-scene.invariant)

pub returns : goal.returns
returns c = sym (marked_end _ c.loop-scene.used c.loop-scene.scene-index c.loop-scene-test.false) ∙ c.loop-scene.invariant
