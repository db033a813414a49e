-- `book::marking::mark_scenes` meets its contract: the invariant says that marking what is left of the list gives what marking all of it does.
use mathlib.Core.Path.{◌≡◌}
use lib.ListN.{drop}
use Rattle.book.specs.Book.{marked}
use Rattle.book.proofs.marking.mark_scenes.Given as goal

abbrev pub invariant-loop-scene : goal.invariant-loop-scene
invariant-loop-scene l = marked (drop l.scene-index l.scenes) l.used ≡ marked l.scenes l.initial.used
