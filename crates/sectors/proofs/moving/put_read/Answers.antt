-- `sectors::moving::put_read` meets its contract: the records of the names passed are laid, and those of the names left go behind them.
use mathlib.Core.Path.{◌≡◌, sym, ◌∙◌}
use lib.ListN.{length}
use borrow.Author.Rules.{rules}
use Rattle.namelist.proofs.Laws.Listed.{good_exactly}
use Rattle.sectors.proofs.Laws.Moving.{moving_start, moving_scene, moving_most, moving_too_long, moving_read, moving_unread, moving_end, moved_too_long}
use Rattle.sectors.proofs.moving.put_read.Goals as goal
use Rattle.sectors.proofs.moving.put_read.Goals.{then-read+else-end-name, else-read}

pub loop-scene-init : goal.loop-scene-init
loop-scene-init c = moving_start _ _ _ _ _ _ ((good_exactly c.args.names.now.bytes.now).when c.args.names.now.good) c.iter-name-items.ensures

pub scene_read-read-requires : goal.scene_read-read-requires
scene_read-read-requires c = moving_scene _ _ _ _ _ _ _ _ _ c.loop-scene.invariant _ _ c.in-Some.ensures.steps

pub returns-then-end-name : goal.returns-then-end-name
returns-then-end-name c =
    moved_too_long _ _ _ _ _ _
    (moving_too_long _ _ _ _ _ _ _ _ _ c.loop-scene.invariant _ _ c.in-Some.ensures.steps (sym c.scene_read-read.ensures ∙ c.if-read.true) c.if-end-name.true)

pub put_record-end-requires : goal.put_record-end-requires
put_record-end-requires c = (moving_most _ _ _ _ _ _ _ _ _ c.loop-scene.invariant _ _ c.in-Some.ensures.steps, search rules)

pub loop-scene-preserved : goal.loop-scene-preserved
loop-scene-preserved c =
    let l = c.loop-scene in
    let e = c.in-Some.ensures.steps in
    elim c.if-read.branch [
      | then-read+else-end-name w ↦
          let long : length l.wanted ≡ 4096 = search rules in
          let next = moving_read _ _ _ _ _ _ _ _ _ l.invariant _ _ e (sym c.scene_read-read.ensures ∙ w.if-read.true) _ _ w.if-end-name.false long w.put_record-end.ensures in
          rw (w.wanted-is, w.end-is) next
      | else-read w ↦ rw (w.wanted-is, w.end-is) (moving_unread _ _ _ _ _ _ _ _ _ l.invariant _ _ e (sym c.scene_read-read.ensures ∙ w.if-read.false))
    ]

pub returns : goal.returns
returns c = moving_end _ _ _ _ _ _ _ _ _ c.loop-scene.invariant c.in-None.ensures.steps.0
