-- `run::records::run_records` meets its contract: at the loop's head the records before `at` are run, and running those that are left makes up the whole.
-- The measure is what is left of the script. Assumes nothing.
use mathlib.Core.Path.{sym, ap, ◌∙◌}
use native.Mathlib.Omega.{arith}
use Rattle.std.specs.Prelude.{Some, Ok}
use Rattle.common.proofs.Laws.Bits.{bytes_within}
use Rattle.script.specs.Record.{wait}
use Rattle.script.proofs.Laws.Answers.{Stands, FrameTold, front_told, good_ok}
use Rattle.frame.specs.Device.{device}
use Rattle.frame.specs.Line.{on_line}
use Rattle.run.proofs.Laws.Walk.{walk_start, frame_room, frame_driven_room, walk_accepted, walk_frame, walk_wait, walk_end}
use borrow.Author.Rules.{rules}
use Rattle.run.proofs.records.run_records.Goals as goal
use Rattle.run.proofs.records.run_records.Goals.{In-Frame, In-Wait}

framed : (c : In-Frame) → FrameTold c.args.script.now c.loop-found.at c.in-Frame.start c.in-Frame.length c.in-Frame.next
framed c =
    let is = c.unwrap.ensures ∙ ap Ok (c.in-Some.is ∙ ap Some c.in-Frame.is) in
    rw is at (front_told c.args.script.now c.loop-found.at _ c.front_at.ensures)

waited : (c : In-Wait) → Stands c.args.script.now c.loop-found.at (wait c.in-Wait.microseconds) c.in-Wait.next
waited c =
    let is = c.unwrap.ensures ∙ ap Ok (c.in-Some.is ∙ ap Some c.in-Wait.is) in
    rw is at (front_told c.args.script.now c.loop-found.at _ c.front_at.ensures)

pub loop-found-init : goal.loop-found-init
loop-found-init c =
    let a = c.args in
    let bytes = bytes_within a.script.now (λ k b. omega (arith, c.type_inv.script k)) in (
      c.requires.same.driven_long ∙ sym c.requires.same.output_long,
      walk_start a.wp a.script.now (device a.s a.array.now) (on_line a.output.now a.driven.now) bytes c.requires,
    )

pub unwrap-requires : goal.unwrap-requires
unwrap-requires c = good_ok c.args.script.now c.loop-found.at c.loop-found.invariant.1.decoded _ c.front_at.ensures

pub part_at-input-requires : goal.part_at-input-requires
part_at-input-requires c = let t = framed c in omega (arith, t.start_is, t.long, t.stands.next_is, t.stands.inside)

pub overflow_add-end : goal.overflow_add-end
overflow_add-end c = let h = frame_room c.loop-found.invariant.1 (framed (goal.at.overflow_add-end c).In-Frame) in search rules

pub slice_bounds-run_accepted-end : goal.slice_bounds-run_accepted-end
slice_bounds-run_accepted-end c = frame_room c.loop-found.invariant.1 (framed (goal.at.slice_bounds-run_accepted-end c).In-Frame)

pub slice_bounds-run_accepted-end-in-Frame : goal.slice_bounds-run_accepted-end-in-Frame
slice_bounds-run_accepted-end-in-Frame c =
    frame_driven_room c.loop-found.invariant.1 (framed (goal.at.slice_bounds-run_accepted-end-in-Frame c).In-Frame)

pub run_accepted-state-requires : goal.run_accepted-state-requires
run_accepted-state-requires c =
    walk_accepted c.loop-found.invariant.1 (framed (goal.at.run_accepted-state-requires c).In-Frame) c.part_at-input.ensures

pub loop-found-smaller-in-Frame : goal.loop-found-smaller-in-Frame
loop-found-smaller-in-Frame c =
    let s = (framed (goal.at.loop-found-smaller-in-Frame c).In-Frame).stands in omega (arith, s.next_is, s.least, s.inside)

pub loop-found-preserved-in-Frame : goal.loop-found-preserved-in-Frame
loop-found-preserved-in-Frame c =
    let told = c.loop-found.invariant in
    let t = framed (goal.at.loop-found-preserved-in-Frame c).In-Frame in
    (told.0, walk_frame told.1 t c.part_at-input.ensures c.run_accepted-state.ensures)

pub loop-found-smaller : goal.loop-found-smaller
loop-found-smaller c = let s = waited (goal.at.loop-found-smaller c).In-Wait in omega (arith, s.next_is, s.inside)

pub loop-found-preserved : goal.loop-found-preserved
loop-found-preserved c =
    let told = c.loop-found.invariant in
    (told.0, walk_wait told.1 (waited (goal.at.loop-found-preserved c).In-Wait) c.time_passed-state.ensures)

pub returns : goal.returns
returns c =
    let is = c.unwrap.ensures ∙ ap Ok c.in_default.is in
    let end = rw is at (front_told c.args.script.now c.loop-found.at _ c.front_at.ensures) in
    let e = walk_end c.loop-found.invariant.1 end in
    record { device_is = e.0; line_is = e.1 }
