-- `listing::frames::put_frame_lines` meets its contract: the lines of the records before `at` are written, and with those that are left the text will be as it is to be.
use mathlib.Core.Path.{ap, ◌∙◌}
use native.Mathlib.Omega.{arith}
use Rattle.std.specs.Prelude.{Some, Ok}
use Rattle.script.specs.Record.{wait}
use Rattle.script.proofs.Laws.Answers.{Stands, FrameTold, front_told, good_ok}
use Rattle.listing.proofs.Laws.Frames.{show_start, frame_inside, frame_driven_inside, frame_room, show_frame, show_wait, show_end}
use borrow.Author.Rules.{rules}
use Rattle.listing.proofs.frames.put_frame_lines.Goals as goal
use Rattle.listing.proofs.frames.put_frame_lines.Goals.{In-Frame, In-Wait}

framed : (c : In-Frame) → FrameTold c.args.script.now c.loop-found.at c.in-Frame.start c.in-Frame.length c.in-Frame.next
framed c =
    let is = c.unwrap.ensures ∙ ap Ok (c.in-Some.is ∙ ap Some c.in-Frame.is) in
    rw is at (front_told c.args.script.now c.loop-found.at _ c.front_at.ensures)

waited : (c : In-Wait) → Stands c.args.script.now c.loop-found.at (wait c.in-Wait.microseconds) c.in-Wait.next
waited c =
    let is = c.unwrap.ensures ∙ ap Ok (c.in-Some.is ∙ ap Some c.in-Wait.is) in
    rw is at (front_told c.args.script.now c.loop-found.at _ c.front_at.ensures)

pub loop-found-init : goal.loop-found-init
loop-found-init c = show_start _ _ _ c.requires.script_value c.requires.long c.requires.longest_script_in_bounds

pub unwrap-requires : goal.unwrap-requires
unwrap-requires c = good_ok c.args.script.now c.loop-found.at c.loop-found.invariant.decoded _ c.front_at.ensures

pub overflow_add-end : goal.overflow_add-end
overflow_add-end c = let h = frame_inside c.loop-found.invariant (framed c) in search rules

pub slice_bounds-put_shown_line-end : goal.slice_bounds-put_shown_line-end
slice_bounds-put_shown_line-end c = frame_inside c.loop-found.invariant (framed (goal.at.slice_bounds-put_shown_line-end c).In-Frame)

pub slice_bounds-put_shown_line-end-in-Frame : goal.slice_bounds-put_shown_line-end-in-Frame
slice_bounds-put_shown_line-end-in-Frame c =
    frame_driven_inside c.loop-found.invariant (framed (goal.at.slice_bounds-put_shown_line-end-in-Frame c).In-Frame)

pub put_shown_line-next_line-requires : goal.put_shown_line-next_line-requires
put_shown_line-next_line-requires c =
    let h = frame_room c.loop-found.invariant (framed (goal.at.put_shown_line-next_line-requires c).In-Frame) in
    record { driven_len = h.0; driven_in_bounds = h.1 }

pub loop-found-smaller-in-Frame : goal.loop-found-smaller-in-Frame
loop-found-smaller-in-Frame c =
    let s = (framed (goal.at.loop-found-smaller-in-Frame c).In-Frame).stands in omega (arith, s.next_is, s.least, s.inside)

pub loop-found-preserved-in-Frame : goal.loop-found-preserved-in-Frame
loop-found-preserved-in-Frame c =
    show_frame c.loop-found.invariant (framed (goal.at.loop-found-preserved-in-Frame c).In-Frame) c.put_shown_line-next_line.ensures

pub loop-found-smaller : goal.loop-found-smaller
loop-found-smaller c = let s = waited c in omega (arith, s.next_is, s.inside)

pub loop-found-preserved : goal.loop-found-preserved
loop-found-preserved c = show_wait c.loop-found.invariant (waited c)

pub returns : goal.returns
returns c =
    let is = c.unwrap.ensures ∙ ap Ok c.in_default.is in
    show_end c.loop-found.invariant (rw is at (front_told c.args.script.now c.loop-found.at _ c.front_at.ensures))
