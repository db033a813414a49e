-- `script::survey::counts_of` meets its contract. At the loop's head the records before `at` are counted, and the survey of what is left makes up the whole.
-- The measure is what is left of the script. Assumes nothing.
use mathlib.Core.Path.{◌≡◌, sym, ap, ◌∙◌}
use mathlib.Core.List.{List}
use Prim.Native.Nat.{ℕ}
use native.Mathlib.Omega.{arith}
use lib.ListN.{drop}
use Rattle.std.specs.Prelude.{Some, Ok, Err}
use Rattle.common.proofs.Laws.Bits.{bytes_drop, bytes_within}
use Rattle.script.specs.Record.{wait}
use Rattle.script.specs.Decode.{front}
use Rattle.script.specs.Answers.{Read}
use Rattle.script.specs.Reader.{answer}
use Rattle.script.specs.declared.reader.Found.TheVariants.{Frame, Wait}
use Rattle.script.proofs.Laws.Answers.{Stands, FrameTold, front_told}
use Rattle.script.proofs.Laws.Front.{front_item}
use Rattle.script.proofs.Laws.Survey.{counts_long, count_frame, count_wait, count_end, count_refused}
use Rattle.script.proofs.survey.counts_of.Goals as goal

-- a record that was found, by what `front_at` told
module _ (script : List ℕ) (at : ℕ) {r : Read} (told : r ≡ answer at (front (drop at script))) where
  framed : {start n next : ℕ} → r ≡ Ok (Some (Frame start n next)) → FrameTold script at start n next
  framed is = rw is at (front_told script at r told)

  waited : {microseconds next : ℕ} → r ≡ Ok (Some (Wait microseconds next)) → Stands script at (wait microseconds) next
  waited is = rw is at (front_told script at r told)

pub returns-then-script-gt-LONGEST_SCRIPT : goal.returns-then-script-gt-LONGEST_SCRIPT
returns-then-script-gt-LONGEST_SCRIPT c =
    ap Err c.into.ensures ∙ sym (counts_long _ c.if-script-gt-LONGEST_SCRIPT.true)

pub loop-length-smaller-in-Ok-Some-Frame : goal.loop-length-smaller-in-Ok-Some-Frame
loop-length-smaller-in-Ok-Some-Frame c =
    let f = c.in-Ok-Some-Frame in
    let told = framed c.args.script.now c.loop-length.at c.front_at.ensures (f.is ∙ ap Ok (f.field-0-is ∙ ap Some f.field-0-0-is)) in
    omega (arith, told.stands.next_is, told.stands.least, told.stands.inside, f.next-is)

pub loop-length-preserved-in-Ok-Some-Frame : goal.loop-length-preserved-in-Ok-Some-Frame
loop-length-preserved-in-Ok-Some-Frame c =
    let f = c.in-Ok-Some-Frame in
    let told = framed c.args.script.now c.loop-length.at c.front_at.ensures (f.is ∙ ap Ok (f.field-0-is ∙ ap Some f.field-0-0-is)) in
    rw (f.length-is, f.next-is) (count_frame told c.loop-length.invariant)

pub loop-length-smaller : goal.loop-length-smaller
loop-length-smaller c =
    let w = c.in-Ok-Some-Wait in
    let told = waited c.args.script.now c.loop-length.at c.front_at.ensures (w.is ∙ ap Ok (w.field-0-is ∙ ap Some w.field-0-0-is)) in
    omega (arith, told.next_is, told.inside, w.next-is)

pub loop-length-preserved : goal.loop-length-preserved
loop-length-preserved c =
    let w = c.in-Ok-Some-Wait in
    let script = c.args.script.now in
    let told = waited script c.loop-length.at c.front_at.ensures (w.is ∙ ap Ok (w.field-0-is ∙ ap Some w.field-0-0-is)) in
    let bytes = bytes_drop c.loop-length.at script (bytes_within script (λ k b. omega (arith, c.type_inv.script k))) in
    let small = ((front_item _ told.here).encoded bytes).1 in
    rw (c.from.ensures, w.microseconds-is, w.next-is) (count_wait small told c.loop-length.invariant)

pub returns-in-Ok-None : goal.returns-in-Ok-None
returns-in-Ok-None c =
    let is = c.in-Ok-None.is ∙ ap Ok c.in-Ok-None.field-0-is in
    count_end (rw is at (front_told c.args.script.now c.loop-length.at _ c.front_at.ensures)) c.loop-length.invariant

pub returns-in-Err : goal.returns-in-Err
returns-in-Err c =
    count_refused (rw c.in-Err.is at (front_told c.args.script.now c.loop-length.at _ c.front_at.ensures)) c.loop-length.invariant
