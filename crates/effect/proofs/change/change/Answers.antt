-- `effect::change::change` meets its contract: each arm's run is its effect, address by address.
use mathlib.Core.Path.{◌≡◌, refl, sym, ◌∙◌}
use native.Mathlib.Omega.{arith}
use lib.ListN.{get_or}
use Rattle.common.proofs.Laws.Lists.{loop_start, loop_turn, loop_end}
use Rattle.effect.specs.Effect.{span_of, changed}
use Rattle.effect.proofs.Laws.Effect.{changed_below, changed_above, changed_touched, changed_other, span_order, loop_skip}
use Rattle.effect.proofs.Laws.Straight.{keep_array, fill_in_a_run, program_in_a_run}
use Rattle.effect.proofs.change.change.Goals as goal

pub returns-in-Keep : goal.returns-in-Keep
returns-in-Keep c = rw c.in-Keep.is (sym (keep_array _ _))

pub returns-in-Fill : goal.returns-in-Fill
returns-in-Fill c =
    let a = c.args in
    rw c.in-Fill.is (c.fill_run.ensures ∙ fill_in_a_run c.in-Fill.start c.in-Fill.count a.input.now a.array.now)

pub returns-in-Program : goal.returns-in-Program
returns-in-Program c =
    let a = c.args in
    rw (c.in-Program.is, ← c.from.ensures) (c.and_run.ensures ∙ program_in_a_run c.in-Program.start c.in-Program.count a.input.now a.array.now _)

pub loop-k-init : goal.loop-k-init
loop-k-init c =
    let told : c.into_iter-k-iterator.result ≡ span_of c.args.e = c.into_iter-k-iterator.ensures.into_iter_gives ∙ c.span_of-k-items.ensures in
    rw told (
      tt,
      tt,
      omega arith,
      span_order c.args.e,
      refl,
      loop_start (changed c.args.e c.args.input.now) c.args.array.now _ (λ k x b. changed_below c.args.e c.args.input.now k x b),
    )

pub loop-k-preserved-then-is_touched : goal.loop-k-preserved-then-is_touched
loop-k-preserved-then-is_touched c =
    let a = c.args in
    let told = c.loop-k.invariant in
    let goes = c.in-Some.ensures.steps in
    let here = told.3 in
    let new : c.struck_byte.result ≡ changed a.e a.input.now c.in-Some.k (get_or c.loop-k.array c.in-Some.k 0) =
    c.struck_byte.ensures ∙ sym (changed_touched a.e a.input.now _ _ (sym c.if-is_touched.ensures)) in (
      tt,
      tt,
      omega arith,
      omega arith,
      omega arith,
      rw (new, goes.1.2, ← goes.1.1) (loop_turn (changed a.e a.input.now) a.array.now c.loop-k.array c.in-Some.k (omega arith) (rw (← goes.1.1) at told.5)),
    )

pub loop-k-preserved : goal.loop-k-preserved
loop-k-preserved c =
    let a = c.args in
    let told = c.loop-k.invariant in
    let goes = c.in-Some.ensures.steps in
    let here = told.3 in (
      tt,
      tt,
      omega arith,
      omega arith,
      omega arith,
      rw (goes.1.2, ← goes.1.1) (loop_skip (changed a.e a.input.now) a.array.now c.loop-k.array c.in-Some.k (omega arith) (λ x. changed_other a.e a.input.now _ x (sym c.if-is_touched.ensures)) (rw (← goes.1.1) at told.5)),
    )

pub returns-in-None : goal.returns-in-None
returns-in-None c =
    let a = c.args in
    let told = c.loop-k.invariant in
    let goes = c.in-None.ensures.steps in
    loop_end (changed a.e a.input.now) a.array.now c.loop-k.array _ (λ k x b. changed_above a.e a.input.now k x (omega arith)) told.5
