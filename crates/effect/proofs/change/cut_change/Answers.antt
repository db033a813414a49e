-- `effect::change::cut_change` meets its contract: below k the array is cut, from k on it is as it was, and the bytes left of the mask are those behind as many as there are touched addresses below k.
use mathlib.Core.Path.{◌≡◌, refl, sym, ◌∙◌}
use native.Mathlib.Nat.{add-zero}
use native.Mathlib.Omega.{arith}
use lib.ListN.{get_or}
use Rattle.std.proofs.lemmas.List.{get_or-drop, drop-drop}
use Rattle.common.proofs.Laws.Lists.{loop_start, loop_turn, loop_end}
use Rattle.common.proofs.Laws.Places.{count_turn}
use Rattle.effect.specs.Effect.{span_of, touches}
use Rattle.effect.specs.Cut.{mask_place, cut}
use Rattle.effect.proofs.Laws.Effect.{span_order, mask_place_start, cut_below, cut_above, cut_touched, cut_other, loop_skip}
use Rattle.effect.proofs.change.cut_change.Goals as goal

pub loop-k-init : goal.loop-k-init
loop-k-init c =
    let a = c.args in
    let told : c.into_iter-k-iterator.result ≡ span_of a.e = c.into_iter-k-iterator.ensures.into_iter_gives ∙ c.span_of-k-items.ensures in
    rw told (
      tt,
      tt,
      omega arith,
      span_order a.e,
      refl,
      rw (mask_place_start a.e) c.iter-bytes.ensures.rest,
      loop_start (cut a.e a.input.now a.mask.now) a.array.now _ (λ k x b. cut_below a.e a.input.now k x a.mask.now b),
    )

pub loop-k-preserved-then-is_touched : goal.loop-k-preserved-then-is_touched
loop-k-preserved-then-is_touched c =
    let a = c.args in
    let told = c.loop-k.invariant in
    let goes = c.in-Some.ensures.steps in
    let here = told.3 in
    let t = sym c.if-is_touched.ensures in
    let new : c.mixed_byte.result ≡ cut a.e a.input.now a.mask.now c.in-Some.k (get_or c.loop-k.array c.in-Some.k 0) =
    rw (c.next_byte.ensures.0, c.struck_byte-new.ensures, told.5, get_or-drop (mask_place a.e c.loop-k.k-iterator.start) a.mask.now 0, add-zero (mask_place a.e c.loop-k.k-iterator.start), ← goes.1.1) at c.mixed_byte.ensures ∙ sym (cut_touched a.e a.input.now _ _ a.mask.now t) in (
      tt,
      tt,
      omega arith,
      omega arith,
      omega arith,
      rw (c.next_byte.ensures.1, told.5, goes.1.2, ← goes.1.1, count_turn (touches a.e) c.in-Some.k, t) (drop-drop 1 (mask_place a.e c.in-Some.k) a.mask.now),
      rw (new, goes.1.2, ← goes.1.1) (loop_turn (cut a.e a.input.now a.mask.now) a.array.now c.loop-k.array c.in-Some.k (omega arith) (rw (← goes.1.1) at told.6)),
    )

pub loop-k-preserved : goal.loop-k-preserved
loop-k-preserved c =
    let a = c.args in
    let told = c.loop-k.invariant in
    let goes = c.in-Some.ensures.steps in
    let here = told.3 in
    let t = sym c.if-is_touched.ensures in (
      tt,
      tt,
      omega arith,
      omega arith,
      omega arith,
      rw (told.5, goes.1.2, ← goes.1.1, count_turn (touches a.e) c.in-Some.k, t, add-zero (mask_place a.e c.in-Some.k)) refl,
      rw (goes.1.2, ← goes.1.1) (loop_skip (cut a.e a.input.now a.mask.now) a.array.now c.loop-k.array c.in-Some.k (omega arith) (λ x. cut_other a.e a.input.now _ x a.mask.now t) (rw (← goes.1.1) at told.6)),
    )

pub returns : goal.returns
returns c =
    let a = c.args in
    let told = c.loop-k.invariant in
    let goes = c.in-None.ensures.steps in
    loop_end (cut a.e a.input.now a.mask.now) a.array.now c.loop-k.array _ (λ k x b. cut_above a.e a.input.now k x a.mask.now (omega arith)) told.6
