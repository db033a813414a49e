-- `words::Words::measure` meets its contract: the invariant adds what has been counted and what is left to count.
use mathlib.Core.Path.{◌≡◌, sym}
use mathlib.Core.Bool.{not, ◌&&◌}
use Rattle.std.proofs.Common.{rules}
use native.Mathlib.Omega.{arith}
use Rattle.words.proofs.Laws.Words.{words_step_measure}
use Rattle.words.proofs.Laws.Walk.{counting_start, counting_turn, counting_end}
use Rattle.words.proofs.WordsProgram.measure.Goals as goal

pub loop-word-init : goal.loop-word-init
loop-word-init c = counting_start _ _ _ _ c.args.update.now.inside.short (omega arith)

pub overflow_add-words : goal.overflow_add-words
overflow_add-words c = omega (arith, counting_turn c.loop-word.invariant (omega arith) c.word_changes-changes.ensures, c.from.ensures)

pub loop-word-preserved : goal.loop-word-preserved
loop-word-preserved c =
    let begins : c.if-changes.from ≡ (c.word_changes-changes.result && not c.loop-word.running) = search rules in
    rw (c.from.ensures, c.from-in-loop-word.ensures, begins) (counting_turn c.loop-word.invariant (omega arith) c.word_changes-changes.ensures)

pub returns : goal.returns
returns c = let e = counting_end c.loop-word.invariant (omega arith) in rw (e.0, e.1) (sym (words_step_measure _ _ _ _))
