-- `words::Words::measure` meets its contract: the invariant adds what has been counted and what is left to count.
use mathlib.Core.Bool.{false}
use Prim.Native.Nat.{◌+◌, ◌*◌, ◌/◌}
use lib.ListN.{length}
use Rattle.std.specs.Int.{div_ceil}
use Rattle.region.specs.Region.{changes}
use Rattle.words.specs.Words.{words_in}
use Rattle.words.specs.Walk.{word_count, run_count}
use Rattle.words.proofs.Laws.Walk.{Counting}
use Rattle.words.proofs.WordsProgram.measure.Given as goal

abbrev pub invariant-loop-word : goal.invariant-loop-word
invariant-loop-word l =
    let u = l.update in let d = changes u.array.now u.start u.wanted.now in let n = length u.wanted.now in
    Counting d (div_ceil (u.start + n) 2) l.word l.words l.runs l.running (word_count d (words_in u.start n) (u.start / 2 * 2)) (run_count d false (words_in u.start n) (u.start / 2 * 2))
