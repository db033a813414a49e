-- `words::Words::put` meets its contract: the invariant says that with the words left the buffer will be as it is to be.
use mathlib.Core.Bool.{false}
use Prim.Native.Nat.{◌-◌, ◌*◌, ◌/◌}
use Rattle.script.specs.Record.{encode}
use Rattle.region.specs.Region.{wanted_at, changes}
use Rattle.common.proofs.Laws.Buffer.{Left}
use Rattle.words.specs.Walk.{words}
use Rattle.words.proofs.WordsProgram.put.Given as goal

abbrev pub invariant-loop-word : goal.invariant-loop-word
invariant-loop-word l =
    let u = l.update in let w = wanted_at u.start u.wanted.now in let d = changes u.array.now u.start u.wanted.now in
    Left l.next (encode (words w d l.running (l.behind - l.word) (l.word * 2))) l.buffer
    l.at (encode (words w d false (l.behind - u.start / 2) (u.start / 2 * 2))) l.initial.buffer
