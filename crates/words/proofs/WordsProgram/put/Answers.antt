-- `words::Words::put` meets its contract: the invariant says that with the words left the buffer will be as it is to be.
use mathlib.Core.Path.{◌≡◌}
use Prim.Native.Nat.{◌*◌}
use native.Mathlib.Omega.{arith}
use lib.ListN.{length}
use Rattle.script.specs.Record.{encode}
use Rattle.region.specs.Region.{wanted_at}
use Rattle.common.proofs.Laws.Buffer.{left_start, left_room, left_turn, left_fits, left_last}
use Rattle.words.specs.Walk.{word_records}
use Rattle.words.proofs.Laws.Walk.{words_start, words_turn, words_end}
use Rattle.words.proofs.WordsProgram.put.Goals as goal

pub loop-word-init : goal.loop-word-init
loop-word-init c =
    let u = c.args.update.now in
    left_start _ _ _ (rw (words_start _ _ u.start (length u.wanted.now) c.div_ceil-behind.result (omega arith)) at c.requires)

pub put_word-next-requires : goal.put_word-next-requires
put_word-next-requires c =
    let l = c.loop-word in
    let u = c.args.update.now in record {
      address_bound = omega arith;
      address_in_bounds = left_room (encode (word_records (wanted_at u.start u.wanted.now) l.running c.word_changes-changes.result (l.word * 2))) _
          (rw (words_turn _ _ _ _ _ c.loop-word-test.true c.word_changes-changes.ensures) at l.invariant);
    }

pub loop-word-preserved : goal.loop-word-preserved
loop-word-preserved c =
    left_turn _ _ (rw (words_turn _ _ _ _ _ c.loop-word-test.true c.word_changes-changes.ensures) at c.loop-word.invariant) c.put_word-next.ensures

pub put_word-requires : goal.put_word-requires
put_word-requires c =
    let ended : c.loop-word.word ≡ c.div_ceil-behind.result = omega arith in record {
      address_bound = omega arith;
      address_in_bounds = left_fits (rw (ended, words_end _ _ _ _) at c.loop-word.invariant);
    }

pub returns : goal.returns
returns c =
    let ended : c.loop-word.word ≡ c.div_ceil-behind.result = omega arith in
    let u = c.args.update.now in
    rw (words_start _ _ u.start (length u.wanted.now) c.div_ceil-behind.result (omega arith))
    (left_last (rw (ended, words_end _ _ _ _) at c.loop-word.invariant) c.put_word.ensures)
