-- Flags by name: a move and a way back that were cut go on.
-- Assumes nothing.
use mathlib.Core.Bool.{Bool}
use mathlib.Core.List.{List}
use mathlib.Core.Logic.{inr}
use Prim.Native.Nat.{ℕ}
use lib.ListN.{length}
use Rattle.common.specs.Bits.{Bytes}
use Rattle.frame.specs.Device.{Device}
use Rattle.worst.specs.Worst.{room_enough}
use Rattle.flags.specs.declared.Returned.{Returned}
use Rattle.namecut.proofs.Laws.Restored.{back_kept}
use Rattle.namecut.proofs.Laws.Resumed.{move_goes_on, back_goes_on}
use Rattle.rules.specs.FlagsLeft.{MoveBehind, BackLost, MoveAgain, BackAgain}
use Rattle.rules.proofs.Laws.Worst.{worst_bytes_lem}
use Rattle.rules.proofs.Laws.FlagsSent.{lost_power, behind_went, went_ready}
use Rattle.rules.proofs.Laws.FlagsMoved.{move_own, move_want, back_own, back_want, answer_of}

pub move_again : (wp : Bool) (chip : Device) (book sector : ℕ) (list : List ℕ) (after : Device) → Bytes chip.array → MoveBehind wp chip book sector list after
    → MoveAgain book sector list after
unfolding room_enough
move_again wp chip book sector list after bytes b =
    let own : ℕ = move_own wp chip book sector list in
    let want : List ℕ = move_want wp chip book sector list in
    let w = behind_went own wp chip sector want b in
    let on = move_goes_on wp chip book sector list w.buffer w.after w.planned bytes w.unless w.accepted after w.behind in
    record {
      never_8 = on.never_8;
      never_20 = on.never_20;
      accepted = λ wp₂ buffer written planned moves free enough.
          on.accepted wp₂ buffer written planned moves free (rw (worst_bytes_lem after.state (went_ready own wp chip sector want bytes w).sound) enough);
    }

pub back_again : (wp : Bool) (chip : Device) (sector book : ℕ) (list : List ℕ) (count : ℕ) (lost : Device) (bytes : Bytes chip.array)
    (cut : BackLost wp chip sector book list count lost) → BackAgain wp sector book list (length cut.buffer) lost
unfolding room_enough
back_again wp chip sector book list count lost bytes cut =
    let was : Returned = answer_of wp chip sector book list count cut.planned in
    let power = lost_power (back_own wp chip sector book list count) wp chip book (back_want wp chip sector book list count) cut.buffer cut.after cut.planned
    cut.answers.plan cut.accepted cut.cut in
    let on = back_goes_on wp chip sector book list cut.buffer cut.after was bytes cut.answers cut.accepted lost power in
    let ready = (back_kept wp chip sector book list cut.buffer cut.after was bytes cut.answers cut.accepted).ready lost (inr power) in
    record {
      accepted = λ other buffer after planned again enough. on.accepted buffer after (answer_of wp lost sector book list other planned) again enough;
      accepted_in_worst = λ other buffer after planned again enough.
          on.accepted_in_worst buffer after (answer_of wp lost sector book list other planned) again (rw (worst_bytes_lem lost.state ready.sound) enough);
    }
