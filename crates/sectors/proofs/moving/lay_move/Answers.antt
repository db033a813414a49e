-- `sectors::moving::lay_move` meets its contract: the records are laid into an erased sector, and over them the same with their marks.
use mathlib.Core.Path.{◌≡◌}
use borrow.Author.Rules.{rules}
use Rattle.common.specs.declared.refusals.Refusal.TheVariants.{RecordsTooLong}
use Rattle.std.proofs.Common.{Err}
use Rattle.sectors.proofs.Laws.Laid.{laid_not, laid_first, laid_second}
use Rattle.sectors.proofs.moving.lay_move.Goals as goal

pub returns-in_err-end : goal.returns-in_err-end
returns-in_err-end c =
    let handed_on : c.from_residual.result ≡ Err RecordsTooLong = search rules in
    rw handed_on (laid_not _ _ _ _ _ _ c.requires.0 _ (rw c.in_err-end.ensures.ok_part at c.put_read.ensures))

pub returns-then-not-is_missing : goal.returns-then-not-is_missing
returns-then-not-is_missing c =
    laid_second _ _ _ _ _ _ c.requires.0 _ (rw c.in_ok-end.ensures.ok_part at c.put_read.ensures) _ c.is_missing.ensures _ _ c.if-not-is_missing.true c.put_read-then-not-is_missing.ensures

pub returns-else-not-is_missing : goal.returns-else-not-is_missing
returns-else-not-is_missing c =
    laid_first _ _ _ _ _ _ c.requires.0 _ (rw c.in_ok-end.ensures.ok_part at c.put_read.ensures) _ c.is_missing.ensures c.if-not-is_missing.false
