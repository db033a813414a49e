-- `namelist::list::NameList::read` meets its contract: what is left is bad, after the names passed, exactly where the whole list is.
use mathlib.Core.Path.{sym, ◌∙◌}
use Rattle.namelist.proofs.Laws.Reading.{reading_start, reading_full, reading_cut, reading_bad, reading_turn, reading_end}
use Rattle.namelist.proofs.list.NameList.read.Goals as goal
use Rattle.namelist.proofs.list.NameList.read.Goals.{then-is_full-via-then-is_full, then-is_full-via-else-is_full+then-not-is_name}

pub loop-length-init : goal.loop-length-init
loop-length-init c = reading_start c.args.list.now

pub returns-in_err-name : goal.returns-in_err-name
returns-in_err-name c =
    rw c.from_residual.ensures
    (reading_cut _ _ _ c.loop-length.invariant _ _ _ c.in-Some.ensures.cases.0 c.from.ensures c.in_err-name.ensures.cases)

pub returns-then-is_full : goal.returns-then-is_full
returns-then-is_full c =
    let inv = c.loop-length.invariant in
    let name = c.in_ok-name.ensures.cases in
    elim c.then-is_full.branch [
      | then-is_full-via-then-is_full w ↦ reading_full _ _ _ inv _ _ _ c.in-Some.ensures.cases.0 c.from.ensures w.if-is_full.true
      | then-is_full-via-else-is_full+then-not-is_name w ↦ reading_bad _ _ _ inv _ _ _ c.in-Some.ensures.cases.0 c.from.ensures name.0 _ name.1 (sym w.is_name.ensures ∙ w.if-not-is_name.true)
    ]

pub loop-length-preserved : goal.loop-length-preserved
loop-length-preserved c =
    let name = c.in_ok-name.ensures.cases in
    reading_turn _ _ _ c.loop-length.invariant _ _ _ c.in-Some.ensures.cases.0 c.from.ensures name.0 _ name.1 c.if-is_full.false
    (sym c.is_name.ensures ∙ c.if-not-is_name.false) _ name.2

pub invariant_of-result : goal.invariant_of-result
invariant_of-result c = record { good = reading_end _ _ _ c.loop-length.invariant c.in_default.ensures.cases }
