-- `common::runs::copy_run` meets its contract: an empty run changes nothing, and the part holds the bytes of the source, from `at` on.
use Rattle.std.proofs.Common.{◌≡◌, ◌+◌, ◌-◌, List, ℕ, take, drop, get_or, ap, ◌∙◌, arith}
use borrow.Rule.Slice.PartMut.{mid_len}
use Rattle.std.proofs.lemmas.List.{get_or-take, get_or-drop}
use Rattle.common.proofs.Laws.Runs.{copied, run_start, run_end, part_stored}
use Rattle.common.proofs.runs.copy_run.Goals as goal

pub returns-then-from-to : goal.returns-then-from-to
returns-then-from-to c =
    let a = c.args in
    let f = copied a.source.now a.at a.from in
    run_end a.from a.to f a.bytes.now a.bytes.now a.from (omega arith) (run_start a.from a.to f a.bytes.now)

pub returns : goal.returns
returns c =
    let a = c.args in
    let n = a.to - a.from in
    let is : c.copy_from_slice.new.self ≡ take (a.at + n - a.at) (drop a.at a.source.now) = c.copy_from_slice.ensures.after in
    part_stored a.from a.to (copied a.source.now a.at a.from) a.bytes.now _ (omega arith) (omega arith)
    (c.copy_from_slice.ensures.len ∙ mid_len a.from a.to a.bytes.now (omega arith))
    (λ j h.
    let there : a.at + j ≡ a.at + (a.from + j - a.from) = omega arith in
    ap (λ (part : List ℕ). get_or part j 0) is ∙ get_or-take (a.at + n - a.at) (drop a.at a.source.now) j 0 (omega arith)
    ∙ get_or-drop a.at a.source.now j 0 ∙ ap (λ (k : ℕ). get_or a.source.now k 0) there)
