-- `common::runs::fill_run` meets its contract: each byte of the part is the value.
use Rattle.std.proofs.Common.{◌≡◌, ◌-◌, List, ℕ, length, get_or, replicate, ap, ◌∙◌, arith}
use borrow.Rule.Slice.PartMut.{mid_of, mid_len}
use Rattle.std.proofs.lemmas.List.{get_or-replicate}
use Rattle.common.proofs.Laws.Runs.{part_stored}
use Rattle.common.proofs.runs.fill_run.Goals as goal

pub returns : goal.returns
returns c =
    let a = c.args in
    let long = mid_len a.from a.to a.bytes.now (omega arith) in
    let is : c.fill.new.self ≡ replicate (length (mid_of a.from (a.to - a.from) a.bytes.now)) a.value = c.fill.ensures.after (λ y h. h) in
    part_stored a.from a.to (λ k x. a.value) a.bytes.now _ (omega arith) (omega arith) (c.fill.ensures.len ∙ long)
    (λ j h. ap (λ (part : List ℕ). get_or part j 0) is ∙ get_or-replicate _ j a.value 0 (omega (arith, long)))
