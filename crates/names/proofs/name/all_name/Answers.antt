-- `names::name::all_name` meets its contract: the answer is that of the bytes left.
use mathlib.Core.Path.{sym, ◌∙◌}
use native.Mathlib.Omega.{arith}
use Rattle.names.proofs.Laws.Reader.{all_first_bad, all_second_bad, all_both, all_one, all_none}
use Rattle.names.proofs.name.all_name.Goals as goal
use Rattle.names.proofs.name.all_name.Goals.{then-not-is_name_byte-via-then-not-is_name_byte, then-not-is_name_byte-via-else-not-is_name_byte+then-not-is_name_byte-2}

pub returns-then-not-is_name_byte : goal.returns-then-not-is_name_byte
returns-then-not-is_name_byte c =
    let two = c.in-len2-up.len_at_least in
    elim c.then-not-is_name_byte.branch [
      | then-not-is_name_byte-via-then-not-is_name_byte w ↦ all_first_bad _ two w.if-not-is_name_byte.ensures
      | then-not-is_name_byte-via-else-not-is_name_byte+then-not-is_name_byte-2 w ↦ all_second_bad _ two w.if-not-is_name_byte.ensures w.if-not-is_name_byte-2.ensures
    ] ∙ c.loop-left.invariant

pub loop-left-preserved : goal.loop-left-preserved
loop-left-preserved c = all_both _ c.in-len2-up.len_at_least c.if-not-is_name_byte.ensures c.if-not-is_name_byte-2.ensures ∙ c.loop-left.invariant

pub returns-in-len1 : goal.returns-in-len1
returns-in-len1 c =
    c.is_name_byte-in-len1.ensures ∙ sym (all_one c.loop-left.left.now (omega (arith, c.in-len1.len_at_least, c.in-len1.len_below))) ∙ c.loop-left.invariant

pub returns-in_default-left : goal.returns-in_default-left
returns-in_default-left c = sym (all_none c.loop-left.left.now (omega (arith, c.in_default-left.len_below))) ∙ c.loop-left.invariant
