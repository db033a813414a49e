-- `book::telling::zeros_in` meets its contract: a sum of the bytes' zeros.
use mathlib.Core.Path.{◌≡◌, ◌∙◌}
use Rattle.std.proofs.Common.{rules, w8, sum_by}
use Rattle.std.specs.Int.{count_zeros}
use Rattle.book.proofs.Laws.Read.{zeros_counted_lem}
use Rattle.book.proofs.telling.zeros_in.Goals as goal

pub returns : goal.returns
returns c = let told : c.sum.result ≡ sum_by (count_zeros w8) c.args.bytes.now = search rules in told ∙ zeros_counted_lem _ (λ k. (c.type_inv.bytes k).fits)
