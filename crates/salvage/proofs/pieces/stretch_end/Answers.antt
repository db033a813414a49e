-- `salvage::pieces::stretch_end` meets its contract: from the start up to the place found no record begins.
use mathlib.Core.Path.{◌≡◌}
use mathlib.Core.Bool.{true, false}
use Prim.Native.Nat.{ℕ}
use lib.ListN.{drop}
use Rattle.std.proofs.Common.{rules}
use Rattle.std.proofs.lemmas.Iterator.{first_from_Range}
use Rattle.std.specs.Option.{is_some}
use Rattle.names.specs.Records.{front, front_length}
use Rattle.salvage.proofs.Laws.Walk.{stretch_found}
use Rattle.salvage.proofs.pieces.stretch_end.Goals as goal

pub returns : goal.returns
returns c =
    let is_found = λ (k : ℕ). is_some (front_length (front (drop k c.args.bytes.now))) in
    stretch_found _ _ c.requires.0 c.requires.1 c.find.result _ c.unwrap_or.ensures
    (first_from_Range _ c.find.new.self _ c.find.result (λ k. true ≡ is_found k) (λ k. false ≡ is_found k) c.find.ensures.ran (λ x q k. search rules) (λ x q k. search rules))
