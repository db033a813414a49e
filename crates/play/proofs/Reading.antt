-- One read after another.
use Rattle.std.proofs.Common.{◌≡◌, ℕ, ◌+◌, ◌≤◌, List, ◌++◌, None, Some, sym, ap, ◌∙◌, append_assoc, length, take, drop_at, length-take-le}
use lib.Seq.{take_at, take-add, take-append-le}
use Rattle.std.specs.declared.option.Option.{Option}
use Rattle.std.specs.Io.KnownBytes.{Consumes}

consumes_both : (a b c : Option (List ℕ)) (xs ys : List ℕ) → Consumes a b xs → Consumes b c ys → Consumes a c (xs ++ ys)
consumes_both None b c xs ys p q = tt
consumes_both (Some all) None c xs ys p q = absurd p
consumes_both (Some all) (Some left) None xs ys p q = absurd q
consumes_both (Some all) (Some left) (Some rest) xs ys p q = p ∙ ap (λ l. xs ++ l) q ∙ sym (append_assoc xs ys rest)

-- what the next read gave stands behind what the room held
pub consumes_behind : (a b c : Option (List ℕ)) (room part rest : List ℕ) (done n : ℕ) → done ≤ length room → n ≤ length part
    → Consumes a b (take done room) → Consumes b c (take n part) → Consumes a c (take (done + n) (take done room ++ (part ++ rest)))
consumes_behind a b c room part rest done n within fits before read =
    let long : length (take done room) ≡ done = length-take-le done room within in
    rw (take-add done n (take done room ++ (part ++ rest)), take_at (take done room) (part ++ rest) done long, drop_at (take done room) (part ++ rest) done long, take-append-le n part rest fits)
    (consumes_both a b c (take done room) (take n part) before read)
