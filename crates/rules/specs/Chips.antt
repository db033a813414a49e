-- The two chips (01, "The two chips and what is modelled"): what differs between them is written out, "on the F25L008A, on the F25L05PA".
use Rattle.std.specs.Prelude.{cond, ℕ, eqb}

-- a value by the chip's number: on the F25L008A, on the F25L05PA
abbrev pub by_chip : {A : Type 0} → ℕ → A → A → A
by_chip number on_008a on_05pa = cond (eqb number 8) on_008a on_05pa

-- "bytes: 1,048,576, 65,536"
abbrev pub bytes_of : ℕ → ℕ
bytes_of number = by_chip number 1048576 65536
