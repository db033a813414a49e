-- A page program as 01 says it, byte after byte (the code finds each byte by a formula; `page_laid` says that it is the same).
use Rattle.std.specs.Prelude.{cond, List, [], ◌∷◌, ℕ, ◌+◌, ◌%◌, eqb}

-- a page's buffer, by offset, with byte d laid at one
abbrev pub laid : (ℕ → ℕ) → ℕ → ℕ → ℕ → ℕ
laid buffer offset d q = cond (eqb q offset) d (buffer q)

-- "data byte j goes to offset (address + j) modulo 256 of the page; a later byte for the same offset replaces the earlier"
abbrev pub lay_down : (ℕ → ℕ) → ℕ → List ℕ → ℕ → ℕ
lay_down buffer a [] = buffer
lay_down buffer a (d ∷ ds) = lay_down (laid buffer (a % 256) d) (a + 1) ds

-- what stands in the buffer where no data goes: FF, which programs nothing
abbrev pub blank : ℕ → ℕ
blank q = 255
