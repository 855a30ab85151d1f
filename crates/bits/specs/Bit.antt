-- A bit of a byte, and the byte that bits make. Assumes nothing.
use Rattle.std.specs.Prelude.{Bool, cond, ℕ, ◌/◌, ◌%◌, eqb}

-- the bit of weight w, a power of two
abbrev pub bit : ℕ → ℕ → Bool
bit v w = eqb (v / w % 2) 1

-- what a bit of weight w adds to its byte
abbrev pub weighed : Bool → ℕ → ℕ
weighed b w = cond b w 0
