-- A value as a natural number, and what a byte, or two, hold of it. Assumes nothing.
use Rattle.std.specs.Prelude.{cond, List, ℕ, ◌^◌, leb, ℤ, pos, negsuc, get_or}

-- a value as a natural number; one below 0 is beyond every range
abbrev pub nat_of : ℤ → ℕ
nat_of (pos n) = n
nat_of (negsuc n) = 2 ^ 63

-- the value at a place
abbrev pub value_at : List ℤ → ℕ → ℤ
value_at vs i = get_or vs i (pos 0)

abbrev pub nat_at : List ℤ → ℕ → ℕ
nat_at vs i = nat_of (value_at vs i)

-- what a byte, or two, do not hold is the most that they do: no range of SETUP but the offset's has it
unfoldable pub byte_of : ℕ → ℕ
byte_of n = cond (leb n 255) n 255

unfoldable pub word_of : ℕ → ℕ
word_of n = cond (leb n 65535) n 65535
