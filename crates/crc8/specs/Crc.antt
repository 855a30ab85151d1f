-- CHIP B11, the CRC.
-- A polynomial over GF(2) is a number whose bit k is the coefficient of x^k, so that 263 is x^8 + x^2 + x + 1.
-- Assumes nothing: these are definitions.
use Rattle.std.specs.Prelude.{ℕ, ◌+◌, ◌*◌, ◌/◌, ◌%◌, List, [], ◌∷◌, ◌++◌, cond, ltb, replicate}
use Rattle.std.specs.Int.Bits.{bit_xor}
use Rattle.std.specs.List.{fold}

-- the divisor, x^8 + x^2 + x + 1
abbrev pub divisor : ℕ
divisor = 263

-- a polynomial of degree 8 at most, with the divisor taken away once if it has x^8
abbrev pub reduced : ℕ → ℕ
reduced n = cond (ltb n 256) n (bit_xor n divisor)

-- long division: the remainder of the coefficients (highest first) that follow a remainder r
abbrev pub remainder : ℕ → List ℕ → ℕ
remainder r [] = r
remainder r (b ∷ bs) = remainder (reduced (2 * r + b)) bs

-- the bits of bytes, high bit first
abbrev pub bits : List ℕ → List ℕ
bits [] = []
bits (x ∷ xs) = x / 128 % 2 ∷ x / 64 % 2 ∷ x / 32 % 2 ∷ x / 16 % 2 ∷ x / 8 % 2 ∷ x / 4 % 2 ∷ x / 2 % 2 ∷ x % 2 ∷ bits xs

-- THE CRC: the remainder of the message times x^8
unfoldable pub crc : List ℕ → ℕ
crc s = remainder 0 (bits s ++ replicate 8 0)

-- ── the same by bytes, which the code follows; `crc_is` of Division joins the two over any length ──
-- a remainder times x
abbrev pub turn : ℕ → ℕ
turn r = reduced (2 * r)

-- and times x^8
abbrev pub turns : ℕ → ℕ
turns r = turn (turn (turn (turn (turn (turn (turn (turn r)))))))

-- what the code multiplies by instead, x^2 + x + 1
abbrev pub by_seven : ℕ → ℕ
by_seven x = bit_xor (bit_xor x (x * 2)) (x * 4)

-- one byte more, on the CRC of the bytes before it
unfoldable pub byte_on : ℕ → ℕ → ℕ
byte_on c b = turns (bit_xor c b)

-- bytes more, on the CRC of the bytes before them
abbrev pub crc_on : ℕ → List ℕ → ℕ
crc_on c s = fold byte_on c s
