-- CHIP R1: every number has its low byte first. Assumes nothing.
use Rattle.std.specs.Prelude.{ℕ, ◌+◌, ◌-◌, ◌*◌, ◌/◌, ◌%◌, List, [], ◌∷◌, Bool, cond, length, get_or, ltb, leb, ℤ, pos, negsuc}
use Rattle.std.specs.List.{list_all}

-- numbers of 2 and 4 bytes, the lowest first
abbrev pub le16 : List ℕ → ℕ → ℕ
le16 b at = get_or b at 0 + 256 * get_or b (at + 1) 0

abbrev pub le32 : List ℕ → ℕ → ℕ
le32 b at = le16 b at + 65536 * le16 b (at + 2)

-- a number of 32 bits with its sign
abbrev pub signed32 : ℕ → ℤ
signed32 u = cond (ltb u 2147483648) (pos u) (negsuc (4294967295 - u))

-- a switch, 0 or 1
abbrev pub bit_of : Bool → ℕ
bit_of t = cond t 1 0

-- the numbers of 2 bytes that bytes hold
abbrev pub words : List ℕ → List ℕ
words (x ∷ y ∷ b) = (x + 256 * y) ∷ words b
words (x ∷ []) = []
words [] = []

-- the i-th number of 2 bytes, or 0 past the end
unfoldable pub word_or : List ℕ → ℕ → ℕ
word_or b i = cond (leb (2 * i + 2) (length b)) (le16 b (2 * i)) 0

-- ── their bytes ──
abbrev pub bytes16 : ℕ → List ℕ
bytes16 n = n % 256 ∷ n / 256 ∷ []

abbrev pub bytes32 : ℕ → List ℕ
bytes32 u = u % 65536 % 256 ∷ u % 65536 / 256 ∷ u / 65536 % 256 ∷ u / 65536 / 256 ∷ []

-- the 32 bits of a number with its sign
unfoldable pub bits32 : ℤ → ℕ
bits32 (pos n) = n
bits32 (negsuc n) = 4294967295 - n

abbrev pub word_bytes : List ℕ → List ℕ
word_bytes [] = []
word_bytes (x ∷ xs) = x % 256 ∷ x / 256 ∷ word_bytes xs

-- ── each number of a list at most so much ──
abbrev pub within : ℕ → List ℕ → Bool
within most xs = list_all (λ x. leb x most) xs
