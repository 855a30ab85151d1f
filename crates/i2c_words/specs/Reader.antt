-- What the code reads in a word, test by test; that this is the grammar's is shown in Exact. Assumes nothing.
use Rattle.std.specs.Prelude.{ℕ, ◌+◌, ◌-◌, ◌*◌, List, cond, leb, ltb, eqb, length, get_or, drop, Option, Some, None}
use Rattle.i2c_words.specs.Grammar.{char_w, char_r, char_at, char_x, char0}
use Rattle.i2c_words.specs.declared.Word.{Word}
use Rattle.i2c_words.specs.declared.Word.TheVariants.{Write, Read, Byte, Unknown}

-- a number that is below another, and one that is not 0
abbrev pub below : ℕ → ℕ → Option ℕ
below most n = cond (ltb n most) (Some n) None

abbrev pub counted : ℕ → Option ℕ
counted n = cond (eqb n 0) None (Some n)

-- 16 for what is no hex digit
unfoldable pub hex_of : ℕ → ℕ
hex_of c =
    cond (ltb c 48) 16
    (cond (leb c 57) (c - 48)
    (cond (ltb c 65) 16
    (cond (leb c 70) (c - 55)
    (cond (ltb c 97) 16
    (cond (leb c 102) (c - 87) 16)))))

-- 10 for what is no decimal digit
unfoldable pub digit_of : ℕ → ℕ
digit_of c = cond (ltb c 48) 10 (cond (leb c 57) (c - 48) 10)

-- ── the value of 0x and one or two hex digits; 256 for what is none ──
unfoldable pub pair_of : ℕ → ℕ → ℕ
pair_of high low = cond (leb 16 low) 256 (16 * high + low)

-- of a word whose first digit is known
unfoldable pub digits_of : ℕ → List ℕ → ℕ
digits_of high w =
    cond (leb 16 high) 256
    (cond (eqb (length w) 3) high
    (cond (eqb (length w) 4) (pair_of high (hex_of (get_or w 3 0))) 256))

unfoldable pub value_of : List ℕ → ℕ
value_of w =
    cond (ltb (length w) 3) 256
    (cond (eqb (get_or w 0 0) char0)
    (cond (eqb (get_or w 1 0) char_x) (digits_of (hex_of (get_or w 2 0)) w) 256)
    256)

-- ── a number from 1 on, of one or two digits; 0 for what is none ──
unfoldable pub one_of : ℕ → ℕ
one_of c = cond (ltb c 49) 0 (cond (leb c 57) (c - 48) 0)

unfoldable pub joined_of : ℕ → ℕ → ℕ
joined_of tens ones = cond (eqb tens 0) 0 (cond (leb 10 ones) 0 (10 * tens + ones))

abbrev pub two_of : ℕ → ℕ → ℕ
two_of c d = joined_of (one_of c) (digit_of d)

-- ── words ──
unfoldable pub message_for : ℕ → ℕ → ℕ → Word
message_for letter count address =
    cond (eqb count 0) Unknown
    (cond (ltb 64 count) Unknown
    (cond (leb 256 address) Unknown
    (cond (eqb letter char_w) (Write count address)
    (cond (eqb letter char_r) (Read count address) Unknown))))

-- the @ stands after one digit, or after two
unfoldable pub message_of : List ℕ → Word
message_of w =
    cond (ltb (length w) 4) Unknown
    (cond (eqb (get_or w 2 0) char_at) (message_for (get_or w 0 0) (one_of (get_or w 1 0)) (value_of (drop 3 w)))
    (cond (eqb (get_or w 3 0) char_at) (message_for (get_or w 0 0) (two_of (get_or w 1 0) (get_or w 2 0)) (value_of (drop 4 w))) Unknown))

-- a byte, or else a message
unfoldable pub word_by : ℕ → List ℕ → Word
word_by byte w = cond (ltb byte 256) (Byte byte) (message_of w)

abbrev pub word_of : List ℕ → Word
word_of w = word_by (value_of w) w

-- the number of each answer (CHIP O4): a word that is none makes its line no list (CHIP N20)
abbrev pub word_number : Word → ℕ
word_number (Write count address) = 0
word_number (Read count address) = 0
word_number (Byte v) = 0
word_number Unknown = 20
