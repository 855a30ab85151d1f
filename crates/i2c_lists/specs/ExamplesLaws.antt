-- Worked lists (CHIP I1 to I7), computed: what a line says, its records' bytes, and lines that are refused. Assumes nothing.
use Rattle.std.specs.Prelude.{◌≡◌, refl, ℕ, List, [], ◌∷◌, map, replicate}
use Rattle.i2c_words.specs.Reader.{hex_of, digit_of, pair_of, digits_of, value_of, one_of, joined_of, message_for, message_of, word_by}
use Rattle.writer.specs.Write.{record_for}
use Rattle.i2c_lists.specs.Grammar.{sends, takes}
use Rattle.i2c_lists.specs.Reader.{lists, none, list_in}
use Rattle.i2c_lists.specs.Records.{bytes_of, number_for}

-- `w2@0x08 0x04 0x19`
abbrev writing : List ℕ
writing = 119 ∷ 50 ∷ 64 ∷ 48 ∷ 120 ∷ 48 ∷ 56 ∷ 32 ∷ 48 ∷ 120 ∷ 48 ∷ 52 ∷ 32 ∷ 48 ∷ 120 ∷ 49 ∷ 57 ∷ []

-- `w1@0x8 0x00 r2@0x08`
abbrev reading : List ℕ
reading = 119 ∷ 49 ∷ 64 ∷ 48 ∷ 120 ∷ 56 ∷ 32 ∷ 48 ∷ 120 ∷ 48 ∷ 48 ∷ 32 ∷ 114 ∷ 50 ∷ 64 ∷ 48 ∷ 120 ∷ 48 ∷ 56 ∷ []

-- `w1@0x5a 0xeA r10@0x5A`
abbrev letters : List ℕ
letters = 119 ∷ 49 ∷ 64 ∷ 48 ∷ 120 ∷ 53 ∷ 97 ∷ 32 ∷ 48 ∷ 120 ∷ 101 ∷ 65 ∷ 32 ∷ 114 ∷ 49 ∷ 48 ∷ 64 ∷ 48 ∷ 120 ∷ 53 ∷ 65 ∷ []

-- START, 10, 04, 19, STOP
abbrev writing_bytes : List ℕ
writing_bytes =
    0x00 ∷ 0x00 ∷ 0x10 ∷ 0x00
    ∷ 0x01 ∷ 0x00 ∷ 0x11 ∷ 0x00 ∷ 0x10
    ∷ 0x01 ∷ 0x00 ∷ 0x11 ∷ 0x00 ∷ 0x04
    ∷ 0x01 ∷ 0x00 ∷ 0x11 ∷ 0x00 ∷ 0x19
    ∷ 0x00 ∷ 0x00 ∷ 0x13 ∷ 0x00
    ∷ []

-- START, 10, 00, START, 11, a byte acknowledged and one that is not, STOP
abbrev reading_bytes : List ℕ
reading_bytes =
    0x00 ∷ 0x00 ∷ 0x10 ∷ 0x00
    ∷ 0x01 ∷ 0x00 ∷ 0x11 ∷ 0x00 ∷ 0x10
    ∷ 0x01 ∷ 0x00 ∷ 0x11 ∷ 0x00 ∷ 0x00
    ∷ 0x00 ∷ 0x00 ∷ 0x10 ∷ 0x00
    ∷ 0x01 ∷ 0x00 ∷ 0x11 ∷ 0x00 ∷ 0x11
    ∷ 0x01 ∷ 0x00 ∷ 0x12 ∷ 0x00 ∷ 0x00
    ∷ 0x01 ∷ 0x00 ∷ 0x12 ∷ 0x00 ∷ 0x01
    ∷ 0x00 ∷ 0x00 ∷ 0x13 ∷ 0x00
    ∷ []

pub lists_said :
    (list_in writing ≡ lists (sends 0x08 (0x04 ∷ 0x19 ∷ []) ∷ []))
    × (list_in reading ≡ lists (sends 0x08 (0x00 ∷ []) ∷ takes 0x08 2 ∷ []))
    × (list_in letters ≡ lists (sends 0x5A (0xEA ∷ []) ∷ takes 0x5A 10 ∷ []))
unfolding list_in word_by value_of digits_of pair_of hex_of digit_of one_of joined_of message_for message_of
lists_said = (refl, refl, refl)

pub lists_bytes : (bytes_of (list_in writing) ≡ writing_bytes) × (bytes_of (list_in reading) ≡ reading_bytes)
unfolding list_in word_by value_of digits_of pair_of hex_of digit_of one_of joined_of message_for message_of record_for
lists_bytes = (refl, refl)

-- lines that are no lists of this grammar
abbrev refused : List (List ℕ)
refused =
    ([])  -- nothing
    ∷ (119 ∷ 48 ∷ 64 ∷ 48 ∷ 120 ∷ 48 ∷ 56 ∷ [])  -- no byte
    ∷ (114 ∷ 54 ∷ 53 ∷ 64 ∷ 48 ∷ 120 ∷ 48 ∷ 56 ∷ [])  -- 65 bytes
    ∷ (114 ∷ 48 ∷ 54 ∷ 52 ∷ 64 ∷ 48 ∷ 120 ∷ 48 ∷ 56 ∷ [])  -- a leading zero
    ∷ (119 ∷ 49 ∷ 64 ∷ 48 ∷ 120 ∷ 48 ∷ 56 ∷ [])  -- a byte too few
    ∷ (119 ∷ 49 ∷ 64 ∷ 48 ∷ 120 ∷ 48 ∷ 56 ∷ 32 ∷ 48 ∷ 120 ∷ 48 ∷ 48 ∷ 32 ∷ 48 ∷ 120 ∷ 48 ∷ 49 ∷ [])  -- a byte too many
    ∷ (48 ∷ 120 ∷ 48 ∷ 48 ∷ [])  -- no message
    ∷ (119 ∷ 49 ∷ 64 ∷ 48 ∷ 120 ∷ 48 ∷ 56 ∷ 32 ∷ 32 ∷ 48 ∷ 120 ∷ 48 ∷ 48 ∷ [])  -- two spaces
    ∷ (114 ∷ 49 ∷ 64 ∷ 48 ∷ 120 ∷ 48 ∷ 56 ∷ 32 ∷ [])  -- a space after
    ∷ (32 ∷ 114 ∷ 49 ∷ 64 ∷ 48 ∷ 120 ∷ 48 ∷ 56 ∷ [])  -- a space before
    ∷ (114 ∷ 49 ∷ 64 ∷ 56 ∷ [])  -- no 0x
    ∷ (114 ∷ 49 ∷ [])  -- the address left out
    ∷ (87 ∷ 49 ∷ 64 ∷ 48 ∷ 120 ∷ 48 ∷ 56 ∷ 32 ∷ 48 ∷ 120 ∷ 48 ∷ 48 ∷ [])  -- a capital W
    ∷ (119 ∷ 49 ∷ 64 ∷ 48 ∷ 120 ∷ 48 ∷ 56 ∷ 32 ∷ 48 ∷ 88 ∷ 48 ∷ 48 ∷ [])  -- a capital X
    ∷ (119 ∷ 49 ∷ 64 ∷ 48 ∷ 120 ∷ 48 ∷ 56 ∷ 32 ∷ 48 ∷ 120 ∷ 49 ∷ 48 ∷ 48 ∷ [])  -- three digits
    ∷ (119 ∷ 50 ∷ 64 ∷ 48 ∷ 120 ∷ 48 ∷ 56 ∷ 32 ∷ 48 ∷ 120 ∷ 48 ∷ 48 ∷ 43 ∷ [])  -- a repeat suffix
    ∷ (114 ∷ 49 ∷ 64 ∷ 48 ∷ 120 ∷ 48 ∷ 56 ∷ 10 ∷ [])  -- the end of the line
    ∷ []

pub refused_all : map list_in refused ≡ replicate 17 none
unfolding list_in word_by value_of digits_of pair_of hex_of digit_of one_of joined_of message_for message_of
refused_all = refl

-- both sides of each address, and of the room: `w1@0x07 0x00` in 1000 bytes, `w1@0x08 0x00` in 1000 bytes, `r1@0x77` in 1000 bytes,
-- `r1@0x78` in 1000 bytes, `r1@0x08 r1@0xFF` in 0 bytes, `w1@0x08 0x00` in 18 bytes, `w1@0x08 0x00` in 17 bytes
pub numbers :
    (number_for (list_in (119 ∷ 49 ∷ 64 ∷ 48 ∷ 120 ∷ 48 ∷ 55 ∷ 32 ∷ 48 ∷ 120 ∷ 48 ∷ 48 ∷ [])) 1000 ≡ 21)
    × (number_for (list_in (119 ∷ 49 ∷ 64 ∷ 48 ∷ 120 ∷ 48 ∷ 56 ∷ 32 ∷ 48 ∷ 120 ∷ 48 ∷ 48 ∷ [])) 1000 ≡ 0)
    × (number_for (list_in (114 ∷ 49 ∷ 64 ∷ 48 ∷ 120 ∷ 55 ∷ 55 ∷ [])) 1000 ≡ 0)
    × (number_for (list_in (114 ∷ 49 ∷ 64 ∷ 48 ∷ 120 ∷ 55 ∷ 56 ∷ [])) 1000 ≡ 21)
    × (number_for (list_in (114 ∷ 49 ∷ 64 ∷ 48 ∷ 120 ∷ 48 ∷ 56 ∷ 32 ∷ 114 ∷ 49 ∷ 64 ∷ 48 ∷ 120 ∷ 70 ∷ 70 ∷ [])) 0 ≡ 21)
    × (number_for (list_in (119 ∷ 49 ∷ 64 ∷ 48 ∷ 120 ∷ 48 ∷ 56 ∷ 32 ∷ 48 ∷ 120 ∷ 48 ∷ 48 ∷ [])) 18 ≡ 0)
    × (number_for (list_in (119 ∷ 49 ∷ 64 ∷ 48 ∷ 120 ∷ 48 ∷ 56 ∷ 32 ∷ 48 ∷ 120 ∷ 48 ∷ 48 ∷ [])) 17 ≡ 5)
unfolding list_in word_by value_of digits_of pair_of hex_of digit_of one_of joined_of message_for message_of record_for
numbers = (refl, refl, refl, refl, refl, refl, refl)
