-- CHIP P13: the line that `play` prints for a record. Assumes nothing.
use Rattle.std.specs.Prelude.{ℕ, ◌+◌, ◌/◌, ◌%◌, List, [], ◌∷◌, ◌++◌, cond, length, get_or, eqb, ltb}
use Rattle.turn.specs.declared.Entry.{Entry}

-- the characters: -, the space, the line's end, and the digits from 0 on
abbrev pub dash : ℕ
dash = 45

abbrev pub space : ℕ
space = 32

abbrev pub line_end : ℕ
line_end = 10

abbrev pub digit : ℕ → ℕ
digit d = 48 + d

-- ── decimal: a digit for each power of ten that the number reaches, and the last one always ──
abbrev pub leading : ℕ → ℕ → List ℕ
leading n power = cond (ltb n power) [] (digit (n / power % 10) ∷ [])

unfoldable pub decimal : ℕ → List ℕ
decimal n = leading n 10000 ++ leading n 1000 ++ leading n 100 ++ leading n 10 ++ (digit (n % 10) ∷ [])

-- ── capital hex ──
abbrev pub hex_glyph : ℕ → ℕ
hex_glyph d = cond (ltb d 10) (digit d) (55 + d)

abbrev pub hex_byte : ℕ → List ℕ
hex_byte b = hex_glyph (b / 16) ∷ hex_glyph (b % 16) ∷ []

-- the kind in a record's header, high byte first; a cut header prints kind `----`
unfoldable pub kind_text : List ℕ → List ℕ
kind_text rest = cond (ltb (length rest) 4) (dash ∷ dash ∷ dash ∷ dash ∷ []) (hex_byte (get_or rest 3 0) ++ hex_byte (get_or rest 2 0))

-- the bus answer
unfoldable pub bus_text : ℕ → ℕ → List ℕ
bus_text flag byte = cond (eqb flag 1) (hex_byte byte) (dash ∷ dash ∷ [])

-- ALERT, CHG, DSG
abbrev pub pins_text : ℕ → List ℕ
pins_text pins = digit (pins / 4 % 2) ∷ digit (pins / 2 % 2) ∷ digit (pins % 2) ∷ []

-- record number, kind, number, bus answer, SYS_STAT, then ALERT, CHG, DSG
unfoldable pub record_text : ℕ → List ℕ → List ℕ
record_text n rest = decimal n ++ (space ∷ []) ++ kind_text rest ++ (space ∷ [])

unfoldable pub answer_text : Entry → List ℕ
answer_text e = decimal e.number ++ (space ∷ []) ++ bus_text e.flag e.byte ++ (space ∷ [])

unfoldable pub state_text : Entry → List ℕ
state_text e = hex_byte e.stat ++ (space ∷ []) ++ pins_text e.pins ++ (line_end ∷ [])

unfoldable pub line_of : ℕ → List ℕ → Entry → List ℕ
line_of n rest e = record_text n rest ++ answer_text e ++ state_text e
