-- CHIP I1 to I3, the words of a list: the grammar, apart from the reader. A word is its characters. Assumes nothing.
use Rattle.std.specs.Prelude.{ℕ, ◌+◌, ◌*◌, ◌<◌, ◌≤◌, List, [], ◌∷◌, ◌++◌}
use Rattle.i2c_words.specs.declared.Word.{Word}
use Rattle.i2c_words.specs.declared.Word.TheVariants.{Write, Read, Byte}

-- a space
abbrev pub char_space : ℕ
char_space = 32

-- `w`
abbrev pub char_w : ℕ
char_w = 119

-- `r`
abbrev pub char_r : ℕ
char_r = 114

-- `@`
abbrev pub char_at : ℕ
char_at = 64

-- `x`
abbrev pub char_x : ℕ
char_x = 120

-- `0`, `A`, `a`: the digits follow each in order
abbrev pub char0 : ℕ
char0 = 48

abbrev pub char_a : ℕ
char_a = 65

abbrev pub chara : ℕ
chara = 97

-- ── digits, with their values ──
pub data Digit : ℕ → ℕ → Type 0 where
  digit : (v : ℕ) → v < 10 → Digit (char0 + v) v

-- hex digits of either case
pub data HexDigit : ℕ → ℕ → Type 0 where
  figure : (v : ℕ) → v < 10 → HexDigit (char0 + v) v
  capital : (v : ℕ) → v < 6 → HexDigit (char_a + v) (10 + v)
  small : (v : ℕ) → v < 6 → HexDigit (chara + v) (10 + v)

-- ── numbers ──
-- addresses and bytes (CHIP I2)
pub data Hex : List ℕ → ℕ → Type 0 where
  short : (c v : ℕ) → HexDigit c v → Hex (char0 ∷ char_x ∷ c ∷ []) v
  long : (c v d w : ℕ) → HexDigit c v → HexDigit d w → Hex (char0 ∷ char_x ∷ c ∷ d ∷ []) (16 * v + w)

-- N (CHIP I2)
pub data Count : List ℕ → ℕ → Type 0 where
  ones : (c v : ℕ) → Digit c v → 1 ≤ v → Count (c ∷ []) v
  tens : (c v d w : ℕ) → Digit c v → Digit d w → 1 ≤ v → 10 * v + w ≤ 64 → Count (c ∷ d ∷ []) (10 * v + w)

-- ── words: `wN@ADDR`, `rN@ADDR`, and a byte ──
pub data Spells : List ℕ → Word → Type 0 where
  writes : (n a : List ℕ) (k v : ℕ) → Count n k → Hex a v → Spells (char_w ∷ (n ++ (char_at ∷ a))) (Write k v)
  reads : (n a : List ℕ) (k v : ℕ) → Count n k → Hex a v → Spells (char_r ∷ (n ++ (char_at ∷ a))) (Read k v)
  byte : (a : List ℕ) (v : ℕ) → Hex a v → Spells a (Byte v)
