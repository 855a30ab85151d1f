-- CHIP I1 to I4: the accepted lines, by a grammar apart from the reader. Assumes nothing.
use Rattle.std.specs.Prelude.{ℕ, List, [], ◌∷◌, ◌++◌, map, length}
use Rattle.i2c_words.specs.Grammar.{char_space, Spells}
use Rattle.i2c_words.specs.declared.Word.{Word}
use Rattle.i2c_words.specs.declared.Word.TheVariants.{Write, Read, Byte}

-- a message with its address: bytes that are sent, or how many are taken
pub data Message : Type 0 where
  sends : ℕ → List ℕ → Message
  takes : ℕ → ℕ → Message

abbrev pub byte_word : ℕ → Word
byte_word b = Byte b

-- the words of messages (CHIP I1)
abbrev pub words_of : List Message → List Word
words_of [] = []
words_of (sends a bs ∷ ms) = Write (length bs) a ∷ (map byte_word bs ++ words_of ms)
words_of (takes a n ∷ ms) = Read n a ∷ words_of ms

-- one word or more, a space between two (CHIP I3)
pub data Line : List ℕ → List Word → Type 0 where
  last : (w : List ℕ) (x : Word) → Spells w x → Line w (x ∷ [])
  more : (w l : List ℕ) (x : Word) (xs : List Word) → Spells w x → Line l xs → Line (w ++ (char_space ∷ l)) (x ∷ xs)

-- what a line says
abbrev pub Says : List ℕ → List Message → Type 0
Says line ms = Line line (words_of ms)
