-- What the code reads in a line, word by word; that this is the grammar's is shown in Exact. Assumes nothing.
use Rattle.std.specs.Prelude.{ℕ, zero, suc, List, [], ◌∷◌, map, Bool, true, false, cond, leb, eqb, length, drop}
use Rattle.i2c_words.specs.Grammar.{char_space}
use Rattle.i2c_words.specs.Reader.{word_of}
use Rattle.i2c_words.specs.declared.Word.{Word}
use Rattle.i2c_words.specs.declared.Word.TheVariants.{Write, Read, Byte, Unknown}
use Rattle.i2c_lists.specs.Grammar.{Message, sends, takes}

-- ── the words of a line: cut at each space ──
abbrev pub before : ℕ → List (List ℕ) → List (List ℕ)
before c [] = (c ∷ []) ∷ []
before c (w ∷ ws) = (c ∷ w) ∷ ws

abbrev pub cut : List ℕ → List (List ℕ)
cut [] = [] ∷ []
cut (c ∷ l) = cond (eqb c char_space) ([] ∷ cut l) (before c (cut l))

abbrev pub words_in : List ℕ → List Word
words_in l = map word_of (cut l)

-- how many characters stand before the next space, or the end
abbrev pub word_length : List ℕ → ℕ
word_length [] = 0
word_length (c ∷ l) = cond (eqb c char_space) 0 (suc (word_length l))

-- the words from a place on; after the last word's place there is none
unfoldable pub words_at : List ℕ → ℕ → List Word
words_at l at = cond (leb at (length l)) (words_in (drop at l)) []

-- ── a list, with so many bytes still owed to the message that was begun ──
abbrev pub whole : ℕ → List Word → Bool
whole zero [] = true
whole zero (Write n a ∷ xs) = whole n xs
whole zero (Read n a ∷ xs) = whole zero xs
whole zero (Byte b ∷ xs) = false
whole zero (Unknown ∷ xs) = false
whole (suc n) [] = false
whole (suc n) (Write k a ∷ xs) = false
whole (suc n) (Read k a ∷ xs) = false
whole (suc n) (Byte b ∷ xs) = whole n xs
whole (suc n) (Unknown ∷ xs) = false

-- the bytes that words begin with, and the messages after them
pub record Heard : Type 0 where
  pub bytes : List ℕ
  pub messages : List Message

abbrev pub heard : List Word → Heard
heard [] = record { bytes = []; messages = [] }
heard (Write n a ∷ xs) = record { bytes = []; messages = sends a (heard xs).bytes ∷ (heard xs).messages }
heard (Read n a ∷ xs) = record { bytes = []; messages = takes a n ∷ (heard xs).messages }
heard (Byte b ∷ xs) = record { bytes = b ∷ (heard xs).bytes; messages = (heard xs).messages }
heard (Unknown ∷ xs) = record { bytes = []; messages = [] }

-- ── the list that a line says, or none ──
pub data Listing : Type 0 where
  lists : List Message → Listing
  none : Listing

abbrev pub listed : List Word → Listing
listed xs = cond (whole 0 xs) (lists (heard xs).messages) none

unfoldable pub list_in : List ℕ → Listing
list_in l = listed (words_in l)
