-- No word has a space in it. Assumes nothing.
use Rattle.std.specs.Prelude.{◌≡◌, ℕ, ◌+◌, List, [], ◌∷◌, ◌++◌, Bool, true, false, not, ◌&&◌, eqb}
use Rattle.std.proofs.Common.{arith, ne_eqb}
use Rattle.i2c_words.specs.Grammar.{char_space, char_at, char0, char_a, chara, Digit, digit, HexDigit, figure, capital, small, Hex}
use Rattle.i2c_words.specs.Grammar.{short, long, Count, ones, tens, Spells, writes, reads, byte}
use Rattle.i2c_words.specs.declared.Word.{Word}

abbrev pub spaceless : List ℕ → Bool
spaceless [] = true
spaceless (c ∷ w) = not (eqb c char_space) && spaceless w

digit_clear : {c v : ℕ} → Digit c v → eqb c char_space ≡ false
digit_clear (digit v h) = ne_eqb (char0 + v) char_space (λ e. omega (arith, e))

hex_clear : {c v : ℕ} → HexDigit c v → eqb c char_space ≡ false
hex_clear (figure v h) = ne_eqb (char0 + v) char_space (λ e. omega (arith, e))
hex_clear (capital v h) = ne_eqb (char_a + v) char_space (λ e. omega (arith, e))
hex_clear (small v h) = ne_eqb (chara + v) char_space (λ e. omega (arith, e))

value_clear : {a : List ℕ} {v : ℕ} → Hex a v → spaceless a ≡ true
value_clear (short c v h) = simp (hex_clear h)
value_clear (long c v d w h k) = simp (hex_clear h, hex_clear k)

count_clear : {n : List ℕ} {k : ℕ} (l : List ℕ) → Count n k → spaceless l ≡ true → spaceless (n ++ l) ≡ true
count_clear l (ones c v p h) e = simp (digit_clear p) e
count_clear l (tens c v d w p q h m) e = simp (digit_clear p, digit_clear q) e

pub word_clear : {w : List ℕ} {x : Word} → Spells w x → spaceless w ≡ true
word_clear (writes n a k v c h) = count_clear (char_at ∷ a) c (value_clear h)
word_clear (reads n a k v c h) = count_clear (char_at ∷ a) c (value_clear h)
word_clear (byte a v h) = value_clear h
