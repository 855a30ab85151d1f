-- A word is as long as its first space is far. Assumes nothing.
use Rattle.std.proofs.Common.{arith, ap, refl, ◌≡◌, ℕ, zero, suc, List, [], ◌∷◌, ◌<◌, true, false, get_or, length}
use Rattle.std.specs.Prelude.{eqb}
use Rattle.i2c_words.specs.Grammar.{char_space}
use Rattle.i2c_lists.specs.Reader.{word_length}

pub first_at : (xs : List ℕ) (i : ℕ) → i < length xs → eqb (get_or xs i 0) char_space ≡ true
    → ((j : ℕ) → j < i → eqb (get_or xs j 0) char_space ≡ false) → word_length xs ≡ i
first_at [] i h s n = absurd (omega arith)
first_at (x ∷ xs) zero h s n = rw s refl
first_at (x ∷ xs) (suc i) h s n = rw (n 0 (omega arith)) (ap suc (first_at xs i (omega arith) s (λ j l. n (suc j) (omega arith))))

pub nowhere : (xs : List ℕ) → ((j : ℕ) → j < length xs → eqb (get_or xs j 0) char_space ≡ false) → word_length xs ≡ length xs
nowhere [] n = refl
nowhere (x ∷ xs) n = rw (n 0 (omega arith)) (ap suc (nowhere xs (λ j l. n (suc j) (omega arith))))
