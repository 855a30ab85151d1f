-- Bytes of a text put into a lent buffer. Assumes nothing.
use Rattle.std.specs.Prelude.{◌≡◌, ℕ, ◌+◌, ◌≤◌, List, [], ◌∷◌, ◌++◌, cond, length, drop, leb, ℤ, pos}
use Rattle.std.proofs.lemmas.List.Edits.{sets}
use Rattle.constants.specs.Number.{NO_ROOM}
use Rattle.constants.specs.Answer.{minus}

-- `too long` and the line's end
abbrev pub too_long : List ℕ
too_long = 116 ∷ 111 ∷ 111 ∷ 32 ∷ 108 ∷ 111 ∷ 110 ∷ 103 ∷ 10 ∷ []

-- bytes of a text, of at most `most`, put into a buffer from a place on, as far as it reaches, with the place after them
pub record Puts (most : ℕ) (text : List ℕ) (at : ℕ) (old : List ℕ) (r : ℕ) (new : List ℕ) : Type 0 where
  pub next : r ≡ at + length text
  pub few : r ≤ at + most
  pub wrote : new ≡ sets old at text

-- a text and a lent buffer: it stands at the start, every later byte is kept, and how many bytes it has is answered; or −5 where the
-- buffer is too short for all of it, which then keeps every byte
pub record Written (text old : List ℕ) (r : ℤ) (new : List ℕ) : Type 0 where
  pub answer : r ≡ cond (leb (length text) (length old)) (pos (length text)) (minus NO_ROOM)
  pub contents : new ≡ cond (leb (length text) (length old)) (text ++ drop (length text) old) old
