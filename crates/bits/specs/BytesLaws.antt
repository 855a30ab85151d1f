-- Laws of numbers written as bytes and read back, both ways. Assumes nothing.
use Rattle.std.specs.Prelude.{◌≡◌, refl, ℕ, suc, zero, ◌+◌, ◌*◌, ◌/◌, ◌%◌, ◌<◌, List, [], ◌∷◌, Bool, true, false, ◌&&◌, leb, eqb, length}
use Rattle.std.specs.Prelude.{get_or, take, drop}
use Rattle.std.proofs.Common.{ap, ap₂, arith, leb-true}
use Rattle.bits.specs.BoolLaws.{and_left, and_right}
use Rattle.bits.specs.Numbers.{le16, bit_of, words, within, bytes16, word_bytes}

-- ── written, then read ──
pub back16 : (x : ℕ) → x % 256 + 256 * (x / 256) ≡ x
back16 x = omega arith

pub back32 : (x : ℕ) → x % 65536 + 65536 * (x / 65536) ≡ x
back32 x = omega arith

pub words_length : (a : List ℕ) → length (word_bytes a) ≡ 2 * length a
words_length [] = refl
words_length (x ∷ a) =
    let h : length (word_bytes a) ≡ 2 * length a = words_length a in
    omega arith

pub words_count : (b : List ℕ) (n : ℕ) → length b ≡ 2 * n → length (words b) ≡ n
words_count [] n h = omega arith
words_count (x ∷ []) n h = absurd (omega arith)
words_count (x ∷ y ∷ b) zero h = absurd (omega arith)
words_count (x ∷ y ∷ b) (suc n) h = ap suc (words_count b n (omega arith))

pub words_back : (cs : List ℕ) → words (word_bytes cs) ≡ cs
words_back [] = refl
words_back (x ∷ cs) = ap₂ ◌∷◌ (back16 x) (words_back cs)

pub bit_same : (t : Bool) → eqb (bit_of t) 1 ≡ t
bit_same true = refl
bit_same false = refl

-- ── read, then written: the numbers of a list are bytes ──
abbrev pub Bytes : List ℕ → Type 0
Bytes b = within 255 b ≡ true

pub byte_first : (x : ℕ) (b : List ℕ) → Bytes (x ∷ b) → x < 256
byte_first x b h = omega (arith, leb-true x 255 (and_left (leb x 255) (within 255 b) h))

pub byte_rest : (x : ℕ) (b : List ℕ) → Bytes (x ∷ b) → Bytes b
byte_rest x b h = and_right (leb x 255) (within 255 b) h

pub bytes_drop : (n : ℕ) (b : List ℕ) → Bytes b → Bytes (drop n b)
bytes_drop zero b h = h
bytes_drop (suc n) [] h = refl
bytes_drop (suc n) (x ∷ b) h = bytes_drop n b (byte_rest x b h)

both : (s t : Bool) → s ≡ true → t ≡ true → s && t ≡ true
both true t g h = h
both false t g h = g

pub bytes_take : (n : ℕ) (b : List ℕ) → Bytes b → Bytes (take n b)
bytes_take zero b h = refl
bytes_take (suc n) [] h = refl
bytes_take (suc n) (x ∷ b) h =
    both (leb x 255) (within 255 (take n b)) (and_left (leb x 255) (within 255 b) h) (bytes_take n b (byte_rest x b h))

-- two bytes as a number, and the bytes of that
module _ (x y : ℕ) (hx : x < 256) where
  pub low_forth : (x + 256 * y) % 256 ≡ x
  low_forth = omega arith

  pub high_forth : (x + 256 * y) / 256 ≡ y
  high_forth = omega arith

pub words_forth : (b : List ℕ) (n : ℕ) → length b ≡ 2 * n → Bytes b → word_bytes (words b) ≡ b
words_forth [] n l h = refl
words_forth (x ∷ []) n l h = absurd (omega arith)
words_forth (x ∷ y ∷ b) zero l h = absurd (omega arith)
words_forth (x ∷ y ∷ b) (suc n) l h =
    let hx : x < 256 = byte_first x (y ∷ b) h in
    ap₂ ◌∷◌ (low_forth x y hx) (ap₂ ◌∷◌ (high_forth x y hx) (words_forth b n (omega arith) (byte_rest y b (byte_rest x (y ∷ b) h))))

pub none_forth : (b : List ℕ) → length b ≡ 0 → [] ≡ b
none_forth [] l = refl
none_forth (x ∷ b) l = absurd (omega arith)

pub one_forth : (b : List ℕ) → length b ≡ 1 → get_or b 0 0 ∷ [] ≡ b
one_forth [] l = absurd (omega arith)
one_forth (x ∷ []) l = refl
one_forth (x ∷ y ∷ b) l = absurd (omega arith)

pub two_forth : (b : List ℕ) → length b ≡ 2 → Bytes b → bytes16 (le16 b 0) ≡ b
two_forth [] l h = absurd (omega arith)
two_forth (x ∷ []) l h = absurd (omega arith)
two_forth (x ∷ y ∷ []) l h = words_forth (x ∷ y ∷ []) 1 l h
two_forth (x ∷ y ∷ z ∷ b) l h = absurd (omega arith)
