-- Laws of numbers listed one by one: a whole list, switches that are bytes, zeros, and numbers of two bytes. Assumes nothing.
use Rattle.std.specs.Prelude.{◌≡◌, refl, Bool, true, false, ◌&&◌, List, [], ◌∷◌, ℕ, zero, suc, ◌+◌, ◌-◌, ◌*◌, ◌<◌, ◌≤◌, eqb, leb, length}
use Rattle.std.specs.Prelude.{get_or, take, drop, replicate}
use Rattle.std.proofs.Common.{sym, ap, ap₂, ◌∙◌, arith, length-drop, drop-cons, take_all, get_or-drop, leb-true, eqb-true}
use Rattle.std.proofs.Math.Bool.{and-true, and_assoc}
use Rattle.std.proofs.lemmas.Bool.{eqb-false}
use Rattle.bits.specs.Numbers.{within, bit_of, le16, words}
use Rattle.bits.specs.BoolLaws.{and_left, and_right}
use Rattle.chip_bytes_layout.specs.Layout.{listed, word_in}

pub listed_is : (b : List ℕ) (i n : ℕ) → i + n ≤ length b → listed b i n ≡ take n (drop i b)
listed_is b i zero h = refl
listed_is b i (suc n) h = rw (drop-cons b i 0 (omega arith)) (ap (λ (l : List ℕ). get_or b i 0 ∷ l) (listed_is b (suc i) n (omega arith)))

pub listed_all : (b : List ℕ) (n : ℕ) → length b ≡ n → listed b 0 n ≡ b
listed_all b n h = listed_is b 0 n (omega arith) ∙ take_all n b (omega arith)

-- ── switches ──
pub bit_small : (t : Bool) → leb (bit_of t) 1 ≡ true
bit_small true = refl
bit_small false = refl

pub bit_forth : (x : ℕ) → x ≤ 1 → bit_of (eqb x 1) ≡ x
bit_forth x h = by (eqb x 1) refl
  where
    by : (t : Bool) → eqb x 1 ≡ t → bit_of t ≡ x
    by true e = sym (eqb-true x 1 e)
    by false e = omega (arith, eqb-false x 1 e)

abbrev pub bits_of : List ℕ → List ℕ
bits_of [] = []
bits_of (x ∷ xs) = bit_of (eqb x 1) ∷ bits_of xs

pub bits_forth : (xs : List ℕ) → within 1 xs ≡ true → bits_of xs ≡ xs
bits_forth [] h = refl
bits_forth (x ∷ xs) h =
    ap₂ ◌∷◌ (bit_forth x (leb-true x 1 (and_left (leb x 1) (within 1 xs) h))) (bits_forth xs (and_right (leb x 1) (within 1 xs) h))

-- tests joined from the left, as code has them
abbrev pub joined : ℕ → Bool → List ℕ → Bool
joined most t [] = t
joined most t (x ∷ xs) = joined most (t && leb x most) xs

pub joins : (most : ℕ) (t : Bool) (xs : List ℕ) → joined most t xs ≡ t && within most xs
joins most t [] = sym (and-true t)
joins most t (x ∷ xs) = joins most (t && leb x most) xs ∙ and_assoc t (leb x most) (within most xs)

-- ── zeros ──
pub zeros_forth : (xs : List ℕ) → within 0 xs ≡ true → replicate (length xs) 0 ≡ xs
zeros_forth [] h = refl
zeros_forth (x ∷ xs) h =
    let z : x ≤ 0 = leb-true x 0 (and_left (leb x 0) (within 0 xs) h) in
    ap₂ ◌∷◌ (omega arith) (zeros_forth xs (and_right (leb x 0) (within 0 xs) h))

-- ── the i-th number of two bytes ──
word_from : (b : List ℕ) (i : ℕ) → 2 * i + 2 ≤ length b → get_or (words b) i 0 ≡ le16 b (2 * i)
word_from [] i h = absurd (omega arith)
word_from (x ∷ []) i h = absurd (omega arith)
word_from (x ∷ y ∷ b) zero h = refl
word_from (x ∷ y ∷ b) (suc i) h =
    let p : 2 * suc i + 1 ≡ suc (suc (2 * i + 1)) = omega arith in
    let q : 2 * suc i ≡ suc (suc (2 * i)) = omega arith in
    word_from b i (omega arith) ∙ rw (p, q) refl

pub word_is : (b : List ℕ) (i : ℕ) → length b ≡ 96 → i < 25 → get_or b (46 + 2 * i) 0 + 256 * get_or b (47 + 2 * i) 0 ≡ word_in b i
word_is b i l h =
    let d : length (drop 46 b) ≡ length b - 46 = length-drop 46 b in
    let e : 46 + (2 * i + 1) ≡ 47 + 2 * i = omega arith in
    sym (word_from (drop 46 b) i (omega arith) ∙ rw (get_or-drop 46 b (2 * i) 0, get_or-drop 46 b (2 * i + 1) 0, e) refl)
