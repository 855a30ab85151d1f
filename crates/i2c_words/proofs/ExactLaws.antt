-- The reader of words is exact: a word is read as what it spells, and spells what it is read as. Assumes nothing.
use Rattle.std.specs.Prelude.{◌≡◌, refl, ℕ, ◌+◌, ◌*◌, ◌<◌, ◌≤◌, List, [], ◌∷◌, ◌++◌, Bool, true, false, cond, leb, ltb, eqb, length}
use Rattle.std.proofs.Common.{ap, ap₂, sym, ◌∙◌, subst, arith, lt-ltb, le-ltb, ne_eqb, ltb-true, ltb-false, leb-false, eqb-true}
use Rattle.std.proofs.lemmas.Bool.{lt-leb, eqb-false}
use Rattle.i2c_words.specs.Grammar.{char_w, char_r, char_at, char_x, char0, Digit, digit, Hex, short, long, Count, ones, tens, Spells}
use Rattle.i2c_words.specs.Grammar.{writes, reads, byte}
use Rattle.i2c_words.specs.Reader.{digit_of, value_of, one_of, joined_of, two_of, message_for, message_of, word_by, word_of}
use Rattle.i2c_words.specs.Reader.{word_number}
use Rattle.i2c_words.proofs.DigitsLaws.{digit_read, one_read, value_read, digit_spelt, one_spelt, value_spelt}
use Rattle.i2c_words.specs.declared.Word.{Word}
use Rattle.i2c_words.specs.declared.Word.TheVariants.{Write, Read, Byte, Unknown}

-- ── what is read is spelt ──
abbrev pub Spelt : List ℕ → Word → Type 0
Spelt w (Write k v) = Spells w (Write k v)
Spelt w (Read k v) = Spells w (Read k v)
Spelt w (Byte v) = Spells w (Byte v)
Spelt w Unknown = Unit

-- what a message is made of
record Parts (letter char n k v a : ℕ) : Type 0 where
  the_letter : letter ≡ char
  the_count : n ≡ k
  the_address : v ≡ a
  from_one : 1 ≤ n
  to_64 : n ≤ 64
  a_byte : v < 256

abbrev Made : ℕ → ℕ → ℕ → Word → Type 0
Made l n v (Write k a) = Parts l char_w n k v a
Made l n v (Read k a) = Parts l char_r n k v a
Made l n v (Byte b) = ⊥
Made l n v Unknown = Unit

made_by : (l n v : ℕ) (p q r s t : Bool) → eqb n 0 ≡ p → ltb 64 n ≡ q → leb 256 v ≡ r → eqb l char_w ≡ s → eqb l char_r ≡ t
    → Made l n v (cond p Unknown (cond q Unknown (cond r Unknown (cond s (Write n v) (cond t (Read n v) Unknown)))))
made_by l n v true q r s t ep eq er es et = tt
made_by l n v false true r s t ep eq er es et = tt
made_by l n v false false true s t ep eq er es et = tt
made_by l n v false false false true t ep eq er es et =
    let z : (n ≡ 0 → ⊥) = eqb-false n 0 ep in
    record {
      the_letter = eqb-true l char_w es;
      the_count = refl;
      the_address = refl;
      from_one = omega arith;
      to_64 = ltb-false 64 n eq;
      a_byte = leb-false 256 v er;
    }
made_by l n v false false false false true ep eq er es et =
    let z : (n ≡ 0 → ⊥) = eqb-false n 0 ep in
    record {
      the_letter = eqb-true l char_r et;
      the_count = refl;
      the_address = refl;
      from_one = omega arith;
      to_64 = ltb-false 64 n eq;
      a_byte = leb-false 256 v er;
    }
made_by l n v false false false false false ep eq er es et = tt

made : (l n v : ℕ) → Made l n v (message_for l n v)
unfolding message_for
made l n v = made_by l n v (eqb n 0) (ltb 64 n) (leb 256 v) (eqb l char_w) (eqb l char_r) refl refl refl refl refl

as_spells : {w w' : List ℕ} {x x' : Word} → w ≡ w' → x ≡ x' → Spells w x → Spells w' x'
as_spells {w} {w'} {x} {x'} e f s = subst (λ (l : List ℕ). Spells l x') e (subst (λ (y : Word). Spells w y) f s)

-- a word in its parts: a letter, the digits of the count, @ and the address
spelt_made : (l : ℕ) (n a : List ℕ) (k : ℕ) (m : Word) → (1 ≤ k → k ≤ 64 → Count n k) → Made l k (value_of a) m
    → Spelt (l ∷ (n ++ (char_at ∷ a))) m
spelt_made l n a k (Write k' v) c p =
    as_spells (ap (λ (x : ℕ). x ∷ (n ++ (char_at ∷ a))) (sym p.the_letter)) (ap₂ Write p.the_count p.the_address)
    (writes n a k (value_of a) (c p.from_one p.to_64) (value_spelt a p.a_byte))
spelt_made l n a k (Read k' v) c p =
    as_spells (ap (λ (x : ℕ). x ∷ (n ++ (char_at ∷ a))) (sym p.the_letter)) (ap₂ Read p.the_count p.the_address)
    (reads n a k (value_of a) (c p.from_one p.to_64) (value_spelt a p.a_byte))
spelt_made l n a k (Byte b) c p = absurd p
spelt_made l n a k Unknown c p = tt

one_count : (c : ℕ) → 1 ≤ one_of c → one_of c ≤ 64 → Count (c ∷ []) (one_of c)
one_count c h m = ones c (one_of c) (one_spelt c h) h

two_by : (c d : ℕ) (t u : Bool) → eqb (one_of c) 0 ≡ t → leb 10 (digit_of d) ≡ u → 1 ≤ cond t 0 (cond u 0 (10 * one_of c + digit_of d))
    → cond t 0 (cond u 0 (10 * one_of c + digit_of d)) ≤ 64
    → Count (c ∷ d ∷ []) (cond t 0 (cond u 0 (10 * one_of c + digit_of d)))
two_by c d true u et eu h m = absurd (omega (arith, h))
two_by c d false true et eu h m = absurd (omega (arith, h))
two_by c d false false et eu h m =
    let z : (one_of c ≡ 0 → ⊥) = eqb-false (one_of c) 0 et in
    let k : 1 ≤ one_of c = omega arith in
    tens c (one_of c) d (digit_of d) (one_spelt c k) (digit_spelt d (leb-false 10 (digit_of d) eu)) k m

two_count : (c d : ℕ) → 1 ≤ two_of c d → two_of c d ≤ 64 → Count (c ∷ d ∷ []) (two_of c d)
unfolding joined_of
two_count c d h m = two_by c d (eqb (one_of c) 0) (leb 10 (digit_of d)) refl refl h m

message_by : (l c d e : ℕ) (a : List ℕ) (t u : Bool) → eqb d char_at ≡ t → eqb e char_at ≡ u
    → Spelt (l ∷ c ∷ d ∷ e ∷ a)
    (cond t (message_for l (one_of c) (value_of (e ∷ a))) (cond u (message_for l (two_of c d) (value_of a)) Unknown))
message_by l c d e a true u et eu =
    subst (λ (x : ℕ). Spelt (l ∷ c ∷ x ∷ e ∷ a) (message_for l (one_of c) (value_of (e ∷ a)))) (sym (eqb-true d char_at et))
    (spelt_made l (c ∷ []) (e ∷ a) (one_of c) (message_for l (one_of c) (value_of (e ∷ a))) (one_count c)
    (made l (one_of c) (value_of (e ∷ a))))
message_by l c d e a false true et eu =
    subst (λ (x : ℕ). Spelt (l ∷ c ∷ d ∷ x ∷ a) (message_for l (two_of c d) (value_of a))) (sym (eqb-true e char_at eu))
    (spelt_made l (c ∷ d ∷ []) a (two_of c d) (message_for l (two_of c d) (value_of a)) (two_count c d) (made l (two_of c d) (value_of a)))
message_by l c d e a false false et eu = tt

message_spelt : (w : List ℕ) → Spelt w (message_of w)
unfolding message_of
message_spelt [] = tt
message_spelt (l ∷ []) = tt
message_spelt (l ∷ c ∷ []) = tt
message_spelt (l ∷ c ∷ d ∷ []) = tt
message_spelt (l ∷ c ∷ d ∷ e ∷ a) =
    let four : ltb (length (l ∷ c ∷ d ∷ e ∷ a)) 4 ≡ false = le-ltb (length (l ∷ c ∷ d ∷ e ∷ a)) 4 (omega arith) in
    simp four (message_by l c d e a (eqb d char_at) (eqb e char_at) refl refl)

word_by_lem : (w : List ℕ) (t : Bool) → ltb (value_of w) 256 ≡ t → Spelt w (cond t (Byte (value_of w)) (message_of w))
word_by_lem w true e = byte w (value_of w) (value_spelt w (ltb-true (value_of w) 256 e))
word_by_lem w false e = message_spelt w

pub word_spelt : (w : List ℕ) → Spelt w (word_of w)
unfolding word_by
word_spelt w = word_by_lem w (ltb (value_of w) 256) refl

-- ── what is spelt is read ──
-- a word of six characters or more is no byte: it begins with `w` or `r`
message_read : (l n v : ℕ) → 1 ≤ n → n ≤ 64 → v < 256
    → message_for l n v ≡ cond (eqb l char_w) (Write n v) (cond (eqb l char_r) (Read n v) Unknown)
unfolding message_for
message_read l n v h m b = simp (ne_eqb n 0 (λ e. omega (arith, e)), le-ltb 64 n m, lt-leb 256 v b)

at_one : (l c e : ℕ) (a : List ℕ) → message_of (l ∷ c ∷ char_at ∷ e ∷ a) ≡ message_for l (one_of c) (value_of (e ∷ a))
unfolding message_of
at_one l c e a =
    let four : ltb (length (l ∷ c ∷ char_at ∷ e ∷ a)) 4 ≡ false = le-ltb (length (l ∷ c ∷ char_at ∷ e ∷ a)) 4 (omega arith) in
    simp four

at_two : (l c d e : ℕ) (a : List ℕ) → (d ≡ char_at → ⊥) → message_of (l ∷ c ∷ d ∷ char_at ∷ a) ≡ message_for l (two_of c d) (value_of a)
unfolding message_of
at_two l c d e a n =
    let four : ltb (length (l ∷ c ∷ d ∷ char_at ∷ a)) 4 ≡ false = le-ltb (length (l ∷ c ∷ d ∷ char_at ∷ a)) 4 (omega arith) in
    simp (four, ne_eqb d char_at n)

two_read : {c v d w : ℕ} → Digit c v → Digit d w → 1 ≤ v → two_of c d ≡ 10 * v + w
unfolding joined_of
two_read {c} {v} {d} {w} p q h =
    let o : one_of c ≡ v = one_read p h in
    let e : (digit_of d ≡ w) × (w < 10) = digit_read q in
    simp (ne_eqb (one_of c) 0 (λ z. omega (arith, z, o)), lt-leb 10 (digit_of d) (omega (arith, e.0, e.1))) (omega (arith, o, e.0))

digit_not_at : {c v : ℕ} → Digit c v → c ≡ char_at → ⊥
digit_not_at (digit v h) e = omega (arith, e)

-- a message by its parts
parts_read : {n a : List ℕ} {k v : ℕ} (l : ℕ) → Count n k → Hex a v → message_of (l ∷ (n ++ (char_at ∷ a))) ≡ message_for l k v
parts_read l (ones c k p h) (short e v q) =
    at_one l c char0 (char_x ∷ e ∷ []) ∙ ap₂ (message_for l) (one_read p h) (value_read (short e v q)).0
parts_read l (ones c k p h) (long e v f w q r) =
    at_one l c char0 (char_x ∷ e ∷ f ∷ []) ∙ ap₂ (message_for l) (one_read p h) (value_read (long e v f w q r)).0
parts_read {a = a} l (tens c v d w p q h m) x =
    at_two l c d char0 a (digit_not_at q) ∙ ap₂ (message_for l) (two_read p q h) (value_read x).0

count_range : {n : List ℕ} {k : ℕ} → Count n k → (1 ≤ k) × (k ≤ 64)
count_range (ones c v p l) = (l, omega (arith, (digit_read p).1))
count_range (tens c v d w p q l m) = (omega arith, m)

-- a word whose first character is not `0` is no byte
not_byte : (l : ℕ) (w : List ℕ) → (l ≡ char0 → ⊥) → value_of (l ∷ w) ≡ 256
unfolding value_of
not_byte l w n = simp (ne_eqb l char0 n) (same (ltb (length (l ∷ w)) 3))
  where
    same : (t : Bool) → ◌≡◌ {A = ℕ} (cond t 256 256) 256
    same true = refl
    same false = refl

pub word_read : {w : List ℕ} {x : Word} → Spells w x → word_of w ≡ x
unfolding word_by
word_read (writes n a k v c h) =
    let r : (1 ≤ k) × (k ≤ 64) = count_range c in
    simp (not_byte char_w (n ++ (char_at ∷ a)) (λ e. omega (arith, e)))
    (parts_read char_w c h ∙ message_read char_w k v r.0 r.1 (value_read h).1)
word_read (reads n a k v c h) =
    let r : (1 ≤ k) × (k ≤ 64) = count_range c in
    simp (not_byte char_r (n ++ (char_at ∷ a)) (λ e. omega (arith, e)))
    (parts_read char_r c h ∙ message_read char_r k v r.0 r.1 (value_read h).1)
word_read (byte a v h) = let r : (value_of a ≡ v) × (v < 256) =
    value_read h in simp (lt-ltb (value_of a) 256 (omega (arith, r.0, r.1))) (ap Byte r.0)

-- ── two readings of a word are the same ──
pub word_unique : {w : List ℕ} {x y : Word} → Spells w x → Spells w y → x ≡ y
word_unique s t = sym (word_read s) ∙ word_read t

-- ── a word has number 0 just where it spells something ──
spells_done : {w : List ℕ} {x : Word} → Spells w x → word_number x ≡ 0
spells_done (writes n a k v c h) = refl
spells_done (reads n a k v c h) = refl
spells_done (byte a v h) = refl

pub spelt_done : {w : List ℕ} {x : Word} → Spells w x → word_number (word_of w) ≡ 0
spelt_done s = ap word_number (word_read s) ∙ spells_done s

pub done_spelt : (w : List ℕ) → word_number (word_of w) ≡ 0 → Spells w (word_of w)
done_spelt w h = by (word_of w) h (word_spelt w)
  where
    by : (x : Word) → word_number x ≡ 0 → Spelt w x → Spells w x
    by (Write k v) h s = s
    by (Read k v) h s = s
    by (Byte v) h s = s
    by Unknown h s = absurd (omega (arith, h))
