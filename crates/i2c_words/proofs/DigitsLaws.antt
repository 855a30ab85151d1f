-- The reader's digits and numbers are the grammar's: what is spelt is read, and what is read is spelt. Assumes nothing.
use Rattle.std.specs.Prelude.{◌≡◌, refl, ℕ, ◌+◌, ◌-◌, ◌*◌, ◌<◌, ◌≤◌, List, [], ◌∷◌, Bool, true, false, cond, leb, ltb, eqb, length}
use Rattle.std.proofs.Common.{subst, arith, le-ltb, le-leb, ne_eqb, ltb-false, leb-true, leb-false, eqb-true}
use Rattle.std.proofs.lemmas.Bool.{lt-leb}
use Rattle.i2c_words.specs.Grammar.{char0, char_a, chara, char_x, Digit, digit, HexDigit, figure, capital, small, Hex, short, long}
use Rattle.i2c_words.specs.Reader.{hex_of, digit_of, pair_of, digits_of, value_of, one_of}

-- ── what is spelt is read ──
pub digit_read : {c v : ℕ} → Digit c v → (digit_of c ≡ v) × (v < 10)
unfolding digit_of
digit_read (digit v h) = (simp (le-ltb (char0 + v) 48 (omega arith), le-leb (char0 + v) 57 (omega arith)) (omega arith), h)

pub one_read : {c v : ℕ} → Digit c v → 1 ≤ v → one_of c ≡ v
unfolding one_of
one_read (digit v h) l = simp (le-ltb (char0 + v) 49 (omega arith), le-leb (char0 + v) 57 (omega arith)) (omega arith)

pub hex_read : {c v : ℕ} → HexDigit c v → (hex_of c ≡ v) × (v < 16)
unfolding hex_of
hex_read (figure v h) = (simp (le-ltb (char0 + v) 48 (omega arith), le-leb (char0 + v) 57 (omega arith)) (omega arith), omega arith)
hex_read (capital v h) = (
  simp (
    le-ltb (char_a + v) 48 (omega arith),
    lt-leb (char_a + v) 57 (omega arith),
    le-ltb (char_a + v) 65 (omega arith),
    le-leb (char_a + v) 70 (omega arith),
  ) (omega arith),
  omega arith,
)
hex_read (small v h) = (
  simp (
    le-ltb (chara + v) 48 (omega arith),
    lt-leb (chara + v) 57 (omega arith),
    le-ltb (chara + v) 65 (omega arith),
    lt-leb (chara + v) 70 (omega arith),
    le-ltb (chara + v) 97 (omega arith),
    le-leb (chara + v) 102 (omega arith),
  ) (omega arith),
  omega arith,
)

pub value_read : {a : List ℕ} {v : ℕ} → Hex a v → (value_of a ≡ v) × (v < 256)
unfolding value_of digits_of pair_of
value_read (short c v h) =
    let r : (hex_of c ≡ v) × (v < 16) = hex_read h in
    (simp (lt-leb 16 (hex_of c) (omega (arith, r.0, r.1))) r.0, omega (arith, r.1))
value_read (long c v d w h k) =
    let r : (hex_of c ≡ v) × (v < 16) = hex_read h in
    let s : (hex_of d ≡ w) × (w < 16) = hex_read k in (
      simp (lt-leb 16 (hex_of c) (omega (arith, r.0, r.1)), lt-leb 16 (hex_of d) (omega (arith, s.0, s.1))) (omega (arith, r.0, s.0)),
      omega (arith, r.1, s.1),
    )

-- ── what is read is spelt ──
digit_as : (c v : ℕ) → char0 + v ≡ c → v < 10 → Digit c v
digit_as c v e h = subst (λ (k : ℕ). Digit k v) e (digit v h)

digit_by : (c : ℕ) (t u : Bool) → ltb c 48 ≡ t → leb c 57 ≡ u → cond t 10 (cond u (c - 48) 10) < 10
    → Digit c (cond t 10 (cond u (c - 48) 10))
digit_by c true u et eu h = absurd (omega (arith, h))
digit_by c false true et eu h = digit_as c (c - 48) (omega (arith, ltb-false c 48 et)) h
digit_by c false false et eu h = absurd (omega (arith, h))

pub digit_spelt : (c : ℕ) → digit_of c < 10 → Digit c (digit_of c)
unfolding digit_of
digit_spelt c h = digit_by c (ltb c 48) (leb c 57) refl refl h

one_by : (c : ℕ) (t u : Bool) → ltb c 49 ≡ t → leb c 57 ≡ u → 1 ≤ cond t 0 (cond u (c - 48) 0) → Digit c (cond t 0 (cond u (c - 48) 0))
one_by c true u et eu h = absurd (omega (arith, h))
one_by c false true et eu h = digit_as c (c - 48) (omega (arith, ltb-false c 49 et)) (omega (arith, leb-true c 57 eu))
one_by c false false et eu h = absurd (omega (arith, h))

pub one_spelt : (c : ℕ) → 1 ≤ one_of c → Digit c (one_of c)
unfolding one_of
one_spelt c h = one_by c (ltb c 49) (leb c 57) refl refl h

hex_by : (c : ℕ) (t u v w x y : Bool) → ltb c 48 ≡ t → leb c 57 ≡ u → ltb c 65 ≡ v → leb c 70 ≡ w → ltb c 97 ≡ x → leb c 102 ≡ y
    → cond t 16 (cond u (c - 48) (cond v 16 (cond w (c - 55) (cond x 16 (cond y (c - 87) 16))))) < 16
    → HexDigit c (cond t 16 (cond u (c - 48) (cond v 16 (cond w (c - 55) (cond x 16 (cond y (c - 87) 16))))))
hex_by c true u v w x y et eu ev ew ex ey h = absurd (omega (arith, h))
hex_by c false true v w x y et eu ev ew ex ey h =
    let e : char0 + (c - 48) ≡ c = omega (arith, ltb-false c 48 et) in
    subst (λ (k : ℕ). HexDigit k (c - 48)) e (figure (c - 48) (omega (arith, leb-true c 57 eu)))
hex_by c false false true w x y et eu ev ew ex ey h = absurd (omega (arith, h))
hex_by c false false false true x y et eu ev ew ex ey h =
    let e : char_a + (c - 65) ≡ c = omega (arith, ltb-false c 65 ev) in
    let f : 10 + (c - 65) ≡ c - 55 = omega (arith, ltb-false c 65 ev) in
    subst (λ (k : ℕ). HexDigit k (c - 55)) e
    (subst (λ (k : ℕ). HexDigit (char_a + (c - 65)) k) f (capital (c - 65) (omega (arith, leb-true c 70 ew))))
hex_by c false false false false true y et eu ev ew ex ey h = absurd (omega (arith, h))
hex_by c false false false false false true et eu ev ew ex ey h =
    let e : chara + (c - 97) ≡ c = omega (arith, ltb-false c 97 ex) in
    let f : 10 + (c - 97) ≡ c - 87 = omega (arith, ltb-false c 97 ex) in
    subst (λ (k : ℕ). HexDigit k (c - 87)) e
    (subst (λ (k : ℕ). HexDigit (chara + (c - 97)) k) f (small (c - 97) (omega (arith, leb-true c 102 ey))))
hex_by c false false false false false false et eu ev ew ex ey h = absurd (omega (arith, h))

pub hex_spelt : (c : ℕ) → hex_of c < 16 → HexDigit c (hex_of c)
unfolding hex_of
hex_spelt c h = hex_by c (ltb c 48) (leb c 57) (ltb c 65) (leb c 70) (ltb c 97) (leb c 102) refl refl refl refl refl refl h

short_by : (x y c : ℕ) (t u v : Bool) → eqb x char0 ≡ t → eqb y char_x ≡ u → leb 16 (hex_of c) ≡ v
    → cond t (cond u (cond v 256 (hex_of c)) 256) 256 < 256
    → Hex (x ∷ y ∷ c ∷ []) (cond t (cond u (cond v 256 (hex_of c)) 256) 256)
short_by x y c true true false et eu ev h =
    let e : char0 ∷ char_x ∷ c ∷ [] ≡ x ∷ y ∷ c ∷ [] = cc (eqb-true x char0 et, eqb-true y char_x eu) in
    subst (λ (l : List ℕ). Hex l (hex_of c)) e (short c (hex_of c) (hex_spelt c (leb-false 16 (hex_of c) ev)))
short_by x y c true true true et eu ev h = absurd (omega (arith, h))
short_by x y c true false v et eu ev h = absurd (omega (arith, h))
short_by x y c false u v et eu ev h = absurd (omega (arith, h))

long_by : (x y c d : ℕ) (t u v w : Bool) → eqb x char0 ≡ t → eqb y char_x ≡ u → leb 16 (hex_of c) ≡ v → leb 16 (hex_of d) ≡ w
    → cond t (cond u (cond v 256 (cond w 256 (16 * hex_of c + hex_of d))) 256) 256 < 256
    → Hex (x ∷ y ∷ c ∷ d ∷ []) (cond t (cond u (cond v 256 (cond w 256 (16 * hex_of c + hex_of d))) 256) 256)
long_by x y c d true true false false et eu ev ew h =
    let e : char0 ∷ char_x ∷ c ∷ d ∷ [] ≡ x ∷ y ∷ c ∷ d ∷ [] = cc (eqb-true x char0 et, eqb-true y char_x eu) in
    subst (λ (l : List ℕ). Hex l (16 * hex_of c + hex_of d)) e
    (long c (hex_of c) d (hex_of d) (hex_spelt c (leb-false 16 (hex_of c) ev)) (hex_spelt d (leb-false 16 (hex_of d) ew)))
long_by x y c d true true false true et eu ev ew h = absurd (omega (arith, h))
long_by x y c d true true true w et eu ev ew h = absurd (omega (arith, h))
long_by x y c d true false v w et eu ev ew h = absurd (omega (arith, h))
long_by x y c d false u v w et eu ev ew h = absurd (omega (arith, h))

many_by : (t u v : Bool) → ◌≡◌ {A = ℕ} (cond t (cond u (cond v 256 256) 256) 256) 256
many_by true true true = refl
many_by true true false = refl
many_by true false v = refl
many_by false u v = refl

-- five characters or more are none
many : (x y c d e : ℕ) (l : List ℕ) → value_of (x ∷ y ∷ c ∷ d ∷ e ∷ l) ≡ 256
unfolding value_of digits_of
many x y c d e l =
    let w : List ℕ = x ∷ y ∷ c ∷ d ∷ e ∷ l in
    simp (le-ltb (length w) 3 (omega arith), ne_eqb (length w) 3 (λ q. omega (arith, q)), ne_eqb (length w) 4 (λ q. omega (arith, q)))
    (many_by (eqb x char0) (eqb y char_x) (leb 16 (hex_of c)))

pub value_spelt : (a : List ℕ) → value_of a < 256 → Hex a (value_of a)
unfolding value_of digits_of pair_of
value_spelt [] h = absurd (omega (arith, h))
value_spelt (x ∷ []) h = absurd (omega (arith, h))
value_spelt (x ∷ y ∷ []) h = absurd (omega (arith, h))
value_spelt (x ∷ y ∷ c ∷ []) h = short_by x y c (eqb x char0) (eqb y char_x) (leb 16 (hex_of c)) refl refl refl h
value_spelt (x ∷ y ∷ c ∷ d ∷ []) h =
    long_by x y c d (eqb x char0) (eqb y char_x) (leb 16 (hex_of c)) (leb 16 (hex_of d)) refl refl refl refl h
value_spelt (x ∷ y ∷ c ∷ d ∷ e ∷ l) h =
    absurd (omega (arith, h, many x y c d e l))
