-- A decimal reads back as its number and has no leading zero. Assumes nothing.
use Rattle.std.specs.Prelude.{◌≡◌, refl, ◌≢◌, Bool, true, false, cond, List, [], ◌∷◌, ◌++◌, ℕ, ◌+◌, ◌-◌, ◌*◌, ◌/◌, ◌%◌, ◌<◌, ◌≤◌, ltb}
use Rattle.std.specs.Prelude.{get_or}
use Rattle.std.proofs.Common.{ap, sym, ◌∙◌, arith, ltb-true, ltb-false}
use Rattle.std.proofs.Math.Nat.{div-div-eq-div-mul}
use Rattle.play_line.specs.Line.{digit, decimal}

-- the number that digits read as, after those that were read already
abbrev pub read_on : ℕ → List ℕ → ℕ
read_on n [] = n
read_on n (d ∷ ds) = read_on (10 * n + (d - 48)) ds

-- each number below 100,000: its digits read back, and 0 comes first in no number but 0
abbrev pub Decimal : ℕ → List ℕ → Type 0
Decimal n text = (read_on 0 text ≡ n) × (0 < n → get_or text 0 0 ≢ digit 0)

-- a number by its digits, the last one first
module _ (n a b c d p q r s : ℕ) (u : n ≡ 10 * a + p) (v : a ≡ 10 * b + q) (w : b ≡ 10 * c + r) (x : c ≡ 10 * d + s)
    (pt : p < 10) (qt : q < 10) (rt : r < 10) (st : s < 10) where
  five : 10000 ≤ n → Decimal n (digit d ∷ digit s ∷ digit r ∷ digit q ∷ digit p ∷ [])
  five h = (omega arith, λ z e. omega arith)

  four : d ≡ 0 → 1000 ≤ n → Decimal n (digit s ∷ digit r ∷ digit q ∷ digit p ∷ [])
  four h k = (omega arith, λ z e. omega arith)

  three : c ≡ 0 → 100 ≤ n → Decimal n (digit r ∷ digit q ∷ digit p ∷ [])
  three h k = (omega arith, λ z e. omega arith)

  two : b ≡ 0 → 10 ≤ n → Decimal n (digit q ∷ digit p ∷ [])
  two h k = (omega arith, λ z e. omega arith)

  one : a ≡ 0 → Decimal n (digit p ∷ [])
  one h = (omega arith, λ z e. omega arith)

  by_tests : (i j k l : Bool) → ltb n 10000 ≡ i → ltb n 1000 ≡ j → ltb n 100 ≡ k → ltb n 10 ≡ l
      → Decimal n
      (cond i [] (digit d ∷ []) ++ cond j [] (digit s ∷ []) ++ cond k [] (digit r ∷ []) ++ cond l [] (digit q ∷ []) ++ (digit p ∷ []))
  by_tests false false false false e f g h = five (ltb-false n 10000 e)
  by_tests true false false false e f g h = four (omega (arith, ltb-true n 10000 e)) (ltb-false n 1000 f)
  by_tests true true false false e f g h = three (omega (arith, ltb-true n 1000 f)) (ltb-false n 100 g)
  by_tests true true true false e f g h = two (omega (arith, ltb-true n 100 g)) (ltb-false n 10 h)
  by_tests true true true true e f g h = one (omega (arith, ltb-true n 10 h))
  by_tests false true k l e f g h = absurd (omega (arith, ltb-false n 10000 e, ltb-true n 1000 f))
  by_tests false false true l e f g h = absurd (omega (arith, ltb-false n 1000 f, ltb-true n 100 g))
  by_tests true false true l e f g h = absurd (omega (arith, ltb-false n 1000 f, ltb-true n 100 g))
  by_tests false false false true e f g h = absurd (omega (arith, ltb-false n 100 g, ltb-true n 10 h))
  by_tests true false false true e f g h = absurd (omega (arith, ltb-false n 100 g, ltb-true n 10 h))
  by_tests true true false true e f g h = absurd (omega (arith, ltb-false n 100 g, ltb-true n 10 h))

tens : (n m : ℕ) → n / m ≡ 10 * (n / (m * 10)) + n / m % 10
tens n m = let e : n / m / 10 ≡ n / (m * 10) = div-div-eq-div-mul n m 10 in omega (arith, e)

pub decimal_right : (n : ℕ) → n < 100000 → Decimal n (decimal n)
unfolding decimal
decimal_right n h =
    let z : n / 10000 % 10 ≡ n / 10000 = omega arith in
    by_tests n (n / 10) (n / 100) (n / 1000) (n / 10000 % 10) (n % 10) (n / 10 % 10) (n / 100 % 10) (n / 1000 % 10)
    (omega arith) (tens n 10) (tens n 100) (tens n 1000 ∙ ap (λ (k : ℕ). 10 * k + n / 1000 % 10) (sym z))
    (omega arith) (omega arith) (omega arith) (omega arith)
    (ltb n 10000) (ltb n 1000) (ltb n 100) (ltb n 10) refl refl refl refl
