-- How one count more goes into the places, the sum and the verdicts. Assumes nothing.
use Rattle.std.specs.Prelude.{◌≡◌, refl, leb, Bool, true, false, ◌||◌, List, [], ◌∷◌, ◌++◌, ℕ, zero, suc, ◌+◌, ◌<◌, min, length, take}
use Rattle.std.specs.Prelude.{get_or, set}
use Rattle.std.proofs.Common.{sym, ap, ◌∙◌, leb-true, leb-false, add-one, arith, take-suc, take_all}
use Rattle.std.proofs.Math.Nat.{min-eq_left, min-eq_right}
use Rattle.cell_counts.specs.Scan.{total, some, padded}

total_snoc : (xs : List ℕ) (x : ℕ) → total (xs ++ (x ∷ [])) ≡ total xs + x
total_snoc [] x = omega arith
total_snoc (y ∷ ys) x = omega (arith, total_snoc ys x)

some_snoc : (p : ℕ → Bool) (xs : List ℕ) (x : ℕ) → some p (xs ++ (x ∷ [])) ≡ some p xs || p x
some_snoc p [] x = or-false (p x)
  where
    or-false : (b : Bool) → (b || false) ≡ b
    or-false true = refl
    or-false false = refl
some_snoc p (y ∷ ys) x = ap (◌||◌ (p y)) (some_snoc p ys x) ∙ assoc (p y) (some p ys) (p x)
  where
    assoc : (a b c : Bool) → (a || (b || c)) ≡ ((a || b) || c)
    assoc true b c = refl
    assoc false b c = refl

pub total_more : (xs : List ℕ) (i : ℕ) → i < length xs → total (take (i + 1) xs) ≡ total (take i xs) + get_or xs i 0
total_more xs i h = rw (add-one, take-suc xs i 0, total_snoc)

pub some_more : (p : ℕ → Bool) (xs : List ℕ) (i : ℕ) → i < length xs → some p (take (i + 1) xs) ≡ some p (take i xs) || p (get_or xs i 0)
some_more p xs i h = rw (add-one, take-suc xs i 0, some_snoc)

set-suc : (k i : ℕ) (xs : List ℕ) → i < k → i < length xs → set (padded k (take i xs)) i (get_or xs i 0) ≡ padded k (take (suc i) xs)
set-suc zero i xs h l = absurd (omega arith)
set-suc (suc k) i [] h l = absurd (omega arith)
set-suc (suc k) zero (x ∷ xs) h l = refl
set-suc (suc k) (suc i) (x ∷ xs) h l = ap (◌∷◌ x) (set-suc k i xs (omega arith) (omega arith))

pub padded_more : (k i : ℕ) (xs : List ℕ) → i < k → i < length xs
    → padded k (take (i + 1) xs) ≡ set (padded k (take i xs)) i (get_or xs i 0)
padded_more k i xs h l = rw (add-one, ← set-suc k i xs h l)

-- three places, each with its count
pub three_are : (xs : List ℕ) → padded 3 xs ≡ get_or xs 0 0 ∷ (get_or xs 1 0 ∷ (get_or xs 2 0 ∷ []))
three_are [] = refl
three_are (x ∷ []) = refl
three_are (x ∷ y ∷ []) = refl
three_are (x ∷ y ∷ z ∷ xs) = refl

-- no count stands past the end
pub take_min : (n k : ℕ) (xs : List ℕ) → length xs ≡ k → take (min n k) xs ≡ take n xs
take_min n k xs e = by (leb n k) refl
  where
    by : (t : Bool) → leb n k ≡ t → take (min n k) xs ≡ take n xs
    by true t = ap (λ m. take m xs) (min-eq_left (leb-true n k t))
    by false t =
        let h : k < n = leb-false n k t in
        ap (λ m. take m xs) (min-eq_right {n = k} {m = n} (omega arith)) ∙ take_all k xs (omega arith) ∙ sym (take_all n xs (omega arith))
