-- Of numbers in a row those whose bit is set, and that these are what the inputs that have a cell hold. The words stand in specs/Kept.
-- Assumes nothing.
use Rattle.std.specs.Prelude.{◌≡◌, refl, Bool, true, false, cond, List, [], ◌∷◌, ◌++◌, map, ℕ, zero, suc, ◌+◌, ◌-◌, ◌*◌, ◌/◌, ◌%◌, ◌<◌, ◌≤◌}
use Rattle.std.specs.Prelude.{length, get_or, set, take}
use Rattle.std.proofs.Common.{sym, ap, ap₂, ◌∙◌, arith}
use Rattle.events.specs.declared.Setup.{Setup}
use Rattle.events.specs.Setup.{inputs}
use Rattle.events.specs.FewLaws.{few_inputs}
use Rattle.cell_counts.specs.Scan.{padded}
use Rattle.wiring.specs.Rows.{is_wired, upward, wired_inputs, bits, wired_bits}
use Rattle.wiring.specs.Kept.{kept, picked}

-- ── the bits of inputs keep what these inputs hold ──
abbrev from : (ℕ → ℕ) → ℕ → ℕ → List ℕ
from f i zero = []
from f i (suc m) = f i ∷ from f (suc i) m

kept_none : (xs : List ℕ) → kept 0 xs ≡ []
kept_none [] = refl
kept_none (x ∷ xs) = kept_none xs

module _ (such : ℕ → Bool) (f : ℕ → ℕ) where
  kept_by : (i m b : ℕ) (l : List ℕ) → kept b (from f (suc i) m) ≡ map f l → (t : Bool)
      → kept (cond t 1 0 + 2 * b) (from f i (suc m)) ≡ map f (cond t (i ∷ l) l)
  kept_by i m b l ih true =
      let a : (1 + 2 * b) % 2 ≡ 1 = omega arith in
      let d : (1 + 2 * b) / 2 ≡ b = omega arith in
      rw (a, d) (ap (λ (l : List ℕ). f i ∷ l) ih)
  kept_by i m b l ih false =
      let a : (0 + 2 * b) % 2 ≡ 0 = omega arith in
      let d : (0 + 2 * b) / 2 ≡ b = omega arith in
      rw (a, d) ih

  kept_from : (i k m : ℕ) → k ≤ m → kept (bits such i k) (from f i m) ≡ map f (upward such i k)
  kept_from i zero m h = kept_none (from f i m)
  kept_from i (suc k) zero h = absurd (omega arith)
  kept_from i (suc k) (suc m) h = kept_by i m (bits such (suc i) k) (upward such (suc i) k) (kept_from (suc i) k m (omega arith)) (such i)

from_is : (xs : List ℕ) (f : ℕ → ℕ) (i : ℕ) → ((j : ℕ) → f (i + j) ≡ get_or xs j 0) → from f i (length xs) ≡ xs
from_is [] f i h = refl
from_is (x ∷ xs) f i h =
    let z : i + 0 ≡ i = omega arith in
    ap₂ ◌∷◌ (ap f (sym z) ∙ h 0) (from_is xs f (suc i) (λ j. ap f (step j) ∙ h (suc j)))
  where
    step : (j : ℕ) → suc i + j ≡ i + suc j
    step j = omega arith

pub kept-bits : (such : ℕ → Bool) (k : ℕ) (xs : List ℕ) → k ≤ length xs → kept (bits such 1 k) xs ≡ picked xs (upward such 1 k)
kept-bits such k xs h =
    ap (kept (bits such 1 k)) (sym (from_is xs at 1 (λ j. ap (λ (i : ℕ). get_or xs i 0) (back j)))) ∙ kept_from such at 1 k (length xs) h
  where
    at : ℕ → ℕ
    at i = get_or xs (i - 1) 0

    back : (j : ℕ) → 1 + j - 1 ≡ j
    back j = omega arith

-- fifteen numbers, by a pack's wiring
pub kept_wired : (u : Setup) (xs : List ℕ) → length xs ≡ 15 → kept (wired_bits u) xs ≡ picked xs (wired_inputs u)
unfolding wired_bits wired_inputs
kept_wired u xs l = kept-bits (is_wired u) (inputs u) xs (omega (arith, few_inputs u, l))

-- one more in the next place
pub set_next : (k : ℕ) (xs : List ℕ) (x : ℕ) → length xs < k → set (padded k xs) (length xs) x ≡ padded k (xs ++ (x ∷ []))
set_next zero xs x h = absurd (omega arith)
set_next (suc k) [] x h = refl
set_next (suc k) (y ∷ xs) x h = ap (λ (l : List ℕ). y ∷ l) (set_next k xs x (omega arith))

-- a place that is used
pub padded_at : (k : ℕ) (xs : List ℕ) (i : ℕ) → i < k → get_or (padded k xs) i 0 ≡ get_or xs i 0
padded_at zero xs i h = absurd (omega arith)
padded_at (suc k) [] zero h = refl
padded_at (suc k) [] (suc i) h = padded_at k [] i (omega arith)
padded_at (suc k) (x ∷ xs) zero h = refl
padded_at (suc k) (x ∷ xs) (suc i) h = padded_at k xs i (omega arith)

-- and as many as are used
pub take-padded : (k : ℕ) (xs : List ℕ) → length xs ≤ k → take (length xs) (padded k xs) ≡ xs
take-padded k [] h = refl
take-padded zero (x ∷ xs) h = absurd (omega arith)
take-padded (suc k) (x ∷ xs) h = ap (λ (l : List ℕ). x ∷ l) (take-padded k xs (omega arith))

-- what the input at a place holds
pub picked_at : (xs is : List ℕ) (n : ℕ) → n < length is → get_or (picked xs is) n 0 ≡ get_or xs (get_or is n 0 - 1) 0
picked_at xs [] n h = absurd (omega arith)
picked_at xs (i ∷ is) zero h = refl
picked_at xs (i ∷ is) (suc n) h = picked_at xs is n (omega arith)

pub picked_many : (xs is : List ℕ) → length (picked xs is) ≡ length is
picked_many xs [] = refl
picked_many xs (i ∷ is) = ap suc (picked_many xs is)
