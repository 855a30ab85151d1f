-- CHIP P17: the lowest input outside. It is there exactly where some count is outside, and no lower one is. Assumes nothing.
use Rattle.std.specs.Prelude.{◌≡◌, refl, Bool, true, false, cond, ◌||◌, List, [], ◌∷◌, ℕ, zero, suc, ◌+◌, ◌<◌, ltb, length, get_or}
use Rattle.std.proofs.Common.{sym, true≢false, arith, lt-ltb}
use Rattle.cell_counts.specs.Scan.{some, some_above, some_between}
use Rattle.why_scan.specs.Scan.{is_outside, lowest}

-- place `at` of the counts, counted from 0, is such, and no place before it; r is its input, where the first is i
pub record LowestAt (such : ℕ → Bool) (xs : List ℕ) (i r : ℕ) : Type 0 where
  pub place : ℕ
  pub is : r ≡ i + place
  pub inside : place < length xs
  pub so : such (get_or xs place 0) ≡ true
  pub lower_not : (j : ℕ) → j < place → such (get_or xs j 0) ≡ false

later : (such : ℕ → Bool) (x : ℕ) (xs : List ℕ) (i r : ℕ) → such x ≡ false → LowestAt such xs (suc i) r → LowestAt such (x ∷ xs) i r
later such x xs i r w t =
    record {
      place = suc t.place;
      is = let q : r ≡ i + suc t.place = omega (arith, t.is) in q;
      inside = omega (arith, t.inside);
      so = t.so;
      lower_not = below;
    }
  where
    below : (j : ℕ) → j < suc t.place → such (get_or (x ∷ xs) j 0) ≡ false
    below zero h = w
    below (suc j) h = t.lower_not j (omega (arith, h))

module _ (such : ℕ → Bool) where
  pub lowest_is : (i : ℕ) (xs : List ℕ) → some such xs ≡ true → LowestAt such xs (suc i) (lowest such (suc i) xs)
  lowest_is i [] h = absurd (true≢false (sym h))
  lowest_is i (x ∷ xs) h = by (such x) refl h (λ q. lowest_is (suc i) xs q)
    where
      by : (t : Bool) → such x ≡ t → t || some such xs ≡ true
          → (some such xs ≡ true → LowestAt such xs (suc (suc i)) (lowest such (suc (suc i)) xs))
          → LowestAt such (x ∷ xs) (suc i) (cond t (suc i) (lowest such (suc (suc i)) xs))
      by true w h r =
          record { place = 0; is = omega arith; inside = omega arith; so = w; lower_not = λ j z. absurd (omega (arith, z)) }
      by false w h r = later such x xs (suc i) (lowest such (suc (suc i)) xs) w (r h)

  -- .. 0 where none is
  pub lowest-some : (i : ℕ) (xs : List ℕ) → ltb 0 (lowest such (suc i) xs) ≡ some such xs
  lowest-some i [] = refl
  lowest-some i (x ∷ xs) = by (such x) (lowest-some (suc i) xs)
    where
      by : (t : Bool) → ltb 0 (lowest such (suc (suc i)) xs) ≡ some such xs
          → ltb 0 (cond t (suc i) (lowest such (suc (suc i)) xs)) ≡ t || some such xs
      by true q = lt-ltb 0 (suc i) (omega arith)
      by false q = q

-- above the line, and between floor and line
pub above_some : (floor line : ℕ) (xs : List ℕ) → ltb 0 (lowest (is_outside true floor line) 1 xs) ≡ some_above line xs
above_some floor line xs = lowest-some (is_outside true floor line) 0 xs

pub between_some : (floor line : ℕ) (xs : List ℕ) → ltb 0 (lowest (is_outside false floor line) 1 xs) ≡ some_between floor line xs
between_some floor line xs = lowest-some (is_outside false floor line) 0 xs
