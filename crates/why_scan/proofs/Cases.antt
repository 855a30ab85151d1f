-- The lowest input outside is the place of the first count that is outside, and one. Assumes nothing.
use Rattle.std.proofs.Common.{◌≡◌, ◌∙◌, sym, ap, refl, Bool, true, false, ltb, List, [], ◌∷◌, ℕ, zero, suc, ◌+◌, ◌-◌, ◌<◌, length, get_or, take, min, arith, lt-ltb}
use Rattle.std.proofs.lemmas.List.{take_min}
use Rattle.std.specs.List.{AllWithin, HoldsAt}
use Rattle.why_scan.specs.Scan.{lowest, says_at, says_scan}

-- what one test tells of a count, where it is one
abbrev pub Tells : (ℕ → Bool) → Bool → ℕ → Type 0
Tells such t x = x < 65536 → such x ≡ t

abbrev Small : List ℕ → Type 0
Small xs = (i : ℕ) → get_or xs i 0 < 65536

pub small_front : (m : ℕ) (xs : List ℕ) → Small xs → Small (take m xs)
small_front zero xs h i = omega arith
small_front (suc m) [] h i = h i
small_front (suc m) (x ∷ xs) h zero = h 0
small_front (suc m) (x ∷ xs) h (suc i) = small_front m xs (λ j. h (suc j)) i

lowest_first : (such : ℕ → Bool) (k i : ℕ) (xs : List ℕ) → i < length xs → such (get_or xs i 0) ≡ true → ((j : ℕ) → j < i → such (get_or xs j 0) ≡ false)
    → lowest such k xs ≡ k + i
lowest_first such k i [] h s n = absurd (omega arith)
lowest_first such k zero (x ∷ xs) h s n = rw s (omega arith)
lowest_first such k (suc i) (x ∷ xs) h s n = rw (n 0 (omega arith)) (lowest_first such (suc k) i xs (omega arith) s (λ j l. n (suc j) (omega arith)) ∙ omega arith)

lowest_none : (such : ℕ → Bool) (k : ℕ) (xs : List ℕ) → ((j : ℕ) → j < length xs → such (get_or xs j 0) ≡ false) → lowest such k xs ≡ 0
lowest_none such k [] n = refl
lowest_none such k (x ∷ xs) n = rw (n 0 (omega arith)) (lowest_none such (suc k) xs (λ j l. n (suc j) (omega arith)))

pub such_counts : (n m : ℕ) (xs : List ℕ) → length xs ≡ 15 → m ≡ min n 15 → take m xs ≡ take n xs
such_counts n m xs h e = ap (λ (m : ℕ). take m xs) (e ∙ ap (min n) (sym h)) ∙ take_min n xs

scan_at : (on : Bool) (such : ℕ → Bool) (xs : List ℕ) (i : ℕ) → lowest such 1 xs ≡ i → says_at on i xs ≡ says_scan on such xs
scan_at on such xs i e = ap (λ (i : ℕ). says_at on i xs) (sym e)

last_but_one : (i : ℕ) → i + 1 - 1 ≡ i
last_but_one i = omega arith

module _ (on : Bool) (such : ℕ → Bool) (xs ys : List ℕ) (e : ys ≡ xs) (small : Small ys) where
  pub scan_found : (i x : ℕ) → i < length ys → HoldsAt (Tells such true) ys i → AllWithin (Tells such false) ys 0 i → x ≡ get_or ys i 0
      → record { many = 1; verdict = on; input = i + 1; value = x; pin = false } ≡ says_scan on such xs
  scan_found i x l h n v =
      let q : lowest such 1 ys ≡ i + 1 = lowest_first such 1 i ys l (h 0 (small i)) (λ j m. n j 0 (omega arith) m (small j)) ∙ omega arith in
      let z : ltb 0 (i + 1) ≡ true = lt-ltb 0 (i + 1) (omega arith) in
      by on v z ∙ scan_at on such ys (i + 1) q ∙ ap (says_scan on such) e
    where
      by : (t : Bool) → x ≡ get_or ys i 0 → ltb 0 (i + 1) ≡ true → record { many = 1; verdict = t; input = i + 1; value = x; pin = false } ≡ says_at t (i + 1) ys
      by true v z = rw v (simp (z, last_but_one i))
      by false v z = rw v (simp (z, last_but_one i))

  pub scan_none : AllWithin (Tells such false) ys 0 (length ys) → record { many = 1; verdict = false; input = 0; value = 0; pin = false } ≡ says_scan on such xs
  scan_none n =
      let q : lowest such 1 ys ≡ 0 = lowest_none such 1 ys (λ j m. n j 0 (omega arith) m (small j)) in
      by on ∙ scan_at on such ys 0 q ∙ ap (says_scan on such) e
    where
      by : (t : Bool) → record { many = 1; verdict = false; input = 0; value = 0; pin = false } ≡ says_at t 0 ys
      by true = refl
      by false = refl
