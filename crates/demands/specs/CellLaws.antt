-- CHIP.md, "Judging": 'some count' is some input of the part, by its place, whichever it is; where each count is stored; and BAT.
-- Assumes nothing.
use Rattle.std.specs.Prelude.{◌≡◌, refl, Bool, true, false, ◌&&◌, ◌||◌, List, [], ◌∷◌, ℕ, zero, suc, ◌*◌, ◌/◌, ◌≤◌, ◌<◌, leb, ltb, get_or}
use Rattle.std.specs.Prelude.{length}
use Rattle.std.proofs.Common.{sym, ap, ◌∙◌, true≢false, arith, leb-true, le-leb, ltb-true, lt-ltb}
use Rattle.std.proofs.Math.Bool.{or-true}
use Rattle.bits.specs.Numbers.{within}
use Rattle.cell_counts.specs.Scan.{total, some, some_above, some_between, padded}
use Rattle.registers.specs.Judging.{bat_of}

-- some place holds such a count ..
pub record Holds (p : ℕ → Bool) (xs : List ℕ) : Type 0 where
  pub place : ℕ
  pub there : place < length xs
  pub such : p (get_or xs place 0) ≡ true

further : (p : ℕ → Bool) (x : ℕ) (xs : List ℕ) → Holds p xs → Holds p (x ∷ xs)
further p x xs h = record { place = suc h.place; there = let t : h.place < length xs = h.there in omega arith; such = h.such }

-- .. exactly when `some` says so
pub some_holds : (p : ℕ → Bool) (xs : List ℕ) → some p xs ≡ true → Holds p xs
some_holds p [] h = absurd (true≢false (sym h))
some_holds p (x ∷ xs) h = by (p x) refl h (some_holds p xs)
  where
    by : (t : Bool) → p x ≡ t → (t || some p xs) ≡ true → (some p xs ≡ true → Holds p xs) → Holds p (x ∷ xs)
    by true e h i = record { place = 0; there = omega arith; such = e }
    by false e h i = further p x xs (i h)

pub holds_some : (p : ℕ → Bool) (xs : List ℕ) (k : ℕ) → k < length xs → p (get_or xs k 0) ≡ true → some p xs ≡ true
holds_some p [] k h e = absurd (omega arith)
holds_some p (x ∷ xs) zero h e = simp e
holds_some p (x ∷ xs) (suc k) h e = ap (◌||◌ (p x)) (holds_some p xs k (omega arith) e) ∙ or-true (p x)

-- OVER: a cell above the line, at any place of the part
pub over_somewhere : (line k : ℕ) (xs : List ℕ) → k < length xs → line < get_or xs k 0 → some_above line xs ≡ true
over_somewhere line k xs h a = holds_some (λ x. ltb line x) xs k h (lt-ltb line (get_or xs k 0) a)

pub over_nowhere : (line : ℕ) (xs : List ℕ) → ((k : ℕ) → k < length xs → get_or xs k 0 ≤ line) → some_above line xs ≡ true → ⊥
over_nowhere line xs h e =
    let t : Holds (λ x. ltb line x) xs = some_holds (λ x. ltb line x) xs e in
    let a : get_or xs t.place 0 ≤ line = h t.place t.there in
    let b : line < get_or xs t.place 0 = ltb-true line (get_or xs t.place 0) t.such in
    omega arith

-- UNDER: a cell not below the floor and below the line, at any place
both : (a b : Bool) → a ≡ true → b ≡ true → a && b ≡ true
both a b h k = rw (h, k)

split : (a b : Bool) → a && b ≡ true → (a ≡ true) × (b ≡ true)
split true b h = (refl, h)
split false b h = (h, cc)

pub under_somewhere : (floor line k : ℕ) (xs : List ℕ) → k < length xs → floor ≤ get_or xs k 0 → get_or xs k 0 < line
    → some_between floor line xs ≡ true
under_somewhere floor line k xs h a b =
    holds_some (λ x. leb floor x && ltb x line) xs k h
    (both (leb floor (get_or xs k 0)) (ltb (get_or xs k 0) line) (le-leb floor (get_or xs k 0) a) (lt-ltb (get_or xs k 0) line b))

pub under_nowhere : (floor line : ℕ) (xs : List ℕ)
    → ((k : ℕ) → k < length xs → floor ≤ get_or xs k 0 → get_or xs k 0 < line → ⊥) → some_between floor line xs ≡ true → ⊥
under_nowhere floor line xs h e =
    let t : Holds (λ x. leb floor x && ltb x line) xs = some_holds (λ x. leb floor x && ltb x line) xs e in
    let s = split (leb floor (get_or xs t.place 0)) (ltb (get_or xs t.place 0) line) t.such in
    h t.place t.there (leb-true floor (get_or xs t.place 0) s.0) (ltb-true (get_or xs t.place 0) line s.1)

-- each count is stored at its own place
pub stored_at : (n : ℕ) (xs : List ℕ) (k : ℕ) → k < n → get_or (padded n xs) k 0 ≡ get_or xs k 0
stored_at zero xs k h = absurd (omega arith)
stored_at (suc n) [] zero h = refl
stored_at (suc n) [] (suc k) h = stored_at n [] k (omega arith)
stored_at (suc n) (x ∷ xs) zero h = refl
stored_at (suc n) (x ∷ xs) (suc k) h = stored_at n xs k (omega arith)

-- BAT is a quarter of the sum rounded down: up to 16 counts in range never fill its word
sum_most : (xs : List ℕ) → within 16383 xs ≡ true → total xs ≤ 16383 * length xs
sum_most [] h = omega arith
sum_most (x ∷ xs) h =
    let s = split (leb x 16383) (within 16383 xs) h in
    let a : x ≤ 16383 = leb-true x 16383 s.0 in
    let b : total xs ≤ 16383 * length xs = sum_most xs s.1 in
    omega arith

pub bat_is : (xs : List ℕ) → within 16383 xs ≡ true → length xs ≤ 15 → bat_of (total xs) ≡ total xs / 4
bat_is xs h n = let s : total xs ≤ 16383 * length xs = sum_most xs h in omega arith
