-- Inputs taken upward: each is such and within the range, each is above the one before, and none that is such is left out. Assumes nothing.
use Rattle.std.specs.Prelude.{◌≡◌, refl, Bool, true, false, cond, List, ◌∷◌, ℕ, zero, suc, ◌+◌, ◌<◌, ◌≤◌, eqb, length, get_or}
use Rattle.std.proofs.Common.{sym, ap, ◌∙◌, true≢false, arith, eqb-true}
use Rattle.std.proofs.lemmas.Bool.{eqb-false}
use Rattle.wiring.specs.Rows.{upward}

module _ (such : ℕ → Bool) where
  -- what stands at a place
  pub record Stands (i k x : ℕ) : Type 0 where
    pub from : i ≤ x
    pub below : x < i + k
    pub is : such x ≡ true

  later : (i k x : ℕ) → Stands (suc i) k x → Stands i (suc k) x
  later i k x s = record { from = omega (arith, s.from); below = omega (arith, s.below); is = s.is }

  abbrev Stand : ℕ → ℕ → List ℕ → Type 0
  Stand i k l = (j : ℕ) → j < length l → Stands i k (get_or l j 0)

  stands_by : (i k : ℕ) (l : List ℕ) → Stand (suc i) k l → (t : Bool) → such i ≡ t → Stand i (suc k) (cond t (i ∷ l) l)
  stands_by i k l ih true e zero h = record { from = omega arith; below = omega arith; is = e }
  stands_by i k l ih true e (suc j) h = later i k _ (ih j (omega arith))
  stands_by i k l ih false e j h = later i k _ (ih j h)

  pub stands : (i k : ℕ) → Stand i k (upward such i k)
  stands i zero j h = absurd (omega arith)
  stands i (suc k) j h = stands_by i k (upward such (suc i) k) (λ j h. stands (suc i) k j h) (such i) refl j h

  -- each is above those before it
  abbrev Climb : List ℕ → Type 0
  Climb l = (m n : ℕ) → m < n → n < length l → get_or l m 0 < get_or l n 0

  climbs_by : (i k : ℕ) (l : List ℕ) → Stand (suc i) k l → Climb l → (t : Bool) → Climb (cond t (i ∷ l) l)
  climbs_by i k l s ih true m zero g h = absurd (omega arith)
  climbs_by i k l s ih true zero (suc n) g h = omega (arith, (s n (omega arith)).from)
  climbs_by i k l s ih true (suc m) (suc n) g h = ih m n (omega arith) (omega arith)
  climbs_by i k l s ih false m n g h = ih m n g h

  pub climbs : (i k : ℕ) → Climb (upward such i k)
  climbs i zero m n g h = absurd (omega arith)
  climbs i (suc k) m n g h = climbs_by i k (upward such (suc i) k) (stands (suc i) k) (λ m n g h. climbs (suc i) k m n g h) (such i) m n g h

  -- one that is such has a place
  pub record Found (l : List ℕ) (x : ℕ) : Type 0 where
    pub place : ℕ
    pub there : place < length l
    pub found : get_or l place 0 ≡ x

  finds_by : (i k x : ℕ) (l : List ℕ) → Stands i (suc k) x → (Stands (suc i) k x → Found l x) → (t b : Bool) → such i ≡ t → eqb x i ≡ b
      → Found (cond t (i ∷ l) l) x
  finds_by i k x l s ih true true e q = record { place = 0; there = omega arith; found = sym (eqb-true x i q) }
  finds_by i k x l s ih false true e q = absurd (true≢false (sym s.is ∙ ap such (eqb-true x i q) ∙ e))
  finds_by i k x l s ih t false e q = on t (ih (record { from = above (eqb-false x i q); below = omega (arith, s.below); is = s.is }))
    where
      above : (x ≡ i → ⊥) → suc i ≤ x
      above n = omega (arith, n, s.from)

      on : (t : Bool) → Found l x → Found (cond t (i ∷ l) l) x
      on true f = record { place = suc f.place; there = omega (arith, f.there); found = f.found }
      on false f = f

  pub finds : (i k x : ℕ) → Stands i k x → Found (upward such i k) x
  finds i zero x s = absurd (omega (arith, s.from, s.below))
  finds i (suc k) x s = finds_by i k x (upward such (suc i) k) s (λ s. finds (suc i) k x s) (such i) (eqb x i) refl refl
