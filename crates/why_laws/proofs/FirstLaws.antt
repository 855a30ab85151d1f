-- CHIP P17: the record of the first of the verdicts that made a bit due: the last one, up to the rise, before which the streak was no
-- longer than what may stand before it. The words stand in specs/FirstLaws. Assumes nothing.
use Rattle.std.specs.Prelude.{◌≡◌, Bool, true, false, List, leb}
use Rattle.std.proofs.Math.Path.{refl, ap}
use Rattle.std.proofs.Common.{sym, subst, ◌∙◌, arith, leb-true, leb-false}
use Rattle.std.proofs.Math.Bool.{cond}
use Prim.Native.Nat.{ℕ, zero, suc, ◌<◌, ◌≤◌}
use Rattle.why_walk.specs.declared.Standing.{Standing}
use Rattle.why_walk.specs.Standing.{advanced, standing_at}
use Rattle.why.specs.Rise.{searched_on, searched}
use Rattle.why_laws.specs.FirstLaws.{streak_at, FirstOf}

module _ (s : List ℕ) (b least : ℕ) where
  place_is : (n : ℕ) → (searched s b least n).place ≡ standing_at s b n
  unfolding searched_on
  place_is zero = refl
  place_is (suc n) = ap (advanced s b) (place_is n)

  next_is : (n : ℕ) (t : Bool) → leb (streak_at s b least n) least ≡ t
      → (searched s b least (suc n)).first ≡ cond t n (searched s b least n).first
  unfolding searched_on
  next_is n t e =
      ap (λ (g : Standing). cond (leb g.streak least) n (searched s b least n).first) (place_is n)
      ∙ ap (λ (t : Bool). cond t n (searched s b least n).first) e

  later : (n m : ℕ) (t : Bool) → leb m n ≡ t → m ≤ suc n → (m ≤ n → least < streak_at s b least m) → least < streak_at s b least (suc n)
      → least < streak_at s b least m
  later n m true e h i j = i (leb-true m n e)
  later n m false e h i j =
      subst (λ (k : ℕ). least < streak_at s b least k) (let q : suc n ≡ m = omega (arith, h, leb-false m n e) in q) j

  first_by : (n : ℕ) (t : Bool) → leb (streak_at s b least (suc n)) least ≡ t → FirstOf s b least n (searched s b least (suc n)).first
      → FirstOf s b least (suc n) (searched s b least (suc (suc n))).first
  first_by n true e g =
      subst (FirstOf s b least (suc n)) (sym (next_is (suc n) true e))
      (record {
        not_after = omega arith;
        short_before = leb-true (streak_at s b least (suc n)) least e;
        long_after = λ m x y. absurd (omega (arith, x, y));
      })
  first_by n false e g =
      subst (FirstOf s b least (suc n)) (sym (next_is (suc n) false e))
      (record {
        not_after = omega (arith, g.not_after);
        short_before = g.short_before;
        long_after = λ m x y. later n m (leb m n) refl y (λ z. g.long_after m x z) (leb-false (streak_at s b least (suc n)) least e);
      })

  first_none : (t : Bool) → leb 0 least ≡ t → FirstOf s b least 0 (searched s b least 1).first
  first_none true e =
      subst (FirstOf s b least 0) (sym (next_is 0 true e))
      (record { not_after = omega arith; short_before = omega arith; long_after = λ m x y. absurd (omega (arith, x, y)) })
  first_none false e = absurd (omega (arith, leb-false 0 least e))

  pub first_is : (i : ℕ) → FirstOf s b least i (searched s b least (suc i)).first
  first_is zero = first_none (leb 0 least) refl
  first_is (suc n) = first_by n (leb (streak_at s b least (suc n)) least) refl (first_is n)
