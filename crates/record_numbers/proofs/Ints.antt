-- Signed values as the code tests and casts them. Assumes nothing.
use mathlib.Core.Path.{◌≡◌, refl, sym, ap, subst, ◌∙◌}
use mathlib.Core.Bool.{Bool, true, false}
use mathlib.Core.List.{List}
use Prim.Native.Nat.{ℕ, ◌^◌, ◌<◌}
use native.Mathlib.Omega.{arith}
use lib.Dec.{T}
use lib.IntN.{ℤ, pos, negsuc, nat_abs}
use lib.ListN.{get_or}
use lib.Signed.{mag, lt_z, non_neg}
use mir.Syntax.{w64}
use mir.Val.{Fits, SFits, to_z, of_z}
use mir.Facts.{to_z-of_z}
use borrow.Author.Tests.{ltb-true}
use Rattle.record_numbers.specs.Values.{nat_of, nat_at}

-- a value that was read, from its bits
pub same : (z : ℤ) → mag z < 2 ^ 63 → to_z w64 (of_z w64 z) ≡ z
same z h = to_z-of_z {w = w64} (record { sfits = h })

-- ── below 0, and not ──
module _ (v : ℤ) (f : SFits w64 v) where
  tested : {t : Bool} → lt_z (to_z w64 (of_z w64 v)) (to_z w64 (of_z w64 (pos 0))) ≡ t → lt_z v (pos 0) ≡ t
  tested e = ap (λ (z : ℤ). lt_z z (pos 0)) (sym (to_z-of_z {w = w64} f)) ∙ e

  pub nat_below : lt_z (to_z w64 (of_z w64 v)) (to_z w64 (of_z w64 (pos 0))) ≡ true → 9223372036854775808 ≡ nat_of v
  nat_below e = go v (tested e)
    where
      go : (v : ℤ) → lt_z v (pos 0) ≡ true → 9223372036854775808 ≡ nat_of v
      go (pos n) e = absurd (omega (arith, ltb-true n 0 e))
      go (negsuc n) e = refl

  pub nat_fits : lt_z (to_z w64 (of_z w64 v)) (to_z w64 (of_z w64 (pos 0))) ≡ false → T (non_neg (to_z w64 (of_z w64 v))) × Fits w64 (nat_abs (to_z w64 (of_z w64 v)))
  nat_fits e = subst (λ (z : ℤ). T (non_neg z) × Fits w64 (nat_abs z)) (sym (to_z-of_z {w = w64} f)) (go v f (tested e))
    where
      go : (v : ℤ) → SFits w64 v → lt_z v (pos 0) ≡ false → T (non_neg v) × Fits w64 (nat_abs v)
      go (pos n) f e = (tt, record { fits = omega (arith, f.sfits) })
      go (negsuc n) f e = absurd (subst T e tt)

  pub nat_is : lt_z (to_z w64 (of_z w64 v)) (to_z w64 (of_z w64 (pos 0))) ≡ false → nat_abs (to_z w64 (of_z w64 v)) ≡ nat_of v
  nat_is e = ap nat_abs (to_z-of_z {w = w64} f) ∙ go v (tested e)
    where
      go : (v : ℤ) → lt_z v (pos 0) ≡ false → nat_abs v ≡ nat_of v
      go (pos n) e = refl
      go (negsuc n) e = absurd (subst T e tt)

-- a value as the code reads it
abbrev pub bits_at : List ℤ → ℕ → ℤ
bits_at vs i = to_z w64 (of_z w64 (get_or vs i (pos 0)))

pub nat_at_lem : (vs : List ℤ) (i n : ℕ) → mag (get_or vs i (pos 0)) < 2 ^ 63 → n ≡ nat_of (bits_at vs i) → n ≡ nat_at vs i
nat_at_lem vs i n g e = e ∙ ap nat_of (same (get_or vs i (pos 0)) g)
