-- A value of 32 bits, made wider. Assumes nothing.
use mathlib.Core.Path.{◌≡◌, sym, subst, ◌∙◌}
use lib.IntN.{ℤ}
use mir.Syntax.{w32, w64}
use mir.Val.{SFits, to_z, of_z}
use mir.Facts.{to_z-of_z, sfits_widen}

module _ (z : ℤ) (f : SFits w32 z) where
  pub wide_fits : SFits w64 (to_z w32 (of_z w32 z))
  wide_fits = subst (SFits w64) (sym (to_z-of_z {w = w32} f)) (sfits_widen tt f)

  pub wide_is : to_z w64 (of_z w64 (to_z w32 (of_z w32 z))) ≡ z
  wide_is = to_z-of_z {w = w64} wide_fits ∙ to_z-of_z {w = w32} f
