-- The double of a whole number of at most 2 ^ 53 is that number. Assumes nothing.
use mathlib.Core.Path.{◌≡◌, refl, subst}
use mathlib.Core.Bool.{true, false}
use Prim.Native.Nat.{suc, ◌^◌, ◌≤◌}
use lib.IntN.{ℤ, pos, negsuc, nat_abs}
use lib.Ieee.{Float, binary64, of_int}
use lib.Ieee.Back.{round_whole}
use Rattle.values.specs.Double.{Equals, IsDouble}

equals : (z : ℤ) → nat_abs z ≤ 2 ^ 53 → Equals (of_int binary64 z) z
unfolding of_int
equals (pos n) h = round_whole binary64 false n h
equals (negsuc n) h = round_whole binary64 true (suc n) h

-- what is cast is z
pub exact : {x z : ℤ} → x ≡ z → nat_abs z ≤ 2 ^ 53 → IsDouble (of_int binary64 x) z
exact {x} {z} e h = rw e (record { nearest = refl; equals = equals z h })

pub moved : {x : Float} {y z : ℤ} → IsDouble x y → y ≡ z → IsDouble x z
moved {x} d e = subst (IsDouble x) e d
