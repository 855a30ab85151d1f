-- SENSE's range by the sign of its value: both ends of ±500,000 are taken. Assumes nothing.
use Rattle.std.specs.Prelude.{◌≡◌, refl, ℕ, zero, suc, ◌-◌, ◌<◌, ◌≤◌, not, ltb, pos, negsuc}
use Rattle.std.proofs.Math.Bool.{and-true}
use Rattle.std.proofs.Common.{lt-ltb, le-ltb}
use Rattle.events.specs.Event.{sense_most, sense_fits}
use Rattle.bits.specs.Numbers.{signed32}

pub fits_pos : (n : ℕ) → sense_fits (pos n) ≡ not (ltb sense_most n)
fits_pos zero = refl
fits_pos (suc n) = and-true (not (ltb sense_most (suc n)))

pub fits_neg : (n : ℕ) → sense_fits (negsuc n) ≡ not (ltb sense_most (suc n))
fits_neg n = refl

-- the value that 32 bits hold, by its sign
pub as_pos : (u : ℕ) → u < 2147483648 → signed32 u ≡ pos u
as_pos u h = simp (lt-ltb u 2147483648 h)

pub as_neg : (u : ℕ) → 2147483648 ≤ u → signed32 u ≡ negsuc (4294967295 - u)
as_neg u h = simp (le-ltb u 2147483648 h)
