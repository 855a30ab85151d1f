-- How far a tick's value lies below 0, and that it lies further than a threshold where minus the value exceeds it. Assumes nothing.
use Rattle.std.specs.Prelude.{◌≡◌, refl, ℕ, zero, suc, ltb, ℤ, pos, negsuc, neg_ℤ}
use Rattle.std.proofs.Common.{arith, le-ltb}
use Rattle.std.specs.Int.Signed.{lt_z}

abbrev pub sag : ℤ → ℕ
sag (pos n) = 0
sag (negsuc n) = suc n

pub exceeds : (limit : ℕ) (v : ℤ) → ltb limit (sag v) ≡ lt_z (pos limit) (neg_ℤ v)
exceeds limit (pos zero) = refl
exceeds limit (pos (suc n)) = le-ltb limit 0 (omega arith)
exceeds limit (negsuc n) = refl
