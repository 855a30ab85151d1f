-- Minus a number of a byte. Assumes nothing.
use mathlib.Core.Path.{◌≡◌, ◌∙◌}
use Prim.Native.Nat.{ℕ, ◌≤◌}
use lib.IntN.{pos, neg_ℤ, ◌-ℤ◌, +ℤ_idl}
use mir.Syntax.{w64}
use mir.Val.{SFits, to_z, of_z}
use Rattle.values.proofs.Within.{lit, nat, minus, fits, back}

pub minus_fits : (n : ℕ) → n ≤ 255 → SFits w64 (pos 0 -ℤ to_z w64 n)
minus_fits n h = fits tt (minus (lit 0) (nat n 255 h tt))

pub minus_is : (n : ℕ) → n ≤ 255 → to_z w64 (of_z w64 (pos 0 -ℤ to_z w64 n)) ≡ neg_ℤ (pos n)
minus_is n h = (back tt (minus (lit 0) (nat n 255 h tt))).is ∙ +ℤ_idl (neg_ℤ (pos n))
