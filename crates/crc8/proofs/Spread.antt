-- A remainder times x^2 + x + 1, twice, is the remainder times x^8: one computed test over all bytes. Assumes nothing.
use mathlib.Core.Path.{◌≡◌, refl, ap, sym, ◌∙◌}
use mathlib.Core.Logic.{◌≢◌}
use mathlib.Core.Bool.{Bool, true, false, ◌&&◌, and-eq-true_iff}
use Prim.Native.Nat.{ℕ, zero, suc, ◌/◌, ◌%◌, ◌<◌}
use native.Mathlib.Omega.{arith}
use lib.Bits.{bit_xor}
use lib.Dec.{eqb}
use borrow.Author.Tests.{eqb-true, eqb-false}
use Rattle.crc8.specs.Crc.{by_seven, turns}

abbrev pub spread : ℕ → ℕ
spread x = bit_xor (by_seven x % 256) (by_seven (by_seven x / 256 % 4)) % 256

abbrev agrees : ℕ → Bool
agrees zero = true
agrees (suc n) = eqb (spread n) (turns n) && agrees n

all_agree : agrees 256 ≡ true
all_agree = refl

-- the last byte of the test, or an earlier one
at_last : (n x : ℕ) (t : Bool) → eqb x n ≡ t → eqb (spread n) (turns n) ≡ true → (x ≢ n → spread x ≡ turns x) → spread x ≡ turns x
at_last n x true e a f = let q : x ≡ n = eqb-true x n e in ap spread q ∙ eqb-true (spread n) (turns n) a ∙ ap turns (sym q)
at_last n x false e a f = f (eqb-false x n e)

find : (n x : ℕ) → x < n → agrees n ≡ true → spread x ≡ turns x
find zero x h a = absurd (omega arith)
find (suc n) x h a =
    at_last n x (eqb x n) refl ((and-eq-true_iff (eqb (spread n) (turns n)) (agrees n)).0 a).0 (λ d. find n x (omega (arith, d)) ((and-eq-true_iff (eqb (spread n) (turns n)) (agrees n)).0 a).1)

pub spread_is : (x : ℕ) → x < 256 → spread x ≡ turns x
spread_is x h = find 256 x h all_agree
