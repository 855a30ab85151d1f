-- CHIP E2 is by CHIP W7: of a chip, the bit of an input is up exactly where the part has the input and it is
-- connected. Inputs are counted from 0, as bleed has them. Assumes nothing.
use Rattle.std.specs.Prelude.{◌≡◌, Bool, true, false, ◌&&◌, cond, ℕ, zero, suc, ◌+◌, ◌*◌, ◌/◌, ◌%◌, ◌^◌, ◌<◌, eqb, leb}
use Rattle.std.specs.Prelude.{ltb, get_or}
use Rattle.std.proofs.Common.{sym, ap, ap₂, ◌∙◌, arith, lt-ltb, le-ltb}
use Rattle.std.proofs.Math.Nat.{div-div-eq-div-mul, pow-succ', zero-div}
use Rattle.std.proofs.Math.Dec.{leb-suc-suc}
use Rattle.events.specs.Setup.{inputs}
use Rattle.bits.specs.Bit.{bit}
use Rattle.wiring.specs.Rows.{bits, connected, linked_bits}
use Rattle.bleed.proofs.Excess.{weight_is}
use Rattle.bleed.specs.Excess.{linked_at, may_bleed}
use Rattle.chip.specs.declared.Chip.{Chip}
use Rattle.chip_voltage.specs.Care.{cells_of, linked_of}

-- ── the bits of a number of bits ──
halved : (t : Bool) (r : ℕ) → (cond t 1 0 + 2 * r) / 2 ≡ r
halved true r = omega arith
halved false r = omega arith

lowest_bit : (t : Bool) (r : ℕ) → bit (cond t 1 0 + 2 * r) 1 ≡ t
lowest_bit true r = let e : (1 + 2 * r) / 1 % 2 ≡ 1 = omega arith in ap (λ (x : ℕ). eqb x 1) e
lowest_bit false r = let e : (0 + 2 * r) / 1 % 2 ≡ 0 = omega arith in ap (λ (x : ℕ). eqb x 1) e

higher_bit : (t : Bool) (r i : ℕ) → bit (cond t 1 0 + 2 * r) (2 ^ suc i) ≡ bit r (2 ^ i)
higher_bit t r i =
    ap (λ (w : ℕ). bit (cond t 1 0 + 2 * r) w) (pow-succ' 2 i)
    ∙ ap (λ (x : ℕ). eqb (x % 2) 1) (sym (div-div-eq-div-mul (cond t 1 0 + 2 * r) 2 (2 ^ i)) ∙ ap (λ (x : ℕ). x / 2 ^ i) (halved t r))

bit_is : (such : ℕ → Bool) (j k i : ℕ) → bit (bits such j k) (2 ^ i) ≡ ltb i k && such (i + j)
bit_is such j zero i =
    ap (λ (x : ℕ). eqb (x % 2) 1) (zero-div (2 ^ i)) ∙ ap (λ (t : Bool). t && such (i + j)) (sym (le-ltb i 0 (omega arith)))
bit_is such j (suc k) zero =
    let e : j ≡ 0 + j = omega arith in
    lowest_bit (such j) (bits such (suc j) k) ∙ ap₂ (λ (t : Bool) (n : ℕ). t && such n) (sym (lt-ltb 0 (suc k) (omega arith))) e
bit_is such j (suc k) (suc i) =
    let e : i + suc j ≡ suc i + j = omega arith in
    higher_bit (such j) (bits such (suc j) k) i ∙ bit_is such (suc j) k i
    ∙ ap₂ (λ (t : Bool) (n : ℕ). t && such n) (sym (leb-suc-suc (suc i) k)) e

-- ── of a chip ──
pub linked_is : (c : Chip) (i : ℕ) → i < 15
    → linked_at (linked_of c) i ≡ ltb i (inputs c.setup) && connected c.setup (cells_of c) (i + 1)
unfolding linked_at linked_bits
linked_is c i h = ap (λ (w : ℕ). bit (linked_of c) w) (weight_is i h) ∙ bit_is (connected c.setup (cells_of c)) 1 (inputs c.setup) i

-- who may be bled: an input of the part that is connected and at least the margin above the lowest
pub bled_is : (c : Chip) (low margin i : ℕ) → i < 15
    → may_bleed (cells_of c) (linked_of c) low margin i
    ≡ ltb i (inputs c.setup) && connected c.setup (cells_of c) (i + 1) && leb (low + margin) (get_or (cells_of c) i 0)
bled_is c low margin i h = ap (λ (t : Bool). t && leb (low + margin) (get_or (cells_of c) i 0)) (linked_is c i h)
