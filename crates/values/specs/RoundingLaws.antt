-- What a threshold's full count means: the greatest count whose voltage, by the cells' own formula, is not above the wanted one. Assumes
-- nothing.
use Rattle.std.specs.Prelude.{◌≡◌, refl, ℕ, suc, ◌+◌, ◌-◌, ◌*◌, ◌/◌, ◌<◌, ◌≤◌, T, ltb, ℤ, pos, negsuc, ◌+ℤ◌, ◌-ℤ◌, ◌≤ℤ◌, ◌<ℤ◌}
use Rattle.std.proofs.Common.{sym, ap, subst, ◌∙◌, arith, ltb→lt, nltb→le, le→leb, lt→ltb}
use Rattle.std.proofs.Math.Nat.{mul-div-le, lt-mul-div-succ}
use Rattle.std.proofs.Math.IntN.{sub_ℕ, -ℤ-+ℤ_cancel}
use Rattle.std.specs.Int.Signed.{lt_z, le_z}
use Rattle.values.specs.Laws.{pick}
use Rattle.values.specs.Values.{gain, cell_microvolts, offset_microvolts, full, floor}

-- ---- the same number more on both sides keeps the order

sub_le : (a b k : ℕ) → a ≤ b → T (le_z (sub_ℕ a k) (sub_ℕ b k))
sub_le a b k h =
    pick (ltb a k) (λ z. T (le_z z (sub_ℕ b k))) (negsuc (k - suc a)) (pos (a - k))
    (λ t. pick (ltb b k) (λ z. T (le_z (negsuc (k - suc a)) z)) (negsuc (k - suc b)) (pos (b - k))
    (λ u. le→leb (k - suc b) (k - suc a) (omega (arith, ltb→lt a k t, ltb→lt b k u)))
    (λ u. tt))
    (λ t. pick (ltb b k) (λ z. T (le_z (pos (a - k)) z)) (negsuc (k - suc b)) (pos (b - k))
    (λ u. absurd (omega (arith, nltb→le a k t, ltb→lt b k u)))
    (λ u. le→leb (a - k) (b - k) (omega arith)))

sub_lt : (a b k : ℕ) → a < b → T (lt_z (sub_ℕ a k) (sub_ℕ b k))
sub_lt a b k h =
    pick (ltb a k) (λ z. T (lt_z z (sub_ℕ b k))) (negsuc (k - suc a)) (pos (a - k))
    (λ t. pick (ltb b k) (λ z. T (lt_z (negsuc (k - suc a)) z)) (negsuc (k - suc b)) (pos (b - k))
    (λ u. lt→ltb (k - suc b) (k - suc a) (omega (arith, ltb→lt a k t, ltb→lt b k u)))
    (λ u. tt))
    (λ t. pick (ltb b k) (λ z. T (lt_z (pos (a - k)) z)) (negsuc (k - suc b)) (pos (b - k))
    (λ u. absurd (omega (arith, nltb→le a k t, ltb→lt b k u)))
    (λ u. lt→ltb (a - k) (b - k) (omega (arith, nltb→le a k t))))

plus_le : (a b : ℕ) (z : ℤ) → a ≤ b → (pos a +ℤ z) ≤ℤ (pos b +ℤ z)
plus_le a b (pos k) h = record { le = le→leb (a + k) (b + k) (omega arith) }
plus_le a b (negsuc k) h = record { le = sub_le a b (suc k) h }

plus_lt : (a b : ℕ) (z : ℤ) → a < b → (pos a +ℤ z) <ℤ (pos b +ℤ z)
plus_lt a b (pos k) h = record { lt = lt→ltb (a + k) (b + k) (omega arith) }
plus_lt a b (negsuc k) h = record { lt = sub_lt a b (suc k) h }

-- ---- rounded down

-- a signed number whose quotient is n lies from n times the divisor up, and below n + 1 times it
record Down (z : ℤ) (g n : ℕ) : Type 0 where
  size : ℕ
  is : z ≡ pos size
  from : g * n ≤ size
  below : size < g * (n + 1)

down : (z : ℤ) (g n : ℕ) → 0 < g → floor z g ≡ pos n → Down z g n
down (pos m) g n h e =
    let q : m / g ≡ n = cc in
    record {
      size = m;
      is = refl;
      from = rw q at (mul-div-le m g);
      below = rw q at (lt-mul-div-succ m h);
    }
down (negsuc m) g n h e = let z : ◌≡◌ {A = ℕ} 0 1 = cc in absurd (omega arith)

module _ (code offset n : ℕ) (wanted : ℤ) (e : full code offset wanted ≡ pos n) where
  counted : Down (wanted -ℤ offset_microvolts offset) (gain code) n
  counted = down (wanted -ℤ offset_microvolts offset) (gain code) n (omega arith) e

  again : pos counted.size +ℤ offset_microvolts offset ≡ wanted
  again = ap (λ (z : ℤ). z +ℤ offset_microvolts offset) (sym counted.is) ∙ -ℤ-+ℤ_cancel wanted (offset_microvolts offset)

  pub full_not_above : cell_microvolts code offset n ≤ℤ wanted
  full_not_above =
      subst (λ (z : ℤ). cell_microvolts code offset n ≤ℤ z) again
      (plus_le (gain code * n) counted.size (offset_microvolts offset) counted.from)

  pub next_is_above : wanted <ℤ cell_microvolts code offset (n + 1)
  next_is_above =
      subst (λ (z : ℤ). z <ℤ cell_microvolts code offset (n + 1)) again
      (plus_lt counted.size (gain code * (n + 1)) (offset_microvolts offset) counted.below)
