-- The over-current ticks by doubling are those of the list in CHIP J7, at every code: one computed test each. Assumes nothing.
use Rattle.std.specs.Prelude.{◌≡◌, refl, Bool, true, false, ◌&&◌, ℕ, zero, suc, ◌*◌, ◌%◌, ◌^◌, ◌<◌, eqb, ltb, get_or}
use Rattle.std.proofs.Common.{arith, eqb-true, ltb-true, ltb-false}
use Rattle.bits.specs.BoolLaws.{and_left, and_right}
use Rattle.events.specs.declared.Fault.TheVariants.{Ocd}
use Rattle.limits.specs.Rule.{ocd_ticks, delay_table}

-- a test that holds below n holds at each k below n
abbrev pub below : ℕ → (ℕ → Bool) → Bool
below zero f = true
below (suc n) f = f n && below n f

pub at_each : (n : ℕ) (f : ℕ → Bool) → below n f ≡ true → (k : ℕ) → k < n → f k ≡ true
at_each zero f e k h = absurd (omega arith)
at_each (suc n) f e k h = by (ltb k n) refl (λ l. at_each n f (and_right (f n) (below n f) e) k l)
  where
    by : (t : Bool) → ltb k n ≡ t → (k < n → f k ≡ true) → f k ≡ true
    by true q less = less (ltb-true k n q)
    by false q less =
        let w : k ≡ n = omega (arith, ltb-false k n q) in
        rw w (and_left (f n) (below n f) e)

-- the list
pub ticks_are : (k : ℕ) → k < 8 → ocd_ticks k ≡ get_or (delay_table Ocd) k 0
ticks_are k h = eqb-true _ _ (at_each 8 (λ k. eqb (ocd_ticks k) (get_or (delay_table Ocd) k 0)) refl k h)

-- the shift
pub shift_is : (k : ℕ) → k < 7 → 640 * 2 ^ k % 65536 ≡ ocd_ticks (suc k)
shift_is k h = eqb-true _ _ (at_each 7 (λ k. eqb (640 * 2 ^ k % 65536) (ocd_ticks (suc k))) refl k h)
