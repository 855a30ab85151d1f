-- Counts that fit are as many as wanted, with 0 after them. Assumes nothing.
use Rattle.std.specs.Prelude.{◌≡◌, refl, ℕ, Bool, true, false, ◌&&◌, eqb, drop}
use Rattle.std.proofs.Common.{arith, eqb-true}
use Rattle.bits.specs.Numbers.{within}
use Rattle.events.specs.Event.{counts_fit}
use Rattle.events.specs.declared.Counts.{Counts}

fit_by : (n : ℕ) (k : Counts) (t : Bool) → eqb k.many n ≡ t → t && within 0 (drop n k.of) ≡ true
    → (k.many ≡ n) × (within 0 (drop n k.of) ≡ true)
fit_by n k true e h = (eqb-true _ _ e, h)
fit_by n k false e h = absurd (let z : ◌≡◌ {A = ℕ} 0 1 = cc in omega arith)

pub fit_is : (n : ℕ) (k : Counts) → counts_fit n k ≡ true → (k.many ≡ n) × (within 0 (drop n k.of) ≡ true)
unfolding counts_fit
fit_is n k h = fit_by n k (eqb k.many n) refl h
