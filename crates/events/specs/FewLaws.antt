-- No setup has more than three groups of inputs, or fifteen inputs. Assumes nothing.
use Rattle.std.specs.Prelude.{◌≡◌, refl, Bool, true, false, cond, ◌*◌, ◌≤◌, ltb}
use Rattle.std.proofs.Common.{arith, ltb-true}
use Rattle.events.specs.declared.Setup.{Setup}
use Rattle.events.specs.Setup.{groups, inputs}

pub few_groups : (u : Setup) → groups u ≤ 3
unfolding groups
few_groups u = by (ltb u.part 3) refl
  where
    by : (t : Bool) → ltb u.part 3 ≡ t → cond t u.part 3 ≤ 3
    by true e = omega (arith, ltb-true u.part 3 e)
    by false e = omega arith

pub few_inputs : (u : Setup) → inputs u ≤ 15
unfolding inputs
few_inputs u = by (ltb u.part 3) refl
  where
    by : (t : Bool) → ltb u.part 3 ≡ t → cond t (5 * u.part) 15 ≤ 15
    by true e = omega (arith, ltb-true u.part 3 e)
    by false e = omega arith
