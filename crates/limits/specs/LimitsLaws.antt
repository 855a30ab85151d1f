-- CHIP J6: the tables of thresholds against each other and against themselves, each one computed test over all codes: they grow with the
-- code, the row of RSNS 1 lies this far from twice the row of RSNS 0, and the rows of RSNS 0 come to these sums. Assumes nothing.
use Rattle.std.specs.Prelude.{◌≡◌, refl, Bool, true, false, List, [], ◌∷◌, ℕ, ◌*◌, ℤ, pos, neg_ℤ, ◌+ℤ◌}
use Rattle.constants.specs.ApartLaws.{rising, sum}
use Rattle.limits.specs.Rule.{scd_limit, ocd_limit}

pub limits_rise : (rsns : Bool) → (rising 0 (scd_limit rsns) ≡ true) × (rising 0 (ocd_limit rsns) ≡ true)
limits_rise false = (refl, refl)
limits_rise true = (refl, refl)

abbrev pub minus : ℕ → ℤ
minus n = neg_ℤ (pos n)

-- code by code, in µV
abbrev pub past_twice : List ℕ → List ℕ → List ℤ
past_twice [] ys = []
past_twice (x ∷ xs) [] = []
past_twice (x ∷ xs) (y ∷ ys) = (pos y +ℤ minus (2 * x)) ∷ past_twice xs ys

pub scd_twice : past_twice (scd_limit false) (scd_limit true)
    ≡ (pos 0 ∷ pos 1000 ∷ pos 500 ∷ pos 0 ∷ pos 1000 ∷ pos 0 ∷ pos 0 ∷ minus 500 ∷ [])
scd_twice = refl

pub ocd_twice : past_twice (ocd_limit false) (ocd_limit true)
    ≡ (minus 500 ∷ minus 500 ∷ minus 500 ∷ minus 500 ∷ minus 500 ∷ minus 500 ∷ minus 500 ∷ pos 500
    ∷ minus 500 ∷ minus 1000 ∷ minus 500 ∷ minus 500 ∷ minus 500 ∷ minus 500 ∷ minus 1500 ∷ minus 2000 ∷ [])
ocd_twice = refl

pub limits_sum : (sum (scd_limit false) ≡ 434500) × (sum (ocd_limit false) ≡ 470000)
limits_sum = (refl, refl)
