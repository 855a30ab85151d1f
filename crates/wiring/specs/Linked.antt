-- CHIP W7: connected inputs by whether there is a wiring record, a pack's cell that converts, and the bits of what is connected. The
-- laws stand in proofs/LinkedLaws. Assumes nothing.
use Rattle.std.specs.Prelude.{Bool, cond, List, [], ◌∷◌, ℕ, ◌-◌, leb}
use Rattle.std.specs.Prelude.{get_or}

abbrev pub above_floor : ℕ → List ℕ → ℕ → Bool
above_floor floor xs i = leb floor (get_or xs (i - 1) 0)

abbrev pub those : (ℕ → Bool) → List ℕ → List ℕ
those p [] = []
those p (x ∷ xs) = cond (p x) (x ∷ those p xs) (those p xs)
