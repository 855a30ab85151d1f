-- Of numbers in a row those whose bit is set, and that these are what the inputs that have a cell hold. The laws stand in proofs/Kept.
-- Assumes nothing.
use Rattle.std.specs.Prelude.{cond, List, [], ◌∷◌, map, ℕ, ◌-◌, ◌/◌, ◌%◌}
use Rattle.std.specs.Prelude.{eqb, length, get_or}
use Rattle.events.specs.declared.Counts.{Counts}
use Rattle.cell_counts.specs.Scan.{padded, cell_places}

-- the lowest bit is the first number's
abbrev pub kept : ℕ → List ℕ → List ℕ
kept m [] = []
kept m (x ∷ xs) = cond (eqb (m % 2) 1) (x ∷ kept (m / 2) xs) (kept (m / 2) xs)

-- so many, and 0 in every place after them
abbrev pub counts_of : List ℕ → Counts
counts_of xs = record { many = length xs; of = padded cell_places xs }

-- what inputs hold, of what each input holds
abbrev pub picked : List ℕ → List ℕ → List ℕ
picked xs is = map (λ (i : ℕ). get_or xs (i - 1) 0) is
