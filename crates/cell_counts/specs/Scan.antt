-- CHIP J1 to J3: what one look over the counts of a scan finds. Assumes nothing.
use Rattle.std.specs.Prelude.{Bool, false, ◌&&◌, ◌||◌, List, [], ◌∷◌, ℕ, zero, suc, ◌+◌, leb, ltb}
use Rattle.cell_counts.specs.declared.Looked.{Looked}

-- the sum of the counts
abbrev pub total : List ℕ → ℕ
total [] = 0
total (x ∷ xs) = x + total xs

-- some count is such
abbrev pub some : (ℕ → Bool) → List ℕ → Bool
some p [] = false
some p (x ∷ xs) = p x || some p xs

-- over (CHIP J2)
abbrev pub some_above : ℕ → List ℕ → Bool
some_above line xs = some (λ x. ltb line x) xs

-- under (CHIP J3)
abbrev pub some_between : ℕ → ℕ → List ℕ → Bool
some_between floor line xs = some (λ x. leb floor x && ltb x line) xs

-- k places: the counts, then 0 for each input that the part lacks
abbrev pub padded : ℕ → List ℕ → List ℕ
padded zero xs = []
padded (suc k) [] = 0 ∷ padded k []
padded (suc k) (x ∷ xs) = x ∷ padded k xs

-- the registers have places for 15 cells and 3 thermistors
abbrev pub cell_places : ℕ
cell_places = 15

abbrev pub ts_places : ℕ
ts_places = 3

unfoldable pub looked_at : ℕ → ℕ → ℕ → List ℕ → Looked
looked_at most floor least xs =
    record { cells = padded cell_places xs; sum = total xs; over = some_above most xs; under = some_between floor least xs }
