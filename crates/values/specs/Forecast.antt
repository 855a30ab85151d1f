-- CHIP V10, the reading: least, greatest and total cell µV, and CC. Assumes nothing.
use Rattle.std.specs.Prelude.{ℕ, List, [], ◌∷◌, map, ℤ, pos, ◌+ℤ◌, get_or, take}
use Rattle.std.specs.Int.{int_min, int_max}
use Rattle.values.specs.Values.{cell_microvolts, cc_hundredths}
use Rattle.values.specs.Double.{IsDouble}
use Rattle.values.specs.declared.Reading.{Reading}

abbrev pub lesser : ℤ → ℤ → ℤ
lesser a b = int_min a b

abbrev pub greater : ℤ → ℤ → ℤ
greater a b = int_max a b

unfoldable pub fold : (ℤ → ℤ → ℤ) → ℤ → List ℤ → ℤ
fold f z [] = z
fold f z (v ∷ l) = fold f (f z v) l

-- the cells' voltages, of their counts
abbrev pub voltages : ℕ → ℕ → List ℕ → List ℤ
voltages code offset counts = map (cell_microvolts code offset) counts

-- the first place's voltage, from which the least and the greatest are sought; with no cell at all both are this
abbrev pub first_of : ℕ → ℕ → List ℕ → ℤ
first_of code offset counts = cell_microvolts code offset (get_or counts 0 0)

-- the least, the greatest and the total of the first `many` places
abbrev pub least_of : ℕ → ℕ → ℕ → List ℕ → ℤ
least_of code offset many counts = fold lesser (first_of code offset counts) (voltages code offset (take many counts))

abbrev pub greatest_of : ℕ → ℕ → ℕ → List ℕ → ℤ
greatest_of code offset many counts = fold greater (first_of code offset counts) (voltages code offset (take many counts))

abbrev pub total_of : ℕ → ℕ → ℕ → List ℕ → ℤ
total_of code offset many counts = fold ◌+ℤ◌ (pos 0) (voltages code offset (take many counts))

-- a reading: each double equal to the whole number
pub record IsReading (code offset many : ℕ) (counts : List ℕ) (cc : ℕ) (r : Reading) : Type 0 where
  pub least : IsDouble r.least (least_of code offset many counts)
  pub greatest : IsDouble r.greatest (greatest_of code offset many counts)
  pub total : IsDouble r.total (total_of code offset many counts)
  pub current : IsDouble r.cc (cc_hundredths cc)
