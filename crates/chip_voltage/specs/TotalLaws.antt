-- The total of the connected cells is gain times the sum of their counts, and the offset once a cell. Assumes nothing.
use Rattle.std.specs.Prelude.{◌≡◌, refl, List, [], ◌∷◌, ℕ, ◌+◌, ◌*◌, pos, ◌+ℤ◌, ◌*ℤ◌, length, take}
use Rattle.std.proofs.Common.{sym, ap, ◌∙◌, arith, take_all}
use Rattle.cell_counts.specs.Scan.{total}
use Rattle.values.specs.Values.{gain, offset_microvolts}
use Rattle.values.specs.Forecast.{total_of}
use Rattle.values.specs.Laws.{sum_of, total_is}
use Rattle.values.specs.Values.{microvolts_by}

sums : (l : List ℕ) → sum_of l ≡ total l
sums [] = refl
sums (x ∷ l) = ap (λ (n : ℕ). x + n) (sums l)

pub total_by : (code offset : ℕ) (l : List ℕ) → microvolts_by code offset (length l) (total l) ≡ total_of code offset (length l) l
total_by code offset l =
    let e : take (length l) l ≡ l = take_all (length l) l (omega arith) in
    sym
    (total_is code offset (length l) l
    ∙ ap (λ (m : List ℕ). pos (gain code * sum_of m) +ℤ pos (length m) *ℤ offset_microvolts offset) e
    ∙ ap (λ (n : ℕ). pos (gain code * n) +ℤ pos (length l) *ℤ offset_microvolts offset) (sums l))
