-- A reading of counts in fifteen places is one of the counts alone. Assumes nothing.
use Rattle.std.specs.Prelude.{◌≡◌, refl, Bool, true, false, cond, eqb, List, ℕ, ◌≤◌, ℤ, pos, ◌+ℤ◌, length, get_or, take}
use Rattle.std.proofs.Common.{sym, ap, ap₂, subst, ◌∙◌, eq-eqb, ne_eqb, arith}
use Rattle.std.proofs.Math.Seq.{take-length}
use Rattle.cell_counts.specs.Scan.{padded}
use Rattle.events.specs.declared.Counts.{Counts}
use Rattle.wiring.specs.Rows.{linked_inputs}
use Rattle.wiring.proofs.LinkedLaws.{few_linked}
use Rattle.wiring.specs.Kept.{counts_of}
use Rattle.wiring.proofs.Kept.{padded_at, take-padded, picked_many}
use Rattle.values.specs.Values.{cell_microvolts}
use Rattle.values.specs.Double.{IsDouble}
use Rattle.values.specs.Forecast.{IsReading, fold, lesser, greater, voltages}
use Rattle.values.specs.declared.Reading.{Reading}
use Rattle.chip.specs.declared.Chip.{Chip}
use Rattle.chip_voltage.specs.Voltage.{linked_counts, Reads, forecast_number}

module _ (code offset : ℕ) (xs : List ℕ) (few : length xs ≤ 15) where
  counts : take (length xs) (padded 15 xs) ≡ take (length xs) xs
  counts = take-padded 15 xs few ∙ sym (take-length xs)

  first : cell_microvolts code offset (get_or (padded 15 xs) 0 0) ≡ cell_microvolts code offset (get_or xs 0 0)
  first = ap (cell_microvolts code offset) (padded_at 15 xs 0 (omega arith))

  folded : (f : ℤ → ℤ → ℤ)
      → fold f (cell_microvolts code offset (get_or (padded 15 xs) 0 0)) (voltages code offset (take (length xs) (padded 15 xs)))
      ≡ fold f (cell_microvolts code offset (get_or xs 0 0)) (voltages code offset (take (length xs) xs))
  folded f =
      ap (λ (z : ℤ). fold f z (voltages code offset (take (length xs) (padded 15 xs)))) first
      ∙ ap (λ (l : List ℕ). fold f (cell_microvolts code offset (get_or xs 0 0)) (voltages code offset l)) counts

  pub unpadded : (cc : ℕ) (r : Reading) → IsReading code offset (length xs) (padded 15 xs) cc r → IsReading code offset (length xs) xs cc r
  unpadded cc r p =
      record {
        least = subst (IsDouble r.least) (folded lesser) p.least;
        greatest = subst (IsDouble r.greatest) (folded greater) p.greatest;
        total = subst (IsDouble r.total) (ap (λ (l : List ℕ). fold ◌+ℤ◌ (pos 0) (voltages code offset l)) counts) p.total;
        current = p.current;
      }

-- the reading of the connected cells' counts
pub pack_reads : (c : Chip) (k : Counts) (r : Reading) → k ≡ counts_of (linked_counts c)
    → IsReading c.setup.gain_code c.setup.offset k.many k.of c.registers.measured.cc r → Reads c r
pack_reads c k r q p =
    unpadded c.setup.gain_code c.setup.offset (linked_counts c)
    (omega (
      arith,
      few_linked c.setup c.registers.measured.cells,
      picked_many c.registers.measured.cells (linked_inputs c.setup c.registers.measured.cells),
    ))
    c.registers.measured.cc r
    (subst (λ (k : Counts). IsReading c.setup.gain_code c.setup.offset k.many k.of c.registers.measured.cc r) q p)

-- and whether there is one
forecast_by : (c : Chip) (a t : Bool) → c.normal ≡ a → eqb (length (linked_counts c)) 0 ≡ t
    → ◌≡◌ {A = ℕ} (cond a (cond t 10 0) 4) (forecast_number c)
forecast_by c a t e f = sym (ap₂ (λ a t. cond a (cond t 10 0) 4) e f)

pub asleep_number : (c : Chip) → c.normal ≡ false → 4 ≡ forecast_number c
asleep_number c e = forecast_by c false (eqb (length (linked_counts c)) 0) e refl

module _ (c : Chip) (k : Counts) (q : k ≡ counts_of (linked_counts c)) (e : c.normal ≡ true) where
  many : k.many ≡ length (linked_counts c)
  many = ap (λ (k : Counts). k.many) q

  pub none_number : k.many ≡ 0 → 10 ≡ forecast_number c
  none_number z = forecast_by c true true e (eq-eqb _ _ (sym many ∙ z))

  pub given_number : (k.many ≡ 0 → ⊥) → forecast_number c ≡ 0
  given_number n = sym (forecast_by c true false e (ne_eqb _ _ (λ z. n (many ∙ z))))
