-- `input_of` takes the input from the place of its cell (Inputs).
use Rattle.std.proofs.Common.{ap, arith, get_or, ℕ, ◌-◌, ◌∙◌, ◌≡◌, ◌≤◌}
use Rattle.events.specs.declared.Counts.{Counts}
use Rattle.wiring.specs.Rows.{pack_cells, input_of, wired_inputs}
use Rattle.wiring.proofs.Numbered.{few_cells}
use Rattle.wiring.specs.Kept.{counts_of}
use Rattle.wiring.proofs.Inputs.{packed_is, at_place, small}
use Rattle.wiring.proofs.input_of.Goals as goal
use Rattle.wiring.proofs.input_of.Goals.{Else-inputs-cell}

-- a cell that the pack has
module _ (c : Else-inputs-cell) where
  abbrev n : ℕ
  n = c.args.cell

  is : c.pack-inputs.result ≡ counts_of (wired_inputs c.args.setup)
  is = packed_is c.args.setup c.pack-inputs.ensures

  most : n ≤ pack_cells c.args.setup
  most = omega (arith, ap (λ (k : Counts). k.many) is, c.if-inputs-cell.false)

  value : get_or c.pack-inputs.result.of (n - 1) 0 ≡ input_of c.args.setup n
  value = ap (λ (k : Counts). get_or k.of (n - 1) 0) is ∙ at_place c.args.setup n c.if-cell-lt1.false (omega (arith, most, few_cells c.args.setup))

pub bounds-inputs-from : goal.bounds-inputs-from
bounds-inputs-from c = let r = (goal.at.bounds-inputs-from c).Else-inputs-cell in
    omega (arith, c.from.ensures, most r, few_cells c.args.setup)

pub overflow_cast-result : goal.overflow_cast-result
overflow_cast-result c = let r = (goal.at.overflow_cast-result c).Else-inputs-cell in
    omega (arith, ap (λ (i : ℕ). get_or c.pack-inputs.result.of i 0) c.from.ensures, value r, small c.args.setup c.args.cell c.if-cell-lt1.false (most r))

pub returns : goal.returns
returns c = let r = (goal.at.returns c).Else-inputs-cell in ap (λ (i : ℕ). get_or c.pack-inputs.result.of i 0) c.from.ensures ∙ value r
