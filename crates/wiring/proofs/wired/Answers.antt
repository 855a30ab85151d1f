-- `wired` looks the bits up by the number of cells (Table).
use Rattle.std.proofs.Common.{ap, arith, get_or, ℕ, ◌∙◌}
use Rattle.wiring.proofs.Numbered.{few_cells}
use Rattle.wiring.proofs.Table.{table, table_bits}
use Rattle.wiring.proofs.wired.Goals as goal

pub bounds-from : goal.bounds-from
bounds-from c = omega (arith, c.from.ensures, c.cells.ensures, few_cells c.args.setup)

pub returns : goal.returns
returns c = ap (λ (n : ℕ). get_or table n 0) (c.from.ensures ∙ c.cells.ensures) ∙ table_bits c.args.setup
