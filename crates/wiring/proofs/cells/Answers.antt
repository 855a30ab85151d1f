-- `cells` is the row's number, or all inputs (Numbered).
use Rattle.std.proofs.Common.{sym, ◌∙◌}
use Rattle.wiring.proofs.Numbered.{numbering, all_cells}
use Rattle.wiring.proofs.cells.Goals as goal

pub returns-then-has_row : goal.returns-then-has_row
returns-then-has_row c = let u = c.args.setup in sym (numbering u (sym c.has_row.ensures ∙ c.if-has_row.true)).many

pub returns : goal.returns
returns c = let u = c.args.setup in c.inputs.ensures ∙ sym (all_cells u (sym c.has_row.ensures ∙ c.if-has_row.false))
