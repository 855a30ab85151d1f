-- `linked` is the row's inputs, or those above the floor (Linked).
use Rattle.std.proofs.Common.{ap, arith, sym, ℕ, ◌∙◌}
use Rattle.events.specs.FewLaws.{few_inputs}
use Rattle.wiring.specs.Rows.{bits}
use Rattle.wiring.specs.Linked.{above_floor}
use Rattle.wiring.proofs.LinkedLaws.{linked_row, linked_none}
use Rattle.wiring.proofs.linked.Goals as goal

pub returns-then-has_row : goal.returns-then-has_row
returns-then-has_row c = c.wired.ensures ∙ linked_row c.args.setup c.args.cells (sym c.has_row.ensures ∙ c.if-has_row.true)

pub above-requires : goal.above-requires
above-requires c = omega (arith, c.inputs.ensures, few_inputs c.args.setup)

pub returns : goal.returns
returns c = c.above.ensures ∙ ap (λ (n : ℕ). bits (above_floor c.args.setup.floor c.args.cells) 1 n) c.inputs.ensures
    ∙ linked_none c.args.setup c.args.cells (sym c.has_row.ensures ∙ c.if-has_row.false)
