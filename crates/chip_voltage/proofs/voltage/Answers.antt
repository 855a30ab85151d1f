-- A voltage of a cell that the pack has: whether it is connected, and what its register holds (Voltage).
use Rattle.std.proofs.Common.{ap, arith, sym, true, ℕ, ℤ, ◌-◌, ◌∙◌, ◌≡◌, ◌≤◌}
use Rattle.std.proofs.lemmas.Grind.{common_steps}
use Rattle.chip_voltage.specs.VoltageLaws.{apart_said, cell_said_lem, holds_linked}
use Rattle.constants.specs.Answer.{gives}
use Rattle.values.specs.Values.{cell_microvolts}
use Rattle.registers.specs.Read.{cell_at}
use Rattle.wiring.specs.Rows.{pack_cells, input_of, connected, converts}
use Rattle.wiring.proofs.Numbered.{numbers}
use Rattle.chip.specs.declared.Chip.{Chip}
use Rattle.chip_voltage.proofs.voltage.Goals as goal
use Rattle.chip_voltage.proofs.voltage.Goals.{After-converts, After-input_of-input}

module _ (c : After-input_of-input) where
  abbrev chip : Chip
  chip = c.args.chip

  abbrev n : ℕ
  n = c.args.cell

  within : (1 ≤ n) × (n ≤ pack_cells chip.setup)
  within = grind (arith, common_steps)

  normal : chip.normal ≡ true
  normal = grind (arith, common_steps)

  -- what the register of its input holds
  held : {x : ℕ} → x ≡ cell_at chip.setup chip.registers.measured (c.input_of-input.result - 1) → x ≡ cell_at chip.setup chip.registers.measured (input_of chip.setup n - 1)
  held e = e ∙ ap (λ (i : ℕ). cell_at chip.setup chip.registers.measured (i - 1)) c.input_of-input.ensures

-- whether it is connected, as the code has asked
asked : (c : After-converts) → c.converts.result ≡ connected c.args.chip.setup c.args.chip.registers.measured.cells (input_of c.args.chip.setup c.args.cell)
asked c = let r = c.before.before.before.before.before in
    c.converts.ensures ∙ ap (converts c.args.chip.setup) (held r c.cell-count.ensures) ∙ holds_linked c.args.cell c.args.chip (normal r) (within r).0 (within r).1

pub overflow_sub-input : goal.overflow_sub-input
overflow_sub-input c = let r = (goal.at.overflow_sub-input c).After-input_of-input in
    omega (arith, c.input_of-input.ensures, ((numbers c.args.chip.setup).wired c.args.cell (within r).0 (within r).1).from)

pub returns-then-not-converts : goal.returns-then-not-converts
returns-then-not-converts c = let r = (goal.at.returns-then-not-converts c).After-input_of-input in
    apart_said c.args.cell c.args.chip (normal r) (within r).0 (within r).1 (sym (asked (goal.at.returns-then-not-converts c).After-converts) ∙ c.if-not-converts.true)

pub returns : goal.returns
returns c = let r = (goal.at.returns c).After-input_of-input in
    ap (λ (z : ℤ). gives z) (c.cell_microvolts.ensures ∙ ap (cell_microvolts c.args.chip.setup.gain_code c.args.chip.setup.offset) (held r c.cell-count.ensures))
    ∙ cell_said_lem c.args.cell c.args.chip (normal r) (within r).0 (within r).1 (sym (asked (goal.at.returns c).After-converts) ∙ c.if-not-converts.false)
