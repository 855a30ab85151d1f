-- An event made by hand: 2 where its counts do not fit, or it is stepped as what it means.
use Rattle.std.proofs.Common.{ap, sym, ℕ, ◌∙◌}
use Rattle.events.specs.Event.{counts_fit}
use Rattle.chip.proofs.Steps.{step_unfit, step_fit}
use Rattle.chip.proofs.Chip.step.Goals as goal

pub returns-then-not-counts_fit : goal.returns-then-not-counts_fit
returns-then-not-counts_fit c = step_unfit c.args.event c.args.counts c.args.self (ap (λ (n : ℕ). counts_fit n c.args.counts) (sym c.counts_wanted-wanted.ensures) ∙ sym c.counts_fit.ensures ∙ c.if-not-counts_fit.true) c.refused.ensures

pub returns : goal.returns
returns c = step_fit c.args.event c.args.counts c.args.self (ap (λ (n : ℕ). counts_fit n c.args.counts) (sym c.counts_wanted-wanted.ensures) ∙ sym c.counts_fit.ensures ∙ c.if-not-counts_fit.false) c.happen.ensures
