-- SENSE: by its value and the mode, what its definition says.
use Rattle.std.proofs.Common.{ap, sym, to_z-of_z, w32, ◌∙◌}
use Rattle.chip.proofs.Modes.{in_normal, in_sleep, in_range_lem, out_of_range}
use borrow.Author.Tests.{not-true, not-false}
use Rattle.events.specs.Event.{Sense, fits, sense_fits}
use Rattle.protection.specs.Judged.{tick_judged}
use Rattle.chip.proofs.Judged.{sense_done}
use Rattle.chip.proofs.Chip.sense.Goals as goal

pub returns-then-not-sense_fits : goal.returns-then-not-sense_fits
unfolding fits
returns-then-not-sense_fits c = out_of_range (Sense _) c.args.self (ap sense_fits (sym (to_z-of_z {w = w32} c.ranges.value)) ∙ sym c.sense_fits.ensures ∙ c.if-not-sense_fits.true) c.refused.ensures

pub returns-then-not-self : goal.returns-then-not-self
unfolding fits
returns-then-not-self c = in_range_lem (Sense _) c.args.self (ap sense_fits (sym (to_z-of_z {w = w32} c.ranges.value)) ∙ sym c.sense_fits.ensures ∙ c.if-not-sense_fits.false) (in_sleep (Sense _) c.args.self (not-true _ c.if-not-self.true) c.refused-then-not-self.ensures)

pub returns : goal.returns
unfolding fits
returns c = in_range_lem (Sense _) c.args.self (ap sense_fits (sym (to_z-of_z {w = w32} c.ranges.value)) ∙ sym c.sense_fits.ensures ∙ c.if-not-sense_fits.false)
    (in_normal (Sense _) c.args.self (not-false _ c.if-not-self.false)
    (sense_done c.args.self c.args.value c.sensed-judged.result c.raised.result
    (c.sensed-judged.ensures ∙ ap (λ v. tick_judged c.args.self.registers.settings v c.args.self.runs) (to_z-of_z {w = w32} c.ranges.value))
    c.raised.ensures c.settled.ensures))
