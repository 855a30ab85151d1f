-- SCAN: by its counts and the mode, what its definition says.
use Rattle.chip.proofs.Modes.{done_as, in_normal, in_sleep, in_range_lem, out_of_range, scan_fits}
use borrow.Author.Tests.{not-true, not-false}
use Rattle.events.specs.Event.{Scan}
use Rattle.chip.proofs.Chip.scan.Goals as goal

pub returns-then-not-counts_in_range : goal.returns-then-not-counts_in_range
returns-then-not-counts_in_range c = out_of_range (Scan _) c.args.self (scan_fits c.args.counts c.counts_in_range.ensures c.inputs.ensures c.if-not-counts_in_range.true) c.refused.ensures

pub returns-then-not-self : goal.returns-then-not-self
returns-then-not-self c = in_range_lem (Scan _) c.args.self (scan_fits c.args.counts c.counts_in_range.ensures c.inputs.ensures c.if-not-counts_in_range.false) (in_sleep (Scan _) c.args.self (not-true _ c.if-not-self.true) c.refused-then-not-self.ensures)

pub returns : goal.returns
returns c = in_range_lem (Scan _) c.args.self (scan_fits c.args.counts c.counts_in_range.ensures c.inputs.ensures c.if-not-counts_in_range.false) (in_normal (Scan _) c.args.self (not-false _ c.if-not-self.false) (done_as c.settled.ensures c.scanned.ensures))
