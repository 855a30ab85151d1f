-- A scan: one look stores, sums and says; what is due is shown.
use borrow.Author.Tests.{not-true, not-false}
use Rattle.limits.specs.Rule.{rule}
use Rattle.plain.proofs.Cases.{scan_asleep, scan_awake}
use Rattle.plain.proofs.scan.Goals as goal

pub returns-then-not-chip : goal.returns-then-not-chip
returns-then-not-chip c = scan_asleep c.args.chip c.args.before.now _ (not-true _ c.if-not-chip.true) c.refused.ensures

pub returns : goal.returns
unfolding rule
returns c = scan_awake c.args.chip c.args.before.now c.args.counts (not-false _ c.if-not-chip.false) c.inputs.ensures c.over_line.ensures c.under_line.ensures
    c.look-looked.ensures c.look_back.ensures c.due_at_scan-risen.ensures c.scanned-chip.ensures c.show.ensures c.done.ensures
