-- The registers moved, by the mode.
use borrow.Author.Tests.{not-true, not-false}
use Rattle.stream_run.proofs.Steps.{moved_awake, moved_asleep}
use Rattle.stream_run.proofs.registers_moved.Goals as goal

pub returns-then-not-chip : goal.returns-then-not-chip
returns-then-not-chip c = moved_asleep c.args.registers c.args.chip (not-true _ c.if-not-chip.true) c.refused.ensures

pub returns : goal.returns
returns c = moved_awake c.args.registers c.args.chip (not-false _ c.if-not-chip.false) c.done.ensures
