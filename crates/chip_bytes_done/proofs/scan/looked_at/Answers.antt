-- The lines are the limits of the rules.
use Rattle.limits.specs.Rule.{rule}
use Rattle.chip_bytes_done.proofs.Parts.{looked_is}
use Rattle.chip_bytes_done.proofs.scan.looked_at.Goals as goal

pub returns : goal.returns
unfolding rule
returns c = looked_is c.args.setup c.args.s c.args.counts c.over_line-over.ensures c.under_line-under.ensures c.inputs.ensures c.look.ensures
