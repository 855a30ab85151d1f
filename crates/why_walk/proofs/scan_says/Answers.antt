-- Of UV: between the floor and the line.
use Rattle.why_walk.proofs.Cases.{scan_uv}
use Rattle.why_walk.proofs.scan_says.Goals as goal

pub returns-in-8 : goal.returns-in-8
returns-in-8 c = scan_uv c.args.bit c.args.chip c.args.counts c.in-8.is c.inputs-inputs.ensures c.under_line.ensures c.scan_of-in-8.ensures
