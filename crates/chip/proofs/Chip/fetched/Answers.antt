-- IN is told what it asks for; where it asks for nothing, whatever it is told.
use Rattle.std.proofs.Common.{sym, ◌∙◌}
use Rattle.chip.proofs.Told.{told_pair, told_none}
use Rattle.chip.proofs.Chip.fetched.Goals as goal

pub returns-in-Some : goal.returns-in-Some
returns-in-Some c = told_pair c.args.self c.args.nack _ c.pair-pair.result (sym c.requires ∙ c.in-Some.is) c.pair-pair.ensures c.take.ensures

pub returns-in-None : goal.returns-in-None
returns-in-None c = told_none c.args.self c.args.nack (sym c.requires ∙ c.in-None.is) c.take-in-None.ensures
