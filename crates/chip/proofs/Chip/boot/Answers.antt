-- BOOT: NORMAL, whichever mode it was.
use Rattle.chip.proofs.Modes.{boots}
use Rattle.chip.proofs.Chip.boot.Goals as goal

pub returns : goal.returns
returns c = boots c.args.self c.settled.ensures
