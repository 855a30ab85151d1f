-- The chip that a stream leaves, by a run from none.
use Rattle.turn.specs.Entries.{chip_from, last_chip}
use Rattle.stream_run.proofs.Loop.{from_none}
use Rattle.stream_run.proofs.end.last_chip.Goals as goal

pub returns : goal.returns
unfolding last_chip chip_from
returns c = (from_none c.no_chip.result c.no_chip.ensures c.run_from-left.ensures).chip
